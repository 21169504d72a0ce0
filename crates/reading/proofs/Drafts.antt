-- From tokens and tree to the promises of `read`.
use Rattle.std.proofs.Common.{◌≡◌, ℕ, suc, ◌+◌, ◌<◌, ◌≤◌, false, List, [], ◌∷◌, ◌++◌, map, length, drop, Some, None, Ok, Err, Option, sym, refl, ap, ◌∙◌, subst, inl, inr, arith, length-append}
use Rattle.syntax.specs.Tree.{Tree}
use Rattle.tables.specs.declared.Table.{Table}
use Rattle.tables.specs.Items.{items}
use Rattle.tokens.specs.declared.Token.{Token}
use Rattle.tokens.specs.declared.Refusal.TheVariants as token
use Rattle.tokens.specs.Lexeme.{Lexeme, lexeme}
use Rattle.tokens.specs.Pieces.{Cut, at_end, at_separator, at_comment, at_token, at_bad}
use Rattle.tokens.specs.Cutting.{Answers, CutInto}
use Rattle.tokens.proofs.Forms.{longest_some}
use Rattle.tokens.proofs.Unique.{one_cutting}
use Rattle.std.proofs.lemmas.List.{length-map, nil_from_length}
use Rattle.grammar.specs.Places.{places, Distinct, Ascend, spots}
use Rattle.grammar.proofs.Places.{own_places}
use Rattle.grammar.specs.Grammar.{Sort, Derives}
use Rattle.grammar.specs.Steps.{first, parse, body, out, Run}
use Rattle.grammar.specs.Sentences.{Accepted, Refused, Comes}
use Rattle.grammar.proofs.Sentences.{sound, first_bad}
use Rattle.grammar.proofs.Runs.{local}
use Rattle.std.proofs.Math.Seq.{drop-append_seam}
use Rattle.reading.specs.declared.source.Bad.{Bad}
use Rattle.reading.specs.declared.source.Reader.{Reader}
use Rattle.reading.specs.declared.call.Refusal.{Refusal}
use Rattle.reading.specs.declared.call.Refusal.TheVariants.{NoToken}
use Rattle.reading.specs.Sources.{left, place_at, place_or, TreeAt, Way, Got}
use Rattle.reading.specs.Reading.{told, Sentence, Denied, Parsed}

module _ (text : List ℕ) (ts : List Token) (cut : Cut 0 text ts None) where
  derives : (u : Tree) → Sentence text u → Derives Sort.expr (map (lexeme text) ts) u
  derives u s = subst (λ us. Derives Sort.expr (map (lexeme text) us) u) (one_cutting cut s.cut).0 s.derived

  pub made : (tree : Tree) → Accepted Sort.expr (map (lexeme text) ts) tree → Sentence text tree
  made tree a = record { tokens = ts; cut = cut; derived = a.derived }

  pub made_only : (tree : Tree) → Accepted Sort.expr (map (lexeme text) ts) tree → (u : Tree) → Sentence text u → u ≡ tree
  made_only tree a u s = a.only u (derives u s)

  pub denied : (w : Refusal) (k : ℕ) → Refused Sort.expr (map (lexeme text) ts) k → told w ≡ record { number = 3; place = Some (place_or (length text) (first (drop k (map (lexeme text) ts)))) } → Denied text w
  denied w k r e = record { none = λ u s. r.none u (derives u s); why = inr (record { tokens = ts; cut = cut; number = k; refused = r; says = e }) }

-- a text with a bad place is no sentence
pub bad_denied : (text : List ℕ) (ts : List Token) (p : ℕ) → Cut 0 text ts (Some p) → Denied text (NoToken p)
bad_denied text ts p cut = record {
  none = λ u s. let e = (one_cutting cut s.cut).1 in let z : ◌≡◌ {A = ℕ} 0 1 = cc in omega arith;
  why = inl (record { tokens = ts; place = p; cut = cut; says = refl });
}

-- where the reader came to an end
module _ {r r' : Reader} {v : Option Tree} (w : Way (parse Sort.expr false) (body (parse Sort.expr false)) r false r' v) where
  abbrev pub taken : List Lexeme
  taken = (local w.run).used

  come_to : left r' ≡ drop (length taken) (left r)
  come_to = sym (ap (drop (length taken)) (local w.run).split ∙ drop-append_seam taken (left r'))

  all : length (left r) ≡ length taken + length (left r')
  all = ap length (local w.run).split ∙ length-append taken (left r')

  pub come : Comes Sort.expr (left r) v (drop (length taken) (left r))
  come = (w.then, subst (λ us. Run (parse Sort.expr false) (body (parse Sort.expr false)) (left r) false (out v us w.then)) come_to w.run)

  pub at_place : place_at r' ≡ place_or (length r.text.now) (first (drop (length taken) (left r)))
  at_place = ap (λ text. place_or (length text) (first (left r'))) w.later.text ∙ ap (λ us. place_or (length r.text.now) (first us)) come_to

module _ {r r' : Reader} where
  pub stopped : (e : Bad) → Way (parse Sort.expr false) (body (parse Sort.expr false)) r false r' None → Parsed r r' (Err e)
  stopped e w = (length (taken w), (first_bad.refused Sort.expr (left r) _ (omega (arith, all w)) (come w), at_place w))

  pub left_over : (e : Bad) (t : Tree) → Way (parse Sort.expr false) (body (parse Sort.expr false)) r false r' (Some t) → 0 < length r'.rest.now → Parsed r r' (Err e)
  left_over e t w h =
      let n = length-map r'.rest.now (lexeme r'.text.now) in
      (length (taken w), (first_bad.left Sort.expr (left r) _ t (omega (arith, all w)) (come w), at_place w))

  pub whole : (node : ℕ) (g : Got (parse Sort.expr false) (body (parse Sort.expr false)) r false r' (TreeAt r' node)) → length r'.rest.now ≡ 0 → Parsed r r' (Ok node)
  whole node g h = (g.value, (sound Sort.expr (left r) g.value (g.way.then, subst (λ us. Run (parse Sort.expr false) (body (parse Sort.expr false)) (left r) false (out (Some g.value) us g.way.then)) (ap (map (lexeme r'.text.now)) (nil_from_length _ h)) g.way.run), rw g.way.later.text at g.held))

-- what the tokeniser found, in a table that was empty and had a slot for each byte
module _ (text : List ℕ) (t t' : Table Token) (empty : items t ≡ []) where
  pub found : (u : Unit {0}) → CutInto text t t' (Ok u) → Cut 0 text (items t') None × (length (items t') ≤ length text)
  found u g =
      let e : items t' ≡ g.tokens = g.added ∙ ap (λ us. us ++ g.tokens) empty in
      (subst (λ us. Cut 0 text us None) (sym e) (go g.bad g.cut g.answer), omega (arith, ap length e, g.few))
    where
      go : (bad : Option ℕ) → Cut 0 text g.tokens bad → Answers bad (Ok u) → Cut 0 text g.tokens None
      go None c a = c
      go (Some p) c a = absurd a

  pub found_bad : (p : ℕ) → CutInto text t t' (Err (token.NoToken p)) → Denied text (NoToken p)
  found_bad p g = go g.bad g.cut g.answer
    where
      go : (bad : Option ℕ) → Cut 0 text g.tokens bad → Answers bad (Err (token.NoToken p)) → Denied text (NoToken p)
      go None c a = let z : ◌≡◌ {A = ℕ} 0 1 = cc in absurd (omega arith)
      go (Some q) c a = let h = ap (λ r. r.place) a in let e : q ≡ p = cc in bad_denied text g.tokens p (subst (λ i. Cut 0 text g.tokens (Some i)) e c)

  pub found_long : CutInto text t t' (Err token.TooLong) → ⊥
  found_long g = go g.bad g.answer
    where
      go : (bad : Option ℕ) → Answers bad (Err token.TooLong) → ⊥
      go None a = let z : ◌≡◌ {A = ℕ} 0 1 = cc in omega arith
      go (Some q) a = omega (arith, ap (λ r. r.number) a)

-- the places of a text's tokens ascend
ascends : {n : ℕ} {bs : List ℕ} {ts : List Token} {bad : Option ℕ} (text : List ℕ) → Cut n bs ts bad → (m : ℕ) → m ≤ n → Ascend m (map (lexeme text) ts)
ascends text at_end m h = tt
ascends text (at_separator s c) m h = ascends text c m (omega arith)
ascends text (at_comment s c) m h = ascends text c m (omega arith)
ascends {n} text (at_token b c) m h = (h, ascends text c (suc n) (omega (arith, longest_some b.longest)))
ascends text (at_bad b) m h = tt

length-spots : (us : List Lexeme) → length (spots us) ≡ length us
length-spots [] = refl
length-spots (x ∷ us) = ap suc (length-spots us)

pub places_apart : (text : List ℕ) (tree : Tree) → Sentence text tree → Distinct (places tree)
places_apart text tree s = own_places.distinct Sort.expr _ tree s.derived (ascends text s.cut 0 (omega arith))

pub places_own : (text : List ℕ) (tree : Tree) (s : Sentence text tree) → length (places tree) ≤ length s.tokens
places_own text tree s = omega (arith, own_places.few Sort.expr _ tree s.derived, length-spots (map (lexeme text) s.tokens), length-map s.tokens (lexeme text))
