-- A name as an expression: what is noted of it.
use Rattle.std.proofs.Common.{◌≡◌, ℕ, Bool, true, false, cond, ltb, List, [], ◌∷◌, ◌++◌, map, length, Some, None, Option, sym, refl, ap, ◌∙◌}
use Rattle.std.proofs.lemmas.List.{length-map, map-append}
use Rattle.std.specs.Option.{option_or}
use Rattle.arrayvec.specs.ArrayVec.{ArrayVec}
use Rattle.syntax.specs.Tree.{Name}
use Rattle.syntax.specs.Names.{Occurrence, among}
use Rattle.reading.specs.declared.entry.Span.{Span}
use Rattle.reading.specs.Entries.{spelled}
use Rattle.checking.specs.declared.findings.Findings.{Findings}
use Rattle.checking.specs.Conditions.{named}
use Rattle.checking.specs.Walk.{Tally, Seen, or_else, see_name, occurrence}
use Rattle.checking.specs.Found.{seen}

pub named_spans : (text : List ℕ) (us : List Span) → named (map (occurrence text) us) ≡ map (spelled text) us
named_spans text [] = refl
named_spans text (u ∷ us) = ap (λ r. spelled text u ∷ r) (named_spans text us)

module _ (text : List ℕ) (ns : List Name) (x : Span) (f : Findings) where
  abbrev known : Bool
  known = among (spelled text x) (map (spelled text) f.free.items)

  abbrev with : ArrayVec Span → Option ℕ → Findings
  with g p = record { deep = f.deep; outside = f.outside; repeated = f.repeated; free = g; next = p }

  abbrev goal : Findings → Type 0
  goal g = seen text g ≡ see_name ns (occurrence text x) (seen text f)

  abbrev tally : List Occurrence → Option ℕ → Tally
  tally os p = record { free = os; next = p }

  abbrev sum : Tally → Seen
  sum t = record { deep = f.deep; outside = f.outside; repeated = f.repeated; names = t }

  abbrev before : Tally
  before = (seen text f).names

  -- what becomes of it, by the three tests
  abbrev outcome : Bool → Bool → Bool → Tally
  outcome a b r = cond a before (cond b before (cond r (tally (before.free ++ occurrence text x ∷ []) f.next) (tally before.free (or_else f.next x.place))))

  reached : (a b r : Bool) → among (spelled text x) ns ≡ a → known ≡ b → ltb (length f.free.items) 16 ≡ r → (t : Tally) → t ≡ outcome a b r → sum t ≡ see_name ns (occurrence text x) (seen text f)
  reached a b r ea eb er t h =
      let eb' = ap (among (spelled text x)) (named_spans text f.free.items) ∙ eb in
      let er' = ap (λ k. ltb k 16) (length-map f.free.items (occurrence text)) ∙ er in
      ap sum (h ∙ sym (λ i. outcome (ea i) (eb' i) (er' i)))

  pub noted_before : among (spelled text x) ns ≡ true → goal f
  noted_before e = reached true _ _ e refl refl before refl

  pub noted_already : among (spelled text x) ns ≡ false → known ≡ true → goal f
  noted_already e k = reached false true _ e k refl before refl

  module _ (g : ArrayVec Span) (out : among (spelled text x) ns ≡ false) (new : known ≡ false) where
    pub noted : ltb (length f.free.items) 16 ≡ true → g.items ≡ f.free.items ++ x ∷ [] → goal (with g f.next)
    noted r e = reached false false true out new r (seen text (with g f.next)).names (ap (λ us. tally us f.next) (ap (map (occurrence text)) e ∙ map-append (occurrence text) f.free.items (x ∷ [])))

    pub noted_beyond : (p : Option ℕ) → p ≡ option_or f.next (Some x.place) → ltb (length f.free.items) 16 ≡ false → g.items ≡ f.free.items → goal (with g p)
    noted_beyond p h r e = reached false false false out new r (seen text (with g p)).names (λ i. tally (map (occurrence text) (e i)) ((h ∙ first f.next) i))
      where
        first : (o : Option ℕ) → option_or o (Some x.place) ≡ or_else o x.place
        first None = refl
        first (Some q) = refl
