-- What holds of values all along a course, and where its faults are: one induction over the tree.
use Rattle.std.proofs.Common.{◌≡◌, ℕ, Bool, true, false, cond, not, ◌&&◌, List, [], ◌∷◌, ◌++◌, pos, Ok, Err, Result, sym, refl, subst, inl, inr}
use mathlib.Core.Option.{Option, none, some}
use Rattle.syntax.specs.declared.Unary.{Unary}
use Rattle.syntax.specs.declared.Binary.{Binary}
use Rattle.syntax.specs.declared.Connective.{Connective}
use Rattle.syntax.specs.declared.Connective.TheVariants.{Implies, Or, And}
use Rattle.syntax.specs.declared.Collection.{Collection}
use Rattle.syntax.specs.declared.Collection.TheVariants.{Set, Sequence, Tuple}
use Rattle.syntax.specs.Tree.{Place, Name, Pattern, any, binds, parts, Patterns, Tree, numeral, name, connective, if_else, let_in, let_be, cases, quantifier, collection, comprehension, selection, Trees, Alternatives, no_more, alternative, Optional, absent, present}
use Rattle.values.specs.declared.Fault.{Fault}
use Rattle.values.specs.declared.Fault.TheVariants.{WrongKind, TooLarge, NoCase}
use Rattle.values.specs.declared.Operand.TheVariants.{Many}
use Rattle.values.specs.Value.{Value, number, truth, many, of}
use Rattle.values.specs.Lawful.{fits}
use Rattle.values.specs.Sets.{equal}
use Rattle.values.specs.Operators.{is, members, unary, binary, select, range, grown, grow}
use Rattle.syntax.specs.Names.{In, same}
use Rattle.meaning.specs.Names.{Binding, Sight, bind, bind_all, Facts, known}
use Rattle.meaning.specs.Parts.{numerals, numerals_all, numerals_in, numerals_of}
use Rattle.meaning.specs.Course.{Outcome, value, fault, Course, ended, begins, chooses, ◌>>=◌}
use Rattle.meaning.specs.Eval.{given, strict, told, Truth, holds, fails, truth_of, decides, branch, deciding, left, joined, connect, Body, looped, fit, over, decider, kept, searching, added, adding, filtering, candidate, testing, choice, both, match, match_all, matched, eval, eval_all, eval_cases, eval_or}
use Rattle.syntax.proofs.Names.{in_left, in_right}
use Rattle.meaning.proofs.Members.{unpacked}

abbrev pub Sub : List Place → List Place → Type 0
Sub ps qs = (q : Place) → In q ps → In q qs

abbrev pub All : (Value → Type 0) → List Value → Type 0
All V [] = Unit {0}
All V (v ∷ vs) = V v × All V vs

all_append : (V : Value → Type 0) (vs : List Value) (v : Value) → All V vs → V v → All V (vs ++ v ∷ [])
all_append V [] v h k = (k, tt)
all_append V (w ∷ vs) v h k = (h.0, all_append V vs v h.1 k)

abbrev pub Kept : (Value → Type 0) → Result Value Fault → Type 0
Kept V (Ok v) = V v
Kept V (Err k) = Unit {0}

-- the operations keep it
pub record Closed (V : Value → Type 0) : Type 0 where
  pub truths : (b : Bool) → V (truth b)
  pub none_yet : (k : Collection) → V (of k [])
  pub inner : (v : Value) → V v → All V (members v)
  pub ones : (op : Unary) (v : Value) → V v → Kept V (unary op v)
  pub twos : (op : Binary) (v w : Value) → V v → V w → Kept V (binary op v w)
  pub parted : (n : ℕ) (v : Value) → V v → Kept V (select n v)
  pub ranges : (v w : Value) → V v → V w → Kept V (range v w)
  pub grows : (k : Collection) (c x : Value) → is (Many k) c ≡ true → V c → V x → Kept V (grow k (members c) x)

-- an end: a value of which W holds, or a fault at one of the places
abbrev pub End : (Value → Type 0) → List Place → Outcome → Type 0
End W ps (value v) = W v
End W ps (fault k q) = In q ps

abbrev pub Seen : (Value → Type 0) → Sight → Type 0
Seen V s = (n : Name) (v : Value) → s n ≡ some v → V v

-- every value that is told or in sight is V; the end is as W says, its fault at one of the places or at one begun
abbrev pub Good : (V W : Value → Type 0) → List Place → Course → Type 0
Good V W ps (ended o) = End W ps o
Good V W ps (begins p m) = Good V W (p ∷ ps) m
Good V W ps (chooses p s c cs f) = Seen V s × All V (c ∷ cs) × ((v : Value) → V v → Good V W ps (f v))

end_more : (W : Value → Type 0) (ps qs : List Place) (o : Outcome) → Sub ps qs → End W ps o → End W qs o
end_more W ps qs (value v) u h = h
end_more W ps qs (fault k q) u h = u q h

module _ (V W X : Value → Type 0) (k : Outcome → Course) where
  bound : (m : Course) (ps : List Place) → Good V W ps m → ((qs : List Place) → Sub ps qs → (o : Outcome) → End W qs o → Good V X qs (k o)) → Good V X ps (m >>= k)
  bound (ended o) ps h g = g ps (λ q i. i) o h
  bound (begins p m) ps h g = bound m (p ∷ ps) h (λ qs u. g qs (λ q i. u q (inr i)))
  bound (chooses p s c cs f) ps h g = (h.0, h.1, λ v w. bound (f v) ps (h.2 v w) g)

module _ (V W X : Value → Type 0) (g : (v : Value) → W v → X v) where
  weaker_end : (ps : List Place) (o : Outcome) → End W ps o → End X ps o
  weaker_end ps (value v) h = g v h
  weaker_end ps (fault k q) h = h

  weaker : (m : Course) (ps : List Place) → Good V W ps m → Good V X ps m
  weaker (ended o) ps h = weaker_end ps o h
  weaker (begins p m) ps h = weaker m (p ∷ ps) h
  weaker (chooses p s c cs f) ps h = (h.0, h.1, λ v w. weaker (f v) ps (h.2 v w))

-- ---- the parts of the definition

module _ (V : Value → Type 0) where
  strictly : (W X : Value → Type 0) (m : Course) (f : Value → Course) (ps : List Place) → Good V W ps m → ((qs : List Place) → Sub ps qs → (v : Value) → W v → Good V X qs (f v)) → Good V X ps (strict m f)
  strictly W X m f ps h g = bound V W X (given f) m ps h go
    where
      go : (qs : List Place) → Sub ps qs → (o : Outcome) → End W qs o → Good V X qs (given f o)
      go qs u (value v) i = g qs u v i
      go qs u (fault k q) i = i

  tells : (p : Place) (ps : List Place) (r : Result Value Fault) → In p ps → Kept V r → End V ps (told p r)
  tells p ps (Ok v) i h = h
  tells p ps (Err k) i h = i

  -- truth values
  abbrev Fine : List Place → Truth → Type 0
  Fine ps (holds b) = Unit {0}
  Fine ps (fails k q) = In q ps

  fine : (W : Value → Type 0) (p : Place) (ps : List Place) (o : Outcome) → In p ps → End W ps o → Fine ps (truth_of p o)
  fine W p ps (value (number z)) i h = i
  fine W p ps (value (truth b)) i h = tt
  fine W p ps (value (many k vs)) i h = i
  fine W p ps (fault k q) i h = h

  fine_left : (op : Connective) (ps : List Place) (t : Truth) → Fine ps t → Fine ps (left op t)
  fine_left Or ps t h = h
  fine_left And ps t h = h
  fine_left Implies ps (holds b) h = tt
  fine_left Implies ps (fails k q) h = h

  fine_more : (ps qs : List Place) (t : Truth) → Sub ps qs → Fine ps t → Fine qs t
  fine_more ps qs (holds b) u h = tt
  fine_more ps qs (fails k q) u h = u q h

  branches : (W : Value → Type 0) (ps : List Place) (a b : Course) (t : Truth) → Fine ps t → Good V W ps a → Good V W ps b → Good V W ps (branch a b t)
  branches W ps a b (holds true) h g k = g
  branches W ps a b (holds false) h g k = k
  branches W ps a b (fails j q) h g k = h

  module _ (truths : (b : Bool) → V (truth b)) where
    joins : (d : Bool) (ps : List Place) (a b : Truth) → Fine ps a → Fine ps b → End V ps (joined d a b)
    joins d ps a b h k = go (decides d b) a b h k
      where
        go : (c : Bool) (a b : Truth) → Fine ps a → Fine ps b → End V ps (cond c (value (truth d)) (Rattle.meaning.specs.Eval.neither d a b))
        go true a b h k = truths d
        go false (holds x) (holds y) h k = truths (not d)
        go false (holds x) (fails j q) h k = k
        go false (fails i q) b h k = h

    connects : (p : Place) (d : Bool) (b : Course) (a : Truth) (ps : List Place) → In p ps → Fine ps a → Good V V ps b → Good V V ps (connect p d b a)
    connects p d b a ps i h g = go (decides d a)
      where
        go : (c : Bool) → Good V V ps (cond c (ended (value (truth d))) (b >>= λ o. ended (joined d a (truth_of p o))))
        go true = truths d
        go false = bound V V V _ b ps g (λ qs u o e. joins d qs a (truth_of p o) (fine_more ps qs a u h) (fine V p qs o (u p i) e))

    keeps : (ps : List Place) (a : Outcome) (t : Truth) → Fine ps t → End V ps a → End V ps (kept a t)
    keeps ps a (holds b) h e = e
    keeps ps (value v) (fails k q) h e = h
    keeps ps (fault j r) (fails k q) h e = e

  -- loops: W holds of the answer so far
  module _ (W : Value → Type 0) where
    abbrev Onward : List Place → (Outcome → Course) → Type 0
    Onward ps go = (qs : List Place) → Sub ps qs → (a : Outcome) → End W qs a → Good V W qs (go a)

    abbrev Steady : Place → Body → Type 0
    Steady p f = (v : Value) → V v → (ps : List Place) → In p ps → (a : Outcome) → End W ps a → (go : Outcome → Course) → Onward ps go → Good V W ps (f v a go)

    loops : (p : Place) (f : Body) → Steady p f → (vs : List Value) → All V vs → (ps : List Place) → In p ps → (a : Outcome) → End W ps a → Good V W ps (looped f vs a)
    loops p f st [] h ps i a e = e
    loops p f st (v ∷ vs) h ps i a e = st v h.0 ps i a e (looped f vs) (λ qs u b k. loops p f st vs h.1 qs (u p i) b k)

    overs :
        ((v : Value) → V v → All V (members v))
        → (p : Place) (k : Collection) (f : Body)
        → Steady p f
        → (v : Value)
        → V v
        → (ps : List Place)
        → In p ps
        → (a : Outcome)
        → End W ps a
        → Good V W ps (over p k f a v)
    overs inner p k f st v h ps i a e = go (is (Many Set) v && fit k (members v))
      where
        go : (c : Bool) → Good V W ps (cond c (looped f (members v) a) (ended (fault WrongKind p)))
        go true = loops p f st (members v) (inner v h) ps i a e
        go false = i

-- ---- growing collections

-- a collection of this kind of which V holds
abbrev Grown : (Value → Type 0) → Collection → Value → Type 0
Grown V k c = (is (Many k) c ≡ true) × V c

is_many : (k : Collection) (vs : List Value) → is (Many k) (of k vs) ≡ true
is_many Set vs = refl
is_many Sequence vs = refl
is_many Tuple vs = refl

module _ (V : Value → Type 0) (K : Closed V) where
  adds : (p : Place) (k : Collection) (ps : List Place) → In p ps → (a : Outcome) → End (Grown V k) ps a → (x : Value) → V x → End (Grown V k) ps (added p k a x)
  unfolding grow
  adds p k ps i (value c) h x v = go (fits (of k (grown k (members c) x))) (K.grows k c x h.0 h.1 v)
    where
      go : (b : Bool) → Kept V (cond b (Ok (of k (grown k (members c) x))) (Err TooLarge)) → End (Grown V k) ps (told p (cond b (Ok (of k (grown k (members c) x))) (Err TooLarge)))
      go true w = (is_many k (grown k (members c) x), w)
      go false w = i
  adds p k ps i (fault j q) h x v = h

  addings :
      (p : Place) (k : Collection) (part : Course) (go : Outcome → Course) (a : Outcome) (ps : List Place)
      → In p ps
      → End (Grown V k) ps a
      → Good V V ps part
      → Onward V (Grown V k) ps go
      → Good V (Grown V k) ps (adding p k part go a)
  addings p k part go a ps i e h g = strictly V V (Grown V k) part _ ps h (λ qs u x v. on qs u (added p k a x) (adds p k qs (u p i) a (end_more (Grown V k) ps qs a u e) x v))
    where
      on : (qs : List Place) → Sub ps qs → (o : Outcome) → End (Grown V k) qs o → Good V (Grown V k) qs (given (λ c. go (value c)) o)
      on qs u (value c) w = g qs u (value c) w
      on qs u (fault j q) w = w

  -- what is evaluated for a value: good wherever it stands
  abbrev Lasting : (Value → Course) → Type 0
  Lasting f = (v : Value) → V v → (ps : List Place) → Good V V ps (f v)

  filters : (p : Place) (k : Collection) (c r : Value → Course) → Lasting c → Lasting r → Steady V (Grown V k) p (filtering p k c r)
  filters p k c r hc hr v h ps i a e go g =
      bound V V (Grown V k) _ (c v) ps (hc v h ps)
      (λ qs u o w.
      branches V (Grown V k) qs _ _ (truth_of p o) (fine V V p qs o (u p i) w)
      (addings p k (r v) go a qs (u p i) (end_more (Grown V k) ps qs a u e) (hr v h qs) (λ rs t. g rs (λ q j. t q (u q j))))
      (g qs u a (end_more (Grown V k) ps qs a u e)))

  searches : (p : Place) (d : Bool) (b : Value → Course) → Lasting b → Steady V V p (searching p d b)
  searches p d b hb v h ps i a e go g =
      bound V V V _ (b v) ps (hb v h ps)
      (λ qs u o w.
      on qs u o (decides d (truth_of p o)) (keeps V K.truths qs a (truth_of p o) (fine V V p qs o (u p i) w) (end_more V ps qs a u e)))
    where
      on : (qs : List Place) → Sub ps qs → (o : Outcome) (c : Bool) → End V qs (kept a (truth_of p o)) → Good V V qs (cond c (ended (value (truth d))) (go (kept a (truth_of p o))))
      on qs u o true w = K.truths d
      on qs u o false w = g qs u (kept a (truth_of p o)) w

  -- candidates
  abbrev Candidates : Value → Type 0
  Candidates c = All V (members c)

  candidates : (v : Value) (ps : List Place) (a : Outcome) → V v → End Candidates ps a → End Candidates ps (candidate v a)
  candidates v ps (value c) h e = subst (All V) (sym (unpacked (members c ++ v ∷ []))) (all_append V (members c) v e h)
  candidates v ps (fault k q) h e = e

  tests : (p : Place) (c : Value → Course) → Lasting c → Steady V Candidates p (testing p c)
  tests p c hc v h ps i a e go g =
      bound V V Candidates _ (c v) ps (hc v h ps)
      (λ qs u o w. g qs u _ (on qs (decides true (truth_of p o)) (end_more Candidates ps qs a u e)))
    where
      on : (qs : List Place) (b : Bool) → End Candidates qs a → End Candidates qs (cond b (candidate v a) a)
      on qs true w = candidates v qs a h w
      on qs false w = w

  choices : (p : Place) (s : Sight) (f : Value → Course) (cs : List Value) (ps : List Place) → In p ps → Seen V s → All V cs → Lasting f → Good V V ps (choice p s f cs)
  choices p s f [] ps i w h k = i
  choices p s f (c ∷ cs) ps i w h k = (w, h, λ v j. k v j ps)

  -- names
  seen_bind : (x : Name) (v : Value) (s : Sight) → V v → Seen V s → Seen V (bind x v s)
  seen_bind x v s h w n u e = go (same n x) e
    where
      go : (b : Bool) → cond b (some v) (s n) ≡ some u → V u
      go true j = let q : v ≡ u = cc in subst V q h
      go false j = w n u j

  abbrev Bound : List Binding → Type 0
  Bound [] = Unit {0}
  Bound (b ∷ bs) = V b.to × Bound bs

  abbrev Found : Option (List Binding) → Type 0
  Found none = Unit {0}
  Found (some bs) = Bound bs

  bound_append : (xs ys : List Binding) → Bound xs → Bound ys → Bound (xs ++ ys)
  bound_append [] ys h k = k
  bound_append (x ∷ xs) ys h k = (h.0, bound_append xs ys h.1 k)

  found_cond : (b : Bool) (o : Option (List Binding)) → Found o → Found (cond b o none)
  found_cond true o h = h
  found_cond false o h = tt

  found_both : (a b : Option (List Binding)) → Found a → Found b → Found (both a b)
  found_both none b h k = tt
  found_both (some xs) none h k = tt
  found_both (some xs) (some ys) h k = bound_append xs ys h k

  mutual
    matches : (pat : Pattern) (v : Value) → V v → Found (match pat v)
    matches (any p) v h = tt
    matches (binds p n) v h = (h, tt)
    matches (Pattern.number p n) v h = found_cond (equal v (number (pos n))) (some []) tt
    matches (Pattern.truth p b) v h = found_cond (equal v (truth b)) (some []) tt
    matches (parts p k ps) v h = found_cond (is (Many k) v) (match_all ps (members v)) (matches_all ps (members v) (K.inner v h))

    matches_all : (ps : Patterns) (vs : List Value) → All V vs → Found (match_all ps vs)
    matches_all Patterns.none [] h = tt
    matches_all Patterns.none (v ∷ vs) h = tt
    matches_all (Patterns.more p ps) [] h = tt
    matches_all (Patterns.more p ps) (v ∷ vs) h = found_both (match p v) (match_all ps vs) (matches p v h.0) (matches_all ps vs h.1)

  seen_all : (bs : List Binding) (s : Sight) → Bound bs → Seen V s → Seen V (bind_all bs s)
  seen_all [] s h w = w
  seen_all (b ∷ bs) s h w = seen_bind b.bound b.to (bind_all bs s) h.0 (seen_all bs s h.1 w)

  matcheds : (right : List Binding → Course) (others : Course) (o : Option (List Binding)) (ps : List Place) → Found o → ((bs : List Binding) → Bound bs → Good V V ps (right bs)) → Good V V ps others → Good V V ps (matched right others o)
  matcheds right others none ps h g k = k
  matcheds right others (some bs) ps h g k = g bs h

  -- ---- the evaluation

  abbrev Numbers : List ℕ → Type 0
  Numbers ns = (n : ℕ) → In n ns → V (number (pos n))

  l : (xs ys : List ℕ) → Numbers (xs ++ ys) → Numbers xs
  l xs ys h n i = h n (in_left n xs ys i)

  r : (xs ys : List ℕ) → Numbers (xs ++ ys) → Numbers ys
  r xs ys h n i = h n (in_right n xs ys i)

  module _ (f : Facts) (F : (n : Name) → V (f n)) where
    looks : (s : Sight) (n : Name) → Seen V s → V (known (f n) (s n))
    looks s n w = go (s n) refl
      where
        go : (o : Option Value) → s n ≡ o → V (known (f n) o)
        go none e = F n
        go (some v) e = w n v e

    mutual
      unfolding eval numerals

      pub good : (t : Tree) → Numbers (numerals t) → (s : Sight) → Seen V s → (ps : List Place) → Good V V ps (eval t f s)
      good (numeral p n) h s w ps = h n (inl refl)
      good (Tree.truth p b) h s w ps = K.truths b
      good (name p n) h s w ps = looks s n w
      good (Tree.unary p o a) h s w ps = strictly V V V (eval a f s) _ (p ∷ ps) (good a h s w (p ∷ ps)) (λ qs u v x. tells V p qs (unary o v) (u p (inl refl)) (K.ones o v x))
      good (Tree.binary p o a b) h s w ps =
          strictly V V V (eval a f s) _ (p ∷ ps) (good a (l (numerals a) (numerals b) h) s w (p ∷ ps)) (λ qs u v x.
          strictly V V V (eval b f s) _ qs (good b (r (numerals a) (numerals b) h) s w qs) (λ rs t y z. tells V p rs (binary o v y) (t p (u p (inl refl))) (K.twos o v y x z)))
      good (connective p o a b) h s w ps =
          bound V V V _ (eval a f s) (p ∷ ps) (good a (l (numerals a) (numerals b) h) s w (p ∷ ps)) (λ qs u x e.
          connects V K.truths p (deciding o) (eval b f s) (left o (truth_of p x)) qs (u p (inl refl)) (fine_left V o qs (truth_of p x) (fine V V p qs x (u p (inl refl)) e))
          (good b (r (numerals a) (numerals b) h) s w qs))
      good (if_else p a b c) h s w ps =
          let k = r (numerals a) (numerals b ++ numerals c) h in
          bound V V V _ (eval a f s) (p ∷ ps) (good a (l (numerals a) (numerals b ++ numerals c) h) s w (p ∷ ps)) (λ qs u x e.
          branches V V qs (eval b f s) (eval c f s) (truth_of p x) (fine V V p qs x (u p (inl refl)) e)
          (good b (l (numerals b) (numerals c) k) s w qs) (good c (r (numerals b) (numerals c) k) s w qs))
      good (let_in p x a b) h s w ps =
          strictly V V V (eval a f s) _ (p ∷ ps) (good a (l (numerals a) (numerals b) h) s w (p ∷ ps)) (λ qs u v y. good b (r (numerals a) (numerals b) h) (bind x v s) (seen_bind x v s y w) qs)
      good (let_be p x a c b) h s w ps =
          let k = r (numerals a) (numerals c ++ numerals b) h in
          let C : Value → Course = λ v. eval c f (bind x v s) in
          let B : Value → Course = λ v. eval b f (bind x v s) in
          let O : Value → Course = over p Set (testing p C) (value (of Set [])) in
          strictly V Candidates V (strict (eval a f s) O) (λ cs. choice p s B (members cs)) (p ∷ ps)
          (strictly V V Candidates (eval a f s) O (p ∷ ps) (good a (l (numerals a) (numerals c ++ numerals b) h) s w (p ∷ ps)) (λ qs u v y.
          overs V Candidates K.inner p Set (testing p C) (tests p C (λ z q. good c (l (numerals c) (numerals b) k) (bind x z s) (seen_bind x z s q w))) v y qs (u p (inl refl)) (value (of Set [])) tt))
          (λ qs u cs y. choices p s B (members cs) qs (u p (inl refl)) w y (λ z q. good b (r (numerals c) (numerals b) k) (bind x z s) (seen_bind x z s q w)))
      good (cases p a cs o) h s w ps =
          let k = r (numerals a) (numerals_in cs ++ numerals_of o) h in
          strictly V V V (eval a f s) _ (p ∷ ps) (good a (l (numerals a) (numerals_in cs ++ numerals_of o) h) s w (p ∷ ps)) (λ qs u v y.
          good_cases cs (l (numerals_in cs) (numerals_of o) k) s w v y _ qs (good_or o (r (numerals_in cs) (numerals_of o) k) s w (ended (fault NoCase p)) qs (u p (inl refl))))
      good (quantifier p q x a b) h s w ps =
          let B : Value → Course = λ v. eval b f (bind x v s) in
          strictly V V V (eval a f s) _ (p ∷ ps) (good a (l (numerals a) (numerals b) h) s w (p ∷ ps)) (λ qs u v y.
          overs V V K.inner p Set (searching p (decider q) B) (searches p (decider q) B (λ z j. good b (r (numerals a) (numerals b) h) (bind x z s) (seen_bind x z s j w))) v y qs (u p (inl refl)) (value (truth (not (decider q)))) (K.truths (not (decider q))))
      good (collection p k ts) h s w ps =
          weaker V (Grown V k) V (λ v y. y.1) (eval_all ts f s p k (value (of k []))) (p ∷ ps) (good_all ts h s w p k (p ∷ ps) (inl refl) (value (of k [])) (is_many k [], K.none_yet k))
      good (Tree.range p a b) h s w ps =
          strictly V V V (eval a f s) _ (p ∷ ps) (good a (l (numerals a) (numerals b) h) s w (p ∷ ps)) (λ qs u v x.
          strictly V V V (eval b f s) _ qs (good b (r (numerals a) (numerals b) h) s w qs) (λ rs t y z. tells V p rs (range v y) (t p (u p (inl refl))) (K.ranges v y x z)))
      good (comprehension p k e x a c) h s w ps =
          let m = r (numerals e) (numerals a ++ numerals_of c) h in
          let C : Value → Course = λ v. eval_or c f (bind x v s) (ended (value (truth true))) in
          let E : Value → Course = λ v. eval e f (bind x v s) in
          let O : Value → Course = over p k (filtering p k C E) (value (of k [])) in
          weaker V (Grown V k) V (λ v y. y.1) (strict (eval a f s) O) (p ∷ ps)
          (strictly V V (Grown V k) (eval a f s) O (p ∷ ps) (good a (l (numerals a) (numerals_of c) m) s w (p ∷ ps)) (λ qs u v y.
          overs V (Grown V k) K.inner p k (filtering p k C E)
          (filters p k C E
          (λ z j rs. good_or c (r (numerals a) (numerals_of c) m) (bind x z s) (seen_bind x z s j w) (ended (value (truth true))) rs (K.truths true))
          (λ z j. good e (l (numerals e) (numerals a ++ numerals_of c) h) (bind x z s) (seen_bind x z s j w)))
          v y qs (u p (inl refl)) (value (of k [])) (is_many k [], K.none_yet k)))
      good (selection p a n) h s w ps = strictly V V V (eval a f s) _ (p ∷ ps) (good a h s w (p ∷ ps)) (λ qs u v x. tells V p qs (select n v) (u p (inl refl)) (K.parted n v x))

      good_all : (ts : Trees) → Numbers (numerals_all ts) → (s : Sight) → Seen V s → (p : Place) (k : Collection) (ps : List Place) → In p ps → (a : Outcome) → End (Grown V k) ps a → Good V (Grown V k) ps (eval_all ts f s p k a)
      good_all Trees.none h s w p k ps i a e = e
      good_all (Trees.more t ts) h s w p k ps i a e =
          addings p k (eval t f s) (eval_all ts f s p k) a ps i e (good t (l (numerals t) (numerals_all ts) h) s w ps) (λ qs u b j. good_all ts (r (numerals t) (numerals_all ts) h) s w p k qs (u p i) b j)

      good_cases : (cs : Alternatives) → Numbers (numerals_in cs) → (s : Sight) → Seen V s → (v : Value) → V v → (c : Course) (ps : List Place) → Good V V ps c → Good V V ps (eval_cases cs f s v c)
      good_cases no_more h s w v y c ps g = g
      good_cases (alternative pat a cs) h s w v y c ps g =
          matcheds _ _ (match pat v) ps (matches pat v y) (λ bs j. good a (l (numerals a) (numerals_in cs) h) (bind_all bs s) (seen_all bs s j w) ps)
          (good_cases cs (r (numerals a) (numerals_in cs) h) s w v y c ps g)

      good_or : (o : Optional) → Numbers (numerals_of o) → (s : Sight) → Seen V s → (c : Course) (ps : List Place) → Good V V ps c → Good V V ps (eval_or o f s c)
      good_or absent h s w c ps g = g
      good_or (present t) h s w c ps g = good t h s w ps
