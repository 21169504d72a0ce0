-- Lawful facts give lawful values.
use Rattle.std.proofs.Common.{◌≡◌, ℕ, ◌+◌, ◌^◌, ◌<◌, ◌≤◌, Bool, true, false, cond, ◌||◌, ◌⊎◌, List, [], ◌∷◌, length, pos, sym, refl, ap, ◌∙◌, subst, inl, inr, arith}
use mathlib.Core.Option.{Option, some}
use mathlib.Core.Option as option
use Rattle.std.proofs.lemmas.List.{length-append}
use Rattle.std.proofs.lemmas.Bool.{lt-ltb, and_parts, or_cases, true≢false}
use Rattle.syntax.specs.declared.Collection.{Collection}
use Rattle.syntax.specs.declared.Collection.TheVariants.{Set, Sequence, Tuple}
use Rattle.syntax.specs.Tree.{Place, Name, Tree}
use Rattle.values.specs.declared.Operand.TheVariants.{Many}
use Rattle.values.specs.Value.{Value, number, truth, many, Values, none, more, onto, ontos, cells, list, pack, of}
use Rattle.values.specs.Lawful.{Lawful, ranged, rangeds, ordered, ordereds}
use Rattle.values.specs.Operators.{is, members}
use Rattle.values.proofs.Laws.{onto_is}
use Rattle.operations.proofs.Lawfuls.{lawfuls}
use Rattle.syntax.specs.Names.{In, same, Occurrence, among, free}
use Rattle.meaning.specs.Names.{nothing, Facts}
use Rattle.meaning.specs.Course.{Outcome, value, fault, Course, ended, begins, chooses}
use Rattle.meaning.specs.Eval.{eval}
use Rattle.meaning.specs.Play.{Chooser, by, outcome}
use Rattle.meaning.specs.Laws.{Ranged, ToldLawful, Lawfully, Lawfulness}
use Rattle.meaning.proofs.Good.{All, Closed, Good, good}
use Rattle.meaning.proofs.Plays.{by_assigns}
use Rattle.syntax.proofs.Names.{same_itself, same_is}
use Rattle.meaning.proofs.Free.{naming}

-- ---- the operators keep it

inner_all : (vs : Values) → rangeds vs ≡ true → ordereds vs ≡ true → length (ontos vs []) ≤ 200 → All Lawful (list vs)
inner_all none r o l = tt
inner_all (more v vs) r o l =
    let a = and_parts (ranged v) (rangeds vs) r in
    let b = and_parts (ordered v) (ordereds vs) o in
    let n : length (onto v (ontos vs [])) ≡ length (cells v) + length (ontos vs []) = ap length (onto_is v (ontos vs [])) ∙ length-append (cells v) (ontos vs []) in
    let m : length (cells v) ≤ 200 = omega (arith, n, l) in
    let k : length (ontos vs []) ≤ 200 = omega (arith, n, l) in
    (record { numbers = a.0; sets = b.0; short = m }, inner_all vs a.1 b.1 k)

inner : (v : Value) → Lawful v → All Lawful (members v)
inner (number z) h = tt
inner (truth b) h = tt
inner (many k vs) h = inner_all vs h.numbers (and_parts _ _ h.sets).1 (let n : length (ontos vs []) ≤ 200 = omega (arith, h.short) in n)

packed : (vs : Values) → pack (list vs) ≡ vs
packed none = refl
packed (more v vs) = ap (more v) (packed vs)

as_many : (k : Collection) (c : Value) → is (Many k) c ≡ true → c ≡ of k (members c)
as_many Set (number z) e = absurd (true≢false (sym e))
as_many Set (truth b) e = absurd (true≢false (sym e))
as_many Set (many Set vs) e = ap (many Set) (sym (packed vs))
as_many Set (many Sequence vs) e = absurd (true≢false (sym e))
as_many Set (many Tuple vs) e = absurd (true≢false (sym e))
as_many Sequence (number z) e = absurd (true≢false (sym e))
as_many Sequence (truth b) e = absurd (true≢false (sym e))
as_many Sequence (many Set vs) e = absurd (true≢false (sym e))
as_many Sequence (many Sequence vs) e = ap (many Sequence) (sym (packed vs))
as_many Sequence (many Tuple vs) e = absurd (true≢false (sym e))
as_many Tuple (number z) e = absurd (true≢false (sym e))
as_many Tuple (truth b) e = absurd (true≢false (sym e))
as_many Tuple (many Set vs) e = absurd (true≢false (sym e))
as_many Tuple (many Sequence vs) e = absurd (true≢false (sym e))
as_many Tuple (many Tuple vs) e = ap (many Tuple) (sym (packed vs))

truths : (b : Bool) → Lawful (truth b)
truths b = record { numbers = refl; sets = refl; short = omega arith }

none_yet : (k : Collection) → Lawful (of k [])
none_yet Set = record { numbers = refl; sets = refl; short = omega arith }
none_yet Sequence = record { numbers = refl; sets = refl; short = omega arith }
none_yet Tuple = record { numbers = refl; sets = refl; short = omega arith }

lawful_kept : Closed Lawful
lawful_kept =
    record {
      truths = truths;
      none_yet = none_yet;
      inner = inner;
      ones = lawfuls.one;
      twos = lawfuls.both;
      parted = lawfuls.part;
      ranges = lawfuls.interval;
      grows = λ k c x i h j. lawfuls.growing k (members c) x (subst Lawful (as_many k c i) h) j;
    }

numeral_lawful : (n : ℕ) → n < 2 ^ 31 → Lawful (number (pos n))
numeral_lawful n h = record { numbers = lt-ltb n (2 ^ 31) h; sets = refl; short = omega arith }

-- ---- facts that are lawful at the free names, and elsewhere a truth value

abbrev called : List Occurrence → List Name
called [] = []
called (o ∷ os) = o.name ∷ called os

called_in : (o : Occurrence) (os : List Occurrence) → In o os → among o.name (called os) ≡ true
called_in o [] i = absurd i
called_in o (x ∷ os) (inl e) = ap (λ c. c || among o.name (called os)) (ap (λ y. same o.name y.name) (sym e) ∙ same_itself o.name)
called_in o (x ∷ os) (inr i) = go (same o.name x.name) (called_in o os i)
  where
    go : (b : Bool) {c : Bool} → c ≡ true → (b || c) ≡ true
    go true h = refl
    go false h = h

abbrev Who : Name → List Occurrence → Type 0
Who n os = (o : Occurrence) × In o os × (n ≡ o.name)

who_more : (n : Name) (x : Occurrence) (os : List Occurrence) → (same n x.name ≡ true) ⊎ (among n (called os) ≡ true) → (among n (called os) ≡ true → Who n os) → Who n (x ∷ os)
who_more n x os (inl h) again = (x, inl refl, same_is n x.name h)
who_more n x os (inr h) again = let w = again h in (w.0, inr w.1, w.2)

who : (n : Name) (os : List Occurrence) → among n (called os) ≡ true → Who n os
who n [] e = absurd (true≢false (sym e))
who n (x ∷ os) e = who_more n x os (or_cases (same n x.name) (among n (called os)) e) (who n os)

module _ (t : Tree) (f : Facts) (h : ToldLawful t f) where
  abbrev patched : Facts
  patched n = cond (among n (called (free t []))) (f n) (truth true)

  patched_lawful : (n : Name) → Lawful (patched n)
  patched_lawful n = go (among n (called (free t []))) refl
    where
      go : (b : Bool) → among n (called (free t [])) ≡ b → Lawful (cond b (f n) (truth true))
      go true e = let w = who n (free t []) e in subst (λ m. Lawful (f m)) (sym w.2) (h w.0 w.1)
      go false e = truths true

  patched_same : (o : Occurrence) → In o (free t []) → f o.name ≡ patched o.name
  patched_same o i = ap (λ c. cond c (f o.name) (truth true)) (sym (called_in o (free t []) i))

-- ---- along a course

one_of : (v : Value) (vs : List Value) → All Lawful vs → In v vs → Lawful v
one_of v [] h i = absurd i
one_of v (w ∷ vs) h (inl e) = subst Lawful (sym e) h.0
one_of v (w ∷ vs) h (inr i) = one_of v vs h.1 i

lawfully : (m : Course) (ps : List Place) → Good Lawful Lawful ps m → Lawfully m
lawfully (ended (value v)) ps h = h
lawfully (ended (fault k q)) ps h = tt
lawfully (begins p m) ps h = lawfully m (p ∷ ps) h
lawfully (chooses p s c cs f) ps h = (h.0, λ v i. let w = one_of v (c ∷ cs) h.1 i in (w, lawfully (f v) ps (h.2 v w)))

at_end : (χ : Chooser) (m : Course) (v : Value) → Lawfully m → outcome (by χ) m ≡ value v → Lawful v
at_end χ (ended (value w)) v h e = let q : w ≡ v = cc in subst Lawful q h
at_end χ (ended (fault k q)) v h e = absurd (apart e)
  where
    told : Outcome → Type 0
    told (value w) = ⊥
    told (fault j r) = Unit {0}

    apart : fault k q ≡ value v → ⊥
    apart x = subst told x tt
at_end χ (begins p m) v h e = at_end χ m v h e
at_end χ (chooses p s c cs f) v h e = at_end χ (f (by χ p s c cs)) v (h.1 (by χ p s c cs) (by_assigns χ p s c cs)).1 e

along : (t : Tree) (f : Facts) → Ranged t → ToldLawful t f → Lawfully (eval t f nothing)
along t f r h =
    let g = patched t f h in
    subst Lawfully (sym (naming.depends t f g (patched_same t f h)))
    (lawfully (eval t g nothing) [] (good Lawful lawful_kept g (patched_lawful t f h) t (λ n i. numeral_lawful n (r n i)) nothing (λ n v e. absurd (nowhere v e)) []))
  where
    there : Option Value → Type 0
    there option.none = Unit {0}
    there (some w) = ⊥

    nowhere : (v : Value) → option.none ≡ some v → ⊥
    nowhere v e = subst there e tt

pub lawfulness : Lawfulness
lawfulness = record { along = along; at_the_end = λ t f χ v r h e. at_end χ (eval t f nothing) v (along t f r h) e }
