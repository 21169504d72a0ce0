-- Cells that pass the tests are a value, and a value's cells pass them.
use Rattle.std.proofs.Common.{◌≡◌, ℕ, zero, suc, ◌+◌, ◌-◌, ◌<◌, ◌≤◌, Bool, true, false, ◌&&◌, ◌⊎◌, List, [], ◌∷◌, ◌++◌, length, get_or, take, drop, ℤ, pos, negsuc, sym, refl, ap, ◌∙◌, inl, inr, true≢false, zero-add, arith, ltb-true}
use mathlib.Core.Bool.{and-false}
use Rattle.std.proofs.lemmas.Bool.{le-ltb}
use Rattle.std.proofs.lemmas.List.{length-take-le, length-drop, take-append-drop}
use Rattle.std.specs.Ordering.{is_lt}
use Rattle.syntax.specs.declared.Collection.{Collection}
use Rattle.syntax.specs.declared.Collection.TheVariants.{Set, Sequence, Tuple}
use Rattle.values.specs.Value.{Value, number, truth, many, Values, none, more, code, bit, count, onto, ontos, cells, list, pack, row, of, within, past, front, by_cells, compare}
use Rattle.values.specs.declared.kinds.Kind.{Kind}
use Rattle.values.specs.declared.kinds.Kind.TheVariants.{Number, Truth, Set as KSet, Sequence as KSequence, Tuple as KTuple}
use Rattle.values.specs.Kinds.{cell}
use Rattle.values.proofs.Laws.{front_first, past_first}
use Rattle.values.specs.Lawful.{ascending, is_in_order, ranged, rangeds, ordered, ordereds, Lawful}
use Rattle.lawful.specs.Shape.{valid, shape, ascends, members, sorted}

and_left : (a b : Bool) → (a && b) ≡ true → a ≡ true
and_left true b h = refl
and_left false b h = h

and_right : (a b : Bool) → (a && b) ≡ true → b ≡ true
and_right true b h = h
and_right false b h = cc

and_both : (a b : Bool) → a ≡ true → b ≡ true → (a && b) ≡ true
and_both a b p q = ap (λ x. x && b) p ∙ q

and_assoc : (a b c : Bool) → ((a && b) && c) ≡ (a && (b && c))
and_assoc true b c = refl
and_assoc false b c = refl

shape_eq : {m n : ℕ} (xs : List ℤ) → m ≡ n → shape m xs ≡ shape n xs
shape_eq xs e = ap (λ k. shape k xs) e

-- a value's cells have the shape where its numbers are in range
shape_many : (k : Collection) (m n : ℕ) (xs : List ℤ) → shape (suc n) (code k ∷ pos m ∷ xs) ≡ shape (m + n) xs
shape_many Set m n xs = refl
shape_many Sequence m n xs = refl
shape_many Tuple m n xs = refl

shape_truth : (b : Bool) (n : ℕ) (xs : List ℤ) → shape (suc n) (pos 1 ∷ bit b ∷ xs) ≡ shape (0 + n) xs
shape_truth true n xs = refl
shape_truth false n xs = refl

mutual
  shape-onto : (v : Value) (n : ℕ) (xs : List ℤ) → ranged v ≡ true → shape (suc n) (onto v xs) ≡ shape n xs
  shape-onto (number z) n xs h = ap (λ b. b && shape (0 + n) xs) h ∙ shape_eq xs (zero-add n)
  shape-onto (truth b) n xs h = shape_truth b n xs ∙ shape_eq xs (zero-add n)
  shape-onto (many k vs) n xs h = shape_many k (count vs) n (ontos vs xs) ∙ shape-ontos vs n xs h

  shape-ontos : (vs : Values) (n : ℕ) (xs : List ℤ) → rangeds vs ≡ true → shape (count vs + n) (ontos vs xs) ≡ shape n xs
  shape-ontos none n xs h = shape_eq xs (zero-add n)
  shape-ontos (more v vs) n xs h =
      shape_eq (onto v (ontos vs xs)) (let e : suc (count vs) + n ≡ suc (count vs + n) = omega arith in e) ∙ shape-onto v (count vs + n) (ontos vs xs) (and_left (ranged v) (rangeds vs) h) ∙ shape-ontos vs n xs (and_right (ranged v) (rangeds vs) h)

-- the members behind a pair, as cells and as values
ascends_row : (vs : Values) (xs : List ℤ) → ascends (count vs) (ontos vs xs) ≡ ascending (list vs)
ascends_row none xs = refl
ascends_row (more v none) xs = refl
ascends_row (more v (more w vs)) xs =
    let f = front_first v (onto w (ontos vs xs)) in
    let p = past_first v (onto w (ontos vs xs)) in
    let g = ap front p ∙ front_first w (ontos vs xs) in
    (λ i. is_lt (by_cells (f i) (g i)) && ascends (suc (count vs)) (p i)) ∙ ap (λ b. is_lt (compare v w) && b) (ascends_row (more w vs) xs)

members_code : (k : Collection) (vs : Values) (xs : List ℤ) → members (code k) (pos (count vs)) (ontos vs xs) ≡ is_in_order k (list vs)
members_code Set vs xs = ascends_row vs xs
members_code Sequence vs xs = refl
members_code Tuple vs xs = refl

mutual
  sorted_onto : (v : Value) (xs : List ℤ) → sorted (onto v xs) ≡ (ordered v && sorted xs)
  sorted_onto (number z) xs = refl
  sorted_onto (truth b) xs = refl
  sorted_onto (many k vs) xs =
      (λ i. members_code k vs xs i && sorted_ontos vs xs i) ∙ sym (and_assoc (is_in_order k (list vs)) (ordereds vs) (sorted xs))

  sorted_ontos : (vs : Values) (xs : List ℤ) → sorted (ontos vs xs) ≡ (ordereds vs && sorted xs)
  sorted_ontos none xs = refl
  sorted_ontos (more v vs) xs =
      sorted_onto v (ontos vs xs) ∙ ap (λ b. ordered v && b) (sorted_ontos vs xs) ∙ sym (and_assoc (ordered v) (ordereds vs) (sorted xs))

-- cells of the shape of n values are n values
pub record Read (n : ℕ) (s : List ℤ) : Type 0 where
  pub values : List Value
  pub many_are : length values ≡ n
  pub cells_are : s ≡ row values
  pub numbers : rangeds (pack values) ≡ true

ontos-row : (us ts : List Value) → ontos (pack us) (row ts) ≡ row (us ++ ts)
ontos-row [] ts = refl
ontos-row (u ∷ us) ts = ap (onto u) (ontos-row us ts)

count_pack : (us : List Value) → count (pack us) ≡ length us
count_pack [] = refl
count_pack (u ∷ us) = ap suc (count_pack us)

rangeds_append : (us ts : List Value) → rangeds (pack (us ++ ts)) ≡ (rangeds (pack us) && rangeds (pack ts))
rangeds_append [] ts = refl
rangeds_append (u ∷ us) ts = ap (λ b. ranged u && b) (rangeds_append us ts) ∙ sym (and_assoc (ranged u) (rangeds (pack us)) (rangeds (pack ts)))

-- a pair before the values that follow it: its members are the first m of them
gather : (k : Collection) (m n : ℕ) (xs : List ℤ) → Read (m + n) xs → Read (suc n) (code k ∷ pos m ∷ xs)
gather k m n xs r =
    let us = take m r.values in
    let ts = drop m r.values in
    let whole = take-append-drop m r.values in
    let l : m ≤ length r.values = omega (arith, r.many_are) in
    let c : count (pack us) ≡ m = count_pack us ∙ length-take-le m r.values l in
    let d = length-drop m r.values in
    let e : ontos (pack us) (row ts) ≡ xs = ontos-row us ts ∙ ap row whole ∙ sym r.cells_are in
    let f : (rangeds (pack us) && rangeds (pack ts)) ≡ true = sym (rangeds_append us ts) ∙ ap (λ vs. rangeds (pack vs)) whole ∙ r.numbers in
    record {
      values = of k us ∷ ts;
      many_are = omega (arith, d, r.many_are);
      cells_are = λ i. code k ∷ pos (sym c i) ∷ sym e i;
      numbers = f;
    }

one_more : (v : Value) (n : ℕ) (xs ys : List ℤ) → Read (0 + n) xs → ((ts : List Value) → ys ++ row ts ≡ onto v (row ts)) → ranged v ≡ true → Read (suc n) (ys ++ xs)
one_more v n xs ys r e h =
    record {
      values = v ∷ r.values;
      many_are = omega (arith, r.many_are);
      cells_are = ap (λ t. ys ++ t) r.cells_are ∙ e r.values;
      numbers = and_both (ranged v) (rangeds (pack r.values)) h r.numbers;
    }

build : (k c : ℤ) (n : ℕ) (xs : List ℤ) → valid k c ≡ true → Read (within k c + n) xs → Read (suc n) (k ∷ c ∷ xs)
build (pos zero) c n xs h r = one_more (number c) n xs (pos 0 ∷ c ∷ []) r (λ ts. refl) h
build (pos (suc zero)) (pos zero) n xs h r = one_more (truth false) n xs (pos 1 ∷ pos 0 ∷ []) r (λ ts. refl) refl
build (pos (suc zero)) (pos (suc zero)) n xs h r = one_more (truth true) n xs (pos 1 ∷ pos 1 ∷ []) r (λ ts. refl) refl
build (pos (suc zero)) (pos (suc (suc m))) n xs h r = absurd (true≢false (sym h))
build (pos (suc zero)) (negsuc m) n xs h r = absurd (true≢false (sym h))
build (pos (suc (suc zero))) (pos m) n xs h r = gather Set m n xs r
build (pos (suc (suc (suc zero)))) (pos m) n xs h r = gather Sequence m n xs r
build (pos (suc (suc (suc (suc zero))))) (pos m) n xs h r = gather Tuple m n xs r
build (pos (suc (suc (suc (suc (suc k)))))) (pos m) n xs h r = absurd (let l = ltb-true (suc (suc (suc k))) 3 h in omega arith)
build (pos (suc (suc k))) (negsuc m) n xs h r = absurd (true≢false (sym h))
build (negsuc k) c n xs h r = absurd (true≢false (sym h))

read : (n : ℕ) (s : List ℤ) → shape n s ≡ true → Read n s
read zero [] h = record { values = []; many_are = refl; cells_are = refl; numbers = refl }
read zero (k ∷ xs) h = absurd (true≢false (sym h))
read (suc n) [] h = absurd (true≢false (sym h))
read (suc n) (k ∷ []) h = absurd (true≢false (sym h))
read (suc n) (k ∷ c ∷ xs) h =
    build k c n xs (and_left (valid k c) (shape (within k c + n) xs) h) (read (within k c + n) xs (and_right (valid k c) (shape (within k c + n) xs) h))

only : (n : ℕ) (vs : List Value) → length vs ≡ suc zero → (v : Value) × (vs ≡ v ∷ [])
only n [] h = absurd (omega arith)
only n (v ∷ []) h = (v, refl)
only n (v ∷ w ∷ vs) h = absurd (omega arith)

-- the two directions
pub is_value : (s : List ℤ) → shape 1 s ≡ true → sorted s ≡ true → length s ≤ 200 → (v : Value) × (s ≡ cells v) × Lawful v
is_value s h g l =
    let r = read 1 s h in
    let o = only 0 r.values r.many_are in
    let e : s ≡ cells o.0 = r.cells_are ∙ ap row o.1 in
    let f : ranged o.0 ≡ true = and_left (ranged o.0) true (sym (ap (λ vs. rangeds (pack vs)) o.1) ∙ r.numbers) in
    let q : ordered o.0 ≡ true = and_left (ordered o.0) true (sym (ap sorted e ∙ sorted_onto o.0 []) ∙ g) in
    (o.0, e, record { numbers = f; sets = q; short = omega (arith, ap length e) })

pub passes : (v : Value) (s : List ℤ) → s ≡ cells v → Lawful v → (shape 1 s ≡ true) × (sorted s ≡ true) × (length s ≤ 200)
passes v s e h =
    (ap (shape 1) e ∙ shape-onto v 0 [] h.numbers, ap sorted e ∙ sorted_onto v [] ∙ ap (λ b. b && true) h.sets, omega (arith, ap length e, h.short))

-- steps of the loops
shape_long : (n : ℕ) (xs : List ℤ) → length xs < n → shape n xs ≡ false
shape_long zero xs h = absurd (omega arith)
shape_long (suc n) [] h = refl
shape_long (suc n) (k ∷ []) h = refl
shape_long (suc n) (k ∷ c ∷ xs) h =
    ap (λ b. valid k c && b) (shape_long (within k c + n) xs (let l : length xs < within k c + n = omega arith in l)) ∙ and-false (valid k c)

pub shape_step : (p m : ℕ) (xs : List ℤ) (d : ℤ) → 0 < p → 2 ≤ length xs → m ≡ within (get_or xs 0 d) (get_or xs 1 d) → shape p xs ≡ (valid (get_or xs 0 d) (get_or xs 1 d) && shape (p - 1 + m) (drop 2 xs))
shape_step zero m xs d h l e = absurd (omega arith)
shape_step (suc n) m [] d h l e = absurd (omega arith)
shape_step (suc n) m (k ∷ []) d h l e = absurd (omega arith)
shape_step (suc n) m (k ∷ c ∷ xs) d h l e = ap (λ b. valid k c && b) (shape_eq xs (let f : within k c + n ≡ suc n - 1 + m = omega (arith, e) in f))

-- too few values are asked for, or too many
pub shape_stop : (n : ℕ) (xs : List ℤ) → 2 ≤ length xs → (n ≡ 0) ⊎ (length xs < n) → shape n xs ≡ false
shape_stop n [] l h = absurd (omega arith)
shape_stop n (k ∷ xs) l (inl e) = shape_eq (k ∷ xs) e
shape_stop n xs l (inr h) = shape_long n xs h

pub ascends_step : (n : ℕ) (xs : List ℤ) → 1 < n → ascends n xs ≡ (is_lt (by_cells (front xs) (front (past 1 xs))) && ascends (n - 1) (past 1 xs))
ascends_step zero xs h = absurd (omega arith)
ascends_step (suc zero) xs h = absurd (omega arith)
ascends_step (suc (suc n)) xs h = ap (λ m. is_lt (by_cells (front xs) (front (past 1 xs))) && ascends m (past 1 xs)) (let e : suc n ≡ suc (suc n) - 1 = omega arith in e)

pub ascends_few : (n : ℕ) (xs : List ℤ) → n ≤ 1 → ascends n xs ≡ true
ascends_few zero xs h = refl
ascends_few (suc zero) xs h = refl
ascends_few (suc (suc n)) xs h = absurd (omega arith)

pub sorted_few : (xs : List ℤ) → length xs < 2 → sorted xs ≡ true
sorted_few [] h = refl
sorted_few (k ∷ []) h = refl
sorted_few (k ∷ c ∷ xs) h = absurd (omega arith)

pub sorted_step : (xs : List ℤ) (d : ℤ) → 2 ≤ length xs → sorted xs ≡ (members (get_or xs 0 d) (get_or xs 1 d) (drop 2 xs) && sorted (drop 2 xs))
sorted_step [] d h = absurd (omega arith)
sorted_step (k ∷ []) d h = absurd (omega arith)
sorted_step (k ∷ c ∷ xs) d h = refl

-- a cell of no kind begins no value
pub no_kind : (z c : ℤ) → ((k : Kind) → cell k ≡ z → ⊥) → valid z c ≡ false
no_kind (pos zero) c h = absurd (h Number refl)
no_kind (pos (suc zero)) c h = absurd (h Truth refl)
no_kind (pos (suc (suc zero))) c h = absurd (h KSet refl)
no_kind (pos (suc (suc (suc zero)))) c h = absurd (h KSequence refl)
no_kind (pos (suc (suc (suc (suc zero))))) c h = absurd (h KTuple refl)
no_kind (pos (suc (suc (suc (suc (suc k)))))) (pos n) h = le-ltb (suc (suc (suc k))) 3 (omega arith)
no_kind (pos (suc (suc (suc (suc (suc k)))))) (negsuc n) h = refl
no_kind (negsuc k) c h = refl
