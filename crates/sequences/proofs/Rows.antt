-- Rows of values: what stands past some of them, and rows one after another.
use Rattle.std.proofs.Common.{◌≡◌, ℕ, zero, suc, ◌+◌, ◌-◌, ◌*◌, ◌<◌, ◌≤◌, ◌⊎◌, List, [], ◌∷◌, ◌++◌, length, get_or, drop, ℤ, pos, negsuc, ◌+ℤ◌, ◌-ℤ◌, nat_abs, ◌≤ℤ◌, ◌<ℤ◌, Ok, Err, sym, refl, ap, ◌∙◌, inl, inr, zero-add, arith}
use Rattle.std.proofs.lemmas.List.{length-append, append_assoc}
use Rattle.syntax.specs.declared.Collection.{Collection}
use Rattle.syntax.specs.declared.Collection.TheVariants.{Set}
use Rattle.values.specs.Value.{Value, number, code, onto, cells, row, of, within, past, front}
use Rattle.values.specs.Numbers.{span, size}
use Rattle.sequences.specs.Count.{counted, width}
use Rattle.values.specs.declared.Fault.TheVariants.{OutOfBounds}
use Rattle.values.specs.Operators.{nth}
use Rattle.std.proofs.lemmas.Int.{ints}
use Rattle.values.proofs.Laws.{past_first, front_first, onto-append, cells_of}

past_eq : {m n : ℕ} (xs : List ℤ) → m ≡ n → past m xs ≡ past n xs
past_eq xs e = ap (λ k. past k xs) e

past_nil : (n : ℕ) → past n [] ≡ []
past_nil zero = refl
past_nil (suc n) = refl

-- past a and then b values is past a + b
pub past-past : (a b : ℕ) (xs : List ℤ) → past b (past a xs) ≡ past (a + b) xs
past-past zero b xs = past_eq xs (sym (zero-add b))
past-past (suc a) b [] = past_nil b ∙ sym (past_nil (suc a + b))
past-past (suc a) b (k ∷ []) = past_nil b ∙ past_eq (k ∷ []) (let e : suc (a + b) ≡ suc a + b = omega arith in e)
past-past (suc a) b (k ∷ c ∷ xs) =
    past-past (within k c + a) b xs ∙ past_eq xs (let e : within k c + a + b ≡ within k c + (a + b) = omega arith in e) ∙ past_eq (k ∷ c ∷ xs) (let f : suc (a + b) ≡ suc a + b = omega arith in f)

pub past_step : (n : ℕ) (xs : List ℤ) → 0 < n → past n xs ≡ past (n - 1) (past 1 xs)
past_step n xs h = past_eq xs (let e : n ≡ 1 + (n - 1) = omega arith in e) ∙ sym (past-past 1 (n - 1) xs)

pub past_row : (i : ℕ) (vs : List Value) → past i (row vs) ≡ row (drop i vs)
past_row zero vs = refl
past_row (suc i) [] = refl
past_row (suc i) (v ∷ vs) = past_step (suc i) (row (v ∷ vs)) (omega arith) ∙ ap (past (suc i - 1)) (past_first v (row vs)) ∙ past_eq (row vs) (let e : suc i - 1 ≡ i = omega arith in e) ∙ past_row i vs

pub nth-row : (i : ℕ) (vs : List Value) (d : Value) → i < length vs → front (past i (row vs)) ≡ cells (get_or vs i d)
nth-row i [] d h = absurd (omega arith)
nth-row zero (v ∷ vs) d h = front_first v (row vs)
nth-row (suc i) (v ∷ vs) d h =
    let g : i < length vs = omega arith in
    ap front (past_step (suc i) (row (v ∷ vs)) (omega arith) ∙ ap (past (suc i - 1)) (past_first v (row vs)) ∙ past_eq (row vs) (let e : suc i - 1 ≡ i = omega arith in e)) ∙ nth-row i vs d g

pub row-append : (us vs : List Value) → row (us ++ vs) ≡ row us ++ row vs
row-append [] vs = refl
row-append (u ∷ us) vs = ap (onto u) (row-append us vs) ∙ sym (onto-append u (row us) (row vs))

-- a pair of cells and two rows behind it
pub joined : (k : Collection) (us vs : List Value) (n : ℕ) (out p q r x y : List ℤ) (c : ℤ) → out ≡ r → p ≡ code k ∷ c ∷ [] → q ≡ p ++ x → r ≡ q ++ y → c ≡ pos n → n ≡ length us + length vs → x ≡ row us → y ≡ row vs → out ≡ cells (of k (us ++ vs))
joined k us vs n out p q r x y c e a b d f g h i =
    let s : q ≡ code k ∷ pos n ∷ row us = b ∙ (λ j. (a ∙ ap (λ z. code k ∷ z ∷ []) f) j ++ h j) in
    let t : r ≡ code k ∷ pos n ∷ (row us ++ row vs) = d ∙ (λ j. s j ++ i j) in
    let m : n ≡ length (us ++ vs) = g ∙ sym (length-append us vs) in
    e ∙ t ∙ (λ j. code k ∷ pos (m j) ∷ sym (row-append us vs) j) ∙ sym (cells_of k (us ++ vs))

pub total : (k : Collection) (us vs : List Value) (x y : List ℤ) → x ≡ row us → y ≡ row vs → length (cells (of k (us ++ vs))) ≡ 2 + length x + length y
total k us vs x y e f =
    let a = ap length (cells_of k (us ++ vs)) in
    let b = ap length (row-append us vs) ∙ length-append (row us) (row vs) in
    omega (arith, ap length e, ap length f)

pub counted_of : (k : Collection) (vs : List Value) (s : List ℤ) → s ≡ cells (of k vs) → counted s ≡ length vs
counted_of k vs s e = ap counted (e ∙ cells_of k vs)

-- one number more
pub width_more : (a b : ℤ) → a ≤ℤ b → width a b ≡ suc (width (a +ℤ pos 1) b)
width_more a b h = go (b -ℤ a +ℤ pos 1) (b -ℤ (a +ℤ pos 1) +ℤ pos 1) (omega (arith, ints)) (omega (arith, ints))
  where
    go : (z y : ℤ) → z ≡ y +ℤ pos 1 → pos 0 ≤ℤ y → size z ≡ suc (size y)
    go z (pos n) e h = ap size e ∙ (let f : n + 1 ≡ suc n = omega arith in f)
    go z (negsuc n) e h = absurd (omega (arith, ints))

pub width_none : (a b : ℤ) → b <ℤ a → width a b ≡ 0
width_none a b h = go (b -ℤ a +ℤ pos 1) (omega (arith, ints))
  where
    go : (z : ℤ) → z ≤ℤ pos 0 → size z ≡ 0
    go (pos n) h = omega (arith, ints)
    go (negsuc n) h = refl

pub span_more : (a b : ℤ) → a ≤ℤ b → span a (width a b) ≡ number a ∷ span (a +ℤ pos 1) (width (a +ℤ pos 1) b)
span_more a b h = ap (span a) (width_more a b h)

pub span_step : (a : ℤ) (i n : ℕ) → i < n → span (a +ℤ pos i) (n - i) ≡ number (a +ℤ pos i) ∷ span (a +ℤ pos (i + 1)) (n - (i + 1))
span_step a i n h =
    let e : n - i ≡ suc (n - (i + 1)) = omega arith in
    let f : a +ℤ pos i +ℤ pos 1 ≡ a +ℤ pos (i + 1) = omega (arith, ints) in
    ap (span (a +ℤ pos i)) e ∙ ap (λ z. number (a +ℤ pos i) ∷ span z (n - (i + 1))) f

pub span_from : (a : ℤ) (n : ℕ) → span (a +ℤ pos 0) (n - 0) ≡ span a n
span_from a n =
    let e : n - 0 ≡ n = omega arith in
    let f : a +ℤ pos 0 ≡ a = omega (arith, ints) in
    λ i. span (f i) (e i)

pub span_end : (a : ℤ) (i n : ℕ) → n ≤ i → span (a +ℤ pos i) (n - i) ≡ []
span_end a i n h = let e : n - i ≡ 0 = omega arith in ap (span (a +ℤ pos i)) e

-- a pair is written, and the rest is to come
pub pair_on : (now old whole goal rest : List ℤ) (z : ℤ) → now ≡ old ++ (pos 0 ∷ z ∷ []) → whole ≡ pos 0 ∷ z ∷ rest → old ++ whole ≡ goal → now ++ rest ≡ goal
pair_on now old whole goal rest z e f g = ap (λ l. l ++ rest) e ∙ append_assoc old (pos 0 ∷ z ∷ []) rest ∙ ap (λ l. old ++ l) (sym f) ∙ g

pub width_is : (a b z : ℤ) → a ≤ℤ b → z ≡ b -ℤ a +ℤ pos 1 → nat_abs z ≡ width a b
width_is a b (pos n) h e = ap size e
width_is a b (negsuc n) h e = absurd (omega (arith, ints))

pub length-span : (a : ℤ) (n : ℕ) → length (span a n) ≡ n
length-span a zero = refl
length-span a (suc n) = ap suc (length-span (a +ℤ pos 1) n)

pub cells-span : (a : ℤ) (n : ℕ) → length (row (span a n)) ≡ 2 * n
cells-span a zero = refl
cells-span a (suc n) = let h = cells-span (a +ℤ pos 1) n in omega arith

pub set_span : (a : ℤ) (n : ℕ) (now p : List ℤ) (c : ℤ) → now ≡ p ++ row (span a n) → p ≡ pos 2 ∷ c ∷ [] → c ≡ pos n → now ≡ cells (of Set (span a n))
set_span a n now p c e f g = e ∙ ap (λ l. l ++ row (span a n)) f ∙ (λ i. pos 2 ∷ (g ∙ ap pos (sym (length-span a n))) i ∷ row (span a n)) ∙ sym (cells_of Set (span a n))

pub long_span : (a : ℤ) (n : ℕ) → length (cells (of Set (span a n))) ≡ 2 + 2 * n
long_span a n = let e = ap length (cells_of Set (span a n)) in let f = cells-span a n in omega arith

-- a member by its number
pub nth_at : (n : ℕ) (vs : List Value) (d : Value) → n < length vs → nth (suc n) vs ≡ Ok (get_or vs n d)
nth_at n [] d h = absurd (omega arith)
nth_at zero (v ∷ vs) d h = refl
nth_at (suc n) (v ∷ vs) d h = nth_at n vs d (omega arith)

pub nth_out : (n : ℕ) (vs : List Value) → (n < 1) ⊎ (length vs < n) → nth n vs ≡ Err OutOfBounds
nth_out n [] h = refl
nth_out zero (v ∷ vs) h = refl
nth_out (suc zero) (v ∷ vs) h = absurd (elim h [ inl e ↦ omega arith | inr e ↦ omega arith ])
nth_out (suc (suc n)) (v ∷ vs) h = nth_out (suc n) vs (inr (elim h [ inl e ↦ absurd (omega arith) | inr e ↦ omega arith ]))

-- a pair of cells and a row behind it
pub pair_row : (k : Collection) (vs : List Value) (now p x : List ℤ) (c : ℤ) → now ≡ p ++ x → p ≡ code k ∷ c ∷ [] → c ≡ pos (length vs) → x ≡ row vs → now ≡ cells (of k vs)
pair_row k vs now p x c e f g h = e ∙ (λ i. f i ++ h i) ∙ ap (λ z. code k ∷ z ∷ row vs) g ∙ sym (cells_of k vs)
