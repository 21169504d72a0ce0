-- Laws of the cells of a value.
use Rattle.std.proofs.Common.{◌≡◌, ℕ, zero, suc, ◌+◌, ◌-◌, ◌<◌, ◌≤◌, Bool, true, false, List, [], ◌∷◌, ◌++◌, length, get_or, take, drop, ℤ, pos, sym, refl, ap, ◌∙◌, zero-add, arith}
use Rattle.std.proofs.lemmas.List.{drop-drop, length-append, take_at}
use Rattle.syntax.specs.declared.Collection.{Collection}
use Rattle.syntax.specs.declared.Collection.TheVariants.{Set, Sequence, Tuple}
use Rattle.values.specs.Value.{Value, number, truth, many, Values, none, more, code, bit, count, onto, ontos, cells, pack, row, of, within, past, front}

within_code : (k : Collection) (n : ℕ) → within (code k) (pos n) ≡ n
within_code Set n = refl
within_code Sequence n = refl
within_code Tuple n = refl

past_eq : {m n : ℕ} (xs : List ℤ) → m ≡ n → past m xs ≡ past n xs
past_eq xs e = ap (λ k. past k xs) e

-- past a value stands what follows it
mutual
  pub past-onto : (v : Value) (n : ℕ) (xs : List ℤ) → past (suc n) (onto v xs) ≡ past n xs
  past-onto (number z) n xs = past_eq xs (zero-add n)
  past-onto (truth b) n xs = past_eq xs (zero-add n)
  past-onto (many k vs) n xs = past_eq (ontos vs xs) (ap (λ m. m + n) (within_code k (count vs))) ∙ past-ontos vs n xs

  pub past-ontos : (vs : Values) (n : ℕ) (xs : List ℤ) → past (count vs + n) (ontos vs xs) ≡ past n xs
  past-ontos none n xs = past_eq xs (zero-add n)
  past-ontos (more v vs) n xs =
      past_eq (onto v (ontos vs xs)) (let e : suc (count vs) + n ≡ suc (count vs + n) = omega arith in e) ∙ past-onto v (count vs + n) (ontos vs xs) ∙ past-ontos vs n xs

-- what follows is appended
mutual
  pub onto-append : (v : Value) (xs ys : List ℤ) → onto v xs ++ ys ≡ onto v (xs ++ ys)
  onto-append (number z) xs ys = refl
  onto-append (truth b) xs ys = refl
  onto-append (many k vs) xs ys = ap (λ l. code k ∷ pos (count vs) ∷ l) (ontos-append vs xs ys)

  pub ontos-append : (vs : Values) (xs ys : List ℤ) → ontos vs xs ++ ys ≡ ontos vs (xs ++ ys)
  ontos-append none xs ys = refl
  ontos-append (more v vs) xs ys = onto-append v (ontos vs xs) ys ∙ ap (onto v) (ontos-append vs xs ys)

-- the cells say which value it is, and where it ends: none is a proper front of another
bit_inj : (a b : Bool) → bit a ≡ bit b → a ≡ b
bit_inj true true e = refl
bit_inj true false e = cc
bit_inj false true e = cc
bit_inj false false e = refl

code_inj : (a b : Collection) → code a ≡ code b → a ≡ b
code_inj Set Set e = refl
code_inj Set Sequence e = cc
code_inj Set Tuple e = cc
code_inj Sequence Set e = cc
code_inj Sequence Sequence e = refl
code_inj Sequence Tuple e = cc
code_inj Tuple Set e = cc
code_inj Tuple Sequence e = cc
code_inj Tuple Tuple e = refl

-- no kind of many is the kind of a number or of a truth value
not_0 : (k : Collection) → pos 0 ≡ code k → ◌≡◌ {A = ℕ} 0 1
not_0 Set e = cc
not_0 Sequence e = cc
not_0 Tuple e = cc

not_1 : (k : Collection) → pos 1 ≡ code k → ◌≡◌ {A = ℕ} 0 1
not_1 Set e = cc
not_1 Sequence e = cc
not_1 Tuple e = cc

mutual
  pub onto_inj : (v w : Value) (xs ys : List ℤ) → onto v xs ≡ onto w ys → (v ≡ w) × (xs ≡ ys)
  onto_inj (number a) (number b) xs ys e = (cc, cc)
  onto_inj (number a) (truth b) xs ys e = (cc, cc)
  onto_inj (number a) (many k ws) xs ys e = let f : pos 0 ≡ code k = cc in let z = not_0 k f in (cc, cc)
  onto_inj (truth a) (number b) xs ys e = (cc, cc)
  onto_inj (truth a) (truth b) xs ys e = let f : bit a ≡ bit b = cc in (ap truth (bit_inj a b f), cc)
  onto_inj (truth a) (many k ws) xs ys e = let f : pos 1 ≡ code k = cc in let z = not_1 k f in (cc, cc)
  onto_inj (many j vs) (number b) xs ys e = let f : pos 0 ≡ code j = cc in let z = not_0 j f in (cc, cc)
  onto_inj (many j vs) (truth b) xs ys e = let f : pos 1 ≡ code j = cc in let z = not_1 j f in (cc, cc)
  onto_inj (many j vs) (many k ws) xs ys e =
      let f : code j ≡ code k = cc in
      let g : count vs ≡ count ws = cc in
      let h : ontos vs xs ≡ ontos ws ys = cc in
      let r = ontos_inj vs ws xs ys g h in
      let s = code_inj j k f in
      (cc, r.1)

  pub ontos_inj : (vs ws : Values) (xs ys : List ℤ) → count vs ≡ count ws → ontos vs xs ≡ ontos ws ys → (vs ≡ ws) × (xs ≡ ys)
  ontos_inj none none xs ys g e = (refl, e)
  ontos_inj none (more w ws) xs ys g e = (cc, cc)
  ontos_inj (more v vs) none xs ys g e = (cc, cc)
  ontos_inj (more v vs) (more w ws) xs ys g e =
      let r = onto_inj v w (ontos vs xs) (ontos ws ys) e in
      let h : count vs ≡ count ws = cc in
      let s = ontos_inj vs ws xs ys h r.1 in
      let p = r.0 in
      let q = s.0 in
      (cc, s.1)

-- too few cells for so many values: nothing is left
pub past_short : (n : ℕ) (xs : List ℤ) → 0 < n → length xs ≤ n → past n xs ≡ []
past_short zero xs p h = let z : ◌≡◌ {A = ℕ} 0 1 = omega arith in cc
past_short (suc n) [] p h = refl
past_short (suc n) (k ∷ []) p h = refl
past_short (suc n) (k ∷ c ∷ xs) p h =
    let q : 0 < within k c + n = omega arith in
    let g : length xs ≤ within k c + n = omega arith in
    past_short (within k c + n) xs q g

-- one step of the pass
pub past_step : (p m : ℕ) (xs : List ℤ) (d : ℤ) → 0 < p → 2 ≤ length xs → m ≡ within (get_or xs 0 d) (get_or xs 1 d) → past p xs ≡ past (p - 1 + m) (drop 2 xs)
past_step zero m xs d h l e = absurd (omega arith)
past_step (suc n) m [] d h l e = absurd (omega arith)
past_step (suc n) m (k ∷ []) d h l e = absurd (omega arith)
past_step (suc n) m (k ∷ c ∷ xs) d h l e = past_eq xs (let f : within k c + n ≡ suc n - 1 + m = omega (arith, e) in f)

-- what is left is a back part of the whole, also past the next pair
pub back_step : (s rest : List ℤ) → rest ≡ drop (length s - length rest) s → 2 ≤ length rest → length rest ≤ length s → drop 2 rest ≡ drop (length s - (length rest - 2)) s
back_step s rest e h l = ap (drop 2) e ∙ drop-drop 2 (length s - length rest) s ∙ ap (λ k. drop k s) (let f : length s - length rest + 2 ≡ length s - (length rest - 2) = omega arith in f)

-- a value's cells stand before what follows them
pub onto_is : (v : Value) (xs : List ℤ) → onto v xs ≡ cells v ++ xs
onto_is v xs = sym (onto-append v [] xs)

pub past_first : (v : Value) (xs : List ℤ) → past 1 (onto v xs) ≡ xs
past_first v xs = past-onto v 0 xs

pub front_first : (v : Value) (xs : List ℤ) → front (onto v xs) ≡ cells v
front_first v xs =
    let e = onto_is v xs in
    let l : length (onto v xs) ≡ length (cells v) + length xs = ap length e ∙ length-append (cells v) xs in
    let m : length (past 1 (onto v xs)) ≡ length xs = ap length (past_first v xs) in
    let n : length (cells v) ≡ length (onto v xs) - length (past 1 (onto v xs)) = omega arith in
    ap (take (length (onto v xs) - length (past 1 (onto v xs)))) e ∙ take_at (cells v) xs _ n

pub some_cells : (v : Value) (xs : List ℤ) → 0 < length (onto v xs)
some_cells (number z) xs = omega arith
some_cells (truth b) xs = omega arith
some_cells (many k vs) xs = omega arith

-- the first of a row of values, where there is a cell
pub next : (vs : List Value) (s : List ℤ) → s ≡ row vs → 0 < length s → (v : Value) × (ws : List Value) × (vs ≡ v ∷ ws) × (front s ≡ cells v) × (past 1 s ≡ row ws)
next [] s e h = let z : ◌≡◌ {A = ℕ} 0 1 = omega (arith, ap length e) in (number (pos 0), [], cc, cc, cc)
next (v ∷ vs) s e h = (v, vs, refl, ap front e ∙ front_first v (row vs), ap (past 1) e ∙ past_first v (row vs))

-- no cell, no value
pub row_none : (vs : List Value) (s : List ℤ) → s ≡ row vs → length s ≤ 0 → vs ≡ []
row_none [] s e h = refl
row_none (v ∷ vs) s e h = let z : ◌≡◌ {A = ℕ} 0 1 = omega (arith, ap length e, some_cells v (row vs)) in cc

-- the cells of what is made of a list
ontos_pack : (vs : List Value) → ontos (pack vs) [] ≡ row vs
ontos_pack [] = refl
ontos_pack (v ∷ vs) = ap (onto v) (ontos_pack vs)

count_pack : (vs : List Value) → count (pack vs) ≡ length vs
count_pack [] = refl
count_pack (v ∷ vs) = ap suc (count_pack vs)

pub cells_of : (k : Collection) (vs : List Value) → cells (of k vs) ≡ code k ∷ pos (length vs) ∷ row vs
cells_of k vs = λ i. code k ∷ pos (count_pack vs i) ∷ ontos_pack vs i

-- the members of a set, a sequence or a tuple
pub inner_of : (k : Collection) (vs : List Value) (s t : List ℤ) → s ≡ cells (of k vs) → t ≡ drop 2 s → t ≡ row vs
inner_of k vs s t e f = f ∙ ap (drop 2) (e ∙ cells_of k vs)
