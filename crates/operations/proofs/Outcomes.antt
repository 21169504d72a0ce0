-- What is told of a value that is made or picked.
use Rattle.std.proofs.Common.{◌≡◌, ℕ, zero, suc, ◌<◌, ◌≤◌, Bool, true, false, cond, eqb, List, [], ◌∷◌, length, get_or, take, ℤ, pos, nat_abs, Ok, Err, Result, sym, refl, ap, ◌∙◌, arith, MatchResult}
use Rattle.std.proofs.lemmas.List.{length-take, length-append}
use Rattle.std.specs.Result.{IsErrAnd}
use Rattle.std.proofs.lemmas.Result.{err_from_is_err_and}
use Rattle.std.proofs.lemmas.Bool.{le-leb, lt-leb, and_parts}
use Rattle.syntax.specs.declared.Collection.{Collection}
use Rattle.values.specs.declared.Fault.{Fault}
use Rattle.syntax.specs.declared.Unary.{Unary}
use Rattle.syntax.specs.declared.Binary.{Binary}
use Rattle.values.specs.declared.Fault.TheVariants.{WrongKind, OutOfRange, DivisionByZero, TooLarge}
use Rattle.tables.specs.declared.ops.Full.{Full}
use Rattle.values.specs.Value.{Value, number, cells, row, of}
use Rattle.values.specs.Lawful.{in_range}
use Rattle.values.specs.Cells.{told, in_cells}
use Rattle.values.specs.Operators.{made, nth, is, operand, taking, takes, left, right, gives, results, unary, binary, calculated, divided}
use Rattle.numbers.specs.Number.{ranged, unless_zero}
use Rattle.values.proofs.Laws.{onto_is, cells_of}
use Rattle.operations.specs.Fit.{numbered}

-- an answer in which no room is the fault of a value that is too large
abbrev pub Mapped : Result ℕ Full → Result ℕ Fault → Type 0
Mapped r f = MatchResult r (λ n. f ≡ Ok n) (λ e. IsErrAnd f (λ d. d ≡ TooLarge))

too_large : (f : Result ℕ Fault) → IsErrAnd f (λ d. d ≡ TooLarge) → f ≡ Err TooLarge
too_large f h = let p = err_from_is_err_and f h in p.1 ∙ ap Err p.2

pub made_ok : (v : Value) → length (cells v) ≤ 200 → made v ≡ Ok v
made_ok v h = ap (λ b. cond {A = Result Value Fault} b (Ok v) (Err TooLarge)) (le-leb (length (cells v)) 200 h)

pub made_not : (v : Value) → 200 < length (cells v) → made v ≡ Err TooLarge
made_not v h = ap (λ b. cond {A = Result Value Fault} b (Ok v) (Err TooLarge)) (lt-leb (length (cells v)) 200 h)

-- a value that is written where there is room for 200 cells
pub made_told : (r : Result ℕ Full) (f : Result ℕ Fault) → Mapped r f → (out : List ℤ) (v : Value) → length out ≡ 200 → MatchResult r (λ n. take n out ≡ cells v) (λ _. 200 < length (cells v)) → told f out ≡ in_cells (made v)
made_told (Ok n) f m out v l h = ap (λ o. told o out) m ∙ ap Ok h ∙ sym (ap in_cells (made_ok v (omega (arith, l, ap length h, length-take n out))))
made_told (Err e) f m out v l h = ap (λ o. told o out) (too_large f m) ∙ sym (ap in_cells (made_not v h))

-- a member takes no more cells than all of them
pub nth_short : (n : ℕ) (vs : List Value) (v : Value) → nth n vs ≡ Ok v → length (cells v) ≤ length (row vs)
nth_short n [] v e = absurd (let z : ◌≡◌ {A = ℕ} 0 1 = cc in omega arith)
nth_short zero (w ∷ vs) v e = absurd (let z : ◌≡◌ {A = ℕ} 0 1 = cc in omega arith)
nth_short (suc zero) (w ∷ vs) v e =
    let f : w ≡ v = cc in
    omega (arith, ap (λ x. length (cells x)) f, ap length (onto_is w (row vs)) ∙ length-append (cells w) (row vs))
nth_short (suc (suc n)) (w ∷ vs) v e =
    omega (arith, nth_short (suc n) vs v e, ap length (onto_is w (row vs)) ∙ length-append (cells w) (row vs))

pub of_cells : (o : Result Value Fault) (x : List ℤ) → Ok x ≡ in_cells o → (v : Value) × (o ≡ Ok v) × (x ≡ cells v)
of_cells (Ok v) x e = (v, refl, cc)
of_cells (Err f) x e = absurd (let z : ◌≡◌ {A = ℕ} 0 1 = cc in omega arith)

-- a member that is picked
pub picked_short : (x : List ℤ) (n : ℕ) (vs : List Value) → Ok x ≡ in_cells (nth n vs) → length x ≤ length (row vs)
picked_short x n vs e =
    let v = of_cells (nth n vs) x e in
    omega (arith, ap length v.2, nth_short n vs v.0 v.1)

-- the row of a collection is shorter than it
pub row_short : (k : Collection) (vs : List Value) (s : List ℤ) → s ≡ cells (of k vs) → length s ≤ 200 → length (row vs) ≤ 200
row_short k vs s e h = omega (arith, ap length (e ∙ cells_of k vs))

pub second : (k : Collection) (vs : List Value) (s : List ℤ) → s ≡ cells (of k vs) → get_or s 1 (pos 0) ≡ pos (length vs)
second k vs s e = ap (λ l. get_or l 1 (pos 0)) (e ∙ cells_of k vs)

-- the operator takes what it is given
pub one_taken : (op which : Unary) (v : Value) (o : Result (List ℤ) Fault) → op ≡ which → is (operand op) v ≡ true → o ≡ in_cells (gives which v) → o ≡ in_cells (unary op v)
unfolding unary
one_taken op which v o e h p = p ∙ ap (λ w. in_cells (gives w v)) (sym e) ∙ ap (λ b. in_cells (taking b (gives op v))) (sym h)

pub one_refused : (op : Unary) (v : Value) → is (operand op) v ≡ false → Err WrongKind ≡ in_cells (unary op v)
unfolding unary
one_refused op v h = ap (λ b. in_cells (taking b (gives op v))) (sym h)

pub both_taken : (op which : Binary) (v w : Value) (o : Result (List ℤ) Fault) → op ≡ which → takes op v w ≡ true → o ≡ in_cells (results which v w) → o ≡ in_cells (binary op v w)
unfolding binary
both_taken op which v w o e h p = p ∙ ap (λ z. in_cells (results z v w)) (sym e) ∙ ap (λ b. in_cells (taking b (results op v w))) (sym h)

pub both_refused : (op : Binary) (v w : Value) → takes op v w ≡ false → Err WrongKind ≡ in_cells (binary op v w)
unfolding binary
both_refused op v w h = ap (λ b. in_cells (taking b (results op v w))) (sym h)

-- a pair of cells is told
pub pair_told : (r : Result ℕ Fault) (out x : List ℤ) → r ≡ Ok 2 → take 2 out ≡ x → told r out ≡ Ok x
pair_told r out x e h = ap (λ o. told o out) e ∙ ap Ok h

-- what leaf functions tell of numbers is what the operators give
pub calculates : (z : ℤ) → numbered (ranged z) ≡ calculated z
calculates z = go (in_range z)
  where
    go : (b : Bool) → numbered (cond b (Ok z) (Err OutOfRange)) ≡ cond b (Ok (number z)) (Err OutOfRange)
    go true = refl
    go false = refl

pub divides : (b z : ℤ) → numbered (unless_zero b z) ≡ divided b z
divides b z = go (eqb (nat_abs b) 0)
  where
    go : (t : Bool) → numbered (cond t (Err DivisionByZero) (Ok z)) ≡ cond t (Err DivisionByZero) (Ok (number z))
    go true = refl
    go false = refl

-- both operands are of the kinds that are taken
pub both_kinds : (op which : Binary) (v w : Value) → op ≡ which → takes op v w ≡ true → (is (left which) v ≡ true) × (is (right which) w ≡ true)
both_kinds op which v w e h = and_parts (is (left which) v) (is (right which) w) (ap (λ o. takes o v w) (sym e) ∙ h)

-- a collection that has grown
pub grown_told : (r : Result ℕ Full) (f : Result ℕ Fault) → Mapped r f → (out : List ℤ) (v : Value) → MatchResult r (λ m. (take m out ≡ cells v) × (m ≤ 200)) (λ _. 200 < length (cells v)) → told f out ≡ in_cells (made v)
grown_told (Ok n) f m out v h = ap (λ o. told o out) m ∙ ap Ok h.0 ∙ sym (ap in_cells (made_ok v (omega (arith, h.1, ap length h.0, length-take n out))))
grown_told (Err e) f m out v h = ap (λ o. told o out) (too_large f m) ∙ sym (ap in_cells (made_not v h))
