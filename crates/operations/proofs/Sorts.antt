-- The kinds of values, and what is read off their cells.
use Rattle.std.proofs.Common.{◌≡◌, ◌≤◌, Bool, true, false, ◌&&◌, List, [], ◌∷◌, length, get_or, take, set as put_at, ℤ, pos, sym, refl, ap, ◌∙◌, true≢false, arith}
use Rattle.syntax.specs.declared.Collection.{Collection}
use Rattle.syntax.specs.declared.Collection.TheVariants.{Set, Sequence, Tuple}
use Rattle.values.specs.declared.Operand.{Operand}
use Rattle.values.specs.declared.Operand.TheVariants.{Any, Number, Truth, Many}
use Rattle.values.specs.Value.{Value, number, truth, many, Values, none, more, bit, cells, row, of, list, pack}
use Rattle.std.proofs.lemmas.List.{length-append}
use Rattle.values.specs.Cells.{begins}
use Rattle.values.specs.Lawful.{Lawful, in_range, ranged, ascending, ordereds}
use Rattle.values.specs.Operators.{is, number_of, truth_of, members}
use Rattle.values.proofs.Laws.{cells_of, onto_is, some_cells}
use Rattle.operations.specs.Fit.{is_true}

-- the first cell says the kind
pub begins_is : (what : Operand) (v : Value) → begins what (get_or (cells v) 0 (pos 0)) ≡ is what v
begins_is Any v = refl
begins_is Number (number z) = refl
begins_is Number (truth b) = refl
begins_is Number (many Set vs) = refl
begins_is Number (many Sequence vs) = refl
begins_is Number (many Tuple vs) = refl
begins_is Truth (number z) = refl
begins_is Truth (truth b) = refl
begins_is Truth (many Set vs) = refl
begins_is Truth (many Sequence vs) = refl
begins_is Truth (many Tuple vs) = refl
begins_is (Many Set) (number z) = refl
begins_is (Many Set) (truth b) = refl
begins_is (Many Set) (many Set vs) = refl
begins_is (Many Set) (many Sequence vs) = refl
begins_is (Many Set) (many Tuple vs) = refl
begins_is (Many Sequence) (number z) = refl
begins_is (Many Sequence) (truth b) = refl
begins_is (Many Sequence) (many Set vs) = refl
begins_is (Many Sequence) (many Sequence vs) = refl
begins_is (Many Sequence) (many Tuple vs) = refl
begins_is (Many Tuple) (number z) = refl
begins_is (Many Tuple) (truth b) = refl
begins_is (Many Tuple) (many Set vs) = refl
begins_is (Many Tuple) (many Sequence vs) = refl
begins_is (Many Tuple) (many Tuple vs) = refl

-- what a value of a kind is
pub number_is : (v : Value) → is Number v ≡ true → v ≡ number (number_of v)
number_is (number z) h = refl
number_is (truth b) h = absurd (true≢false (sym h))
number_is (many Set vs) h = absurd (true≢false (sym h))
number_is (many Sequence vs) h = absurd (true≢false (sym h))
number_is (many Tuple vs) h = absurd (true≢false (sym h))

pub truth_is : (v : Value) → is Truth v ≡ true → v ≡ truth (truth_of v)
truth_is (number z) h = absurd (true≢false (sym h))
truth_is (truth b) h = refl
truth_is (many Set vs) h = absurd (true≢false (sym h))
truth_is (many Sequence vs) h = absurd (true≢false (sym h))
truth_is (many Tuple vs) h = absurd (true≢false (sym h))

pub pack_list : (vs : Values) → vs ≡ pack (list vs)
pack_list none = refl
pack_list (more v vs) = ap (more v) (pack_list vs)

pub many_is : (k : Collection) (v : Value) → is (Many k) v ≡ true → v ≡ of k (members v)
many_is Set (number z) h = absurd (true≢false (sym h))
many_is Set (truth b) h = absurd (true≢false (sym h))
many_is Set (many Set vs) h = ap (many Set) (pack_list vs)
many_is Set (many Sequence vs) h = absurd (true≢false (sym h))
many_is Set (many Tuple vs) h = absurd (true≢false (sym h))
many_is Sequence (number z) h = absurd (true≢false (sym h))
many_is Sequence (truth b) h = absurd (true≢false (sym h))
many_is Sequence (many Set vs) h = absurd (true≢false (sym h))
many_is Sequence (many Sequence vs) h = ap (many Sequence) (pack_list vs)
many_is Sequence (many Tuple vs) h = absurd (true≢false (sym h))
many_is Tuple (number z) h = absurd (true≢false (sym h))
many_is Tuple (truth b) h = absurd (true≢false (sym h))
many_is Tuple (many Set vs) h = absurd (true≢false (sym h))
many_is Tuple (many Sequence vs) h = absurd (true≢false (sym h))
many_is Tuple (many Tuple vs) h = ap (many Tuple) (pack_list vs)

pub pair_front : (out : List ℤ) (a b : ℤ) → 2 ≤ length out → take 2 (put_at (put_at out 0 a) 1 b) ≡ a ∷ b ∷ []
pair_front [] a b h = absurd (omega arith)
pair_front (x ∷ []) a b h = absurd (omega arith)
pair_front (x ∷ y ∷ out) a b h = refl

pub bit_true : (b : Bool) → is_true (bit b) ≡ b
bit_true true = refl
bit_true false = refl

-- the second cell
pub number_cell : (v : Value) (a : List ℤ) → a ≡ cells v → is Number v ≡ true → get_or a 1 (pos 0) ≡ number_of v
number_cell v a e h = ap (λ l. get_or l 1 (pos 0)) (e ∙ ap cells (number_is v h))

pub truth_cell : (v : Value) (a : List ℤ) → a ≡ cells v → is Truth v ≡ true → is_true (get_or a 1 (pos 0)) ≡ truth_of v
truth_cell v a e h = ap (λ l. is_true (get_or l 1 (pos 0))) (e ∙ ap cells (truth_is v h)) ∙ bit_true (truth_of v)

pub many_cells : (k : Collection) (v : Value) (a : List ℤ) → a ≡ cells v → is (Many k) v ≡ true → a ≡ cells (of k (members v))
many_cells k v a e h = e ∙ ap cells (many_is k v h)

pub many_cell : (k : Collection) (v : Value) (a : List ℤ) → a ≡ cells v → is (Many k) v ≡ true → get_or a 1 (pos 0) ≡ pos (length (members v))
many_cell k v a e h = ap (λ l. get_or l 1 (pos 0)) (many_cells k v a e h ∙ cells_of k (members v))

-- what is lawful of it
pub in_range_lem : (v : Value) → Lawful v → is Number v ≡ true → in_range (number_of v) ≡ true
in_range_lem v l h = sym (ap ranged (number_is v h)) ∙ l.numbers

pub short : (v : Value) (a : List ℤ) → a ≡ cells v → Lawful v → length a ≤ 200
short v a e l = omega (arith, ap length e, l.short)

and_left : (a b : Bool) → (a && b) ≡ true → a ≡ true
and_left true b h = refl
and_left false b h = h

pub in_order : (v : Value) → Lawful v → is (Many Set) v ≡ true → ascending (members v) ≡ true
in_order (number z) l h = absurd (true≢false (sym h))
in_order (truth b) l h = absurd (true≢false (sym h))
in_order (many Set vs) l h = and_left (ascending (list vs)) (ordereds vs) l.sets
in_order (many Sequence vs) l h = absurd (true≢false (sym h))
in_order (many Tuple vs) l h = absurd (true≢false (sym h))

-- members take cells
count_few : (vs : List Value) → length vs ≤ length (row vs)
count_few [] = omega arith
count_few (v ∷ vs) = omega (arith, count_few vs, ap length (onto_is v (row vs)) ∙ length-append (cells v) (row vs), some_cells v [])

pub few : (k : Collection) (v : Value) → Lawful v → is (Many k) v ≡ true → length (members v) ≤ 200
few k v l h = omega (arith, l.short, ap (λ x. length (cells x)) (many_is k v h) ∙ ap length (cells_of k (members v)), count_few (members v))
