-- Examples, by computation.
use Rattle.std.specs.Prelude.{◌≡◌, ℕ, true, [], ◌∷◌, pos, negsuc, Ok, Err, refl}
use Rattle.std.specs.declared.cmp.Ordering.TheVariants.{Less}
use Rattle.syntax.specs.declared.Collection.TheVariants.{Set, Sequence, Tuple}
use Rattle.syntax.specs.declared.Unary.TheVariants.{Not, Hd, Tl, Elems, Inds}
use Rattle.syntax.specs.declared.Binary.TheVariants.{Plus, Union, Difference, Div, Rem, Mod, Apply}
use Rattle.values.specs.declared.Fault.TheVariants.{WrongKind, OutOfRange, DivisionByZero, TooLarge, OutOfBounds}
use Rattle.values.specs.Value.{Value, number, truth, of, compare}
use Rattle.values.specs.Lawful.{ordered}
use Rattle.values.specs.Numbers.{between}
use Rattle.values.specs.Operators.{unary, binary, select, range, grow}

abbrev n : ℕ → Value
n k = number (pos k)

-- −7 mod 3, −7 rem 3, 7 mod −3
mod_below : binary Mod (number (negsuc 6)) (n 3) ≡ Ok (n 2)
unfolding binary
mod_below = refl

rem_below : binary Rem (number (negsuc 6)) (n 3) ≡ Ok (number (negsuc 0))
unfolding binary
rem_below = refl

mod_by_below : binary Mod (n 7) (number (negsuc 2)) ≡ Ok (number (negsuc 1))
unfolding binary
mod_by_below = refl

div_cuts : binary Div (number (negsuc 6)) (n 3) ≡ Ok (number (negsuc 1))
unfolding binary
div_cuts = refl

by_zero : binary Div (n 1) (n 0) ≡ Err DivisionByZero
unfolding binary
by_zero = refl

kind_first : binary Div (truth true) (n 0) ≡ Err WrongKind
unfolding binary
kind_first = refl

over : binary Plus (n 2147483647) (n 1) ≡ Err OutOfRange
unfolding binary
over = refl

-- {1, ..., 99} is taken, {1, ..., 100} is not; an end below the start gives {}
ninety_nine : range (n 1) (n 99) ≡ Ok (of Set (between (pos 1) (pos 99)))
unfolding range
ninety_nine = refl

hundred : range (n 1) (n 100) ≡ Err TooLarge
unfolding range
hundred = refl

turned : range (n 3) (n 1) ≡ Ok (of Set [])
unfolding range
turned = refl

unites : binary Union (of Set (n 1 ∷ n 3 ∷ [])) (of Set (n 2 ∷ n 3 ∷ [])) ≡ Ok (of Set (n 1 ∷ n 2 ∷ n 3 ∷ []))
unfolding binary
unites = refl

without : binary Difference (of Set (n 1 ∷ n 3 ∷ [])) (of Set (n 3 ∷ [])) ≡ Ok (of Set (n 1 ∷ []))
unfolding binary
without = refl

-- elems [3, 1, 3] = {1, 3}, inds [3, 1] = {1, 2}
elements : unary Elems (of Sequence (n 3 ∷ n 1 ∷ n 3 ∷ [])) ≡ Ok (of Set (n 1 ∷ n 3 ∷ []))
unfolding unary
elements = refl

indices : unary Inds (of Sequence (n 3 ∷ n 1 ∷ [])) ≡ Ok (of Set (n 1 ∷ n 2 ∷ []))
unfolding unary
indices = refl

no_head : unary Hd (of Sequence []) ≡ Err OutOfBounds
unfolding unary
no_head = refl

no_tail : unary Tl (of Sequence []) ≡ Err OutOfBounds
unfolding unary
no_tail = refl

not_a_number : unary Not (n 1) ≡ Err WrongKind
unfolding unary
not_a_number = refl

-- [5, 6](2) = 6, [5, 6](0) and [5, 6](3) are out of bounds
applies : binary Apply (of Sequence (n 5 ∷ n 6 ∷ [])) (n 2) ≡ Ok (n 6)
unfolding binary
applies = refl

at_zero : binary Apply (of Sequence (n 5 ∷ n 6 ∷ [])) (n 0) ≡ Err OutOfBounds
unfolding binary
at_zero = refl

past_end : binary Apply (of Sequence (n 5 ∷ n 6 ∷ [])) (n 3) ≡ Err OutOfBounds
unfolding binary
past_end = refl

second_part : select 2 (of Tuple (n 5 ∷ truth true ∷ [])) ≡ Ok (truth true)
unfolding select
second_part = refl

-- a member that a set has adds nothing
adds_nothing : grow Set (n 1 ∷ n 3 ∷ []) (n 3) ≡ Ok (of Set (n 1 ∷ n 3 ∷ []))
unfolding grow
adds_nothing = refl

adds_in_order : grow Set (n 1 ∷ n 3 ∷ []) (n 2) ≡ Ok (of Set (n 1 ∷ n 2 ∷ n 3 ∷ []))
unfolding grow
adds_in_order = refl

adds_last : grow Sequence (n 1 ∷ n 3 ∷ []) (n 2) ≡ Ok (of Sequence (n 1 ∷ n 3 ∷ n 2 ∷ []))
unfolding grow
adds_last = refl

-- {{[]}, {[1]}}: sets of sequences, by the first differing cell
nested : compare (of Set (of Sequence [] ∷ [])) (of Set (of Sequence (n 1 ∷ []) ∷ [])) ≡ Less
nested = refl

in_order : ordered (of Set (number (negsuc 0) ∷ n 3 ∷ truth true ∷ of Set (n 2 ∷ []) ∷ [])) ≡ true
in_order = refl
