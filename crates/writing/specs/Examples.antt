-- Examples, by computation.
use Rattle.std.specs.Prelude.{◌≡◌, ℕ, true, false, [], ◌∷◌, pos, negsuc, Some, None, codes, refl}
use Rattle.std.specs.Fmt.{digits}
use Rattle.syntax.specs.declared.Collection.TheVariants.{Set, Sequence, Tuple}
use Rattle.values.specs.Value.{Value, number, truth, of}
use Rattle.values.specs.declared.Fault.TheVariants.{DivisionByZero}
use Rattle.writing.specs.Written.{written}
use Rattle.writing.specs.Reports.{fault, paused, refused}

abbrev n : ℕ → Value
n k = number (pos k)

set_of_two : written (of Set (n 1 ∷ n 3 ∷ [])) ≡ codes "{1, 3}"
unfolding digits
set_of_two = refl

empty_sequence : written (of Sequence []) ≡ codes "[]"
empty_sequence = refl

empty_set : written (of Set []) ≡ codes "{}"
empty_set = refl

tuple : written (of Tuple (n 1 ∷ truth true ∷ [])) ≡ codes "mk_(1, true)"
unfolding digits
tuple = refl

below_zero : written (number (negsuc 1)) ≡ codes "-2"
unfolding digits
below_zero = refl

least : written (number (negsuc 2147483646)) ≡ codes "-2147483647"
unfolding digits
least = refl

nested : written (of Set (of Set [] ∷ of Sequence (truth false ∷ of Set (n 10 ∷ []) ∷ []) ∷ [])) ≡ codes "{{}, [false, {10}]}"
unfolding digits
nested = refl

divided : fault DivisionByZero 3 ≡ codes "fault 22 at 3"
unfolding digits
divided = refl

pause : paused 0 ≡ codes "paused at 0"
unfolding digits
pause = refl

placed : refused (record { number = 3; place = Some 6 }) ≡ codes "refused 3 at 6"
unfolding digits
placed = refl

unplaced : refused (record { number = 1; place = None }) ≡ codes "refused 1"
unfolding digits
unplaced = refl
