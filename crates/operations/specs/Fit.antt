-- How answers of leaf functions become a value or a fault.
use Rattle.std.specs.Prelude.{zero, suc, Bool, true, false, ℤ, pos, negsuc, Ok, Err, Result}
use Rattle.values.specs.declared.Fault.{Fault}
use Rattle.values.specs.Value.{Value, number}

abbrev pub numbered : Result ℤ Fault → Result Value Fault
numbered (Ok z) = Ok (number z)
numbered (Err f) = Err f

abbrev pub is_true : ℤ → Bool
is_true (pos zero) = false
is_true (pos (suc n)) = true
is_true (negsuc n) = true
