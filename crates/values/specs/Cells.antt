-- What is read off cells, and how a call tells a value by cells.
use Rattle.std.specs.Prelude.{◌≡◌, ℕ, Bool, true, false, List, take, ℤ, pos, negsuc, Ok, Err, Result, ◌==◌, ◌≢◌}
use Rattle.syntax.specs.declared.Collection.TheVariants.{Set, Sequence, Tuple}
use Rattle.values.specs.declared.Fault.{Fault}
use Rattle.values.specs.declared.Fault.TheVariants.{TooLarge}
use Rattle.values.specs.declared.Operand.{Operand}
use Rattle.values.specs.declared.Operand.TheVariants.{Any, Number, Truth, Many}
use Rattle.values.specs.Value.{Value, cells}

abbrev pub is_kind : ℕ → ℤ → Bool
is_kind n (pos k) = k == n
is_kind n (negsuc k) = false

-- the first cell is a kind that is asked for
abbrev pub begins : Operand → ℤ → Bool
begins Any k = true
begins Number k = is_kind 0 k
begins Truth k = is_kind 1 k
begins (Many Set) k = is_kind 2 k
begins (Many Sequence) k = is_kind 3 k
begins (Many Tuple) k = is_kind 4 k

-- the cells that a call tells: so many at the start of the buffer, or a fault
abbrev pub told : Result ℕ Fault → List ℤ → Result (List ℤ) Fault
told (Ok n) out = Ok (take n out)
told (Err f) out = Err f

-- the cells of what an operation gives
abbrev pub in_cells : Result Value Fault → Result (List ℤ) Fault
in_cells (Ok v) = Ok (cells v)
in_cells (Err f) = Err f

-- what a fault leaves of the buffer: all as it was, unless the value was too large
abbrev pub Spared : Result ℕ Fault → List ℤ → List ℤ → Type 0
Spared (Ok n) old new = Unit {0}
Spared (Err e) old new = (e ≢ TooLarge) → new ≡ old
