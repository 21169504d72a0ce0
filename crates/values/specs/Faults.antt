-- The kinds of faults and their numbers.
use Rattle.std.specs.Prelude.{ℕ}
use Rattle.values.specs.declared.Fault.{Fault}
use Rattle.values.specs.declared.Fault.TheVariants.{WrongKind, OutOfRange, DivisionByZero, TooLarge, OutOfBounds, NoCandidate, NoCase}

abbrev pub number : Fault → ℕ
number WrongKind = 20
number OutOfRange = 21
number DivisionByZero = 22
number TooLarge = 23
number OutOfBounds = 24
number NoCandidate = 25
number NoCase = 26
