-- A number, or why there is none.
use Rattle.std.specs.Prelude.{cond, ℤ, Ok, Err, Result, ◌==◌, unsigned_abs}
use Rattle.values.specs.declared.Fault.{Fault}
use Rattle.values.specs.declared.Fault.TheVariants.{OutOfRange, DivisionByZero}
use Rattle.values.specs.Lawful.{in_range}
use Rattle.values.specs.Numbers.{quotient, remainder, modulus}
use Rattle.numbers.specs.declared.Division.{Division}
use Rattle.numbers.specs.declared.Division.TheVariants.{Div, Rem, Mod}

abbrev pub ranged : ℤ → Result ℤ Fault
ranged z = cond (in_range z) (Ok z) (Err OutOfRange)

abbrev pub divided : Division → ℤ → ℤ → ℤ
divided Div a b = quotient a b
divided Rem a b = remainder a b
divided Mod a b = modulus a b

abbrev pub unless_zero : ℤ → ℤ → Result ℤ Fault
unless_zero b z = cond (unsigned_abs b == 0) (Err DivisionByZero) (Ok z)
