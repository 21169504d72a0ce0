-- The number of a refusal.
use Rattle.std.specs.Prelude.{None}
use Rattle.syntax.specs.declared.Refused.{Refused}
use Rattle.writing.specs.declared.Refusal.{Refusal}
use Rattle.writing.specs.declared.Refusal.TheVariants.{TooLong}

abbrev pub told : Refusal → Refused
told TooLong = record { number = 14; place = None }
