-- The numbers and places of the tokeniser's refusals.
use Rattle.std.specs.Prelude.{Some, None}
use Rattle.syntax.specs.declared.Refused.{Refused}
use Rattle.tokens.specs.declared.Refusal.{Refusal}
use Rattle.tokens.specs.declared.Refusal.TheVariants.{TooLong, NoToken}

abbrev pub told : Refusal → Refused
told TooLong = record { number = 1; place = None }
told (NoToken place) = record { number = 2; place = Some place }
