-- What the notes of check say, and how they decide.
use Rattle.std.specs.Prelude.{ℕ, List, map, Option}
use Rattle.std.specs.Option.{option_map, option_or}
use Rattle.syntax.specs.Tree.{Place}
use Rattle.checking.specs.Sightings.{Number}
use Rattle.checking.specs.Walk.{Seen, occurrence}
use Rattle.checking.specs.declared.call.Refusal.{Refusal}
use Rattle.checking.specs.declared.call.Refusal.TheVariants as refusal
use Rattle.checking.specs.declared.spans.Bounds.{Bounds}
use Rattle.checking.specs.declared.findings.Findings.{Findings}

-- a number that has these bounds
abbrev pub number_of : Place → ℕ → Bounds → Number
number_of p n b = record { place = p; value = n; least = b.least; most = b.most }

abbrev pub seen : List ℕ → Findings → Seen
seen text f = record { deep = f.deep; outside = f.outside; repeated = f.repeated; names = record { free = map (occurrence text) f.free.items; next = f.next } }

-- the conditions one after another
abbrev pub decided : Seen → Option Refusal
decided s =
    option_or
    (option_or (option_or (option_map refusal.TooDeep s.deep) (option_map refusal.OutOfRange s.outside)) (option_map refusal.Repeated s.repeated))
    (option_map refusal.TooManyNames s.names.next)
