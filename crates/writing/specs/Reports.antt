-- How faults, pauses and refusals are written.
use Rattle.std.specs.Prelude.{ℕ, List, [], ◌++◌, Some, None, codes, decimal, Option}
use Rattle.syntax.specs.declared.Refused.{Refused}
use Rattle.values.specs.declared.Fault.{Fault}
use Rattle.values.specs.Faults.{number}

abbrev pub at : ℕ → List ℕ
at place = codes " at " ++ decimal place

-- nothing without a place
abbrev pub at_any : Option ℕ → List ℕ
at_any None = []
at_any (Some place) = at place

abbrev pub fault : Fault → ℕ → List ℕ
fault f place = codes "fault " ++ (decimal (number f) ++ at place)

abbrev pub paused : ℕ → List ℕ
paused place = codes "paused" ++ at place

abbrev pub refused : Refused → List ℕ
refused r = codes "refused " ++ (decimal r.number ++ at_any r.place)
