use Rattle.std.proofs.Common.{◌≡◌, ◌+◌, ◌-◌, ◌<◌, ◌≤◌, length, drop}
use Rattle.values.specs.Value.{past}
use Rattle.values.proofs.first.Given as goal

-- what is left past the values still to come is what is left past the first value
abbrev pub invariant-loop-rest : goal.invariant-loop-rest
invariant-loop-rest l = (past l.pending l.rest ≡ past 1 l.s) × (l.rest ≡ drop (length l.s - length l.rest) l.s) × (length l.rest ≤ length l.s) × (0 < l.pending) × (l.pending ≤ length l.rest + 1)

abbrev pub decreases-loop-rest : goal.decreases-loop-rest
decreases-loop-rest l = length l.rest
