use Rattle.std.proofs.Common.{◌≡◌, ◌-◌}
use Rattle.values.specs.Value.{past}
use Rattle.sequences.proofs.skip.Given as goal

abbrev pub invariant-loop : goal.invariant-loop
invariant-loop l = past (l.n - l.counter) l.rest ≡ past l.n l.s
