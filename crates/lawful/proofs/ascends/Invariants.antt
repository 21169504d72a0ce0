use Rattle.std.proofs.Common.{◌≡◌, ◌+◌, ◌-◌}
use Rattle.lawful.specs.Shape.{ascends}
use Rattle.lawful.proofs.ascends.Given as goal

abbrev pub invariant-loop : goal.invariant-loop
invariant-loop l = ascends (l.n + 1 - l.counter) l.rest ≡ ascends l.n l.s
