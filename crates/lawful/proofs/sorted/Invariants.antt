use Rattle.std.proofs.Common.{◌≡◌, length}
use Rattle.lawful.specs.Shape.{sorted}
use Rattle.lawful.proofs.sorted.Given as goal

abbrev pub invariant-loop-rest : goal.invariant-loop-rest
invariant-loop-rest l = sorted l.rest ≡ sorted l.s

abbrev pub decreases-loop-rest : goal.decreases-loop-rest
decreases-loop-rest l = length l.rest
