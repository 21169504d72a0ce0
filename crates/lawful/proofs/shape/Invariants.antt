use Rattle.std.proofs.Common.{◌≡◌, ◌≤◌, length}
use Rattle.lawful.specs.Shape.{shape}
use Rattle.lawful.proofs.shape.Given as goal

abbrev pub invariant-loop-rest : goal.invariant-loop-rest
invariant-loop-rest l = (shape l.pending l.rest ≡ shape 1 l.s) × (length l.rest ≤ length l.s)

abbrev pub decreases-loop-rest : goal.decreases-loop-rest
decreases-loop-rest l = length l.rest
