use Rattle.std.proofs.Common.{◌+◌, ◌*◌, length}
use Rattle.writing.proofs.Walk.{Going}
use Rattle.writing.proofs.+members_value.Given as goal

abbrev pub decreases-members : goal.decreases-members
decreases-members l = 2 * length l.cells.now + 1

abbrev pub decreases-value : goal.decreases-value
decreases-value l = 2 * length l.cells.now

abbrev pub invariant-members-loop : goal.invariant-members-loop
invariant-members-loop l = Going l.cells l.initial.rest l.rest l.initial.line.bytes l.line.bytes l.count l.counter
