use Rattle.std.proofs.Common.{◌+◌, ◌*◌}
use Rattle.showing.proofs.TreeWriter.+nodes.Given as goal

abbrev pub decreases-node : goal.decreases-node
decreases-node g l = 2 * l.left + 1

abbrev pub decreases-parts : goal.decreases-parts
decreases-parts g l = 2 * l.left
