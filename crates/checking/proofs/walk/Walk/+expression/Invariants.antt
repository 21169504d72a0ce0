use Rattle.std.proofs.Common.{◌+◌, ◌*◌}
use Rattle.checking.proofs.walk.Walk.+expression.Given as goal

abbrev pub decreases-arms : goal.decreases-arms
decreases-arms l = 4 * l.depth.fuel

abbrev pub decreases-expression : goal.decreases-expression
decreases-expression l = 4 * l.depth.fuel

abbrev pub decreases-filter : goal.decreases-filter
decreases-filter l = 4 * l.depth.fuel + 2

abbrev pub decreases-items : goal.decreases-items
decreases-items l = 4 * l.depth.fuel

abbrev pub decreases-optional : goal.decreases-optional
decreases-optional l = 4 * l.depth.fuel + 1

abbrev pub decreases-side : goal.decreases-side
decreases-side l = 4 * l.depth.fuel + 1

abbrev pub decreases-under : goal.decreases-under
decreases-under l = 4 * l.depth.fuel + 1
