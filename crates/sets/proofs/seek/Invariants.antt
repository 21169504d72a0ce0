use Rattle.std.proofs.Common.{◌≡◌, ◌≤◌, List, ◌++◌, length}
use Rattle.values.specs.Value.{Value, row, cells}
use Rattle.values.specs.Sets.{insert}
use Rattle.sets.proofs.seek.Given as goal

-- the members passed are below v, and the rest is to be searched
abbrev pub invariant-loop-y : goal.invariant-loop-y
invariant-loop-y l =
    (length l.rest ≤ length l.members) × ((us : List Value) (v : Value) → l.members ≡ row us → l.x ≡ cells v → (ts : List Value) × (ws : List Value) × (us ≡ ts ++ ws) × (l.rest ≡ row ws) × (insert v us ≡ ts ++ insert v ws))

abbrev pub decreases-loop-y : goal.decreases-loop-y
decreases-loop-y l = length l.rest
