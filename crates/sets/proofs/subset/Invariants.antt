use Rattle.std.proofs.Common.{◌≡◌, ◌+◌, List, length}
use Rattle.values.specs.Value.{Value, row}
use Rattle.sets.specs.Walk.{merge, keeps}
use Rattle.sets.specs.declared.Blend.TheVariants.{Difference}
use Rattle.sets.proofs.subset.Given as goal

-- so far nothing was kept of the first without the second
abbrev pub invariant-loop-x : goal.invariant-loop-x
invariant-loop-x l =
    (us ts : List Value) → l.a ≡ row us → l.b ≡ row ts → (vs : List Value) × (ws : List Value) × (l.x ≡ row vs) × (l.y ≡ row ws) × (merge (keeps Difference) us ts ≡ merge (keeps Difference) vs ws)

abbrev pub decreases-loop-x : goal.decreases-loop-x
decreases-loop-x l = length l.x + length l.y
