use Rattle.std.proofs.Common.{◌≡◌, ◌+◌, ◌≤◌, List, ◌++◌, length}
use Rattle.tables.specs.Items.{items, room, loan}
use Rattle.values.specs.Value.{Value, row}
use Rattle.sets.specs.Walk.{merge, keeps}
use Rattle.sets.proofs.weave.Given as goal

-- what is written, with what the walk through the rest gives, is what the whole walk gives
abbrev pub invariant-loop-x : goal.invariant-loop-x
invariant-loop-x l =
    ((room l.table ≡ room l.initial.table) × (loan l.table ≡ loan l.initial.table)) × (l.made + length l.x + length l.y ≤ length l.a + length l.b) × ((us ts : List Value) → l.a ≡ row us → l.b ≡ row ts → (vs : List Value) × (ws : List Value) × (l.x ≡ row vs) × (l.y ≡ row ws) × (items l.table ++ row (merge (keeps l.op) vs ws) ≡ items l.initial.table ++ row (merge (keeps l.op) us ts)) × (l.made + length (merge (keeps l.op) vs ws) ≡ length (merge (keeps l.op) us ts)))

abbrev pub decreases-loop-x : goal.decreases-loop-x
decreases-loop-x l = length l.x + length l.y
