use Rattle.std.proofs.Common.{◌≡◌, ◌+◌, ◌≤◌, List, [], length, take}
use Rattle.syntax.specs.declared.Collection.TheVariants.{Set}
use Rattle.values.specs.Value.{Value, row, cells, of}
use Rattle.values.specs.Sets.{gathered}
use Rattle.sets.proofs.gather.Given as goal

-- the set so far, with what is left added, is the whole
abbrev pub invariant-loop-rest : goal.invariant-loop-rest
invariant-loop-rest l =
    (l.n ≤ length l.out) × ((vs : List Value) → l.s ≡ row vs → 2 + length l.s ≤ 200 → (l.n + length l.rest ≤ 2 + length l.s) × ((us : List Value) × (ws : List Value) × (l.rest ≡ row ws) × (take l.n l.out ≡ cells (of Set us)) × (gathered us ws ≡ gathered [] vs)))

abbrev pub decreases-loop-rest : goal.decreases-loop-rest
decreases-loop-rest l = length l.rest
