use Rattle.std.proofs.Common.{◌≡◌, ◌+◌, ◌-◌, ◌*◌, ◌++◌, length, pos, ◌+ℤ◌}
use Rattle.tables.specs.Items.{items, room, loan}
use Rattle.values.specs.Value.{row}
use Rattle.values.specs.Numbers.{span}
use Rattle.sequences.proofs.numbers.Given as goal

abbrev pub invariant-loop-i : goal.invariant-loop-i
invariant-loop-i l =
    (items l.table ++ row (span (l.a +ℤ pos l.i) (l.count - l.i)) ≡ items l.initial.table ++ row (span l.a l.count)) × (length (items l.table) ≡ length (items l.initial.table) + 2 * l.i) × (room l.table ≡ room l.initial.table) × (loan l.table ≡ loan l.initial.table)
