-- What a table holds.
use Rattle.std.specs.Prelude.{ℕ, List, length, take, drop}
use Rattle.tables.specs.declared.Table.{Table}

module _ {T : Type 0} where
  -- every slot, in use or not
  abbrev pub slots : Table T → List T
  slots t = t.slots.now

  -- the items, in the order in which they were pushed
  abbrev pub items : Table T → List T
  items t = take t.len (slots t)

  -- the slots behind the items
  abbrev pub spare : Table T → List T
  spare t = drop t.len (slots t)

  -- how many items it has room for
  abbrev pub room : Table T → ℕ
  room t = length (slots t)

  -- which loan its slots are: at its end they go back to the one who lent them
  abbrev pub loan : Table T → ℕ
  loan t = t.slots.ghost_name
