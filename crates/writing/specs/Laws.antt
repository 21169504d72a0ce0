-- What holds of the lines of lawful values.
use Rattle.std.specs.Prelude.{◌≡◌, ◌<◌, ◌≤◌, length}
use Rattle.std.specs.List.{AllByRecursion}
use Rattle.values.specs.Value.{Value}
use Rattle.values.specs.Lawful.{Lawful}
use Rattle.writing.specs.Written.{written}

-- 1,290 bytes always suffice
abbrev pub Bounded : Type 0
Bounded = (v : Value) → Lawful v → length (written v) ≤ 1290

-- and no fewer
abbrev pub Reached : Type 0
Reached = (v : Value) × Lawful v × (length (written v) ≡ 1290)

-- blanks and visible characters: no line feed
abbrev pub Printable : Type 0
Printable = (v : Value) → Lawful v → AllByRecursion (λ c. (32 ≤ c) × (c < 127)) (written v)

-- different values are written differently
abbrev pub Distinct : Type 0
Distinct = (v w : Value) → Lawful v → Lawful w → written v ≡ written w → v ≡ w
