-- A line has no line feed: each byte is a blank or visible.
use Rattle.std.proofs.Common.{◌≡◌, ℕ, ◌<◌, ◌≤◌, Bool, true, false, ◌++◌, codes, arith, rules}
use Rattle.std.specs.List.{AllByRecursion}
use Rattle.std.proofs.ByRecursion.{All-append}
use Rattle.std.proofs.lemmas.Bool.{and_parts}
use Rattle.syntax.specs.declared.Collection.{Collection}
use Rattle.syntax.specs.declared.Collection.TheVariants.{Set, Sequence, Tuple}
use Rattle.values.specs.Value.{Value, number, truth, many, Values, none, more}
use Rattle.values.specs.Lawful.{ranged, rangeds, Lawful}
use Rattle.writing.specs.Written.{written, members, others, word, opening, closing}
use Rattle.writing.proofs.Digits.{each_byte}

abbrev Visible : ℕ → Type 0
Visible c = (32 ≤ c) × (c < 127)

of_word : (b : Bool) → AllByRecursion Visible (word b)
of_word true = search (rules, arith)
of_word false = search (rules, arith)

of_opening : (k : Collection) → AllByRecursion Visible (opening k)
of_opening Set = search (rules, arith)
of_opening Sequence = search (rules, arith)
of_opening Tuple = search (rules, arith)

of_closing : (k : Collection) → AllByRecursion Visible (closing k)
of_closing Set = search (rules, arith)
of_closing Sequence = search (rules, arith)
of_closing Tuple = search (rules, arith)

mutual
  of_value : (v : Value) → ranged v ≡ true → AllByRecursion Visible (written v)
  of_value (number z) h = each_byte Visible (λ c k l. (omega arith, omega arith)) (omega arith, omega arith) z h
  of_value (truth b) h = of_word b
  of_value (many k vs) h = All-append Visible (opening k) (members vs ++ closing k) (of_opening k) (All-append Visible (members vs) (closing k) (of_members vs h) (of_closing k))

  of_members : (vs : Values) → rangeds vs ≡ true → AllByRecursion Visible (members vs)
  of_members none h = tt
  of_members (more v vs) h =
      let p = and_parts (ranged v) (rangeds vs) h in
      All-append Visible (written v) (others vs) (of_value v p.0) (of_others vs p.1)

  of_others : (vs : Values) → rangeds vs ≡ true → AllByRecursion Visible (others vs)
  of_others none h = tt
  of_others (more v vs) h =
      let p = and_parts (ranged v) (rangeds vs) h in
      All-append Visible (codes ", ") (written v ++ others vs) (search (rules, arith)) (All-append Visible (written v) (others vs) (of_value v p.0) (of_others vs p.1))

pub printable : (v : Value) → Lawful v → AllByRecursion (λ c. (32 ≤ c) × (c < 127)) (written v)
printable v h = of_value v h.numbers
