-- How a value is written: in the language's own notation, as bytes.
use Rattle.std.specs.Prelude.{ℕ, Bool, true, false, List, [], ◌++◌, codes}
use Rattle.std.specs.Fmt.{signed_decimal}
use Rattle.syntax.specs.declared.Collection.{Collection}
use Rattle.syntax.specs.declared.Collection.TheVariants.{Set, Sequence, Tuple}
use Rattle.values.specs.Value.{Value, number, truth, many, Values, none, more}

abbrev pub word : Bool → List ℕ
word true = codes "true"
word false = codes "false"

abbrev pub opening : Collection → List ℕ
opening Set = codes "{"
opening Sequence = codes "["
opening Tuple = codes "mk_("

abbrev pub closing : Collection → List ℕ
closing Set = codes "}"
closing Sequence = codes "]"
closing Tuple = codes ")"

-- a number in base ten; members with a comma and a blank between them
abbrev mutual
  pub written : Value → List ℕ
  written (number z) = signed_decimal z
  written (truth b) = word b
  written (many k vs) = opening k ++ (members vs ++ closing k)

  pub members : Values → List ℕ
  members none = []
  members (more v vs) = written v ++ others vs

  pub others : Values → List ℕ
  others none = []
  others (more v vs) = codes ", " ++ (written v ++ others vs)
