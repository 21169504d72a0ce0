-- How operators and collections are named where they are printed: as in a rule, but for `apply` and the three collections.
use Rattle.std.specs.Prelude.{ℕ, List, codes}
use Rattle.syntax.specs.declared.Unary.{Unary}
use Rattle.syntax.specs.declared.Binary.{Binary}
use Rattle.syntax.specs.declared.Connective.{Connective}
use Rattle.syntax.specs.declared.Quantifier.{Quantifier}
use Rattle.syntax.specs.declared.Collection.{Collection}

abbrev pub unary_name : Unary → List ℕ
unary_name Unary.Not = codes "not"
unary_name Unary.Negate = codes "-"
unary_name Unary.Abs = codes "abs"
unary_name Unary.Card = codes "card"
unary_name Unary.Len = codes "len"
unary_name Unary.Hd = codes "hd"
unary_name Unary.Tl = codes "tl"
unary_name Unary.Elems = codes "elems"
unary_name Unary.Inds = codes "inds"

abbrev pub binary_name : Binary → List ℕ
binary_name Binary.Iff = codes "<=>"
binary_name Binary.Equal = codes "="
binary_name Binary.NotEqual = codes "<>"
binary_name Binary.Less = codes "<"
binary_name Binary.LessEqual = codes "<="
binary_name Binary.Greater = codes ">"
binary_name Binary.GreaterEqual = codes ">="
binary_name Binary.Subset = codes "subset"
binary_name Binary.ProperSubset = codes "psubset"
binary_name Binary.InSet = codes "in set"
binary_name Binary.NotInSet = codes "not in set"
binary_name Binary.Plus = codes "+"
binary_name Binary.Minus = codes "-"
binary_name Binary.Union = codes "union"
binary_name Binary.Difference = codes "\\"
binary_name Binary.Concat = codes "^"
binary_name Binary.Times = codes "*"
binary_name Binary.Div = codes "div"
binary_name Binary.Rem = codes "rem"
binary_name Binary.Mod = codes "mod"
binary_name Binary.Inter = codes "inter"
binary_name Binary.Apply = codes "apply"

abbrev pub connective_name : Connective → List ℕ
connective_name Connective.Implies = codes "=>"
connective_name Connective.Or = codes "or"
connective_name Connective.And = codes "and"

abbrev pub quantifier_name : Quantifier → List ℕ
quantifier_name Quantifier.Forall = codes "forall"
quantifier_name Quantifier.Exists = codes "exists"

abbrev pub collection_name : Collection → List ℕ
collection_name Collection.Set = codes "set"
collection_name Collection.Sequence = codes "sequence"
collection_name Collection.Tuple = codes "tuple"
