-- Which values are lawful: numbers in range, sets in order, and not too long.
use Rattle.std.specs.Prelude.{◌≡◌, ◌^◌, ◌≤◌, Bool, true, ◌&&◌, List, [], ◌∷◌, length, ℤ, nat_le, nat_lt, unsigned_abs}
use Rattle.std.specs.Ordering.{is_lt}
use Rattle.syntax.specs.declared.Collection.{Collection}
use Rattle.syntax.specs.declared.Collection.TheVariants.{Set, Sequence, Tuple}
use Rattle.values.specs.Value.{Value, number, truth, many, Values, none, more, cells, list, compare}

-- from −2,147,483,647 to 2,147,483,647
abbrev pub in_range : ℤ → Bool
in_range z = nat_lt (unsigned_abs z) (2 ^ 31)

-- at most 200 cells
abbrev pub fits : Value → Bool
fits v = nat_le (length (cells v)) 200

-- each member is below the next: ascending, and none twice
abbrev pub ascending : List Value → Bool
ascending [] = true
ascending (v ∷ []) = true
ascending (v ∷ w ∷ vs) = is_lt (compare v w) && ascending (w ∷ vs)

abbrev pub is_in_order : Collection → List Value → Bool
is_in_order Set vs = ascending vs
is_in_order Sequence vs = true
is_in_order Tuple vs = true

-- each number in it is in range
abbrev mutual
  pub ranged : Value → Bool
  ranged (number z) = in_range z
  ranged (truth b) = true
  ranged (many k vs) = rangeds vs

  pub rangeds : Values → Bool
  rangeds none = true
  rangeds (more v vs) = ranged v && rangeds vs

-- each set in it ascends
abbrev mutual
  pub ordered : Value → Bool
  ordered (number z) = true
  ordered (truth b) = true
  ordered (many k vs) = is_in_order k (list vs) && ordereds vs

  pub ordereds : Values → Bool
  ordereds none = true
  ordereds (more v vs) = ordered v && ordereds vs

pub record Lawful (v : Value) : Type 0 where
  pub numbers : ranged v ≡ true
  pub sets : ordered v ≡ true
  pub short : length (cells v) ≤ 200
