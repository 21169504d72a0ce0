-- The order of values, and sets in the words of membership.
use Rattle.std.specs.Prelude.{◌≡◌, true, not, ◌&&◌, ◌||◌, List, [], ◌++◌, ℤ}
use Rattle.std.specs.declared.cmp.Ordering.TheVariants.{Less, Equal}
use Rattle.std.specs.Ordering.{ordering_reverse}
use Rattle.values.specs.Value.{Value, cells, compare}
use Rattle.values.specs.Lawful.{ascending}
use Rattle.values.specs.Sets.{member, every, gathered, union, inter, difference}

pub record Order : Type 0 where
  -- no value's cells begin another's
  pub apart : (v w : Value) (xs ys : List ℤ) → cells v ++ xs ≡ cells w ++ ys → (v ≡ w) × (xs ≡ ys)
  -- equal exactly where they are the same value
  pub same : (v w : Value) → compare v w ≡ Equal → v ≡ w
  pub itself : (v : Value) → compare v v ≡ Equal
  -- total, antisymmetric, transitive
  pub flips : (v w : Value) → compare v w ≡ ordering_reverse (compare w v)
  pub chains : (u v w : Value) → compare u v ≡ Less → compare v w ≡ Less → compare u w ≡ Less

-- vs and ws have the same members
abbrev pub Alike : List Value → List Value → Type 0
Alike vs ws = (v : Value) → member v vs ≡ member v ws

pub record Membership : Type 0 where
  -- a set is known by its members
  pub extensional : (vs ws : List Value) → ascending vs ≡ true → ascending ws ≡ true → Alike vs ws → vs ≡ ws
  -- an enumeration is a set, has the members that stand in it, and does not depend on their order or number
  pub enumerated : (vs : List Value) → ascending (gathered [] vs) ≡ true
  pub in_enumeration : (vs : List Value) (v : Value) → member v (gathered [] vs) ≡ member v vs
  pub any_order : (vs ws : List Value) → Alike vs ws → gathered [] vs ≡ gathered [] ws
  -- the members of what is made of two sets
  pub in_union : (vs ws : List Value) (v : Value) → member v (union vs ws) ≡ (member v vs || member v ws)
  pub in_inter : (vs ws : List Value) (v : Value) → member v (inter vs ws) ≡ (member v vs && member v ws)
  pub in_difference : (vs ws : List Value) (v : Value) → member v (difference vs ws) ≡ (member v vs && not (member v ws))
  pub union_ascends : (vs ws : List Value) → ascending vs ≡ true → ascending (union vs ws) ≡ true
  pub inter_ascends : (vs ws : List Value) → ascending vs ≡ true → ascending (inter vs ws) ≡ true
  pub difference_ascends : (vs ws : List Value) → ascending vs ≡ true → ascending (difference vs ws) ≡ true
  -- a part has no member that the whole lacks
  pub part : (vs ws : List Value) → every vs ws ≡ true → (v : Value) → member v vs ≡ true → member v ws ≡ true
  pub is_part : (vs ws : List Value) → ((v : Value) → member v vs ≡ true → member v ws ≡ true) → every vs ws ≡ true
