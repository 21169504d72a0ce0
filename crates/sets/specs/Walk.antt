-- One walk through two rows of members.
use Rattle.std.specs.Prelude.{◌≡◌, ℕ, Option, None, Some, Bool, true, false, cond, List, [], ◌∷◌, ◌++◌, length, ℤ}
use Rattle.std.specs.declared.cmp.Ordering.TheVariants.{Less, Equal, Greater}
use Rattle.std.specs.declared.cmp.Ordering.{Ordering}
use Rattle.std.specs.Ordering.{is_eq, is_lt}
use Rattle.values.specs.Value.{Value, compare, by_cells, row}
use Rattle.values.specs.Sets.{by, union, inter, difference}
use Rattle.sets.specs.declared.Blend.{Blend}
use Rattle.sets.specs.declared.Blend.TheVariants.{Union, Inter, Difference}

-- what the three are
abbrev pub blended : Blend → List Value → List Value → List Value
blended Union vs ws = union vs ws
blended Inter vs ws = inter vs ws
blended Difference vs ws = difference vs ws

abbrev pub put : Bool → Value → List Value → List Value
put true v vs = v ∷ vs
put false v vs = vs

abbrev pub all : Bool → List Value → List Value
all b [] = []
all b (v ∷ vs) = put b v (all b vs)

-- at each member, `keep` says whether it stays where it is in the first alone (Less), in both (Equal), in the second alone (Greater)
abbrev pub beside : (Ordering → Bool) → Value → (List Value → List Value) → List Value → List Value
beside keep x rest [] = put (keep Less) x (rest [])
beside keep x rest (y ∷ ys) =
    by (compare x y) (put (keep Less) x (rest (y ∷ ys))) (put (keep Equal) x (rest ys)) (put (keep Greater) y (beside keep x rest ys))

abbrev pub merge : (Ordering → Bool) → List Value → List Value → List Value
merge keep [] ys = all (keep Greater) ys
merge keep (x ∷ xs) ys = beside keep x (merge keep xs) ys

abbrev pub keeps : Blend → Ordering → Bool
keeps Union o = true
keeps Inter o = is_eq o
keeps Difference o = is_lt o

-- which of two rows has the next member, by the cells of their first members: none where a row is at its end
abbrev pub side : List ℤ → List ℤ → Ordering
side xs [] = Less
side [] (y ∷ ys) = Greater
side (x ∷ xs) (y ∷ ys) = by_cells (x ∷ xs) (y ∷ ys)

-- the cells of the next member: none where it does not stay
abbrev pub taken : Bool → Ordering → List ℤ → List ℤ → List ℤ
taken keep o xs ys = cond keep (by o xs xs ys) []

-- where v goes to make `with` of the members `us`: nowhere, as it is there, or behind the first `p` cells
abbrev pub Placed : List Value → List Value → Value → Option ℕ → Type 0
Placed with us v None = with ≡ us
Placed with us v (Some p) = (ts : List Value) × (ws : List Value) × (us ≡ ts ++ ws) × (length (row ts) ≡ p) × (with ≡ ts ++ v ∷ ws)
