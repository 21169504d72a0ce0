-- Sets as rows of members in ascending order.
use Rattle.std.specs.Prelude.{Bool, true, false, cond, ◌&&◌, ◌||◌, List, [], ◌∷◌}
use Rattle.std.specs.declared.cmp.Ordering.TheVariants.{Less, Equal, Greater}
use Rattle.std.specs.declared.cmp.Ordering.{Ordering}
use Rattle.std.specs.Ordering.{is_eq}
use Rattle.values.specs.Value.{Value, compare}

-- the same value
abbrev pub equal : Value → Value → Bool
equal v w = is_eq (compare v w)

-- v is one of them
abbrev pub member : Value → List Value → Bool
member v [] = false
member v (w ∷ ws) = equal v w || member v ws

-- each of the first is one of the second
abbrev pub every : List Value → List Value → Bool
every [] ws = true
every (v ∷ vs) ws = member v ws && every vs ws

abbrev pub by : {A : Type 0} → Ordering → A → A → A → A
by Less a b c = a
by Equal a b c = b
by Greater a b c = c

-- the members with v in its place: as they are where v is one of them
abbrev pub insert : Value → List Value → List Value
insert v [] = v ∷ []
insert v (w ∷ ws) = by (compare v w) (v ∷ w ∷ ws) (w ∷ ws) (w ∷ insert v ws)

-- the members with each of some values added, one after another
abbrev pub gathered : List Value → List Value → List Value
gathered ws [] = ws
gathered ws (v ∷ vs) = gathered (insert v ws) vs

-- those of the first that are of the second, where b is true; those that are not, where b is false
abbrev pub those : Bool → List Value → List Value → List Value
those b [] ws = []
those true (v ∷ vs) ws = cond (member v ws) (v ∷ those true vs ws) (those true vs ws)
those false (v ∷ vs) ws = cond (member v ws) (those false vs ws) (v ∷ those false vs ws)

abbrev pub union : List Value → List Value → List Value
union vs ws = gathered vs ws

abbrev pub inter : List Value → List Value → List Value
inter vs ws = those true vs ws

abbrev pub difference : List Value → List Value → List Value
difference vs ws = those false vs ws
