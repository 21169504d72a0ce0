-- Names in sight with their values, and facts. (Free names: syntax `Names`.)
use Rattle.std.specs.Prelude.{◌≡◌, cond, List, [], ◌∷◌}
use Rattle.std.proofs.Math.Option.{Option, none, some}
use Rattle.syntax.specs.Tree.{Name, Tree}
use Rattle.syntax.specs.Names.{In, same, Occurrence, free}
use Rattle.values.specs.Value.{Value}

pub record Binding : Type 0 where
  pub bound : Name
  pub to : Value

infix 70 ◌≔◌
abbrev pub ◌≔◌ : Name → Value → Binding
n ≔ v = record { bound = n; to = v }

-- ---- in sight

-- The names in sight: the value of each name that is bound, and nothing for any other. A binding that a nearer one hides leaves no trace here.
abbrev pub Sight : Type 0
Sight = Name → Option Value

abbrev pub nothing : Sight
nothing n = none

-- one name bound, which hides what it was before
abbrev pub bind : Name → Value → Sight → Sight
bind x v s n = cond (same n x) (some v) (s n)

abbrev pub bind_all : List Binding → Sight → Sight
bind_all [] s = s
bind_all (b ∷ bs) s = bind b.bound b.to (bind_all bs s)

-- what names mean that nothing binds
abbrev pub Facts : Type 0
Facts = Name → Value

-- a bound name's value, else what the facts say
abbrev pub known : Value → Option Value → Value
known f none = f
known f (some v) = v

abbrev pub value_of : Facts → Sight → Name → Value
value_of facts s n = known (facts n) (s n)

-- ---- a host's meaning

-- a finite map
abbrev pub Map : Type 0
Map = List Binding

abbrev pub lookup : Map → Sight
lookup m = bind_all m nothing

-- the map has a value for every free name of the tree, and the facts are those values
abbrev pub Agrees : Map → Facts → Tree → Type 0
Agrees m facts t = (o : Occurrence) → In o (free t []) → lookup m o.name ≡ some (facts o.name)
