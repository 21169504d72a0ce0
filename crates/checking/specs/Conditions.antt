-- The conditions under which a rule is refused, and what is known of a rule that is not.
use Rattle.std.specs.Prelude.{◌≡◌, ◌<◌, ◌≤◌, ◌⊎◌, List, [], ◌∷◌, map, length}
use Rattle.syntax.specs.Tree.{Place, Name, Tree}
use Rattle.syntax.specs.Names.{In, Occurrence, free}
use Rattle.grammar.specs.Places.{Distinct}
use Rattle.checking.specs.Sightings.{Node, Number, Bound, node, nodes, numbers, bounds}

-- ---- smallest places

-- a condition that holds at some places
abbrev pub Condition : Type 1
Condition = Place → Type 0

pub record Smallest (C : Condition) (p : Place) : Type 0 where
  pub here : C p
  pub first : (q : Place) → C q → p ≤ q

abbrev pub Never : Condition → Type 0
Never C = (p : Place) → C p → ⊥

-- ---- conditions of a tree

-- 5: an expression or pattern on level 17; the whole is on level 1
abbrev pub Deep : Tree → Condition
Deep t p = In (node p 17) (nodes 1 t)

-- 6: a number outside its bounds
pub record Outside (t : Tree) (p : Place) : Type 0 where
  pub number : Number
  pub stands : In number (numbers t)
  pub here : number.place ≡ p
  pub outside : (number.value < number.least) ⊎ (number.most < number.value)

-- 7: a name that stands earlier in its pattern
pub record Repeated (t : Tree) (p : Place) : Type 0 where
  pub name : Bound
  pub stands : In name (bounds t)
  pub here : name.place ≡ p
  pub again : In name.name name.earlier

-- a name is free at a place
abbrev pub FreeAt : Tree → Name → Condition
FreeAt t n p = In record { place = p; name = n } (free t [])

-- the first place of a free name
pub record FirstPlace (t : Tree) (p : Place) : Type 0 where
  pub name : Name
  pub first : Smallest (FreeAt t name) p

-- 8: the first place of a free name, behind those of just sixteen others. (Different free names have different first places.)
pub record Seventeenth (t : Tree) (p : Place) : Type 0 where
  pub here : FirstPlace t p
  pub earlier : List Place
  pub sixteen : length earlier ≡ 16
  pub apart : Distinct earlier
  pub each : (q : Place) → In q earlier → FirstPlace t q × (q < p)
  pub all : (q : Place) → FirstPlace t q → q < p → In q earlier

-- ---- what is known of a rule that is not refused

-- no name twice
abbrev pub Once : List Name → Type 0
Once [] = Unit {0}
Once (n ∷ ns) = (In n ns → ⊥) × Once ns

abbrev pub named : List Occurrence → List Name
named os = map (λ (o : Occurrence). o.name) os

-- the free names of a tree, in any order, each once and with its first place
pub record FreeNames (t : Tree) (os : List Occurrence) : Type 0 where
  pub few : length os ≤ 16
  pub once : Once (named os)
  pub each : (o : Occurrence) → In o os → Smallest (FreeAt t o.name) o.place
  pub all : (n : Name) (p : Place) → FreeAt t n p → In n (named os)

pub record Sound (t : Tree) : Type 0 where
  -- no expression or pattern is deeper than level 16
  pub shallow : (x : Node) → In x (nodes 1 t) → x.level ≤ 16
  -- each number is within its bounds
  pub ranged : (x : Number) → In x (numbers t) → (x.least ≤ x.value) × (x.value ≤ x.most)
  -- no name stands twice in a pattern
  pub distinct : (x : Bound) → In x (bounds t) → In x.name x.earlier → ⊥
