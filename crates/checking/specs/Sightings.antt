-- What check looks at in a tree: expressions and patterns with their levels, numbers, and the names of patterns. (Free names: syntax `Names`.)
use Rattle.std.specs.Prelude.{ℕ, ◌+◌, List, [], ◌∷◌, ◌++◌}
use Rattle.syntax.specs.Tree.{Place, Name, Pattern, Patterns, Tree, Trees, Alternatives, Optional}
use Rattle.syntax.specs.Names.{names}

-- an expression or a pattern
pub record Node : Type 0 where
  pub place : Place
  pub level : ℕ

-- a number that the text states, and its bounds
pub record Number : Type 0 where
  pub place : Place
  pub value : ℕ
  pub least : ℕ
  pub most : ℕ

-- a name in a pattern, with the names that stand earlier in the whole pattern
pub record Bound : Type 0 where
  pub place : Place
  pub name : Name
  pub earlier : List Name

abbrev pub node : Place → ℕ → Node
node p n = record { place = p; level = n }

abbrev pub bound : Place → Name → List Name → Bound
bound p n ns = record { place = p; name = n; earlier = ns }

-- a numeral, at its own place; the numeral of a selection, at the place of the selection
abbrev pub numeral : Place → ℕ → Number
numeral p n = record { place = p; value = n; least = 0; most = 2147483647 }

abbrev pub part_number : Place → ℕ → Number
part_number p n = record { place = p; value = n; least = 1; most = 8 }

-- ---- levels

-- The expressions and patterns of what stands on level n: what is directly inside another is one level deeper.
abbrev mutual
  pub pattern_nodes : ℕ → Pattern → List Node
  pattern_nodes n (Pattern.any p) = node p n ∷ []
  pattern_nodes n (Pattern.binds p x) = node p n ∷ []
  pattern_nodes n (Pattern.number p k) = node p n ∷ []
  pattern_nodes n (Pattern.truth p b) = node p n ∷ []
  pattern_nodes n (Pattern.parts p k ps) = node p n ∷ patterns_nodes (n + 1) ps

  pub patterns_nodes : ℕ → Patterns → List Node
  patterns_nodes n Patterns.none = []
  patterns_nodes n (Patterns.more p ps) = pattern_nodes n p ++ patterns_nodes n ps

abbrev mutual
  pub nodes : ℕ → Tree → List Node
  nodes n (Tree.numeral p k) = node p n ∷ []
  nodes n (Tree.truth p b) = node p n ∷ []
  nodes n (Tree.name p x) = node p n ∷ []
  nodes n (Tree.unary p o a) = node p n ∷ nodes (n + 1) a
  nodes n (Tree.binary p o a b) = node p n ∷ (nodes (n + 1) a ++ nodes (n + 1) b)
  nodes n (Tree.connective p o a b) = node p n ∷ (nodes (n + 1) a ++ nodes (n + 1) b)
  nodes n (Tree.if_else p a b c) = node p n ∷ (nodes (n + 1) a ++ (nodes (n + 1) b ++ nodes (n + 1) c))
  nodes n (Tree.let_in p x a b) = node p n ∷ (nodes (n + 1) a ++ nodes (n + 1) b)
  nodes n (Tree.let_be p x a b c) = node p n ∷ (nodes (n + 1) a ++ (nodes (n + 1) b ++ nodes (n + 1) c))
  nodes n (Tree.cases p a cs o) = node p n ∷ (nodes (n + 1) a ++ (nodes_in (n + 1) cs ++ nodes_of (n + 1) o))
  nodes n (Tree.quantifier p q x a b) = node p n ∷ (nodes (n + 1) a ++ nodes (n + 1) b)
  nodes n (Tree.collection p k ts) = node p n ∷ nodes_all (n + 1) ts
  nodes n (Tree.range p a b) = node p n ∷ (nodes (n + 1) a ++ nodes (n + 1) b)
  nodes n (Tree.comprehension p k a x b o) = node p n ∷ (nodes (n + 1) a ++ (nodes (n + 1) b ++ nodes_of (n + 1) o))
  nodes n (Tree.selection p a k) = node p n ∷ nodes (n + 1) a

  pub nodes_all : ℕ → Trees → List Node
  nodes_all n Trees.none = []
  nodes_all n (Trees.more t ts) = nodes n t ++ nodes_all n ts

  -- a pattern and its right side stand directly inside the `cases`
  pub nodes_in : ℕ → Alternatives → List Node
  nodes_in n Alternatives.no_more = []
  nodes_in n (Alternatives.alternative q a cs) = pattern_nodes n q ++ (nodes n a ++ nodes_in n cs)

  pub nodes_of : ℕ → Optional → List Node
  nodes_of n Optional.absent = []
  nodes_of n (Optional.present a) = nodes n a

-- ---- numbers

abbrev mutual
  pub pattern_numbers : Pattern → List Number
  pattern_numbers (Pattern.any p) = []
  pattern_numbers (Pattern.binds p x) = []
  pattern_numbers (Pattern.number p k) = numeral p k ∷ []
  pattern_numbers (Pattern.truth p b) = []
  pattern_numbers (Pattern.parts p k ps) = patterns_numbers ps

  pub patterns_numbers : Patterns → List Number
  patterns_numbers Patterns.none = []
  patterns_numbers (Patterns.more p ps) = pattern_numbers p ++ patterns_numbers ps

abbrev mutual
  pub numbers : Tree → List Number
  numbers (Tree.numeral p k) = numeral p k ∷ []
  numbers (Tree.truth p b) = []
  numbers (Tree.name p x) = []
  numbers (Tree.unary p o a) = numbers a
  numbers (Tree.binary p o a b) = numbers a ++ numbers b
  numbers (Tree.connective p o a b) = numbers a ++ numbers b
  numbers (Tree.if_else p a b c) = numbers a ++ (numbers b ++ numbers c)
  numbers (Tree.let_in p x a b) = numbers a ++ numbers b
  numbers (Tree.let_be p x a b c) = numbers a ++ (numbers b ++ numbers c)
  numbers (Tree.cases p a cs o) = numbers a ++ (numbers_in cs ++ numbers_of o)
  numbers (Tree.quantifier p q x a b) = numbers a ++ numbers b
  numbers (Tree.collection p k ts) = numbers_all ts
  numbers (Tree.range p a b) = numbers a ++ numbers b
  numbers (Tree.comprehension p k a x b o) = numbers a ++ (numbers b ++ numbers_of o)
  numbers (Tree.selection p a k) = part_number p k ∷ numbers a

  pub numbers_all : Trees → List Number
  numbers_all Trees.none = []
  numbers_all (Trees.more t ts) = numbers t ++ numbers_all ts

  pub numbers_in : Alternatives → List Number
  numbers_in Alternatives.no_more = []
  numbers_in (Alternatives.alternative q a cs) = pattern_numbers q ++ (numbers a ++ numbers_in cs)

  pub numbers_of : Optional → List Number
  numbers_of Optional.absent = []
  numbers_of (Optional.present a) = numbers a

-- ---- names of patterns

-- behind the names of the whole pattern that stand earlier
abbrev mutual
  pub pattern_bounds : Pattern → List Name → List Bound
  pattern_bounds (Pattern.any p) ns = []
  pattern_bounds (Pattern.binds p x) ns = bound p x ns ∷ []
  pattern_bounds (Pattern.number p k) ns = []
  pattern_bounds (Pattern.truth p b) ns = []
  pattern_bounds (Pattern.parts p k ps) ns = patterns_bounds ps ns

  pub patterns_bounds : Patterns → List Name → List Bound
  patterns_bounds Patterns.none ns = []
  patterns_bounds (Patterns.more p ps) ns = pattern_bounds p ns ++ patterns_bounds ps (ns ++ names p)

abbrev mutual
  pub bounds : Tree → List Bound
  bounds (Tree.numeral p k) = []
  bounds (Tree.truth p b) = []
  bounds (Tree.name p x) = []
  bounds (Tree.unary p o a) = bounds a
  bounds (Tree.binary p o a b) = bounds a ++ bounds b
  bounds (Tree.connective p o a b) = bounds a ++ bounds b
  bounds (Tree.if_else p a b c) = bounds a ++ (bounds b ++ bounds c)
  bounds (Tree.let_in p x a b) = bounds a ++ bounds b
  bounds (Tree.let_be p x a b c) = bounds a ++ (bounds b ++ bounds c)
  bounds (Tree.cases p a cs o) = bounds a ++ (bounds_in cs ++ bounds_of o)
  bounds (Tree.quantifier p q x a b) = bounds a ++ bounds b
  bounds (Tree.collection p k ts) = bounds_all ts
  bounds (Tree.range p a b) = bounds a ++ bounds b
  bounds (Tree.comprehension p k a x b o) = bounds a ++ (bounds b ++ bounds_of o)
  bounds (Tree.selection p a k) = bounds a

  pub bounds_all : Trees → List Bound
  bounds_all Trees.none = []
  bounds_all (Trees.more t ts) = bounds t ++ bounds_all ts

  pub bounds_in : Alternatives → List Bound
  bounds_in Alternatives.no_more = []
  bounds_in (Alternatives.alternative q a cs) = pattern_bounds q [] ++ (bounds a ++ bounds_in cs)

  pub bounds_of : Optional → List Bound
  bounds_of Optional.absent = []
  bounds_of (Optional.present a) = bounds a
