-- The places of a tree: each expression and each pattern has a token of its own.
use Rattle.std.specs.Prelude.{ℕ, suc, ◌+◌, ◌≤◌, cond, List, [], ◌∷◌, ◌++◌, length, ◌==◌}
use Rattle.tokens.specs.Lexeme.{Lexeme}
use Rattle.syntax.specs.Tree.{Pattern, Patterns, Tree, Trees, Alternatives, Optional}
use Rattle.grammar.specs.Grammar.{Sort, Derives}

abbrev mutual
  pub pattern_places : Pattern → List ℕ
  pattern_places (Pattern.any p) = p ∷ []
  pattern_places (Pattern.binds p n) = p ∷ []
  pattern_places (Pattern.number p n) = p ∷ []
  pattern_places (Pattern.truth p b) = p ∷ []
  pattern_places (Pattern.parts p k ts) = p ∷ patterns_places ts

  pub patterns_places : Patterns → List ℕ
  patterns_places Patterns.none = []
  patterns_places (Patterns.more t ts) = pattern_places t ++ patterns_places ts

-- the places of the expressions and patterns of a tree, itself first
abbrev mutual
  pub places : Tree → List ℕ
  places (Tree.numeral p n) = p ∷ []
  places (Tree.truth p b) = p ∷ []
  places (Tree.name p n) = p ∷ []
  places (Tree.unary p o a) = p ∷ places a
  places (Tree.binary p o a b) = p ∷ (places a ++ places b)
  places (Tree.connective p o a b) = p ∷ (places a ++ places b)
  places (Tree.if_else p a b c) = p ∷ (places a ++ (places b ++ places c))
  places (Tree.let_in p n a b) = p ∷ (places a ++ places b)
  places (Tree.let_be p n a b c) = p ∷ (places a ++ (places b ++ places c))
  places (Tree.cases p a cs o) = p ∷ (places a ++ (alternatives_places cs ++ optional_places o))
  places (Tree.quantifier p o n a b) = p ∷ (places a ++ places b)
  places (Tree.collection p k ts) = p ∷ trees_places ts
  places (Tree.range p a b) = p ∷ (places a ++ places b)
  places (Tree.comprehension p k a n b o) = p ∷ (places a ++ (places b ++ optional_places o))
  places (Tree.selection p a n) = p ∷ places a

  pub trees_places : Trees → List ℕ
  trees_places Trees.none = []
  trees_places (Trees.more t ts) = places t ++ trees_places ts

  pub alternatives_places : Alternatives → List ℕ
  alternatives_places Alternatives.no_more = []
  alternatives_places (Alternatives.alternative t a cs) = pattern_places t ++ (places a ++ alternatives_places cs)

  pub optional_places : Optional → List ℕ
  optional_places Optional.absent = []
  optional_places (Optional.present a) = places a

-- how often a number stands in a list
abbrev pub times : ℕ → List ℕ → ℕ
times x [] = 0
times x (y ∷ ys) = cond (x == y) 1 0 + times x ys

-- no number stands twice
abbrev pub Distinct : List ℕ → Type 0
Distinct xs = (x : ℕ) → times x xs ≤ 1

-- the tokens' places ascend, from n on
abbrev pub Ascend : ℕ → List Lexeme → Type 0
Ascend n [] = Unit {0}
Ascend n (x ∷ xs) = (n ≤ x.place) × Ascend (suc x.place) xs

-- the places of the tokens
abbrev pub spots : List Lexeme → List ℕ
spots [] = []
spots (x ∷ xs) = x.place ∷ spots xs

-- what follows an `if` has the place of that `if`, which stands before it
abbrev pub before : Sort → List ℕ
before Sort.expr = []
before (Sort.choice p) = p ∷ []
before (Sort.left l) = []
before Sort.implication = []
before (Sort.lead l) = []
before Sort.relation = []
before Sort.postfix = []
before Sort.atom = []

abbrev pub above : List ℕ → ℕ
above [] = 0
above (p ∷ ps) = suc p

pub record OwnPlaces : Type 0 where
  -- each expression and pattern has a token of its own
  pub own : (s : Sort) (ts : List Lexeme) (t : Tree) → Derives s ts t → (x : ℕ) → times x (places t) ≤ times x (before s ++ spots ts)
  -- so there are at most as many as tokens
  pub few : (s : Sort) (ts : List Lexeme) (t : Tree) → Derives s ts t → length (places t) ≤ length (before s ++ spots ts)
  -- and where the tokens' places ascend, no two have the same place
  pub distinct : (s : Sort) (ts : List Lexeme) (t : Tree) → Derives s ts t → Ascend (above (before s)) ts → Distinct (places t)
