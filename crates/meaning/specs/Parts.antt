-- What stands in a tree: its numerals, and its `let be`.
use Rattle.std.specs.Prelude.{ℕ, List, [], ◌∷◌, ◌++◌, ◌≢◌}
use Rattle.syntax.specs.Tree.{Place, Name, Tree, numeral, name, unary, binary, connective, if_else, let_in, let_be, cases, quantifier, collection, range, comprehension, selection, Trees, Alternatives, no_more, alternative, Optional, absent, present}
use Rattle.syntax.specs.Names.{In}

-- ---- numerals

-- the numerals among the expressions of a tree
unfoldable mutual
  pub numerals : Tree → List ℕ
  numerals (numeral p n) = n ∷ []
  numerals (Tree.truth p b) = []
  numerals (name p n) = []
  numerals (unary p op a) = numerals a
  numerals (binary p op a b) = numerals a ++ numerals b
  numerals (connective p op a b) = numerals a ++ numerals b
  numerals (if_else p a b c) = numerals a ++ (numerals b ++ numerals c)
  numerals (let_in p x a b) = numerals a ++ numerals b
  numerals (let_be p x s c b) = numerals s ++ (numerals c ++ numerals b)
  numerals (cases p a cs o) = numerals a ++ (numerals_in cs ++ numerals_of o)
  numerals (quantifier p q x s b) = numerals s ++ numerals b
  numerals (collection p k ts) = numerals_all ts
  numerals (range p a b) = numerals a ++ numerals b
  numerals (comprehension p k e x s c) = numerals e ++ (numerals s ++ numerals_of c)
  numerals (selection p a n) = numerals a

  pub numerals_all : Trees → List ℕ
  numerals_all Trees.none = []
  numerals_all (Trees.more t ts) = numerals t ++ numerals_all ts

  pub numerals_in : Alternatives → List ℕ
  numerals_in no_more = []
  numerals_in (alternative pat a cs) = numerals a ++ numerals_in cs

  pub numerals_of : Optional → List ℕ
  numerals_of absent = []
  numerals_of (present t) = numerals t

-- ---- `let be`

-- a `let be`: its place, name, set and condition
pub record Site : Type 0 where
  pub at : Place
  pub bound : Name
  pub set : Tree
  pub condition : Tree

unfoldable mutual
  pub sites : Tree → List Site
  sites (numeral p n) = []
  sites (Tree.truth p b) = []
  sites (name p n) = []
  sites (unary p op a) = sites a
  sites (binary p op a b) = sites a ++ sites b
  sites (connective p op a b) = sites a ++ sites b
  sites (if_else p a b c) = sites a ++ (sites b ++ sites c)
  sites (let_in p x a b) = sites a ++ sites b
  sites (let_be p x s c b) = record { at = p; bound = x; set = s; condition = c } ∷ (sites s ++ (sites c ++ sites b))
  sites (cases p a cs o) = sites a ++ (sites_in cs ++ sites_of o)
  sites (quantifier p q x s b) = sites s ++ sites b
  sites (collection p k ts) = sites_all ts
  sites (range p a b) = sites a ++ sites b
  sites (comprehension p k e x s c) = sites e ++ (sites s ++ sites_of c)
  sites (selection p a n) = sites a

  pub sites_all : Trees → List Site
  sites_all Trees.none = []
  sites_all (Trees.more t ts) = sites t ++ sites_all ts

  pub sites_in : Alternatives → List Site
  sites_in no_more = []
  sites_in (alternative pat a cs) = sites a ++ sites_in cs

  pub sites_of : Optional → List Site
  sites_of absent = []
  sites_of (present t) = sites t

-- no two of them stand at one place
abbrev pub Apart : List Site → Type 0
Apart [] = Unit {0}
Apart (x ∷ xs) = ((y : Site) → In y xs → x.at ≢ y.at) × Apart xs
