-- The order of the text: the free names of a tree are listed as they stand in it.
use Rattle.std.specs.Prelude.{ℕ, suc, ◌≤◌, List, [], ◌∷◌}
use Rattle.tokens.specs.Lexeme.{Lexeme}
use Rattle.syntax.specs.Tree.{Name, Tree}
use Rattle.syntax.specs.Names.{Occurrence, free}
use Rattle.grammar.specs.Grammar.{Sort, Derives}
use Rattle.grammar.specs.Places.{Ascend, spots}

-- the places of the occurrences
abbrev pub sites : List Occurrence → List ℕ
sites [] = []
sites (o ∷ os) = o.place ∷ sites os

-- the first list stands in the second, in the same order, with gaps allowed
pub data Within : List ℕ → List ℕ → Type 0 where
  done : Within [] []
  skip : {x : ℕ} {xs ys : List ℕ} → Within xs ys → Within xs (x ∷ ys)
  keep : {x : ℕ} {xs ys : List ℕ} → Within xs ys → Within (x ∷ xs) (x ∷ ys)

-- from n on, each is above the one before
abbrev pub Rising : ℕ → List ℕ → Type 0
Rising n [] = Unit {0}
Rising n (p ∷ ps) = (n ≤ p) × Rising (suc p) ps

pub record TextOrder : Type 0 where
  -- the places of the free names are places of tokens, in the order of the tokens
  pub within : (s : Sort) (ts : List Lexeme) (t : Tree) → Derives s ts t → (bs : List Name) → Within (sites (free t bs)) (spots ts)
  -- so where the tokens' places ascend, those of the free names rise
  pub rising : (n : ℕ) (s : Sort) (ts : List Lexeme) (t : Tree) → Derives s ts t → Ascend n ts → (bs : List Name) → Rising n (sites (free t bs))
