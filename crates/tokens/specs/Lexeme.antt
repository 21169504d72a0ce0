-- A token with what it spells, as the grammar sees it.
use Rattle.std.specs.Prelude.{ℕ, ◌+◌, ◌-◌, ◌*◌, List, [], ◌∷◌, take, drop}
use Rattle.tokens.specs.declared.Mark.{Mark}
use Rattle.tokens.specs.declared.Kind.{Kind}
use Rattle.tokens.specs.declared.Kind.TheVariants as kind
use Rattle.tokens.specs.declared.Token.{Token}

-- a reserved word or sign, a name by its bytes, a numeral by its number
pub data Symbol : Type 0 where
  mark : Mark → Symbol
  name : List ℕ → Symbol
  numeral : ℕ → Symbol

pub record Lexeme : Type 0 where
  pub place : ℕ
  pub symbol : Symbol

-- the number that digits write to base ten, behind the digits that write n
abbrev pub decimal : ℕ → List ℕ → ℕ
decimal n [] = n
decimal n (d ∷ ds) = decimal (10 * n + (d - 48)) ds

abbrev pub symbol : Kind → List ℕ → Symbol
symbol (kind.Mark m) bytes = mark m
symbol kind.Name bytes = name bytes
symbol kind.Numeral bytes = numeral (decimal 0 bytes)

-- a token of a text, spelled out
abbrev pub lexeme : List ℕ → Token → Lexeme
lexeme text t = record { place = t.place; symbol = symbol t.kind (take t.len (drop t.place text)) }
