-- What holds of the grammar and of the reading program: the tokens are a sentence with one tree, or there is a first bad token.
-- The sort at which the grammar starts is a parameter throughout.
use Rattle.std.specs.Prelude.{◌≡◌, ℕ, ◌+◌, ◌<◌, ◌≤◌, Bool, false, List, [], ◌++◌, length, take, drop, Some, None, Option}
use Rattle.tokens.specs.Lexeme.{Lexeme}
use Rattle.syntax.specs.Tree.{Tree}
use Rattle.grammar.specs.Grammar.{Sort, Derives}
use Rattle.grammar.specs.Steps.{parse, Out, out, body, Run}

-- a sentence begins with us
abbrev pub Begins : Sort → List Lexeme → Type 0
Begins s us = (onward : List Lexeme) × ((t : Tree) × Derives s (us ++ onward) t)

-- the tokens are an s, with this tree and no other
pub record Accepted (s : Sort) (ts : List Lexeme) (t : Tree) : Type 0 where
  pub derived : Derives s ts t
  pub only : (u : Tree) → Derives s ts u → u ≡ t

-- the first k tokens begin an s; with the next one, if there is one, they begin none; the tokens are no s
pub record Refused (s : Sort) (ts : List Lexeme) (k : ℕ) : Type 0 where
  pub within : k ≤ length ts
  pub begins : Begins s (take k ts)
  pub stops : k < length ts → Begins s (take (k + 1) ts) → ⊥
  pub none : (t : Tree) → Derives s ts t → ⊥

-- there is one tree only
abbrev pub OneTree : Type 0
OneTree = (s : Sort) (ts : List Lexeme) (t u : Tree) → Derives s ts t → Derives s ts u → t ≡ u

-- the program, started at s where no `in` follows, comes to an outcome
abbrev pub Comes : Sort → List Lexeme → Option Tree → List Lexeme → Type 0
Comes s ts v rest = (then : Bool) × Run (parse s false) (body (parse s false)) ts false (out v rest then)

-- the program has one outcome
abbrev pub OneOutcome : Type 0
OneOutcome = (s : Sort) (ts : List Lexeme) (o₁ o₂ : Out Tree) → Run (parse s false) (body (parse s false)) ts false o₁ → Run (parse s false) (body (parse s false)) ts false o₂ → o₁ ≡ o₂

-- whatever is derived is read to its end
abbrev pub Complete : Type 0
Complete = (s : Sort) (ts : List Lexeme) (t : Tree) → Derives s ts t → Comes s ts (Some t) []

-- what is read to its end is derived, with that tree alone
abbrev pub Sound : Type 0
Sound = (s : Sort) (ts : List Lexeme) (t : Tree) → Comes s ts (Some t) [] → Accepted s ts t

-- where the program refuses, or has read an s and tokens are left, there is the first bad token, or the end of the text
pub record FirstBad : Type 0 where
  pub refused : (s : Sort) (ts : List Lexeme) (k : ℕ) → k ≤ length ts → Comes s ts None (drop k ts) → Refused s ts k
  pub left : (s : Sort) (ts : List Lexeme) (k : ℕ) (t : Tree) → k < length ts → Comes s ts (Some t) (drop k ts) → Refused s ts k
