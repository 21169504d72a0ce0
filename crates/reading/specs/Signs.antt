-- The grammar's levels and operations, as the code names them.
use Rattle.std.specs.Prelude.{◌≡◌, ℕ, true, false, List, Some, None, Option, MatchOption}
use Rattle.syntax.specs.declared.Unary.{Unary}
use Rattle.tokens.specs.declared.Kind.{Kind}
use Rattle.tokens.specs.Lexeme.{Symbol, symbol}
use Rattle.grammar.specs.Grammar as grammar
use Rattle.grammar.specs.Steps.{Test}
use Rattle.reading.specs.declared.signs.Left.{Left}
use Rattle.reading.specs.declared.signs.Left.TheVariants as left
use Rattle.reading.specs.declared.signs.Lead.{Lead}
use Rattle.reading.specs.declared.signs.Lead.TheVariants as lead
use Rattle.reading.specs.declared.signs.Operation.{Operation}
use Rattle.reading.specs.declared.signs.Operation.TheVariants as operation
use Rattle.reading.specs.declared.signs.Infix.{Infix}
use Rattle.reading.specs.declared.signs.Infix.TheVariants as between

abbrev pub left_of : Left → grammar.Left
left_of left.Iff = grammar.Left.iff
left_of left.Or = grammar.Left.or
left_of left.And = grammar.Left.and
left_of left.Sum = grammar.Left.sum
left_of left.Product = grammar.Left.product

abbrev pub lead_of : Lead → grammar.Lead
lead_of lead.Not = grammar.Lead.not
lead_of lead.Minus = grammar.Lead.minus

abbrev pub operation_of : Operation → grammar.Operation
operation_of (operation.Strict o) = grammar.Operation.strict o
operation_of (operation.Deciding o) = grammar.Operation.deciding o

abbrev pub infix_of : Option Infix → grammar.Infix
infix_of None = grammar.Infix.nothing
infix_of (Some (between.Chains l o)) = grammar.Infix.chains (left_of l) (operation_of o)
infix_of (Some between.Implies) = grammar.Infix.implies
infix_of (Some (between.Relates o)) = grammar.Infix.relates o

abbrev pub prefix_of : Option (Lead × Unary) → grammar.Prefix
prefix_of None = grammar.Prefix.nothing
prefix_of (Some (l, o)) = grammar.Prefix.leads (lead_of l) o

-- a token of this kind, whatever it spells, fails the test, or passes it and goes with the value as P says
abbrev pub Tells : {A : Type 0} → Kind → Test → (Symbol → A → Type 0) → Option A → Type 0
Tells k t P r = (bytes : List ℕ) → MatchOption r (t (symbol k bytes) ≡ false) (λ a. (t (symbol k bytes) ≡ true) × P (symbol k bytes) a)
