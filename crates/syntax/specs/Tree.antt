-- The tree of a rule: expressions and patterns, each with its place in the text. Parentheses leave nothing here.
use Rattle.std.specs.Prelude.{ℕ, Bool, List}
use Rattle.syntax.specs.declared.Unary.{Unary}
use Rattle.syntax.specs.declared.Binary.{Binary}
use Rattle.syntax.specs.declared.Connective.{Connective}
use Rattle.syntax.specs.declared.Quantifier.{Quantifier}
use Rattle.syntax.specs.declared.Collection.{Collection}

abbrev pub Place : Type 0
Place = ℕ

-- a name is its bytes
abbrev pub Name : Type 0
Name = List ℕ

-- a numeral is the number that its digits write
mutual
  pub data Pattern : Type 0 where
    any : Place → Pattern
    binds : Place → Name → Pattern
    number : Place → ℕ → Pattern
    truth : Place → Bool → Pattern
    parts : Place → Collection → Patterns → Pattern

  pub data Patterns : Type 0 where
    none : Patterns
    more : Pattern → Patterns → Patterns

mutual
  pub data Tree : Type 0 where
    numeral : Place → ℕ → Tree
    truth : Place → Bool → Tree
    name : Place → Name → Tree
    unary : Place → Unary → Tree → Tree
    binary : Place → Binary → Tree → Tree → Tree
    connective : Place → Connective → Tree → Tree → Tree
    if_else : Place → Tree → Tree → Tree → Tree
    let_in : Place → Name → Tree → Tree → Tree
    -- name, set, condition, body
    let_be : Place → Name → Tree → Tree → Tree → Tree
    -- subject, alternatives, the right side of `others`
    cases : Place → Tree → Alternatives → Optional → Tree
    -- name, set, body
    quantifier : Place → Quantifier → Name → Tree → Tree → Tree
    collection : Place → Collection → Trees → Tree
    range : Place → Tree → Tree → Tree
    -- member, name, set, condition
    comprehension : Place → Collection → Tree → Name → Tree → Optional → Tree
    -- the tuple, the number of the part
    selection : Place → Tree → ℕ → Tree

  pub data Trees : Type 0 where
    none : Trees
    more : Tree → Trees → Trees

  pub data Alternatives : Type 0 where
    no_more : Alternatives
    alternative : Pattern → Tree → Alternatives → Alternatives

  pub data Optional : Type 0 where
    absent : Optional
    present : Tree → Optional
