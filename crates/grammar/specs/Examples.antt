-- Rules small enough to be looked at, with their trees or their first bad tokens. The tokens are numbered from 0.
use Rattle.std.specs.Prelude.{◌≡◌, ℕ, suc, List, [], ◌∷◌}
use Rattle.tokens.specs.declared.Mark.TheVariants as sign
use Rattle.tokens.specs.Lexeme.{Symbol, Lexeme}
use Rattle.syntax.specs.declared.Unary.TheVariants as un
use Rattle.syntax.specs.declared.Binary.TheVariants as bin
use Rattle.syntax.specs.declared.Connective.TheVariants as con
use Rattle.syntax.specs.declared.Quantifier.TheVariants as quant
use Rattle.syntax.specs.declared.Collection.TheVariants as coll
use Rattle.syntax.specs.Tree.{Pattern, Patterns, Tree, Alternatives, Optional}
use Rattle.syntax.specs.Names.{free}
use Rattle.grammar.specs.Grammar.{Sort}
use Rattle.grammar.specs.Sentences.{Accepted, Refused}
use Rattle.grammar.specs.Places.{Ascend}
use Rattle.grammar.specs.Order.{sites}
use Rattle.tokens.specs.declared.Mark.{Mark}

abbrev pub numbered : ℕ → List Symbol → List Lexeme
numbered n [] = []
numbered n (s ∷ ss) = record { place = n; symbol = s } ∷ numbered (suc n) ss

-- the names a, b, x and s, the numerals, a word or sign
abbrev pub a : Symbol
a = Symbol.name (97 ∷ [])

abbrev pub b : Symbol
b = Symbol.name (98 ∷ [])

abbrev pub x : Symbol
x = Symbol.name (120 ∷ [])

abbrev pub s : Symbol
s = Symbol.name (115 ∷ [])

abbrev pub n : ℕ → Symbol
n k = Symbol.numeral k

abbrev pub w : Mark → Symbol
w m = Symbol.mark m

abbrev A : ℕ → Tree
A p = Tree.name p (97 ∷ [])

abbrev B : ℕ → Tree
B p = Tree.name p (98 ∷ [])

abbrev X : ℕ → Tree
X p = Tree.name p (120 ∷ [])

abbrev S : ℕ → Tree
S p = Tree.name p (115 ∷ [])

abbrev pub Bad : List Symbol → ℕ → Type 0
Bad ss k = Refused Sort.expr (numbered 0 ss) k

abbrev pub Good : List Symbol → Tree → Type 0
Good ss t = Accepted Sort.expr (numbered 0 ss) t

pub record Examples : Type 0 where
  -- the empty text
  pub empty : Bad [] 0
  -- a in b
  pub in_b : Bad (a ∷ w sign.In ∷ b ∷ []) 2
  -- let x = (a in b) in s
  pub in_parentheses : Bad (w sign.Let ∷ x ∷ w sign.Equal ∷ w sign.OpenParen ∷ a ∷ w sign.In ∷ b ∷ w sign.CloseParen ∷ w sign.In ∷ s ∷ []) 6
  -- let x = a in b
  pub let_in : Good (w sign.Let ∷ x ∷ w sign.Equal ∷ a ∷ w sign.In ∷ b ∷ []) (Tree.let_in 0 (120 ∷ []) (A 3) (B 5))
  -- let x = a in set s in b
  pub let_in_set : Good (w sign.Let ∷ x ∷ w sign.Equal ∷ a ∷ w sign.In ∷ w sign.Set ∷ s ∷ w sign.In ∷ b ∷ []) (Tree.let_in 0 (120 ∷ []) (Tree.binary 4 bin.InSet (A 3) (S 6)) (B 8))
  -- let x = a < b in set s in x
  pub second_relation : Bad (w sign.Let ∷ x ∷ w sign.Equal ∷ a ∷ w sign.Less ∷ b ∷ w sign.In ∷ w sign.Set ∷ s ∷ w sign.In ∷ x ∷ []) 7
  -- let x = let a = b in x in s
  pub let_in_let : Good (w sign.Let ∷ x ∷ w sign.Equal ∷ w sign.Let ∷ a ∷ w sign.Equal ∷ b ∷ w sign.In ∷ x ∷ w sign.In ∷ s ∷ []) (Tree.let_in 0 (120 ∷ []) (Tree.let_in 3 (97 ∷ []) (B 6) (X 8)) (S 10))
  -- let x in set s be st a in b
  pub let_be : Good (w sign.Let ∷ x ∷ w sign.In ∷ w sign.Set ∷ s ∷ w sign.Be ∷ w sign.St ∷ a ∷ w sign.In ∷ b ∷ []) (Tree.let_be 0 (120 ∷ []) (S 4) (A 7) (B 9))
  -- let x = forall a in set s in b & x in b: the set of a bind is no place for a let to go on
  pub in_behind_bind : Bad (w sign.Let ∷ x ∷ w sign.Equal ∷ w sign.Forall ∷ a ∷ w sign.In ∷ w sign.Set ∷ s ∷ w sign.In ∷ b ∷ w sign.Ampersand ∷ x ∷ w sign.In ∷ b ∷ []) 9
  -- let x = forall a in set s & b in x
  pub in_behind_body : Good (w sign.Let ∷ x ∷ w sign.Equal ∷ w sign.Forall ∷ a ∷ w sign.In ∷ w sign.Set ∷ s ∷ w sign.Ampersand ∷ b ∷ w sign.In ∷ x ∷ []) (Tree.let_in 0 (120 ∷ []) (Tree.quantifier 3 quant.Forall (97 ∷ []) (S 7) (B 9)) (X 11))
  -- a not b
  pub not_b : Bad (a ∷ w sign.Not ∷ b ∷ []) 2
  -- a not in set s
  pub not_in_set : Good (a ∷ w sign.Not ∷ w sign.In ∷ w sign.Set ∷ s ∷ []) (Tree.binary 1 bin.NotInSet (A 0) (S 4))
  -- 1 < 2 < 3
  pub two_relations : Bad (n 1 ∷ w sign.Less ∷ n 2 ∷ w sign.Less ∷ n 3 ∷ []) 3
  -- a = not b
  pub not_behind_relation : Bad (a ∷ w sign.Equal ∷ w sign.Not ∷ b ∷ []) 2
  -- not a = b
  pub not_relation : Good (w sign.Not ∷ a ∷ w sign.Equal ∷ b ∷ []) (Tree.unary 0 un.Not (Tree.binary 2 bin.Equal (A 1) (B 3)))
  -- a => b => x
  pub to_the_right : Good (a ∷ w sign.Implies ∷ b ∷ w sign.Implies ∷ x ∷ []) (Tree.connective 1 con.Implies (A 0) (Tree.connective 3 con.Implies (B 2) (X 4)))
  -- a - b - - x * s
  pub to_the_left : Good (a ∷ w sign.Minus ∷ b ∷ w sign.Minus ∷ w sign.Minus ∷ x ∷ w sign.Star ∷ s ∷ []) (Tree.binary 3 bin.Minus (Tree.binary 1 bin.Minus (A 0) (B 2)) (Tree.binary 6 bin.Times (Tree.unary 4 un.Negate (X 5)) (S 7)))
  -- a (b) .# 2
  pub applied : Good (a ∷ w sign.OpenParen ∷ b ∷ w sign.CloseParen ∷ w sign.Select ∷ n 2 ∷ []) (Tree.selection 4 (Tree.binary 1 bin.Apply (A 0) (B 2)) 2)
  -- {1, ..., 2}
  pub range : Good (w sign.OpenBrace ∷ n 1 ∷ w sign.Comma ∷ w sign.Ellipsis ∷ w sign.Comma ∷ n 2 ∷ w sign.CloseBrace ∷ []) (Tree.range 0 (Tree.numeral 1 1) (Tree.numeral 5 2))
  -- {1, 2, ..., 3}
  pub late_range : Bad (w sign.OpenBrace ∷ n 1 ∷ w sign.Comma ∷ n 2 ∷ w sign.Comma ∷ w sign.Ellipsis ∷ w sign.Comma ∷ n 3 ∷ w sign.CloseBrace ∷ []) 5
  -- [1, ..., 2]
  pub sequence_range : Bad (w sign.OpenBracket ∷ n 1 ∷ w sign.Comma ∷ w sign.Ellipsis ∷ w sign.Comma ∷ n 2 ∷ w sign.CloseBracket ∷ []) 3
  -- {x | x in set s}
  pub comprehension : Good (w sign.OpenBrace ∷ x ∷ w sign.Bar ∷ x ∷ w sign.In ∷ w sign.Set ∷ s ∷ w sign.CloseBrace ∷ []) (Tree.comprehension 0 coll.Set (X 1) (120 ∷ []) (S 6) Optional.absent)
  -- mk_(1)
  pub one_part : Bad (w sign.Mk ∷ w sign.OpenParen ∷ n 1 ∷ w sign.CloseParen ∷ []) 3
  -- a tuple of nine parts
  pub nine_parts : Bad (w sign.Mk ∷ w sign.OpenParen ∷ a ∷ w sign.Comma ∷ a ∷ w sign.Comma ∷ a ∷ w sign.Comma ∷ a ∷ w sign.Comma ∷ a ∷ w sign.Comma ∷ a ∷ w sign.Comma ∷ a ∷ w sign.Comma ∷ a ∷ w sign.Comma ∷ a ∷ w sign.CloseParen ∷ []) 17
  -- cases 1: others -> 2 end
  pub others_alone : Bad (w sign.Cases ∷ n 1 ∷ w sign.Colon ∷ w sign.Others ∷ w sign.Arrow ∷ n 2 ∷ w sign.End ∷ []) 3
  -- cases a: [-] -> b, others -> x end
  pub cases_others : Good (w sign.Cases ∷ a ∷ w sign.Colon ∷ w sign.OpenBracket ∷ w sign.Minus ∷ w sign.CloseBracket ∷ w sign.Arrow ∷ b ∷ w sign.Comma ∷ w sign.Others ∷ w sign.Arrow ∷ x ∷ w sign.End ∷ [])
      (Tree.cases 0 (A 1) (Alternatives.alternative (Pattern.parts 3 coll.Sequence (Patterns.more (Pattern.any 4) Patterns.none)) (B 7) Alternatives.no_more) (Optional.present (X 11)))
  -- if a then b elseif x then s else a
  pub elseif : Good (w sign.If ∷ a ∷ w sign.Then ∷ b ∷ w sign.Elseif ∷ x ∷ w sign.Then ∷ s ∷ w sign.Else ∷ a ∷ []) (Tree.if_else 0 (A 1) (B 3) (Tree.if_else 4 (X 5) (S 7) (A 9)))
  -- a and if b then x else s
  pub if_as_operand : Bad (a ∷ w sign.And ∷ w sign.If ∷ b ∷ w sign.Then ∷ x ∷ w sign.Else ∷ s ∷ []) 2

-- {x + a | x in set s & x < b}
abbrev pub filter_text : List Symbol
filter_text = w sign.OpenBrace ∷ x ∷ w sign.Plus ∷ a ∷ w sign.Bar ∷ x ∷ w sign.In ∷ w sign.Set ∷ s ∷ w sign.Ampersand ∷ x ∷ w sign.Less ∷ b ∷ w sign.CloseBrace ∷ []

abbrev pub filter_tree : Tree
filter_tree = Tree.comprehension 0 coll.Set (Tree.binary 2 bin.Plus (X 1) (A 3)) (120 ∷ []) (S 8) (Optional.present (Tree.binary 11 bin.Less (X 10) (B 12)))

-- a rule whose free names are listed in the order of its text
pub record OrderExamples : Type 0 where
  -- {x + a | x in set s & x < b}
  pub filter : Good filter_text filter_tree
  -- its free names are a, s and b, in the order of the text
  pub filter_names : sites (free filter_tree []) ≡ 3 ∷ 8 ∷ 12 ∷ []
  -- the places of numbered tokens ascend
  pub ascend : (k : ℕ) (ss : List Symbol) → Ascend k (numbered k ss)
