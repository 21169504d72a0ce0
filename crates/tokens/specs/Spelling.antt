-- How the reserved words and signs are spelled, and their numbers in the order in which they are declared.
use Rattle.std.specs.Prelude.{ℕ, List, codes}
use Rattle.tokens.specs.declared.Mark.{Mark}
use Rattle.tokens.specs.declared.Mark.TheVariants as mark

abbrev pub spelling : Mark → List ℕ
spelling mark.Abs = codes "abs"
spelling mark.And = codes "and"
spelling mark.Be = codes "be"
spelling mark.Card = codes "card"
spelling mark.Cases = codes "cases"
spelling mark.Div = codes "div"
spelling mark.Elems = codes "elems"
spelling mark.Else = codes "else"
spelling mark.Elseif = codes "elseif"
spelling mark.End = codes "end"
spelling mark.Exists = codes "exists"
spelling mark.False = codes "false"
spelling mark.Forall = codes "forall"
spelling mark.Hd = codes "hd"
spelling mark.If = codes "if"
spelling mark.In = codes "in"
spelling mark.Inds = codes "inds"
spelling mark.Inter = codes "inter"
spelling mark.Len = codes "len"
spelling mark.Let = codes "let"
spelling mark.Mk = codes "mk_"
spelling mark.Mod = codes "mod"
spelling mark.Not = codes "not"
spelling mark.Or = codes "or"
spelling mark.Others = codes "others"
spelling mark.Psubset = codes "psubset"
spelling mark.Rem = codes "rem"
spelling mark.Set = codes "set"
spelling mark.St = codes "st"
spelling mark.Subset = codes "subset"
spelling mark.Then = codes "then"
spelling mark.Tl = codes "tl"
spelling mark.True = codes "true"
spelling mark.Union = codes "union"
spelling mark.Iff = codes "<=>"
spelling mark.Implies = codes "=>"
spelling mark.Equal = codes "="
spelling mark.NotEqual = codes "<>"
spelling mark.Less = codes "<"
spelling mark.LessEqual = codes "<="
spelling mark.Greater = codes ">"
spelling mark.GreaterEqual = codes ">="
spelling mark.Plus = codes "+"
spelling mark.Minus = codes "-"
spelling mark.Backslash = codes "\\"
spelling mark.Caret = codes "^"
spelling mark.Star = codes "*"
spelling mark.OpenParen = codes "("
spelling mark.CloseParen = codes ")"
spelling mark.OpenBracket = codes "["
spelling mark.CloseBracket = codes "]"
spelling mark.OpenBrace = codes "{"
spelling mark.CloseBrace = codes "}"
spelling mark.Comma = codes ","
spelling mark.Colon = codes ":"
spelling mark.Arrow = codes "->"
spelling mark.Ampersand = codes "&"
spelling mark.Bar = codes "|"
spelling mark.Ellipsis = codes "..."
spelling mark.Select = codes ".#"

abbrev pub number : Mark → ℕ
number mark.Abs = 0
number mark.And = 1
number mark.Be = 2
number mark.Card = 3
number mark.Cases = 4
number mark.Div = 5
number mark.Elems = 6
number mark.Else = 7
number mark.Elseif = 8
number mark.End = 9
number mark.Exists = 10
number mark.False = 11
number mark.Forall = 12
number mark.Hd = 13
number mark.If = 14
number mark.In = 15
number mark.Inds = 16
number mark.Inter = 17
number mark.Len = 18
number mark.Let = 19
number mark.Mk = 20
number mark.Mod = 21
number mark.Not = 22
number mark.Or = 23
number mark.Others = 24
number mark.Psubset = 25
number mark.Rem = 26
number mark.Set = 27
number mark.St = 28
number mark.Subset = 29
number mark.Then = 30
number mark.Tl = 31
number mark.True = 32
number mark.Union = 33
number mark.Iff = 34
number mark.Implies = 35
number mark.Equal = 36
number mark.NotEqual = 37
number mark.Less = 38
number mark.LessEqual = 39
number mark.Greater = 40
number mark.GreaterEqual = 41
number mark.Plus = 42
number mark.Minus = 43
number mark.Backslash = 44
number mark.Caret = 45
number mark.Star = 46
number mark.OpenParen = 47
number mark.CloseParen = 48
number mark.OpenBracket = 49
number mark.CloseBracket = 50
number mark.OpenBrace = 51
number mark.CloseBrace = 52
number mark.Comma = 53
number mark.Colon = 54
number mark.Arrow = 55
number mark.Ampersand = 56
number mark.Bar = 57
number mark.Ellipsis = 58
number mark.Select = 59
