-- The worked examples on trees, by computation. Each is named as in the language's document.
use Rattle.std.proofs.Common.{◌≡◌, ◌-◌, true, false, [], ◌∷◌, pos, negsuc, codes, refl, arith}
use Rattle.syntax.specs.declared.Unary.TheVariants as un
use Rattle.syntax.specs.declared.Binary.TheVariants as bin
use Rattle.syntax.specs.declared.Connective.TheVariants as con
use Rattle.syntax.specs.declared.Quantifier.TheVariants as quant
use Rattle.syntax.specs.declared.Collection.TheVariants as coll
use Rattle.syntax.specs.Tree.{Pattern, Patterns, Tree, numeral, name, unary, binary, connective, if_else, let_in, let_be, cases, quantifier, collection, range, comprehension, selection, Trees, no_more, alternative, absent, present}
use Rattle.values.specs.declared.Fault.TheVariants.{WrongKind, OutOfRange, DivisionByZero, TooLarge, OutOfBounds, NoCandidate, NoCase}
use Rattle.values.specs.Value.{number, truth, of}
use Rattle.values.specs.Operators as op
use Rattle.meaning.specs.Names.{nothing, Facts}
use Rattle.meaning.specs.Course.{value, fault}
use Rattle.meaning.specs.Eval.{eval}
use Rattle.meaning.specs.Play.{Chooser, by, outcome, begun}

abbrev first : Chooser
first = record { reply = λ p n. 0; below = λ p n. omega arith }

abbrev last : Chooser
last = record { reply = λ p n. n - 1; below = λ p n. omega arith }

abbrev facts : Facts
facts n = number (pos 0)

-- -7 mod 3
x1 : outcome (by first) (eval (binary 3 bin.Mod (unary 0 un.Negate (numeral 1 7)) (numeral 7 3)) facts nothing) ≡ (value (number (pos 2)))
unfolding eval op.unary op.binary op.select op.range op.grow
x1 = refl

-- -7 rem 3
x2 : outcome (by first) (eval (binary 3 bin.Rem (unary 0 un.Negate (numeral 1 7)) (numeral 7 3)) facts nothing) ≡ (value (number (negsuc 0)))
unfolding eval op.unary op.binary op.select op.range op.grow
x2 = refl

-- 7 mod -3
x3 : outcome (by first) (eval (binary 2 bin.Mod (numeral 0 7) (unary 6 un.Negate (numeral 7 3))) facts nothing) ≡ (value (number (negsuc 1)))
unfolding eval op.unary op.binary op.select op.range op.grow
x3 = refl

-- not 1 = 2
x4 : outcome (by first) (eval (unary 0 un.Not (binary 6 bin.Equal (numeral 4 1) (numeral 8 2))) facts nothing) ≡ (value (truth true))
unfolding eval op.unary op.binary op.select op.range op.grow
x4 = refl

-- true or 3
x5 : outcome (by first) (eval (connective 5 con.Or (Tree.truth 0 true) (numeral 8 3)) facts nothing) ≡ (value (truth true))
unfolding eval op.unary op.binary op.select op.range op.grow
x5 = refl

-- 1 div 0 = 1 or true
x6 : outcome (by first) (eval (connective 12 con.Or (binary 8 bin.Equal (binary 2 bin.Div (numeral 0 1) (numeral 6 0)) (numeral 10 1)) (Tree.truth 15 true)) facts nothing) ≡ (value (truth true))
unfolding eval op.unary op.binary op.select op.range op.grow
x6 = refl

-- exists c in set {} & c
x7 : outcome (by first) (eval (quantifier 0 quant.Exists (codes "c") (collection 16 coll.Set Trees.none) (name 21 (codes "c"))) facts nothing) ≡ (value (truth false))
unfolding eval op.unary op.binary op.select op.range op.grow
x7 = refl

-- forall x in set {0, 2} & 4 div x = 2
x8 : outcome (by first) (eval (quantifier 0 quant.Forall (codes "x") (collection 16 coll.Set (Trees.more (numeral 17 0) (Trees.more (numeral 20 2) Trees.none))) (binary 33 bin.Equal (binary 27 bin.Div (numeral 25 4) (name 31 (codes "x"))) (numeral 35 2))) facts nothing) ≡ (fault DivisionByZero 27)
unfolding eval op.unary op.binary op.select op.range op.grow
x8 = refl

x8_list : begun (by first) (eval (quantifier 0 quant.Forall (codes "x") (collection 16 coll.Set (Trees.more (numeral 17 0) (Trees.more (numeral 20 2) Trees.none))) (binary 33 bin.Equal (binary 27 bin.Div (numeral 25 4) (name 31 (codes "x"))) (numeral 35 2))) facts nothing) ≡ 0 ∷ 16 ∷ 17 ∷ 20 ∷ 33 ∷ 27 ∷ 25 ∷ 31 ∷ 33 ∷ 27 ∷ 25 ∷ 31 ∷ 35 ∷ []
unfolding eval op.unary op.binary op.select op.range op.grow
x8_list = refl

-- let x in set {1, 2} be st 1 div (x - 2) < 0 in x
x9 : outcome (by first) (eval (let_be 0 (codes "x") (collection 13 coll.Set (Trees.more (numeral 14 1) (Trees.more (numeral 17 2) Trees.none))) (binary 40 bin.Less (binary 28 bin.Div (numeral 26 1) (binary 35 bin.Minus (name 33 (codes "x")) (numeral 37 2))) (numeral 42 0)) (name 47 (codes "x"))) facts nothing) ≡ (value (number (pos 1)))
unfolding eval op.unary op.binary op.select op.range op.grow
x9 = refl

-- cases []: [a] -> 1, [] -> 2 end
x10 : outcome (by first) (eval (cases 0 (collection 6 coll.Sequence Trees.none) (alternative (Pattern.parts 10 coll.Sequence (Patterns.more (Pattern.binds 11 (codes "a")) Patterns.none)) (numeral 17 1) (alternative (Pattern.parts 20 coll.Sequence Patterns.none) (numeral 26 2) no_more)) absent) facts nothing) ≡ (value (number (pos 2)))
unfolding eval op.unary op.binary op.select op.range op.grow
x10 = refl

-- {1, ..., 100}
x12 : outcome (by first) (eval (range 0 (numeral 1 1) (numeral 9 100)) facts nothing) ≡ (fault TooLarge 0)
unfolding eval op.unary op.binary op.select op.range op.grow
x12 = refl

-- 2147483647 + 1
x13 : outcome (by first) (eval (binary 11 bin.Plus (numeral 0 2147483647) (numeral 13 1)) facts nothing) ≡ (fault OutOfRange 11)
unfolding eval op.unary op.binary op.select op.range op.grow
x13 = refl

-- {1 div 0} union {2}
x16 : outcome (by first) (eval (binary 10 bin.Union (collection 0 coll.Set (Trees.more (binary 3 bin.Div (numeral 1 1) (numeral 7 0)) Trees.none)) (collection 16 coll.Set (Trees.more (numeral 17 2) Trees.none))) facts nothing) ≡ (fault DivisionByZero 3)
unfolding eval op.unary op.binary op.select op.range op.grow
x16 = refl

-- 1--2
x17 : outcome (by first) (eval (numeral 0 1) facts nothing) ≡ (value (number (pos 1)))
unfolding eval op.unary op.binary op.select op.range op.grow
x17 = refl

-- 1 - -2
x18 : outcome (by first) (eval (binary 2 bin.Minus (numeral 0 1) (unary 4 un.Negate (numeral 5 2))) facts nothing) ≡ (value (number (pos 3)))
unfolding eval op.unary op.binary op.select op.range op.grow
x18 = refl

-- 0000000000000000007
x23 : outcome (by first) (eval (numeral 0 7) facts nothing) ≡ (value (number (pos 7)))
unfolding eval op.unary op.binary op.select op.range op.grow
x23 = refl

-- {1,...,3}
x24 : outcome (by first) (eval (range 0 (numeral 1 1) (numeral 7 3)) facts nothing) ≡ (value (of coll.Set ((number (pos 1)) ∷ (number (pos 2)) ∷ (number (pos 3)) ∷ [])))
unfolding eval op.unary op.binary op.select op.range op.grow
x24 = refl

-- let x = 1 in set {1} in x
x29 : outcome (by first) (eval (let_in 0 (codes "x") (binary 10 bin.InSet (numeral 8 1) (collection 17 coll.Set (Trees.more (numeral 18 1) Trees.none))) (name 24 (codes "x"))) facts nothing) ≡ (value (truth true))
unfolding eval op.unary op.binary op.select op.range op.grow
x29 = refl

-- 2 - 1 - 1
x41 : outcome (by first) (eval (binary 6 bin.Minus (binary 2 bin.Minus (numeral 0 2) (numeral 4 1)) (numeral 8 1)) facts nothing) ≡ (value (number (pos 0)))
unfolding eval op.unary op.binary op.select op.range op.grow
x41 = refl

x41_list : begun (by first) (eval (binary 6 bin.Minus (binary 2 bin.Minus (numeral 0 2) (numeral 4 1)) (numeral 8 1)) facts nothing) ≡ 6 ∷ 2 ∷ 0 ∷ 4 ∷ 8 ∷ []
unfolding eval op.unary op.binary op.select op.range op.grow
x41_list = refl

-- false => false => false
x42 : outcome (by first) (eval (connective 6 con.Implies (Tree.truth 0 false) (connective 15 con.Implies (Tree.truth 9 false) (Tree.truth 18 false))) facts nothing) ≡ (value (truth true))
unfolding eval op.unary op.binary op.select op.range op.grow
x42 = refl

x42_list : begun (by first) (eval (connective 6 con.Implies (Tree.truth 0 false) (connective 15 con.Implies (Tree.truth 9 false) (Tree.truth 18 false))) facts nothing) ≡ 6 ∷ 0 ∷ []
unfolding eval op.unary op.binary op.select op.range op.grow
x42_list = refl

-- -2 mod 3
x43 : outcome (by first) (eval (binary 3 bin.Mod (unary 0 un.Negate (numeral 1 2)) (numeral 7 3)) facts nothing) ≡ (value (number (pos 1)))
unfolding eval op.unary op.binary op.select op.range op.grow
x43 = refl

-- [4, 5](1) + mk_(6, 7).#2
x44 : outcome (by first) (eval (binary 10 bin.Plus (binary 6 bin.Apply (collection 0 coll.Sequence (Trees.more (numeral 1 4) (Trees.more (numeral 4 5) Trees.none))) (numeral 7 1)) (selection 21 (collection 12 coll.Tuple (Trees.more (numeral 16 6) (Trees.more (numeral 19 7) Trees.none))) 2)) facts nothing) ≡ (value (number (pos 11)))
unfolding eval op.unary op.binary op.select op.range op.grow
x44 = refl

x44_list : begun (by first) (eval (binary 10 bin.Plus (binary 6 bin.Apply (collection 0 coll.Sequence (Trees.more (numeral 1 4) (Trees.more (numeral 4 5) Trees.none))) (numeral 7 1)) (selection 21 (collection 12 coll.Tuple (Trees.more (numeral 16 6) (Trees.more (numeral 19 7) Trees.none))) 2)) facts nothing) ≡ 10 ∷ 6 ∷ 0 ∷ 1 ∷ 4 ∷ 7 ∷ 21 ∷ 12 ∷ 16 ∷ 19 ∷ []
unfolding eval op.unary op.binary op.select op.range op.grow
x44_list = refl

-- let x = 1 in let x = x + 1 in x
x55 : outcome (by first) (eval (let_in 0 (codes "x") (numeral 8 1) (let_in 13 (codes "x") (binary 23 bin.Plus (name 21 (codes "x")) (numeral 25 1)) (name 30 (codes "x")))) facts nothing) ≡ (value (number (pos 2)))
unfolding eval op.unary op.binary op.select op.range op.grow
x55 = refl

-- let x = 1 in (let x = 2 in x) + x
x56 : outcome (by first) (eval (let_in 0 (codes "x") (numeral 8 1) (binary 30 bin.Plus (let_in 14 (codes "x") (numeral 22 2) (name 27 (codes "x"))) (name 32 (codes "x")))) facts nothing) ≡ (value (number (pos 3)))
unfolding eval op.unary op.binary op.select op.range op.grow
x56 = refl

-- let x = {1, 2} in {x + 1 | x in set x}
x57 : outcome (by first) (eval (let_in 0 (codes "x") (collection 8 coll.Set (Trees.more (numeral 9 1) (Trees.more (numeral 12 2) Trees.none))) (comprehension 18 coll.Set (binary 21 bin.Plus (name 19 (codes "x")) (numeral 23 1)) (codes "x") (name 36 (codes "x")) absent)) facts nothing) ≡ (value (of coll.Set ((number (pos 2)) ∷ (number (pos 3)) ∷ [])))
unfolding eval op.unary op.binary op.select op.range op.grow
x57 = refl

-- let s = 1 in cases 2: s -> s, others -> 0 end
x58 : outcome (by first) (eval (let_in 0 (codes "s") (numeral 8 1) (cases 13 (numeral 19 2) (alternative (Pattern.binds 22 (codes "s")) (name 27 (codes "s")) no_more) (present (numeral 40 0)))) facts nothing) ≡ (value (number (pos 2)))
unfolding eval op.unary op.binary op.select op.range op.grow
x58 = refl

-- 1(1 div 0)
x59 : outcome (by first) (eval (binary 1 bin.Apply (numeral 0 1) (binary 4 bin.Div (numeral 2 1) (numeral 8 0))) facts nothing) ≡ (fault DivisionByZero 4)
unfolding eval op.unary op.binary op.select op.range op.grow
x59 = refl

x59_list : begun (by first) (eval (binary 1 bin.Apply (numeral 0 1) (binary 4 bin.Div (numeral 2 1) (numeral 8 0))) facts nothing) ≡ 1 ∷ 0 ∷ 4 ∷ 2 ∷ 8 ∷ []
unfolding eval op.unary op.binary op.select op.range op.grow
x59_list = refl

-- true div 0
x60 : outcome (by first) (eval (binary 5 bin.Div (Tree.truth 0 true) (numeral 9 0)) facts nothing) ≡ (fault WrongKind 5)
unfolding eval op.unary op.binary op.select op.range op.grow
x60 = refl

-- [](true)
x61 : outcome (by first) (eval (binary 2 bin.Apply (collection 0 coll.Sequence Trees.none) (Tree.truth 3 true)) facts nothing) ≡ (fault WrongKind 2)
unfolding eval op.unary op.binary op.select op.range op.grow
x61 = refl

-- [1, 1 div 0, hd []]
x62 : outcome (by first) (eval (collection 0 coll.Sequence (Trees.more (numeral 1 1) (Trees.more (binary 6 bin.Div (numeral 4 1) (numeral 10 0)) (Trees.more (unary 13 un.Hd (collection 16 coll.Sequence Trees.none)) Trees.none)))) facts nothing) ≡ (fault DivisionByZero 6)
unfolding eval op.unary op.binary op.select op.range op.grow
x62 = refl

x62_list : begun (by first) (eval (collection 0 coll.Sequence (Trees.more (numeral 1 1) (Trees.more (binary 6 bin.Div (numeral 4 1) (numeral 10 0)) (Trees.more (unary 13 un.Hd (collection 16 coll.Sequence Trees.none)) Trees.none)))) facts nothing) ≡ 0 ∷ 1 ∷ 6 ∷ 4 ∷ 10 ∷ []
unfolding eval op.unary op.binary op.select op.range op.grow
x62_list = refl

-- mk_({1, ..., 99}, 1 div 0)
x63 : outcome (by first) (eval (collection 0 coll.Tuple (Trees.more (range 4 (numeral 5 1) (numeral 13 99)) (Trees.more (binary 20 bin.Div (numeral 18 1) (numeral 24 0)) Trees.none))) facts nothing) ≡ (fault TooLarge 0)
unfolding eval op.unary op.binary op.select op.range op.grow
x63 = refl

x63_list : begun (by first) (eval (collection 0 coll.Tuple (Trees.more (range 4 (numeral 5 1) (numeral 13 99)) (Trees.more (binary 20 bin.Div (numeral 18 1) (numeral 24 0)) Trees.none))) facts nothing) ≡ 0 ∷ 4 ∷ 5 ∷ 13 ∷ []
unfolding eval op.unary op.binary op.select op.range op.grow
x63_list = refl

-- [{1, ..., 49}, {1, ..., 49}, hd []]
x64 : outcome (by first) (eval (collection 0 coll.Sequence (Trees.more (range 1 (numeral 2 1) (numeral 10 49)) (Trees.more (range 15 (numeral 16 1) (numeral 24 49)) (Trees.more (unary 29 un.Hd (collection 32 coll.Sequence Trees.none)) Trees.none)))) facts nothing) ≡ (fault TooLarge 0)
unfolding eval op.unary op.binary op.select op.range op.grow
x64 = refl

-- card ({1, ..., 60} union {40, ..., 99})
x65 : outcome (by first) (eval (unary 0 un.Card (binary 19 bin.Union (range 6 (numeral 7 1) (numeral 15 60)) (range 25 (numeral 26 40) (numeral 35 99)))) facts nothing) ≡ (value (number (pos 99)))
unfolding eval op.unary op.binary op.select op.range op.grow
x65 = refl

-- {1, ..., 60} union {61, ..., 100}
x66 : outcome (by first) (eval (binary 13 bin.Union (range 0 (numeral 1 1) (numeral 9 60)) (range 19 (numeral 20 61) (numeral 29 100))) facts nothing) ≡ (fault TooLarge 13)
unfolding eval op.unary op.binary op.select op.range op.grow
x66 = refl

-- mk_(1, 2).#3
x68 : outcome (by first) (eval (selection 9 (collection 0 coll.Tuple (Trees.more (numeral 4 1) (Trees.more (numeral 7 2) Trees.none))) 3) facts nothing) ≡ (fault OutOfBounds 9)
unfolding eval op.unary op.binary op.select op.range op.grow
x68 = refl

-- (1).#1
x69 : outcome (by first) (eval (selection 3 (numeral 1 1) 1) facts nothing) ≡ (fault WrongKind 3)
unfolding eval op.unary op.binary op.select op.range op.grow
x69 = refl

x69_list : begun (by first) (eval (selection 3 (numeral 1 1) 1) facts nothing) ≡ 3 ∷ 1 ∷ []
unfolding eval op.unary op.binary op.select op.range op.grow
x69_list = refl

-- [5, 6](3)
x70 : outcome (by first) (eval (binary 6 bin.Apply (collection 0 coll.Sequence (Trees.more (numeral 1 5) (Trees.more (numeral 4 6) Trees.none))) (numeral 7 3)) facts nothing) ≡ (fault OutOfBounds 6)
unfolding eval op.unary op.binary op.select op.range op.grow
x70 = refl

-- -2147483647 - 1
x71 : outcome (by first) (eval (binary 12 bin.Minus (unary 0 un.Negate (numeral 1 2147483647)) (numeral 14 1)) facts nothing) ≡ (fault OutOfRange 12)
unfolding eval op.unary op.binary op.select op.range op.grow
x71 = refl

-- -2147483647 mod 2
x72 : outcome (by first) (eval (binary 12 bin.Mod (unary 0 un.Negate (numeral 1 2147483647)) (numeral 16 2)) facts nothing) ≡ (value (number (pos 1)))
unfolding eval op.unary op.binary op.select op.range op.grow
x72 = refl

-- 1 = true
x73 : outcome (by first) (eval (binary 2 bin.Equal (numeral 0 1) (Tree.truth 4 true)) facts nothing) ≡ (value (truth false))
unfolding eval op.unary op.binary op.select op.range op.grow
x73 = refl

-- 1 in set 2
x74 : outcome (by first) (eval (binary 2 bin.InSet (numeral 0 1) (numeral 9 2)) facts nothing) ≡ (fault WrongKind 2)
unfolding eval op.unary op.binary op.select op.range op.grow
x74 = refl

-- 3 or 1 div 0
x75 : outcome (by first) (eval (connective 2 con.Or (numeral 0 3) (binary 7 bin.Div (numeral 5 1) (numeral 11 0))) facts nothing) ≡ (fault WrongKind 2)
unfolding eval op.unary op.binary op.select op.range op.grow
x75 = refl

x75_list : begun (by first) (eval (connective 2 con.Or (numeral 0 3) (binary 7 bin.Div (numeral 5 1) (numeral 11 0))) facts nothing) ≡ 2 ∷ 0 ∷ 7 ∷ 5 ∷ 11 ∷ []
unfolding eval op.unary op.binary op.select op.range op.grow
x75_list = refl

-- 1 div 0 = 1 or 3
x76 : outcome (by first) (eval (connective 12 con.Or (binary 8 bin.Equal (binary 2 bin.Div (numeral 0 1) (numeral 6 0)) (numeral 10 1)) (numeral 15 3)) facts nothing) ≡ (fault DivisionByZero 2)
unfolding eval op.unary op.binary op.select op.range op.grow
x76 = refl

-- 1 div 0 = 1 and hd [] = 1
x77 : outcome (by first) (eval (connective 12 con.And (binary 8 bin.Equal (binary 2 bin.Div (numeral 0 1) (numeral 6 0)) (numeral 10 1)) (binary 22 bin.Equal (unary 16 un.Hd (collection 19 coll.Sequence Trees.none)) (numeral 24 1))) facts nothing) ≡ (fault DivisionByZero 2)
unfolding eval op.unary op.binary op.select op.range op.grow
x77 = refl

x77_list : begun (by first) (eval (connective 12 con.And (binary 8 bin.Equal (binary 2 bin.Div (numeral 0 1) (numeral 6 0)) (numeral 10 1)) (binary 22 bin.Equal (unary 16 un.Hd (collection 19 coll.Sequence Trees.none)) (numeral 24 1))) facts nothing) ≡ 12 ∷ 8 ∷ 2 ∷ 0 ∷ 6 ∷ 22 ∷ 16 ∷ 19 ∷ []
unfolding eval op.unary op.binary op.select op.range op.grow
x77_list = refl

-- false or hd [] = 1
x78 : outcome (by first) (eval (connective 6 con.Or (Tree.truth 0 false) (binary 15 bin.Equal (unary 9 un.Hd (collection 12 coll.Sequence Trees.none)) (numeral 17 1))) facts nothing) ≡ (fault OutOfBounds 9)
unfolding eval op.unary op.binary op.select op.range op.grow
x78 = refl

-- 3 or true
x79 : outcome (by first) (eval (connective 2 con.Or (numeral 0 3) (Tree.truth 5 true)) facts nothing) ≡ (value (truth true))
unfolding eval op.unary op.binary op.select op.range op.grow
x79 = refl

x79_list : begun (by first) (eval (connective 2 con.Or (numeral 0 3) (Tree.truth 5 true)) facts nothing) ≡ 2 ∷ 0 ∷ 5 ∷ []
unfolding eval op.unary op.binary op.select op.range op.grow
x79_list = refl

-- 1 div 0 = 1 and false
x80 : outcome (by first) (eval (connective 12 con.And (binary 8 bin.Equal (binary 2 bin.Div (numeral 0 1) (numeral 6 0)) (numeral 10 1)) (Tree.truth 16 false)) facts nothing) ≡ (value (truth false))
unfolding eval op.unary op.binary op.select op.range op.grow
x80 = refl

-- true and 3
x81 : outcome (by first) (eval (connective 5 con.And (Tree.truth 0 true) (numeral 9 3)) facts nothing) ≡ (fault WrongKind 5)
unfolding eval op.unary op.binary op.select op.range op.grow
x81 = refl

-- 3 => true
x82 : outcome (by first) (eval (connective 2 con.Implies (numeral 0 3) (Tree.truth 5 true)) facts nothing) ≡ (value (truth true))
unfolding eval op.unary op.binary op.select op.range op.grow
x82 = refl

-- true => 3
x83 : outcome (by first) (eval (connective 5 con.Implies (Tree.truth 0 true) (numeral 8 3)) facts nothing) ≡ (fault WrongKind 5)
unfolding eval op.unary op.binary op.select op.range op.grow
x83 = refl

-- false => 1 div 0 = 1
x84 : outcome (by first) (eval (connective 6 con.Implies (Tree.truth 0 false) (binary 17 bin.Equal (binary 11 bin.Div (numeral 9 1) (numeral 15 0)) (numeral 19 1))) facts nothing) ≡ (value (truth true))
unfolding eval op.unary op.binary op.select op.range op.grow
x84 = refl

x84_list : begun (by first) (eval (connective 6 con.Implies (Tree.truth 0 false) (binary 17 bin.Equal (binary 11 bin.Div (numeral 9 1) (numeral 15 0)) (numeral 19 1))) facts nothing) ≡ 6 ∷ 0 ∷ []
unfolding eval op.unary op.binary op.select op.range op.grow
x84_list = refl

-- true <=> 1 div 0 = 1
x85 : outcome (by first) (eval (binary 5 bin.Iff (Tree.truth 0 true) (binary 17 bin.Equal (binary 11 bin.Div (numeral 9 1) (numeral 15 0)) (numeral 19 1))) facts nothing) ≡ (fault DivisionByZero 11)
unfolding eval op.unary op.binary op.select op.range op.grow
x85 = refl

-- 1 div 0 = 1 or (exists c in set {} & c)
x86 : outcome (by first) (eval (connective 12 con.Or (binary 8 bin.Equal (binary 2 bin.Div (numeral 0 1) (numeral 6 0)) (numeral 10 1)) (quantifier 16 quant.Exists (codes "c") (collection 32 coll.Set Trees.none) (name 37 (codes "c")))) facts nothing) ≡ (fault DivisionByZero 2)
unfolding eval op.unary op.binary op.select op.range op.grow
x86 = refl

-- if 1 then 2 else 3
x87 : outcome (by first) (eval (if_else 0 (numeral 3 1) (numeral 10 2) (numeral 17 3)) facts nothing) ≡ (fault WrongKind 0)
unfolding eval op.unary op.binary op.select op.range op.grow
x87 = refl

x87_list : begun (by first) (eval (if_else 0 (numeral 3 1) (numeral 10 2) (numeral 17 3)) facts nothing) ≡ 0 ∷ 3 ∷ []
unfolding eval op.unary op.binary op.select op.range op.grow
x87_list = refl

-- if false then 1 elseif true then 2 else 1 div 0
x88 : outcome (by first) (eval (if_else 0 (Tree.truth 3 false) (numeral 14 1) (if_else 16 (Tree.truth 23 true) (numeral 33 2) (binary 42 bin.Div (numeral 40 1) (numeral 46 0)))) facts nothing) ≡ (value (number (pos 2)))
unfolding eval op.unary op.binary op.select op.range op.grow
x88 = refl

x88_list : begun (by first) (eval (if_else 0 (Tree.truth 3 false) (numeral 14 1) (if_else 16 (Tree.truth 23 true) (numeral 33 2) (binary 42 bin.Div (numeral 40 1) (numeral 46 0)))) facts nothing) ≡ 0 ∷ 3 ∷ 16 ∷ 23 ∷ 33 ∷ []
unfolding eval op.unary op.binary op.select op.range op.grow
x88_list = refl

-- cases mk_(1, [2, 3]): mk_(1, [a]) -> a, mk_(1, [a, b]) -> a + b end
x89 : outcome (by first) (eval (cases 0 (collection 6 coll.Tuple (Trees.more (numeral 10 1) (Trees.more (collection 13 coll.Sequence (Trees.more (numeral 14 2) (Trees.more (numeral 17 3) Trees.none))) Trees.none))) (alternative (Pattern.parts 22 coll.Tuple (Patterns.more (Pattern.number 26 1) (Patterns.more (Pattern.parts 29 coll.Sequence (Patterns.more (Pattern.binds 30 (codes "a")) Patterns.none)) Patterns.none))) (name 37 (codes "a")) (alternative (Pattern.parts 40 coll.Tuple (Patterns.more (Pattern.number 44 1) (Patterns.more (Pattern.parts 47 coll.Sequence (Patterns.more (Pattern.binds 48 (codes "a")) (Patterns.more (Pattern.binds 51 (codes "b")) Patterns.none))) Patterns.none))) (binary 60 bin.Plus (name 58 (codes "a")) (name 62 (codes "b"))) no_more)) absent) facts nothing) ≡ (value (number (pos 5)))
unfolding eval op.unary op.binary op.select op.range op.grow
x89 = refl

-- cases 3: 1 -> 2 end
x90 : outcome (by first) (eval (cases 0 (numeral 6 3) (alternative (Pattern.number 9 1) (numeral 14 2) no_more) absent) facts nothing) ≡ (fault NoCase 0)
unfolding eval op.unary op.binary op.select op.range op.grow
x90 = refl

-- [10 * x | x in set {3, 1, 2} & x <> 2]
x91 : outcome (by first) (eval (comprehension 0 coll.Sequence (binary 4 bin.Times (numeral 1 10) (name 6 (codes "x"))) (codes "x") (collection 19 coll.Set (Trees.more (numeral 20 3) (Trees.more (numeral 23 1) (Trees.more (numeral 26 2) Trees.none)))) (present (binary 33 bin.NotEqual (name 31 (codes "x")) (numeral 36 2)))) facts nothing) ≡ (value (of coll.Sequence ((number (pos 10)) ∷ (number (pos 30)) ∷ [])))
unfolding eval op.unary op.binary op.select op.range op.grow
x91 = refl

x91_list : begun (by first) (eval (comprehension 0 coll.Sequence (binary 4 bin.Times (numeral 1 10) (name 6 (codes "x"))) (codes "x") (collection 19 coll.Set (Trees.more (numeral 20 3) (Trees.more (numeral 23 1) (Trees.more (numeral 26 2) Trees.none)))) (present (binary 33 bin.NotEqual (name 31 (codes "x")) (numeral 36 2)))) facts nothing) ≡ 0 ∷ 19 ∷ 20 ∷ 23 ∷ 26 ∷ 33 ∷ 31 ∷ 36 ∷ 4 ∷ 1 ∷ 6 ∷ 33 ∷ 31 ∷ 36 ∷ 33 ∷ 31 ∷ 36 ∷ 4 ∷ 1 ∷ 6 ∷ []
unfolding eval op.unary op.binary op.select op.range op.grow
x91_list = refl

-- {1 div x | x in set {0, 1} & x > 0}
x92 : outcome (by first) (eval (comprehension 0 coll.Set (binary 3 bin.Div (numeral 1 1) (name 7 (codes "x"))) (codes "x") (collection 20 coll.Set (Trees.more (numeral 21 0) (Trees.more (numeral 24 1) Trees.none))) (present (binary 31 bin.Greater (name 29 (codes "x")) (numeral 33 0)))) facts nothing) ≡ (value (of coll.Set ((number (pos 1)) ∷ [])))
unfolding eval op.unary op.binary op.select op.range op.grow
x92 = refl

-- {1 | x in set {1, 2} & x}
x93 : outcome (by first) (eval (comprehension 0 coll.Set (numeral 1 1) (codes "x") (collection 14 coll.Set (Trees.more (numeral 15 1) (Trees.more (numeral 18 2) Trees.none))) (present (name 23 (codes "x")))) facts nothing) ≡ (fault WrongKind 0)
unfolding eval op.unary op.binary op.select op.range op.grow
x93 = refl

x93_list : begun (by first) (eval (comprehension 0 coll.Set (numeral 1 1) (codes "x") (collection 14 coll.Set (Trees.more (numeral 15 1) (Trees.more (numeral 18 2) Trees.none))) (present (name 23 (codes "x")))) facts nothing) ≡ 0 ∷ 14 ∷ 15 ∷ 18 ∷ 23 ∷ []
unfolding eval op.unary op.binary op.select op.range op.grow
x93_list = refl

-- [x | x in set {1, true} & 1 div 0 = 1]
x94 : outcome (by first) (eval (comprehension 0 coll.Sequence (name 1 (codes "x")) (codes "x") (collection 14 coll.Set (Trees.more (numeral 15 1) (Trees.more (Tree.truth 18 true) Trees.none))) (present (binary 34 bin.Equal (binary 28 bin.Div (numeral 26 1) (numeral 32 0)) (numeral 36 1)))) facts nothing) ≡ (fault WrongKind 0)
unfolding eval op.unary op.binary op.select op.range op.grow
x94 = refl

x94_list : begun (by first) (eval (comprehension 0 coll.Sequence (name 1 (codes "x")) (codes "x") (collection 14 coll.Set (Trees.more (numeral 15 1) (Trees.more (Tree.truth 18 true) Trees.none))) (present (binary 34 bin.Equal (binary 28 bin.Div (numeral 26 1) (numeral 32 0)) (numeral 36 1)))) facts nothing) ≡ 0 ∷ 14 ∷ 15 ∷ 18 ∷ []
unfolding eval op.unary op.binary op.select op.range op.grow
x94_list = refl

-- [x = 1 | x in set {1, 2}]
x95 : outcome (by first) (eval (comprehension 0 coll.Sequence (binary 3 bin.Equal (name 1 (codes "x")) (numeral 5 1)) (codes "x") (collection 18 coll.Set (Trees.more (numeral 19 1) (Trees.more (numeral 22 2) Trees.none))) absent) facts nothing) ≡ (value (of coll.Sequence ((truth true) ∷ (truth false) ∷ [])))
unfolding eval op.unary op.binary op.select op.range op.grow
x95 = refl

-- {x * x | x in set {-2, 2}}
x96 : outcome (by first) (eval (comprehension 0 coll.Set (binary 3 bin.Times (name 1 (codes "x")) (name 5 (codes "x"))) (codes "x") (collection 18 coll.Set (Trees.more (unary 19 un.Negate (numeral 20 2)) (Trees.more (numeral 23 2) Trees.none))) absent) facts nothing) ≡ (value (of coll.Set ((number (pos 4)) ∷ [])))
unfolding eval op.unary op.binary op.select op.range op.grow
x96 = refl

-- exists x in set {0, 1} & 1 div x = 1
x97 : outcome (by first) (eval (quantifier 0 quant.Exists (codes "x") (collection 16 coll.Set (Trees.more (numeral 17 0) (Trees.more (numeral 20 1) Trees.none))) (binary 33 bin.Equal (binary 27 bin.Div (numeral 25 1) (name 31 (codes "x"))) (numeral 35 1))) facts nothing) ≡ (value (truth true))
unfolding eval op.unary op.binary op.select op.range op.grow
x97 = refl

-- forall x in set {0, 1, 2} & 1 div x = 1
x98 : outcome (by first) (eval (quantifier 0 quant.Forall (codes "x") (collection 16 coll.Set (Trees.more (numeral 17 0) (Trees.more (numeral 20 1) (Trees.more (numeral 23 2) Trees.none)))) (binary 36 bin.Equal (binary 30 bin.Div (numeral 28 1) (name 34 (codes "x"))) (numeral 38 1))) facts nothing) ≡ (value (truth false))
unfolding eval op.unary op.binary op.select op.range op.grow
x98 = refl

-- forall x in set {0, 1} & x
x99 : outcome (by first) (eval (quantifier 0 quant.Forall (codes "x") (collection 16 coll.Set (Trees.more (numeral 17 0) (Trees.more (numeral 20 1) Trees.none))) (name 25 (codes "x"))) facts nothing) ≡ (fault WrongKind 0)
unfolding eval op.unary op.binary op.select op.range op.grow
x99 = refl

-- exists x in set {0, 1} & if x = 0 then 7 > 8 else x
x100 : outcome (by first) (eval (quantifier 0 quant.Exists (codes "x") (collection 16 coll.Set (Trees.more (numeral 17 0) (Trees.more (numeral 20 1) Trees.none))) (if_else 25 (binary 30 bin.Equal (name 28 (codes "x")) (numeral 32 0)) (binary 41 bin.Greater (numeral 39 7) (numeral 43 8)) (name 50 (codes "x")))) facts nothing) ≡ (fault WrongKind 0)
unfolding eval op.unary op.binary op.select op.range op.grow
x100 = refl

-- exists x in set 3 & true
x101 : outcome (by first) (eval (quantifier 0 quant.Exists (codes "x") (numeral 16 3) (Tree.truth 20 true)) facts nothing) ≡ (fault WrongKind 0)
unfolding eval op.unary op.binary op.select op.range op.grow
x101 = refl

-- {{2}, {1}, 1, [], mk_(1, 2), true, {}, false, {1, 2}}
x102 : outcome (by first) (eval (collection 0 coll.Set (Trees.more (collection 1 coll.Set (Trees.more (numeral 2 2) Trees.none)) (Trees.more (collection 6 coll.Set (Trees.more (numeral 7 1) Trees.none)) (Trees.more (numeral 11 1) (Trees.more (collection 14 coll.Sequence Trees.none) (Trees.more (collection 18 coll.Tuple (Trees.more (numeral 22 1) (Trees.more (numeral 25 2) Trees.none))) (Trees.more (Tree.truth 29 true) (Trees.more (collection 35 coll.Set Trees.none) (Trees.more (Tree.truth 39 false) (Trees.more (collection 46 coll.Set (Trees.more (numeral 47 1) (Trees.more (numeral 50 2) Trees.none))) Trees.none)))))))))) facts nothing) ≡ (value (of coll.Set ((number (pos 1)) ∷ (truth false) ∷ (truth true) ∷ (of coll.Set ([])) ∷ (of coll.Set ((number (pos 1)) ∷ [])) ∷ (of coll.Set ((number (pos 2)) ∷ [])) ∷ (of coll.Set ((number (pos 1)) ∷ (number (pos 2)) ∷ [])) ∷ (of coll.Sequence ([])) ∷ (of coll.Tuple ((number (pos 1)) ∷ (number (pos 2)) ∷ [])) ∷ [])))
unfolding eval op.unary op.binary op.select op.range op.grow
x102 = refl

-- let x in set {1, 2, 3} be st x > 1 in x
x103 : outcome (by first) (eval (let_be 0 (codes "x") (collection 13 coll.Set (Trees.more (numeral 14 1) (Trees.more (numeral 17 2) (Trees.more (numeral 20 3) Trees.none)))) (binary 31 bin.Greater (name 29 (codes "x")) (numeral 33 1)) (name 38 (codes "x"))) facts nothing) ≡ (value (number (pos 2)))
unfolding eval op.unary op.binary op.select op.range op.grow
x103 = refl

-- let x in set {1, 2, 3} be st x > 1 in x
x104 : outcome (by last) (eval (let_be 0 (codes "x") (collection 13 coll.Set (Trees.more (numeral 14 1) (Trees.more (numeral 17 2) (Trees.more (numeral 20 3) Trees.none)))) (binary 31 bin.Greater (name 29 (codes "x")) (numeral 33 1)) (name 38 (codes "x"))) facts nothing) ≡ (value (number (pos 3)))
unfolding eval op.unary op.binary op.select op.range op.grow
x104 = refl

-- let x in set {} be st true in 1
x106 : outcome (by first) (eval (let_be 0 (codes "x") (collection 13 coll.Set Trees.none) (Tree.truth 22 true) (numeral 30 1)) facts nothing) ≡ (fault NoCandidate 0)
unfolding eval op.unary op.binary op.select op.range op.grow
x106 = refl

-- let x in set {1, 2} be st x in x
x107 : outcome (by first) (eval (let_be 0 (codes "x") (collection 13 coll.Set (Trees.more (numeral 14 1) (Trees.more (numeral 17 2) Trees.none))) (name 26 (codes "x")) (name 31 (codes "x"))) facts nothing) ≡ (fault NoCandidate 0)
unfolding eval op.unary op.binary op.select op.range op.grow
x107 = refl

x107_list : begun (by first) (eval (let_be 0 (codes "x") (collection 13 coll.Set (Trees.more (numeral 14 1) (Trees.more (numeral 17 2) Trees.none))) (name 26 (codes "x")) (name 31 (codes "x"))) facts nothing) ≡ 0 ∷ 13 ∷ 14 ∷ 17 ∷ 26 ∷ 26 ∷ []
unfolding eval op.unary op.binary op.select op.range op.grow
x107_list = refl

-- let x in set {1, 2} be st x > 1 div 0 in x
x108 : outcome (by first) (eval (let_be 0 (codes "x") (collection 13 coll.Set (Trees.more (numeral 14 1) (Trees.more (numeral 17 2) Trees.none))) (binary 28 bin.Greater (name 26 (codes "x")) (binary 32 bin.Div (numeral 30 1) (numeral 36 0))) (name 41 (codes "x"))) facts nothing) ≡ (fault NoCandidate 0)
unfolding eval op.unary op.binary op.select op.range op.grow
x108 = refl

-- let x in set 3 be st true in x
x109 : outcome (by first) (eval (let_be 0 (codes "x") (numeral 13 3) (Tree.truth 21 true) (name 29 (codes "x"))) facts nothing) ≡ (fault WrongKind 0)
unfolding eval op.unary op.binary op.select op.range op.grow
x109 = refl

-- let x in set {1 div 0} be st true in x
x110 : outcome (by first) (eval (let_be 0 (codes "x") (collection 13 coll.Set (Trees.more (binary 16 bin.Div (numeral 14 1) (numeral 20 0)) Trees.none)) (Tree.truth 29 true) (name 37 (codes "x"))) facts nothing) ≡ (fault DivisionByZero 16)
unfolding eval op.unary op.binary op.select op.range op.grow
x110 = refl

-- let x in set {1, 2} be st true in 1 div (x - 1)
x111 : outcome (by first) (eval (let_be 0 (codes "x") (collection 13 coll.Set (Trees.more (numeral 14 1) (Trees.more (numeral 17 2) Trees.none))) (Tree.truth 26 true) (binary 36 bin.Div (numeral 34 1) (binary 43 bin.Minus (name 41 (codes "x")) (numeral 45 1)))) facts nothing) ≡ (fault DivisionByZero 36)
unfolding eval op.unary op.binary op.select op.range op.grow
x111 = refl

-- [let x in set {1, 2} be st true in x | y in set {1, 2}]
x112 : outcome (by first) (eval (comprehension 0 coll.Sequence (let_be 1 (codes "x") (collection 14 coll.Set (Trees.more (numeral 15 1) (Trees.more (numeral 18 2) Trees.none))) (Tree.truth 27 true) (name 35 (codes "x"))) (codes "y") (collection 48 coll.Set (Trees.more (numeral 49 1) (Trees.more (numeral 52 2) Trees.none))) absent) facts nothing) ≡ (value (of coll.Sequence ((number (pos 1)) ∷ (number (pos 1)) ∷ [])))
unfolding eval op.unary op.binary op.select op.range op.grow
x112 = refl

-- let z in set {let x in set {1, 2} be st true in x} be st true in {z, let x in set {1, 2} be st true in x}
x113 : outcome (by first) (eval (let_be 0 (codes "z") (collection 13 coll.Set (Trees.more (let_be 14 (codes "x") (collection 27 coll.Set (Trees.more (numeral 28 1) (Trees.more (numeral 31 2) Trees.none))) (Tree.truth 40 true) (name 48 (codes "x"))) Trees.none)) (Tree.truth 57 true) (collection 65 coll.Set (Trees.more (name 66 (codes "z")) (Trees.more (let_be 69 (codes "x") (collection 82 coll.Set (Trees.more (numeral 83 1) (Trees.more (numeral 86 2) Trees.none))) (Tree.truth 95 true) (name 103 (codes "x"))) Trees.none)))) facts nothing) ≡ (value (of coll.Set ((number (pos 1)) ∷ [])))
unfolding eval op.unary op.binary op.select op.range op.grow
x113 = refl
