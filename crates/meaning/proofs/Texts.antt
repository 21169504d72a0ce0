-- The worked examples on texts: the tokens are given and checked, the derivation is written out, the evaluation is computed.
use Rattle.std.proofs.Common.{◌≡◌, ℕ, zero, suc, Bool, true, false, cond, ◌⊎◌, List, [], ◌∷◌, pos, negsuc, codes, sym, refl, ap, ◌∙◌, inl, inr, arith}
use mathlib.Core.Path.{fun_ext}
use mathlib.Core.Option.{Option, none, some}
use Rattle.syntax.specs.declared.Unary.TheVariants as un
use Rattle.syntax.specs.declared.Binary.TheVariants as bin
use Rattle.syntax.specs.declared.Connective.TheVariants as con
use Rattle.syntax.specs.declared.Quantifier.TheVariants as quant
use Rattle.syntax.specs.declared.Collection.TheVariants as coll
use Rattle.syntax.specs.Tree.{Pattern, Patterns, Tree, numeral, name, unary, binary, connective, let_in, let_be, cases, quantifier, collection, comprehension, selection, Trees, no_more, alternative, absent}
use Rattle.tokens.specs.declared.Mark.TheVariants as sign
use Rattle.tokens.specs.declared.Kind.TheVariants as kind
use Rattle.tokens.specs.declared.Token.{Token}
use Rattle.tokens.specs.Pieces.{token}
use Rattle.grammar.specs.Grammar.{brace, bracket, d_let, d_let_be, d_cases, d_quantifier, d_connected, d_chain, d_link, d_premise, d_prefix, d_bare, d_relation, d_side, d_apply, d_select, d_atom, d_numeral, d_truth, d_name, d_paren, d_empty, d_members, d_comprehension, d_bind, d_last, d_more, d_only, d_next, p_name, p_empty, p_sequence, p_last}
use Rattle.values.specs.declared.Fault.TheVariants.{DivisionByZero}
use Rattle.values.specs.Value as v
use Rattle.values.specs.Value.{Value}
use Rattle.values.specs.Sets.{equal}
use Rattle.values.specs.Operators as op
use Rattle.syntax.specs.Names.{In, same, free}
use Rattle.meaning.specs.Names.{Sight, nothing, bind, Facts}
use Rattle.meaning.specs.Course.{Outcome, value, fault, Course, ended, begins, chooses}
use Rattle.meaning.specs.Eval.{eval}
use Rattle.meaning.specs.Play.{Picker, outcome, Chooser, nth, by, Assigns}
use Rattle.meaning.specs.Examples.{Reads, Gives, Goes, Settled, OnlyAllowed, Just, Under, document, Examples}
use Rattle.meaning.proofs.Plays.{nth_in}
use Rattle.meaning.proofs.Free.{facts_of, agree_all, naming}
use Rattle.tokens.proofs.Scan.{scan_cuts}

-- -7 mod 3
abbrev tree_mod_below : Tree
tree_mod_below = binary 3 bin.Mod (unary 0 un.Negate (numeral 1 7)) (numeral 7 3)

abbrev tokens_mod_below : List Token
tokens_mod_below =
    token (kind.Mark sign.Minus) 0 1 ∷ token kind.Numeral 1 1 ∷ token (kind.Mark sign.Mod) 3 3 ∷ token kind.Numeral 7 1 ∷ []

reads_mod_below : Reads (codes "-7 mod 3") tree_mod_below
reads_mod_below =
    record {
      tokens = tokens_mod_below;
      cut = scan_cuts (codes "-7 mod 3") tokens_mod_below refl;
      derives =
          d_connected (d_link (d_premise (d_link (d_link (d_bare (d_side (d_link (d_chain 3 sign.Mod refl (d_link (d_prefix 0 sign.Minus refl (d_bare (d_atom (d_numeral 1))))) (d_bare (d_atom (d_numeral 7)))))))))));
    }

gives_mod_below : Gives (codes "-7 mod 3") (value (v.number (pos 2)))
unfolding eval op.unary op.binary op.grow
gives_mod_below = record { tree = tree_mod_below; reads = reads_mod_below; out = λ f χ. refl }

-- -7 rem 3
abbrev tree_rem_below : Tree
tree_rem_below = binary 3 bin.Rem (unary 0 un.Negate (numeral 1 7)) (numeral 7 3)

abbrev tokens_rem_below : List Token
tokens_rem_below =
    token (kind.Mark sign.Minus) 0 1 ∷ token kind.Numeral 1 1 ∷ token (kind.Mark sign.Rem) 3 3 ∷ token kind.Numeral 7 1 ∷ []

reads_rem_below : Reads (codes "-7 rem 3") tree_rem_below
reads_rem_below =
    record {
      tokens = tokens_rem_below;
      cut = scan_cuts (codes "-7 rem 3") tokens_rem_below refl;
      derives =
          d_connected (d_link (d_premise (d_link (d_link (d_bare (d_side (d_link (d_chain 3 sign.Rem refl (d_link (d_prefix 0 sign.Minus refl (d_bare (d_atom (d_numeral 1))))) (d_bare (d_atom (d_numeral 7)))))))))));
    }

gives_rem_below : Gives (codes "-7 rem 3") (value (v.number (negsuc 0)))
unfolding eval op.unary op.binary op.grow
gives_rem_below = record { tree = tree_rem_below; reads = reads_rem_below; out = λ f χ. refl }

-- 7 mod -3
abbrev tree_mod_by_below : Tree
tree_mod_by_below = binary 2 bin.Mod (numeral 0 7) (unary 6 un.Negate (numeral 7 3))

abbrev tokens_mod_by_below : List Token
tokens_mod_by_below =
    token kind.Numeral 0 1 ∷ token (kind.Mark sign.Mod) 2 3 ∷ token (kind.Mark sign.Minus) 6 1 ∷ token kind.Numeral 7 1 ∷ []

reads_mod_by_below : Reads (codes "7 mod -3") tree_mod_by_below
reads_mod_by_below =
    record {
      tokens = tokens_mod_by_below;
      cut = scan_cuts (codes "7 mod -3") tokens_mod_by_below refl;
      derives =
          d_connected (d_link (d_premise (d_link (d_link (d_bare (d_side (d_link (d_chain 2 sign.Mod refl (d_link (d_bare (d_atom (d_numeral 0)))) (d_prefix 6 sign.Minus refl (d_bare (d_atom (d_numeral 7))))))))))));
    }

gives_mod_by_below : Gives (codes "7 mod -3") (value (v.number (negsuc 1)))
unfolding eval op.unary op.binary op.grow
gives_mod_by_below = record { tree = tree_mod_by_below; reads = reads_mod_by_below; out = λ f χ. refl }

-- not 1 = 2
abbrev tree_not_equal : Tree
tree_not_equal = unary 0 un.Not (binary 6 bin.Equal (numeral 4 1) (numeral 8 2))

abbrev tokens_not_equal : List Token
tokens_not_equal =
    token (kind.Mark sign.Not) 0 3 ∷ token kind.Numeral 4 1 ∷ token (kind.Mark sign.Equal) 6 1 ∷ token kind.Numeral 8 1 ∷ []

reads_not_equal : Reads (codes "not 1 = 2") tree_not_equal
reads_not_equal =
    record {
      tokens = tokens_not_equal;
      cut = scan_cuts (codes "not 1 = 2") tokens_not_equal refl;
      derives =
          d_connected (d_link (d_premise (d_link (d_link (d_prefix 0 sign.Not refl (d_bare (d_relation 6 sign.Equal refl (d_link (d_link (d_bare (d_atom (d_numeral 4))))) (d_link (d_link (d_bare (d_atom (d_numeral 8))))))))))));
    }

gives_not_equal : Gives (codes "not 1 = 2") (value (v.truth true))
unfolding eval op.unary op.binary op.grow
gives_not_equal = record { tree = tree_not_equal; reads = reads_not_equal; out = λ f χ. refl }

-- true or 3
abbrev tree_decided : Tree
tree_decided = connective 5 con.Or (Tree.truth 0 true) (numeral 8 3)

abbrev tokens_decided : List Token
tokens_decided =
    token (kind.Mark sign.True) 0 4 ∷ token (kind.Mark sign.Or) 5 2 ∷ token kind.Numeral 8 1 ∷ []

reads_decided : Reads (codes "true or 3") tree_decided
reads_decided =
    record {
      tokens = tokens_decided;
      cut = scan_cuts (codes "true or 3") tokens_decided refl;
      derives =
          d_connected (d_link (d_premise (d_chain 5 sign.Or refl (d_link (d_link (d_bare (d_side (d_link (d_link (d_bare (d_atom (d_truth 0 {b = true}))))))))) (d_link (d_bare (d_side (d_link (d_link (d_bare (d_atom (d_numeral 8)))))))))));
    }

gives_decided : Gives (codes "true or 3") (value (v.truth true))
unfolding eval op.unary op.binary op.grow
gives_decided = record { tree = tree_decided; reads = reads_decided; out = λ f χ. refl }

-- 1 div 0 = 1 or true
abbrev tree_made_up : Tree
tree_made_up = connective 12 con.Or (binary 8 bin.Equal (binary 2 bin.Div (numeral 0 1) (numeral 6 0)) (numeral 10 1)) (Tree.truth 15 true)

abbrev tokens_made_up : List Token
tokens_made_up =
    token kind.Numeral 0 1 ∷ token (kind.Mark sign.Div) 2 3 ∷ token kind.Numeral 6 1 ∷ token (kind.Mark sign.Equal) 8 1 ∷ token kind.Numeral 10 1 ∷ token (kind.Mark sign.Or) 12 2 ∷ token (kind.Mark sign.True) 15 4 ∷ []

reads_made_up : Reads (codes "1 div 0 = 1 or true") tree_made_up
reads_made_up =
    record {
      tokens = tokens_made_up;
      cut = scan_cuts (codes "1 div 0 = 1 or true") tokens_made_up refl;
      derives =
          d_connected (d_link (d_premise (d_chain 12 sign.Or refl (d_link (d_link (d_bare (d_relation 8 sign.Equal refl (d_link (d_chain 2 sign.Div refl (d_link (d_bare (d_atom (d_numeral 0)))) (d_bare (d_atom (d_numeral 6))))) (d_link (d_link (d_bare (d_atom (d_numeral 10))))))))) (d_link (d_bare (d_side (d_link (d_link (d_bare (d_atom (d_truth 15 {b = true})))))))))));
    }

gives_made_up : Gives (codes "1 div 0 = 1 or true") (value (v.truth true))
unfolding eval op.unary op.binary op.grow
gives_made_up = record { tree = tree_made_up; reads = reads_made_up; out = λ f χ. refl }

-- exists c in set {} & c
abbrev tree_none : Tree
tree_none = quantifier 0 quant.Exists (codes "c") (collection 16 coll.Set Trees.none) (name 21 (codes "c"))

abbrev tokens_none : List Token
tokens_none =
    token (kind.Mark sign.Exists) 0 6 ∷ token kind.Name 7 1 ∷ token (kind.Mark sign.In) 9 2 ∷ token (kind.Mark sign.Set) 12 3 ∷ token (kind.Mark sign.OpenBrace) 16 1 ∷ token (kind.Mark sign.CloseBrace) 17 1 ∷ token (kind.Mark sign.Ampersand) 19 1 ∷ token kind.Name 21 1 ∷ []

reads_none : Reads (codes "exists c in set {} & c") tree_none
reads_none =
    record {
      tokens = tokens_none;
      cut = scan_cuts (codes "exists c in set {} & c") tokens_none refl;
      derives =
          d_quantifier 0 19 {o = quant.Exists} (d_bind 7 9 12 (d_link (d_premise (d_link (d_link (d_bare (d_side (d_link (d_link (d_bare (d_atom (d_empty 16 17 brace)))))))))))) (d_connected (d_link (d_premise (d_link (d_link (d_bare (d_side (d_link (d_link (d_bare (d_atom (d_name 21))))))))))));
    }

gives_none : Gives (codes "exists c in set {} & c") (value (v.truth false))
unfolding eval op.unary op.binary op.grow
gives_none = record { tree = tree_none; reads = reads_none; out = λ f χ. refl }

-- forall x in set {0, 2} & 4 div x = 2
abbrev tree_passed_over : Tree
tree_passed_over = quantifier 0 quant.Forall (codes "x") (collection 16 coll.Set (Trees.more (numeral 17 0) (Trees.more (numeral 20 2) Trees.none))) (binary 33 bin.Equal (binary 27 bin.Div (numeral 25 4) (name 31 (codes "x"))) (numeral 35 2))

abbrev tokens_passed_over : List Token
tokens_passed_over =
    token (kind.Mark sign.Forall) 0 6 ∷ token kind.Name 7 1 ∷ token (kind.Mark sign.In) 9 2 ∷ token (kind.Mark sign.Set) 12 3 ∷ token (kind.Mark sign.OpenBrace) 16 1 ∷ token kind.Numeral 17 1 ∷ token (kind.Mark sign.Comma) 18 1 ∷ token kind.Numeral 20 1 ∷ token (kind.Mark sign.CloseBrace) 21 1 ∷ token (kind.Mark sign.Ampersand) 23 1 ∷ token kind.Numeral 25 1 ∷ token (kind.Mark sign.Div) 27 3 ∷ token kind.Name 31 1 ∷ token (kind.Mark sign.Equal) 33 1 ∷ token kind.Numeral 35 1 ∷ []

reads_passed_over : Reads (codes "forall x in set {0, 2} & 4 div x = 2") tree_passed_over
reads_passed_over =
    record {
      tokens = tokens_passed_over;
      cut = scan_cuts (codes "forall x in set {0, 2} & 4 div x = 2") tokens_passed_over refl;
      derives =
          d_quantifier 0 23 {o = quant.Forall} (d_bind 7 9 12 (d_link (d_premise (d_link (d_link (d_bare (d_side (d_link (d_link (d_bare (d_atom (d_members 16 21 brace (d_more 18 (d_connected (d_link (d_premise (d_link (d_link (d_bare (d_side (d_link (d_link (d_bare (d_atom (d_numeral 17)))))))))))) (d_last (d_connected (d_link (d_premise (d_link (d_link (d_bare (d_side (d_link (d_link (d_bare (d_atom (d_numeral 20)))))))))))))))))))))))))) (d_connected (d_link (d_premise (d_link (d_link (d_bare (d_relation 33 sign.Equal refl (d_link (d_chain 27 sign.Div refl (d_link (d_bare (d_atom (d_numeral 25)))) (d_bare (d_atom (d_name 31))))) (d_link (d_link (d_bare (d_atom (d_numeral 35))))))))))));
    }

gives_passed_over : Gives (codes "forall x in set {0, 2} & 4 div x = 2") (fault DivisionByZero 27)
unfolding eval op.unary op.binary op.grow
gives_passed_over = record { tree = tree_passed_over; reads = reads_passed_over; out = λ f χ. refl }

goes_passed_over : Goes (codes "forall x in set {0, 2} & 4 div x = 2") (fault DivisionByZero 27) (0 ∷ 16 ∷ 17 ∷ 20 ∷ 33 ∷ 27 ∷ 25 ∷ 31 ∷ 33 ∷ 27 ∷ 25 ∷ 31 ∷ 35 ∷ [])
unfolding eval op.unary op.binary op.grow gives_passed_over
goes_passed_over = record { gives = gives_passed_over; list = λ f χ. refl }

-- let x in set {1, 2} be st 1 div (x - 2) < 0 in x
abbrev tree_one_candidate : Tree
tree_one_candidate = let_be 0 (codes "x") (collection 13 coll.Set (Trees.more (numeral 14 1) (Trees.more (numeral 17 2) Trees.none))) (binary 40 bin.Less (binary 28 bin.Div (numeral 26 1) (binary 35 bin.Minus (name 33 (codes "x")) (numeral 37 2))) (numeral 42 0)) (name 47 (codes "x"))

abbrev tokens_one_candidate : List Token
tokens_one_candidate =
    token (kind.Mark sign.Let) 0 3 ∷ token kind.Name 4 1 ∷ token (kind.Mark sign.In) 6 2 ∷ token (kind.Mark sign.Set) 9 3 ∷ token (kind.Mark sign.OpenBrace) 13 1 ∷ token kind.Numeral 14 1 ∷ token (kind.Mark sign.Comma) 15 1 ∷ token kind.Numeral 17 1 ∷ token (kind.Mark sign.CloseBrace) 18 1 ∷ token (kind.Mark sign.Be) 20 2 ∷ token (kind.Mark sign.St) 23 2 ∷ token kind.Numeral 26 1 ∷ token (kind.Mark sign.Div) 28 3 ∷ token (kind.Mark sign.OpenParen) 32 1 ∷ token kind.Name 33 1 ∷ token (kind.Mark sign.Minus) 35 1 ∷ token kind.Numeral 37 1 ∷ token (kind.Mark sign.CloseParen) 38 1 ∷ token (kind.Mark sign.Less) 40 1 ∷ token kind.Numeral 42 1 ∷ token (kind.Mark sign.In) 44 2 ∷ token kind.Name 47 1 ∷ []

reads_one_candidate : Reads (codes "let x in set {1, 2} be st 1 div (x - 2) < 0 in x") tree_one_candidate
reads_one_candidate =
    record {
      tokens = tokens_one_candidate;
      cut = scan_cuts (codes "let x in set {1, 2} be st 1 div (x - 2) < 0 in x") tokens_one_candidate refl;
      derives =
          d_let_be 0 20 23 44 (d_bind 4 6 9 (d_link (d_premise (d_link (d_link (d_bare (d_side (d_link (d_link (d_bare (d_atom (d_members 13 18 brace (d_more 15 (d_connected (d_link (d_premise (d_link (d_link (d_bare (d_side (d_link (d_link (d_bare (d_atom (d_numeral 14)))))))))))) (d_last (d_connected (d_link (d_premise (d_link (d_link (d_bare (d_side (d_link (d_link (d_bare (d_atom (d_numeral 17)))))))))))))))))))))))))) (d_connected (d_link (d_premise (d_link (d_link (d_bare (d_relation 40 sign.Less refl (d_link (d_chain 28 sign.Div refl (d_link (d_bare (d_atom (d_numeral 26)))) (d_bare (d_atom (d_paren 32 38 (d_connected (d_link (d_premise (d_link (d_link (d_bare (d_side (d_chain 35 sign.Minus refl (d_link (d_link (d_bare (d_atom (d_name 33))))) (d_link (d_bare (d_atom (d_numeral 37))))))))))))))))) (d_link (d_link (d_bare (d_atom (d_numeral 42)))))))))))) (d_connected (d_link (d_premise (d_link (d_link (d_bare (d_side (d_link (d_link (d_bare (d_atom (d_name 47))))))))))));
    }

gives_one_candidate : Gives (codes "let x in set {1, 2} be st 1 div (x - 2) < 0 in x") (value (v.number (pos 1)))
unfolding eval op.unary op.binary op.grow
gives_one_candidate = record { tree = tree_one_candidate; reads = reads_one_candidate; out = λ f χ. refl }

settled_holds : Settled tree_one_candidate
unfolding eval op.unary op.binary op.grow
settled_holds f χ = tt

-- cases []: [a] -> 1, [] -> 2 end
abbrev tree_second_case : Tree
tree_second_case = cases 0 (collection 6 coll.Sequence Trees.none) (alternative (Pattern.parts 10 coll.Sequence (Patterns.more (Pattern.binds 11 (codes "a")) Patterns.none)) (numeral 17 1) (alternative (Pattern.parts 20 coll.Sequence Patterns.none) (numeral 26 2) no_more)) absent

abbrev tokens_second_case : List Token
tokens_second_case =
    token (kind.Mark sign.Cases) 0 5 ∷ token (kind.Mark sign.OpenBracket) 6 1 ∷ token (kind.Mark sign.CloseBracket) 7 1 ∷ token (kind.Mark sign.Colon) 8 1 ∷ token (kind.Mark sign.OpenBracket) 10 1 ∷ token kind.Name 11 1 ∷ token (kind.Mark sign.CloseBracket) 12 1 ∷ token (kind.Mark sign.Arrow) 14 2 ∷ token kind.Numeral 17 1 ∷ token (kind.Mark sign.Comma) 18 1 ∷ token (kind.Mark sign.OpenBracket) 20 1 ∷ token (kind.Mark sign.CloseBracket) 21 1 ∷ token (kind.Mark sign.Arrow) 23 2 ∷ token kind.Numeral 26 1 ∷ token (kind.Mark sign.End) 28 3 ∷ []

reads_second_case : Reads (codes "cases []: [a] -> 1, [] -> 2 end") tree_second_case
reads_second_case =
    record {
      tokens = tokens_second_case;
      cut = scan_cuts (codes "cases []: [a] -> 1, [] -> 2 end") tokens_second_case refl;
      derives =
          d_cases 0 8 28 (d_connected (d_link (d_premise (d_link (d_link (d_bare (d_side (d_link (d_link (d_bare (d_atom (d_empty 6 7 bracket)))))))))))) (d_next 14 18 (p_sequence 10 12 (p_last (p_name 11))) (d_connected (d_link (d_premise (d_link (d_link (d_bare (d_side (d_link (d_link (d_bare (d_atom (d_numeral 17)))))))))))) (d_only 23 (p_empty 20 21) (d_connected (d_link (d_premise (d_link (d_link (d_bare (d_side (d_link (d_link (d_bare (d_atom (d_numeral 26))))))))))))));
    }

gives_second_case : Gives (codes "cases []: [a] -> 1, [] -> 2 end") (value (v.number (pos 2)))
unfolding eval op.unary op.binary op.grow
gives_second_case = record { tree = tree_second_case; reads = reads_second_case; out = λ f χ. refl }

-- ---- choices

-- [let x in set {1, 2} be st true in x | y in set {1, 2}]
abbrev tree_by_sight : Tree
tree_by_sight = comprehension 0 coll.Sequence (let_be 1 (codes "x") (collection 14 coll.Set (Trees.more (numeral 15 1) (Trees.more (numeral 18 2) Trees.none))) (Tree.truth 27 true) (name 35 (codes "x"))) (codes "y") (collection 48 coll.Set (Trees.more (numeral 49 1) (Trees.more (numeral 52 2) Trees.none))) absent

abbrev tokens_by_sight : List Token
tokens_by_sight =
    token (kind.Mark sign.OpenBracket) 0 1 ∷ token (kind.Mark sign.Let) 1 3 ∷ token kind.Name 5 1 ∷ token (kind.Mark sign.In) 7 2 ∷ token (kind.Mark sign.Set) 10 3 ∷ token (kind.Mark sign.OpenBrace) 14 1 ∷ token kind.Numeral 15 1 ∷ token (kind.Mark sign.Comma) 16 1 ∷ token kind.Numeral 18 1 ∷ token (kind.Mark sign.CloseBrace) 19 1 ∷ token (kind.Mark sign.Be) 21 2 ∷ token (kind.Mark sign.St) 24 2 ∷ token (kind.Mark sign.True) 27 4 ∷ token (kind.Mark sign.In) 32 2 ∷ token kind.Name 35 1 ∷ token (kind.Mark sign.Bar) 37 1 ∷ token kind.Name 39 1 ∷ token (kind.Mark sign.In) 41 2 ∷ token (kind.Mark sign.Set) 44 3 ∷ token (kind.Mark sign.OpenBrace) 48 1 ∷ token kind.Numeral 49 1 ∷ token (kind.Mark sign.Comma) 50 1 ∷ token kind.Numeral 52 1 ∷ token (kind.Mark sign.CloseBrace) 53 1 ∷ token (kind.Mark sign.CloseBracket) 54 1 ∷ []

reads_by_sight : Reads (codes "[let x in set {1, 2} be st true in x | y in set {1, 2}]") tree_by_sight
reads_by_sight =
    record {
      tokens = tokens_by_sight;
      cut = scan_cuts (codes "[let x in set {1, 2} be st true in x | y in set {1, 2}]") tokens_by_sight refl;
      derives =
          d_connected (d_link (d_premise (d_link (d_link (d_bare (d_side (d_link (d_link (d_bare (d_atom (d_comprehension 0 37 54 bracket (d_let_be 1 21 24 32 (d_bind 5 7 10 (d_link (d_premise (d_link (d_link (d_bare (d_side (d_link (d_link (d_bare (d_atom (d_members 14 19 brace (d_more 16 (d_connected (d_link (d_premise (d_link (d_link (d_bare (d_side (d_link (d_link (d_bare (d_atom (d_numeral 15)))))))))))) (d_last (d_connected (d_link (d_premise (d_link (d_link (d_bare (d_side (d_link (d_link (d_bare (d_atom (d_numeral 18)))))))))))))))))))))))))) (d_connected (d_link (d_premise (d_link (d_link (d_bare (d_side (d_link (d_link (d_bare (d_atom (d_truth 27 {b = true})))))))))))) (d_connected (d_link (d_premise (d_link (d_link (d_bare (d_side (d_link (d_link (d_bare (d_atom (d_name 35))))))))))))) (d_bind 39 41 44 (d_link (d_premise (d_link (d_link (d_bare (d_side (d_link (d_link (d_bare (d_atom (d_members 48 53 brace (d_more 50 (d_connected (d_link (d_premise (d_link (d_link (d_bare (d_side (d_link (d_link (d_bare (d_atom (d_numeral 49)))))))))))) (d_last (d_connected (d_link (d_premise (d_link (d_link (d_bare (d_side (d_link (d_link (d_bare (d_atom (d_numeral 52)))))))))))))))))))))))))))))))))))));
    }

abbrev two? : Option Value → Bool
two? none = false
two? (some u) = equal u (v.number (pos 2))

-- the second candidate where y is 2, else the first
abbrev by_y : Picker
by_y p s c cs = cond (two? (s (codes "y"))) (nth 1 c cs) c

by_y_assigns : Assigns by_y
by_y_assigns p s c cs = go (two? (s (codes "y")))
  where
    go : (b : Bool) → In (cond b (nth 1 c cs) c) (c ∷ cs)
    go true = nth_in 1 c cs
    go false = inl refl

-- the two members of a sequence of two numbers
abbrev numbered : Value → ℕ
numbered (v.number (pos a)) = a
numbered (v.number (negsuc a)) = 0
numbered (v.truth b) = 0
numbered (v.many c vs) = 0

abbrev first_of : List Value → ℕ
first_of [] = 0
first_of (a ∷ vs) = numbered a

abbrev second_of : List Value → ℕ
second_of [] = 0
second_of (a ∷ vs) = first_of vs

abbrev in_outcome : (List Value → ℕ) → Outcome → ℕ
in_outcome g (value w) = g (op.members w)
in_outcome g (fault k q) = 0

apart : (k : ℕ) → value (v.of coll.Sequence (v.number (pos k) ∷ v.number (pos k) ∷ [])) ≡ (value (v.of coll.Sequence (v.number (pos 1) ∷ v.number (pos 2) ∷ []))) → ⊥
apart k e =
    let a : k ≡ 1 = ap (in_outcome first_of) e in
    let b : k ≡ 2 = ap (in_outcome second_of) e in
    omega (arith, a, b)

-- pickers that take the same on the way come to the same
abbrev Agree : Picker → Picker → Course → Type 0
Agree a b (ended o) = Unit {0}
Agree a b (begins p m) = Agree a b m
Agree a b (chooses p s c cs g) = (a p s c cs ≡ b p s c cs) × Agree a b (g (b p s c cs))

agree : (a b : Picker) (m : Course) → Agree a b m → outcome a m ≡ outcome b m
agree a b (ended o) h = refl
agree a b (begins p m) h = agree a b m h
agree a b (chooses p s c cs g) h = ap (λ w. outcome a (g w)) h.0 ∙ agree a b (g (b p s c cs)) h.1

abbrev one_value : Value → Picker
one_value w p s c cs = w

no_chooser : (f : Facts) (χ : Chooser) (i : ℕ) → χ.reply 1 2 ≡ i → outcome (by χ) (eval tree_by_sight f nothing) ≡ (value (v.of coll.Sequence (v.number (pos 1) ∷ v.number (pos 2) ∷ []))) → ⊥
unfolding eval op.binary op.grow
no_chooser f χ zero e h =
    let q : by χ 1 nothing (v.number (pos 1)) (v.number (pos 2) ∷ []) ≡ v.number (pos 1) = ap (λ j. nth j (v.number (pos 1)) (v.number (pos 2) ∷ [])) e in
    apart 1 (sym (agree (by χ) (one_value (v.number (pos 1))) (eval tree_by_sight f nothing) (q, (q, tt))) ∙ h)
no_chooser f χ (suc i) e h =
    let q : by χ 1 nothing (v.number (pos 1)) (v.number (pos 2) ∷ []) ≡ v.number (pos 2) = ap (λ j. nth j (v.number (pos 1)) (v.number (pos 2) ∷ [])) e in
    apart 2 (sym (agree (by χ) (one_value (v.number (pos 2))) (eval tree_by_sight f nothing) (q, (q, tt))) ∙ h)

by_sight_holds : OnlyAllowed (value (v.of coll.Sequence (v.number (pos 1) ∷ v.number (pos 2) ∷ []))) tree_by_sight
unfolding eval op.binary op.grow
by_sight_holds f = (record { assignment = by_y; assigns = by_y_assigns; leads = refl }, λ χ e. no_chooser f χ (χ.reply 1 2) refl e)

-- [let y = 0 in let x in set {1, 2} be st true in x | y in set {1, 2}]
abbrev tree_hidden : Tree
tree_hidden = comprehension 0 coll.Sequence (let_in 1 (codes "y") (numeral 9 0) (let_be 14 (codes "x") (collection 27 coll.Set (Trees.more (numeral 28 1) (Trees.more (numeral 31 2) Trees.none))) (Tree.truth 40 true) (name 48 (codes "x")))) (codes "y") (collection 61 coll.Set (Trees.more (numeral 62 1) (Trees.more (numeral 65 2) Trees.none))) absent

abbrev tokens_hidden : List Token
tokens_hidden =
    token (kind.Mark sign.OpenBracket) 0 1 ∷ token (kind.Mark sign.Let) 1 3 ∷ token kind.Name 5 1 ∷ token (kind.Mark sign.Equal) 7 1 ∷ token kind.Numeral 9 1 ∷ token (kind.Mark sign.In) 11 2 ∷ token (kind.Mark sign.Let) 14 3 ∷ token kind.Name 18 1 ∷ token (kind.Mark sign.In) 20 2 ∷ token (kind.Mark sign.Set) 23 3 ∷ token (kind.Mark sign.OpenBrace) 27 1 ∷ token kind.Numeral 28 1 ∷ token (kind.Mark sign.Comma) 29 1 ∷ token kind.Numeral 31 1 ∷ token (kind.Mark sign.CloseBrace) 32 1 ∷ token (kind.Mark sign.Be) 34 2 ∷ token (kind.Mark sign.St) 37 2 ∷ token (kind.Mark sign.True) 40 4 ∷ token (kind.Mark sign.In) 45 2 ∷ token kind.Name 48 1 ∷ token (kind.Mark sign.Bar) 50 1 ∷ token kind.Name 52 1 ∷ token (kind.Mark sign.In) 54 2 ∷ token (kind.Mark sign.Set) 57 3 ∷ token (kind.Mark sign.OpenBrace) 61 1 ∷ token kind.Numeral 62 1 ∷ token (kind.Mark sign.Comma) 63 1 ∷ token kind.Numeral 65 1 ∷ token (kind.Mark sign.CloseBrace) 66 1 ∷ token (kind.Mark sign.CloseBracket) 67 1 ∷ []

reads_hidden : Reads (codes "[let y = 0 in let x in set {1, 2} be st true in x | y in set {1, 2}]") tree_hidden
reads_hidden =
    record {
      tokens = tokens_hidden;
      cut = scan_cuts (codes "[let y = 0 in let x in set {1, 2} be st true in x | y in set {1, 2}]") tokens_hidden refl;
      derives =
          d_connected (d_link (d_premise (d_link (d_link (d_bare (d_side (d_link (d_link (d_bare (d_atom (d_comprehension 0 50 67 bracket (d_let 1 5 7 11 (d_connected (d_link (d_premise (d_link (d_link (d_bare (d_side (d_link (d_link (d_bare (d_atom (d_numeral 9)))))))))))) (d_let_be 14 34 37 45 (d_bind 18 20 23 (d_link (d_premise (d_link (d_link (d_bare (d_side (d_link (d_link (d_bare (d_atom (d_members 27 32 brace (d_more 29 (d_connected (d_link (d_premise (d_link (d_link (d_bare (d_side (d_link (d_link (d_bare (d_atom (d_numeral 28)))))))))))) (d_last (d_connected (d_link (d_premise (d_link (d_link (d_bare (d_side (d_link (d_link (d_bare (d_atom (d_numeral 31)))))))))))))))))))))))))) (d_connected (d_link (d_premise (d_link (d_link (d_bare (d_side (d_link (d_link (d_bare (d_atom (d_truth 40 {b = true})))))))))))) (d_connected (d_link (d_premise (d_link (d_link (d_bare (d_side (d_link (d_link (d_bare (d_atom (d_name 48)))))))))))))) (d_bind 52 54 57 (d_link (d_premise (d_link (d_link (d_bare (d_side (d_link (d_link (d_bare (d_atom (d_members 61 66 brace (d_more 63 (d_connected (d_link (d_premise (d_link (d_link (d_bare (d_side (d_link (d_link (d_bare (d_atom (d_numeral 62)))))))))))) (d_last (d_connected (d_link (d_premise (d_link (d_link (d_bare (d_side (d_link (d_link (d_bare (d_atom (d_numeral 65)))))))))))))))))))))))))))))))))))));
    }

-- whatever y was outside, it is 0 at the choice
abbrev sight : Value → Sight
sight w = bind (codes "y") (v.number (pos 0)) (bind (codes "y") w nothing)

one_sight : (w u : Value) → sight w ≡ sight u
one_sight w u = fun_ext (λ n. go (same n (codes "y")))
  where
    go : (b : Bool) → cond b (some (v.number (pos 0))) (cond b (some w) none) ≡ cond b (some (v.number (pos 0))) (cond b (some u) none)
    go true = refl
    go false = refl

abbrev takes : Picker → Value → Value
takes a u = a 14 (sight u) (v.number (pos 1)) (v.number (pos 2) ∷ [])

same_both : (a : Picker) (u : Value) → takes a (v.number (pos 1)) ≡ u → takes a (v.number (pos 2)) ≡ u
same_both a u e = ap (λ s. a 14 s (v.number (pos 1)) (v.number (pos 2) ∷ [])) (one_sight (v.number (pos 2)) (v.number (pos 1))) ∙ e

hidden_holds : Just (value (v.of coll.Sequence (v.number (pos 1) ∷ v.number (pos 1) ∷ []))) (value (v.of coll.Sequence (v.number (pos 2) ∷ v.number (pos 2) ∷ []))) tree_hidden
unfolding eval op.binary op.grow
hidden_holds f = (
  record { assignment = λ p s c cs. c; assigns = λ p s c cs. inl refl; leads = refl },
  record { assignment = λ p s c cs. nth 1 c cs; assigns = λ p s c cs. nth_in 1 c cs; leads = refl },
  λ o w. which w.assignment o (w.assigns 14 (sight (v.number (pos 1))) (v.number (pos 1)) (v.number (pos 2) ∷ [])) w.leads,
)
  where
    which : (a : Picker) (o : Outcome) → In (takes a (v.number (pos 1))) (v.number (pos 1) ∷ v.number (pos 2) ∷ []) → outcome a (eval tree_hidden f nothing) ≡ o → (o ≡ (value (v.of coll.Sequence (v.number (pos 1) ∷ v.number (pos 1) ∷ [])))) ⊎ (o ≡ (value (v.of coll.Sequence (v.number (pos 2) ∷ v.number (pos 2) ∷ []))))
    which a o (inl e) h = inl (sym h ∙ agree a (one_value (v.number (pos 1))) (eval tree_hidden f nothing) (e, (same_both a (v.number (pos 1)) e, tt)))
    which a o (inr (inl e)) h = inr (sym h ∙ agree a (one_value (v.number (pos 2))) (eval tree_hidden f nothing) (e, (same_both a (v.number (pos 2)) e, tt)))
    which a o (inr (inr e)) h = absurd e

-- ---- facts

-- len changes
abbrev tree_lengths : Tree
tree_lengths = unary 0 un.Len (name 4 (codes "changes"))

abbrev tokens_lengths : List Token
tokens_lengths =
    token (kind.Mark sign.Len) 0 3 ∷ token kind.Name 4 7 ∷ []

reads_lengths : Reads (codes "len changes") tree_lengths
reads_lengths =
    record {
      tokens = tokens_lengths;
      cut = scan_cuts (codes "len changes") tokens_lengths refl;
      derives =
          d_connected (d_link (d_premise (d_link (d_link (d_bare (d_side (d_link (d_link (d_prefix 0 sign.Len refl (d_bare (d_atom (d_name 4))))))))))));
    }

under_lengths : Under document (value (v.number (pos 2))) tree_lengths
unfolding eval free op.unary op.binary op.select op.grow
under_lengths f χ h = ap (outcome (by χ)) (naming.settled document tree_lengths f (facts_of document) h (agree_all document (free tree_lengths []) refl))

-- forall c in set elems changes & c.#3 <= c.#4 and c.#4 <= segments
abbrev tree_in_range : Tree
tree_in_range = quantifier 0 quant.Forall (codes "c") (unary 16 un.Elems (name 22 (codes "changes"))) (connective 45 con.And (binary 37 bin.LessEqual (selection 33 (name 32 (codes "c")) 3) (selection 41 (name 40 (codes "c")) 4)) (binary 54 bin.LessEqual (selection 50 (name 49 (codes "c")) 4) (name 57 (codes "segments"))))

abbrev tokens_in_range : List Token
tokens_in_range =
    token (kind.Mark sign.Forall) 0 6 ∷ token kind.Name 7 1 ∷ token (kind.Mark sign.In) 9 2 ∷ token (kind.Mark sign.Set) 12 3 ∷ token (kind.Mark sign.Elems) 16 5 ∷ token kind.Name 22 7 ∷ token (kind.Mark sign.Ampersand) 30 1 ∷ token kind.Name 32 1 ∷ token (kind.Mark sign.Select) 33 2 ∷ token kind.Numeral 35 1 ∷ token (kind.Mark sign.LessEqual) 37 2 ∷ token kind.Name 40 1 ∷ token (kind.Mark sign.Select) 41 2 ∷ token kind.Numeral 43 1 ∷ token (kind.Mark sign.And) 45 3 ∷ token kind.Name 49 1 ∷ token (kind.Mark sign.Select) 50 2 ∷ token kind.Numeral 52 1 ∷ token (kind.Mark sign.LessEqual) 54 2 ∷ token kind.Name 57 8 ∷ []

reads_in_range : Reads (codes "forall c in set elems changes & c.#3 <= c.#4 and c.#4 <= segments") tree_in_range
reads_in_range =
    record {
      tokens = tokens_in_range;
      cut = scan_cuts (codes "forall c in set elems changes & c.#3 <= c.#4 and c.#4 <= segments") tokens_in_range refl;
      derives =
          d_quantifier 0 30 {o = quant.Forall} (d_bind 7 9 12 (d_link (d_premise (d_link (d_link (d_bare (d_side (d_link (d_link (d_prefix 16 sign.Elems refl (d_bare (d_atom (d_name 22))))))))))))) (d_connected (d_link (d_premise (d_link (d_chain 45 sign.And refl (d_link (d_bare (d_relation 37 sign.LessEqual refl (d_link (d_link (d_bare (d_select 33 35 (d_atom (d_name 32)))))) (d_link (d_link (d_bare (d_select 41 43 (d_atom (d_name 40))))))))) (d_bare (d_relation 54 sign.LessEqual refl (d_link (d_link (d_bare (d_select 50 52 (d_atom (d_name 49)))))) (d_link (d_link (d_bare (d_atom (d_name 57))))))))))));
    }

under_in_range : Under document (value (v.truth true)) tree_in_range
unfolding eval free op.unary op.binary op.select op.grow
under_in_range f χ h = ap (outcome (by χ)) (naming.settled document tree_in_range f (facts_of document) h (agree_all document (free tree_in_range []) refl))

-- [changes(i).#1 | i in set inds changes]
abbrev tree_authors : Tree
tree_authors = comprehension 0 coll.Sequence (selection 11 (binary 8 bin.Apply (name 1 (codes "changes")) (name 9 (codes "i"))) 1) (codes "i") (unary 26 un.Inds (name 31 (codes "changes"))) absent

abbrev tokens_authors : List Token
tokens_authors =
    token (kind.Mark sign.OpenBracket) 0 1 ∷ token kind.Name 1 7 ∷ token (kind.Mark sign.OpenParen) 8 1 ∷ token kind.Name 9 1 ∷ token (kind.Mark sign.CloseParen) 10 1 ∷ token (kind.Mark sign.Select) 11 2 ∷ token kind.Numeral 13 1 ∷ token (kind.Mark sign.Bar) 15 1 ∷ token kind.Name 17 1 ∷ token (kind.Mark sign.In) 19 2 ∷ token (kind.Mark sign.Set) 22 3 ∷ token (kind.Mark sign.Inds) 26 4 ∷ token kind.Name 31 7 ∷ token (kind.Mark sign.CloseBracket) 38 1 ∷ []

reads_authors : Reads (codes "[changes(i).#1 | i in set inds changes]") tree_authors
reads_authors =
    record {
      tokens = tokens_authors;
      cut = scan_cuts (codes "[changes(i).#1 | i in set inds changes]") tokens_authors refl;
      derives =
          d_connected (d_link (d_premise (d_link (d_link (d_bare (d_side (d_link (d_link (d_bare (d_atom (d_comprehension 0 15 38 bracket (d_connected (d_link (d_premise (d_link (d_link (d_bare (d_side (d_link (d_link (d_bare (d_select 11 13 (d_apply 8 10 (d_atom (d_name 1)) (d_connected (d_link (d_premise (d_link (d_link (d_bare (d_side (d_link (d_link (d_bare (d_atom (d_name 9)))))))))))))))))))))))) (d_bind 17 19 22 (d_link (d_premise (d_link (d_link (d_bare (d_side (d_link (d_link (d_prefix 26 sign.Inds refl (d_bare (d_atom (d_name 31))))))))))))))))))))))));
    }

under_authors : Under document (value (v.of coll.Sequence ((v.number (pos 7)) ∷ (v.number (pos 8)) ∷ []))) tree_authors
unfolding eval free op.unary op.binary op.select op.grow
under_authors f χ h = ap (outcome (by χ)) (naming.settled document tree_authors f (facts_of document) h (agree_all document (free tree_authors []) refl))

-- let c in set elems changes be st c.#2 = 1 in c
abbrev tree_second_change : Tree
tree_second_change = let_be 0 (codes "c") (unary 13 un.Elems (name 19 (codes "changes"))) (binary 38 bin.Equal (selection 34 (name 33 (codes "c")) 2) (numeral 40 1)) (name 45 (codes "c"))

abbrev tokens_second_change : List Token
tokens_second_change =
    token (kind.Mark sign.Let) 0 3 ∷ token kind.Name 4 1 ∷ token (kind.Mark sign.In) 6 2 ∷ token (kind.Mark sign.Set) 9 3 ∷ token (kind.Mark sign.Elems) 13 5 ∷ token kind.Name 19 7 ∷ token (kind.Mark sign.Be) 27 2 ∷ token (kind.Mark sign.St) 30 2 ∷ token kind.Name 33 1 ∷ token (kind.Mark sign.Select) 34 2 ∷ token kind.Numeral 36 1 ∷ token (kind.Mark sign.Equal) 38 1 ∷ token kind.Numeral 40 1 ∷ token (kind.Mark sign.In) 42 2 ∷ token kind.Name 45 1 ∷ []

reads_second_change : Reads (codes "let c in set elems changes be st c.#2 = 1 in c") tree_second_change
reads_second_change =
    record {
      tokens = tokens_second_change;
      cut = scan_cuts (codes "let c in set elems changes be st c.#2 = 1 in c") tokens_second_change refl;
      derives =
          d_let_be 0 27 30 42 (d_bind 4 6 9 (d_link (d_premise (d_link (d_link (d_bare (d_side (d_link (d_link (d_prefix 13 sign.Elems refl (d_bare (d_atom (d_name 19))))))))))))) (d_connected (d_link (d_premise (d_link (d_link (d_bare (d_relation 38 sign.Equal refl (d_link (d_link (d_bare (d_select 34 36 (d_atom (d_name 33)))))) (d_link (d_link (d_bare (d_atom (d_numeral 40)))))))))))) (d_connected (d_link (d_premise (d_link (d_link (d_bare (d_side (d_link (d_link (d_bare (d_atom (d_name 45))))))))))));
    }

under_second_change : Under document (value (v.of coll.Tuple ((v.number (pos 8)) ∷ (v.number (pos 1)) ∷ (v.number (pos 4)) ∷ (v.number (pos 9)) ∷ []))) tree_second_change
unfolding eval free op.unary op.binary op.select op.grow
under_second_change f χ h = ap (outcome (by χ)) (naming.settled document tree_second_change f (facts_of document) h (agree_all document (free tree_second_change []) refl))

pub examples : Examples
examples =
    record {
      mod_below = gives_mod_below;
      rem_below = gives_rem_below;
      mod_by_below = gives_mod_by_below;
      not_equal = gives_not_equal;
      decided = gives_decided;
      made_up = gives_made_up;
      none = gives_none;
      passed_over = goes_passed_over;
      one_candidate = gives_one_candidate;
      settled = record { tree = tree_one_candidate; reads = reads_one_candidate; holds = settled_holds };
      second_case = gives_second_case;
      by_sight = record { tree = tree_by_sight; reads = reads_by_sight; holds = by_sight_holds };
      hidden = record { tree = tree_hidden; reads = reads_hidden; holds = hidden_holds };
      lengths = record { tree = tree_lengths; reads = reads_lengths; holds = under_lengths };
      in_range = record { tree = tree_in_range; reads = reads_in_range; holds = under_in_range };
      authors = record { tree = tree_authors; reads = reads_authors; holds = under_authors };
      second_change = record { tree = tree_second_change; reads = reads_second_change; holds = under_second_change };
    }
