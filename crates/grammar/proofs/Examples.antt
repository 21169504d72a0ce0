-- The examples, computed.
use Rattle.std.proofs.Common.{◌≡◌, ℕ, suc, ◌<◌, ◌≤◌, false, List, [], ◌∷◌, length, drop, Some, None, Option, refl, arith, lit<, lit≤}
use Rattle.tokens.specs.Lexeme.{Symbol, Lexeme}
use Rattle.syntax.specs.Tree.{Tree}
use Rattle.syntax.specs.Names.{free, free_all, free_in, free_of}
use Rattle.grammar.specs.Grammar.{Sort}
use Rattle.grammar.specs.Steps.{parse, Out, out, body}
use Rattle.grammar.specs.Sentences.{Accepted, Refused}
use Rattle.grammar.specs.Places.{Ascend}
use Rattle.grammar.specs.Order.{sites}
use Rattle.grammar.specs.Examples.{numbered, filter_tree, Examples, OrderExamples}
use Rattle.grammar.proofs.Sentences.{sound, first_bad}
use Rattle.grammar.proofs.Exec.{exec, exec_run}

abbrev runs : List Lexeme → Option (Out Tree)
runs ts = exec 200 (parse Sort.expr false) (body (parse Sort.expr false)) ts false

taken : {ts : List Lexeme} {t : Tree} → runs ts ≡ Some (out (Some t) [] false) → Accepted Sort.expr ts t
taken {ts} {t} e = sound Sort.expr ts t (false, exec_run 200 _ _ ts false _ e)

bad : {ts : List Lexeme} {k : ℕ} → k ≤ length ts → runs ts ≡ Some (out None (drop k ts) false) → Refused Sort.expr ts k
bad {ts} {k} le e = first_bad.refused Sort.expr ts k le (false, exec_run 200 _ _ ts false _ e)

early : {ts : List Lexeme} {k : ℕ} (t : Tree) → k < length ts → runs ts ≡ Some (out (Some t) (drop k ts) false) → Refused Sort.expr ts k
early {ts} {k} t lt e = first_bad.left Sort.expr ts k t lt (false, exec_run 200 _ _ ts false _ e)

listed : sites (free filter_tree []) ≡ 3 ∷ 8 ∷ 12 ∷ []
unfolding free free_all free_in free_of
listed = refl

ascending : (k : ℕ) (ss : List Symbol) → Ascend k (numbered k ss)
ascending k [] = tt
ascending k (s ∷ ss) = (omega arith, ascending (suc k) ss)

pub examples : Examples
examples = record {
  empty = bad (lit≤ tt) refl;
  in_b = bad (lit≤ tt) refl;
  in_parentheses = bad (lit≤ tt) refl;
  let_in = taken refl;
  let_in_set = taken refl;
  second_relation = bad (lit≤ tt) refl;
  let_in_let = taken refl;
  let_be = taken refl;
  in_behind_bind = bad (lit≤ tt) refl;
  in_behind_body = taken refl;
  not_b = bad (lit≤ tt) refl;
  not_in_set = taken refl;
  two_relations = early _ (lit< tt) refl;
  not_behind_relation = bad (lit≤ tt) refl;
  not_relation = taken refl;
  to_the_right = taken refl;
  to_the_left = taken refl;
  applied = taken refl;
  range = taken refl;
  late_range = bad (lit≤ tt) refl;
  sequence_range = bad (lit≤ tt) refl;
  comprehension = taken refl;
  one_part = bad (lit≤ tt) refl;
  nine_parts = bad (lit≤ tt) refl;
  others_alone = bad (lit≤ tt) refl;
  cases_others = taken refl;
  elseif = taken refl;
  if_as_operand = bad (lit≤ tt) refl;
}

pub order_examples : OrderExamples
order_examples = record {
  filter = taken refl;
  filter_names = listed;
  ascend = ascending;
}
