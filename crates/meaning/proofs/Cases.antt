-- Patterns and `cases`.
use Rattle.std.proofs.Common.{◌≡◌, Bool, true, false, cond, List, [], ◌∷◌, ◌++◌, pos, sym, refl, ap, ◌∙◌, subst}
use Rattle.std.proofs.lemmas.List.{append-nil}
use mathlib.Core.Option.{Option, none, some}
use Rattle.std.specs.Ordering.{is_eq}
use Rattle.syntax.specs.declared.Collection.{Collection}
use Rattle.syntax.specs.declared.Collection.TheVariants.{Set, Sequence, Tuple}
use Rattle.syntax.specs.Tree.{Place, Pattern, Patterns, Tree, Alternatives, no_more, alternative, Optional, absent, present}
use Rattle.values.specs.declared.Fault.TheVariants.{NoCase}
use Rattle.values.specs.Value.{Value, number, truth, of, compare}
use Rattle.values.specs.Sets.{equal}
use Rattle.values.specs.Operators.{members}
use Rattle.sets.proofs.Order.{equal_of, itself}
use Rattle.sets.proofs.Order as order
use Rattle.meaning.specs.Names.{Binding, Facts, Sight, bind_all}
use Rattle.meaning.specs.Course.{value, fault, Course, ended}
use Rattle.meaning.specs.Eval.{both, match, match_all, matched, eval, eval_cases, eval_or}
use Rattle.meaning.specs.Play.{Picker, outcome, begun}
use Rattle.meaning.specs.Laws.{of_one, unless_fault, Matching, Cased, Casing}
use Rattle.meaning.proofs.Orders.{strict_out, strict_list}

-- ---- patterns

there : Option (List Binding) → Type 0
there none = ⊥
there (some bs) = Unit {0}

-- a test that was passed
passed_test : (b : Bool) (bs : List Binding) → cond b (some []) none ≡ some bs → b ≡ true
unfolding there
passed_test true bs e = refl
passed_test false bs e = absurd (subst there (sym e) tt)

equals : (v w : Value) → equal v w ≡ true → v ≡ w
equals v w e = order.same v w (equal_of (compare v w) e)

abbrev found : Bool → Option (List Binding)
found b = cond b (some []) none

itself_too : (v : Value) → found (equal v v) ≡ some []
itself_too v = ap (λ o. found (is_eq o)) (itself v)

no_parts : (p : Place) (k : Collection) → match (Pattern.parts p k Patterns.none) (of k []) ≡ some []
no_parts p Set = refl
no_parts p Sequence = refl
no_parts p Tuple = refl

too_few : (p : Place) (k : Collection) (t : Pattern) (ts : Patterns) → match (Pattern.parts p k (Patterns.more t ts)) (of k []) ≡ none
too_few p Set t ts = refl
too_few p Sequence t ts = refl
too_few p Tuple t ts = refl

too_many : (p : Place) (k : Collection) (v : Value) (vs : List Value) → match (Pattern.parts p k Patterns.none) (of k (v ∷ vs)) ≡ none
too_many p Set v vs = refl
too_many p Sequence v vs = refl
too_many p Tuple v vs = refl

with_parts : (p : Place) (k : Collection) (t : Pattern) (ts : Patterns) (v : Value) (vs : List Value) → match (Pattern.parts p k (Patterns.more t ts)) (of k (v ∷ vs)) ≡ both (match t v) (match (Pattern.parts p k ts) (of k vs))
with_parts p Set t ts v vs = refl
with_parts p Sequence t ts v vs = refl
with_parts p Tuple t ts v vs = refl

pub matching : Matching
matching =
    record {
      any_value = λ p v. refl;
      a_name = λ p n v. refl;
      numeral_itself = λ p n. itself_too (number (pos n));
      numeral_only = λ p n v bs e. equals v (number (pos n)) (passed_test (equal v (number (pos n))) bs e);
      truth_itself = λ p b. itself_too (truth b);
      truth_only = λ p b v bs e. equals v (truth b) (passed_test (equal v (truth b)) bs e);
      no_parts = no_parts;
      too_few = too_few;
      too_many = too_many;
      with_parts = with_parts;
      other_kind = λ p k ts v e. ap (λ b. cond b (match_all ts (members v)) none) e;
    }

-- ---- `cases`

module _ (pick : Picker) (f : Facts) (s : Sight) (p : Place) (a : Tree) (v : Value) (e : outcome pick (eval a f s) ≡ value v) where
  abbrev rest : Alternatives → Optional → Value → Course
  rest cs o w = eval_cases cs f s w (eval_or o f s (ended (fault NoCase p)))

  case_out : (cs : Alternatives) (o : Optional) → outcome pick (eval (Tree.cases p a cs o) f s) ≡ outcome pick (rest cs o v)
  unfolding eval
  case_out cs o = strict_out pick (eval a f s) (rest cs o) ∙ ap (of_one (λ w. outcome pick (rest cs o w))) e

  case_list : (cs : Alternatives) (o : Optional) → begun pick (eval (Tree.cases p a cs o) f s) ≡ p ∷ (begun pick (eval a f s) ++ begun pick (rest cs o v))
  unfolding eval
  case_list cs o = ap (λ l. p ∷ l) (strict_list pick (eval a f s) (rest cs o) ∙ ap (λ z. begun pick (eval a f s) ++ unless_fault (λ w. begun pick (rest cs o w)) z) e)

  module _ (t : Pattern) (b : Tree) (cs : Alternatives) (o : Optional) (m : Option (List Binding)) (h : match t v ≡ m) where
    first_is : rest (alternative t b cs) o v ≡ matched (λ bs. eval b f (bind_all bs s)) (rest cs o v) m
    unfolding eval
    first_is = ap (matched (λ bs. eval b f (bind_all bs s)) (rest cs o v)) h

  other_is : (b : Tree) → rest no_more (present b) v ≡ eval b f s
  unfolding eval
  other_is b = refl

  none_is : rest no_more absent v ≡ ended (fault NoCase p)
  unfolding eval
  none_is = refl

  cased : Cased pick f s p a v
  cased =
      record {
        taken = λ t b cs o bs h. case_out (alternative t b cs) o ∙ ap (outcome pick) (first_is t b cs o (some bs) h);
        taken_list = λ t b cs o bs h. case_list (alternative t b cs) o ∙ ap (λ m. p ∷ (begun pick (eval a f s) ++ begun pick m)) (first_is t b cs o (some bs) h);
        passed = λ t b cs o h. case_out (alternative t b cs) o ∙ ap (outcome pick) (first_is t b cs o none h) ∙ sym (case_out cs o);
        passed_list = λ t b cs o h. case_list (alternative t b cs) o ∙ ap (λ m. p ∷ (begun pick (eval a f s) ++ begun pick m)) (first_is t b cs o none h) ∙ sym (case_list cs o);
        others = λ b. case_out no_more (present b) ∙ ap (outcome pick) (other_is b);
        others_list = λ b. case_list no_more (present b) ∙ ap (λ m. p ∷ (begun pick (eval a f s) ++ begun pick m)) (other_is b);
        no_case = case_out no_more absent ∙ ap (outcome pick) none_is;
        no_case_list = case_list no_more absent ∙ ap (λ m. p ∷ (begun pick (eval a f s) ++ begun pick m)) none_is ∙ ap (λ l. p ∷ l) (append-nil (begun pick (eval a f s)));
      }

pub casing : Casing
casing pick f s p a v e = cased pick f s p a v e
