-- Connectives and quantifiers: the tables, duality, and sets without members.
use Rattle.std.proofs.Common.{◌≡◌, Bool, true, false, cond, not, ◌&&◌, List, [], ◌∷◌, ◌++◌, sym, refl, ap, ◌∙◌}
use Rattle.std.proofs.lemmas.List.{append-nil}
use Rattle.syntax.specs.declared.Binary.TheVariants.{Equal, NotEqual, InSet, NotInSet}
use Rattle.syntax.specs.declared.Connective.{Connective}
use Rattle.syntax.specs.declared.Connective.TheVariants.{Implies, Or, And}
use Rattle.syntax.specs.declared.Quantifier.TheVariants.{Exists}
use Rattle.syntax.specs.declared.Collection.TheVariants.{Set}
use Rattle.syntax.specs.Tree.{Place}
use Rattle.values.specs.declared.Fault.{Fault}
use Rattle.values.specs.declared.Fault.TheVariants.{WrongKind}
use Rattle.values.specs.declared.Operand.TheVariants.{Many}
use Rattle.values.specs.Value.{Value, number, truth, many}
use Rattle.values.specs.Sets.{member}
use Rattle.values.specs.Operators.{is, members, taking, answer, binary}
use Rattle.meaning.specs.Names.{bind}
use Rattle.meaning.specs.Course.{Outcome, value, fault, Course, ended, begins, chooses, ◌>>=◌}
use Rattle.meaning.specs.Eval.{given, strict, told, Truth, holds, fails, truth_of, decides, deciding, left, joined, connect, looped, over, kept, searching, eval}
use Rattle.meaning.specs.Play.{Picker, outcome, begun}
use Rattle.meaning.specs.Laws.{Side, yea, nay, other, failed, side, tabled, alone, Connecting, turn, Turned, Duality, none_of, Vacuous}
use Rattle.meaning.proofs.Plays.{outcome_bind, begun_bind}

-- ---- the tables

abbrev counts : Place → Side → Truth
counts p yea = holds true
counts p nay = holds false
counts p other = fails WrongKind p
counts p (failed k q) = fails k q

counted : (p : Place) (o : Outcome) → truth_of p o ≡ counts p (side o)
counted p (value (number z)) = refl
counted p (value (truth true)) = refl
counted p (value (truth false)) = refl
counted p (value (many k vs)) = refl
counted p (fault k q) = refl

abbrev met : Bool → Truth → Truth → Outcome
met d a b = cond (decides d a) (value (truth d)) (joined d a b)

meets : (op : Connective) (p : Place) (a b : Side) → met (deciding op) (left op (counts p a)) (counts p b) ≡ tabled op p a b
meets Or p yea yea = refl
meets Or p yea nay = refl
meets Or p yea (failed j r) = refl
meets Or p yea other = refl
meets Or p nay yea = refl
meets Or p nay nay = refl
meets Or p nay (failed j r) = refl
meets Or p nay other = refl
meets Or p (failed k q) yea = refl
meets Or p (failed k q) nay = refl
meets Or p (failed k q) (failed j r) = refl
meets Or p (failed k q) other = refl
meets Or p other yea = refl
meets Or p other nay = refl
meets Or p other (failed j r) = refl
meets Or p other other = refl
meets And p yea yea = refl
meets And p yea nay = refl
meets And p yea (failed j r) = refl
meets And p yea other = refl
meets And p nay yea = refl
meets And p nay nay = refl
meets And p nay (failed j r) = refl
meets And p nay other = refl
meets And p (failed k q) yea = refl
meets And p (failed k q) nay = refl
meets And p (failed k q) (failed j r) = refl
meets And p (failed k q) other = refl
meets And p other yea = refl
meets And p other nay = refl
meets And p other (failed j r) = refl
meets And p other other = refl
meets Implies p yea yea = refl
meets Implies p yea nay = refl
meets Implies p yea (failed j r) = refl
meets Implies p yea other = refl
meets Implies p nay yea = refl
meets Implies p nay nay = refl
meets Implies p nay (failed j r) = refl
meets Implies p nay other = refl
meets Implies p (failed k q) yea = refl
meets Implies p (failed k q) nay = refl
meets Implies p (failed k q) (failed j r) = refl
meets Implies p (failed k q) other = refl
meets Implies p other yea = refl
meets Implies p other nay = refl
meets Implies p other (failed j r) = refl
meets Implies p other other = refl

stops : (op : Connective) (p : Place) (a : Side) → decides (deciding op) (left op (counts p a)) ≡ alone op a
stops Or p yea = refl
stops Or p nay = refl
stops Or p (failed k q) = refl
stops Or p other = refl
stops And p yea = refl
stops And p nay = refl
stops And p (failed k q) = refl
stops And p other = refl
stops Implies p yea = refl
stops Implies p nay = refl
stops Implies p (failed k q) = refl
stops Implies p other = refl

module _ (pick : Picker) (p : Place) (d : Bool) (b : Course) (a : Truth) where
  connect_outcome : outcome pick (connect p d b a) ≡ met d a (truth_of p (outcome pick b))
  connect_outcome = go (decides d a)
    where
      go : (c : Bool) → outcome pick (cond c (ended (value (truth d))) (b >>= λ o. ended (joined d a (truth_of p o)))) ≡ cond c (value (truth d)) (joined d a (truth_of p (outcome pick b)))
      go true = refl
      go false = outcome_bind pick (λ o. ended (joined d a (truth_of p o))) b

  connect_begun : begun pick (connect p d b a) ≡ cond (decides d a) [] (begun pick b)
  connect_begun = go (decides d a)
    where
      go : (c : Bool) → begun pick (cond c (ended (value (truth d))) (b >>= λ o. ended (joined d a (truth_of p o)))) ≡ cond c [] (begun pick b)
      go true = refl
      go false = begun_bind pick (λ o. ended (joined d a (truth_of p o))) b ∙ append-nil (begun pick b)

pub connecting : Connecting
unfolding eval
connecting =
    record {
      table = λ pick op p a b f s.
          outcome_bind pick (λ o. connect p (deciding op) (eval b f s) (left op (truth_of p o))) (eval a f s)
          ∙ connect_outcome pick p (deciding op) (eval b f s) (left op (truth_of p (outcome pick (eval a f s))))
          ∙ (λ i. met (deciding op) (left op (counted p (outcome pick (eval a f s)) i)) (counted p (outcome pick (eval b f s)) i))
          ∙ meets op p (side (outcome pick (eval a f s))) (side (outcome pick (eval b f s)));
      list = λ pick op p a b f s.
          ap (λ l. p ∷ l)
          (begun_bind pick (λ o. connect p (deciding op) (eval b f s) (left op (truth_of p o))) (eval a f s)
          ∙ ap (λ l. begun pick (eval a f s) ++ l)
          (connect_begun pick p (deciding op) (eval b f s) (left op (truth_of p (outcome pick (eval a f s))))
          ∙ (λ i. cond (decides (deciding op) (left op (counted p (outcome pick (eval a f s)) i))) [] (begun pick (eval b f s)))
          ∙ ap (λ c. cond c [] (begun pick (eval b f s))) (stops op p (side (outcome pick (eval a f s))))));
    }

-- ---- duality

module _ (pick : Picker) where
  turned_begins : (p : Place) (m n : Course) → Turned pick m n → Turned pick (begins p m) (begins p n)
  turned_begins p m n h = record { out = h.out; list = ap (λ l. p ∷ l) h.list }

  turned_bind : (m n : Course) (k j : Outcome → Course) → Turned pick m n → ((o : Outcome) → Turned pick (k o) (j (turn o))) → Turned pick (m >>= k) (n >>= j)
  turned_bind m n k j h g =
      record {
        out = outcome_bind pick j n ∙ ap (λ o. outcome pick (j o)) h.out ∙ (g (outcome pick m)).out ∙ ap turn (sym (outcome_bind pick k m));
        list = begun_bind pick j n ∙ (λ i. h.list i ++ begun pick (j (h.out i))) ∙ ap (λ l. begun pick m ++ l) (g (outcome pick m)).list ∙ sym (begun_bind pick k m);
      }

  same_bind : (m : Course) (k j : Outcome → Course) → ((o : Outcome) → Turned pick (k o) (j o)) → Turned pick (m >>= k) (m >>= j)
  same_bind (ended o) k j g = g o
  same_bind (begins p m) k j g = turned_begins p (m >>= k) (m >>= j) (same_bind m k j g)
  same_bind (chooses p s c cs f) k j g = let h = same_bind (f (pick p s c cs)) k j g in record { out = h.out; list = h.list }

  ends : (o r : Outcome) → r ≡ turn o → Turned pick (ended o) (ended r)
  ends o r e = record { out = e; list = refl }

  module _ (p : Place) (b b' : Course) (h : Turned pick b b') where
    after_fault : (k : Fault) (q : Place) → Turned pick (connect p true b (fails k q)) (connect p false b' (fails k q))
    after_fault k q = turned_bind b b' _ _ h go
      where
        go : (o : Outcome) → Turned pick (ended (joined true (fails k q) (truth_of p o))) (ended (joined false (fails k q) (truth_of p (turn o))))
        go (value (number z)) = ends _ _ refl
        go (value (truth true)) = ends _ _ refl
        go (value (truth false)) = ends _ _ refl
        go (value (many j vs)) = ends _ _ refl
        go (fault j r) = ends _ _ refl

    connect_turned : (o : Outcome) → Turned pick (connect p true b (truth_of p o)) (connect p false b' (truth_of p (turn o)))
    connect_turned (value (number z)) = after_fault WrongKind p
    connect_turned (value (truth true)) = ends _ _ refl
    connect_turned (value (truth false)) = turned_bind b b' _ _ h go
      where
        go : (o : Outcome) → Turned pick (ended (joined true (holds false) (truth_of p o))) (ended (joined false (holds true) (truth_of p (turn o))))
        go (value (number z)) = ends _ _ refl
        go (value (truth true)) = ends _ _ refl
        go (value (truth false)) = ends _ _ refl
        go (value (many j vs)) = ends _ _ refl
        go (fault j r) = ends _ _ refl
    connect_turned (value (many k vs)) = after_fault WrongKind p
    connect_turned (fault k q) = after_fault k q

  -- one member of a quantifier
  abbrev Goes : (Outcome → Course) → (Outcome → Course) → Type 0
  Goes go go' = (a r : Outcome) → r ≡ turn a → Turned pick (go a) (go' r)

  kept_turned : (a r : Outcome) (k : Fault) (q : Place) → r ≡ turn a → kept r (fails k q) ≡ turn (kept a (fails k q))
  kept_turned (value (number z)) r k q e = ap (λ o. kept o (fails k q)) e
  kept_turned (value (truth b)) r k q e = ap (λ o. kept o (fails k q)) e
  kept_turned (value (many c vs)) r k q e = ap (λ o. kept o (fails k q)) e
  kept_turned (fault j z) r k q e = ap (λ o. kept o (fails k q)) e

  abbrev step : Place → Bool → (Outcome → Course) → Outcome → Outcome → Course
  step p d go a o = cond (decides d (truth_of p o)) (ended (value (truth d))) (go (kept a (truth_of p o)))

  step_turned : (p : Place) (go go' : Outcome → Course) → Goes go go' → (a r : Outcome) → r ≡ turn a → (o : Outcome) → Turned pick (step p true go a o) (step p false go' r (turn o))
  step_turned p go go' g a r e (value (number z)) = g (kept a (fails WrongKind p)) (kept r (fails WrongKind p)) (kept_turned a r WrongKind p e)
  step_turned p go go' g a r e (value (truth true)) = ends _ _ refl
  step_turned p go go' g a r e (value (truth false)) = g a r e
  step_turned p go go' g a r e (value (many k ws)) = g (kept a (fails WrongKind p)) (kept r (fails WrongKind p)) (kept_turned a r WrongKind p e)
  step_turned p go go' g a r e (fault k q) = g (kept a (fails k q)) (kept r (fails k q)) (kept_turned a r k q e)

  module _ (p : Place) (b b' : Value → Course) (h : (v : Value) → Turned pick (b v) (b' v)) where
    looped_turned : (vs : List Value) → Goes (looped (searching p true b) vs) (looped (searching p false b') vs)
    looped_turned [] a r e = ends a r e
    looped_turned (v ∷ vs) a r e = turned_bind (b v) (b' v) _ _ (h v) (step_turned p _ _ (looped_turned vs) a r e)

    over_turned : (o : Outcome) → Turned pick (given (over p Set (searching p true b) (value (truth false))) o) (given (over p Set (searching p false b') (value (truth true))) o)
    over_turned (value v) = go (is (Many Set) v && true) (members v)
      where
        go : (c : Bool) (vs : List Value) → Turned pick (cond c (looped (searching p true b) vs (value (truth false))) (ended (fault WrongKind p))) (cond c (looped (searching p false b') vs (value (truth true))) (ended (fault WrongKind p)))
        go true vs = looped_turned vs (value (truth false)) (value (truth true)) refl
        go false vs = ends _ _ refl
    over_turned (fault k q) = ends _ _ refl

-- ---- parts that are exchanged so

module _ (pick : Picker) where
  given_turned : (m : Course) (k j : Value → Course) → ((v : Value) → Turned pick (k v) (j v)) → Turned pick (strict m k) (strict m j)
  given_turned m k j h = same_bind pick m (given k) (given j) go
    where
      go : (o : Outcome) → Turned pick (given k o) (given j o)
      go (value v) = h v
      go (fault i q) = ends pick _ _ refl

  differ : (p : Place) (v w : Value) → told p (binary NotEqual v w) ≡ turn (told p (binary Equal v w))
  unfolding binary
  differ p v w = refl

  outside : (p : Place) (v w : Value) → told p (binary NotInSet v w) ≡ turn (told p (binary InSet v w))
  unfolding binary
  outside p v w = go (is (Many Set) w)
    where
      go : (b : Bool) → told p (taking b (answer (not (member v (members w))))) ≡ turn (told p (taking b (answer (member v (members w)))))
      go true = refl
      go false = refl

pub duality : Duality
unfolding eval
duality =
    record {
      equal = λ pick p a b f s. turned_begins pick p _ _ (given_turned pick (eval a f s) _ _ (λ v. given_turned pick (eval b f s) _ _ (λ w. ends pick _ _ (differ pick p v w))));
      member = λ pick p a b f s. turned_begins pick p _ _ (given_turned pick (eval a f s) _ _ (λ v. given_turned pick (eval b f s) _ _ (λ w. ends pick _ _ (outside pick p v w))));
      and_or = λ pick p a b a' b' f s h k.
          turned_begins pick p _ _ (turned_bind pick (eval a f s) (eval a' f s) _ _ h (connect_turned pick p (eval b f s) (eval b' f s) k));
      forall_exists = λ pick p x a b b' f s h.
          turned_begins pick p _ _
          (same_bind pick (eval a f s) _ _ (over_turned pick p (λ v. eval b f (bind x v s)) (λ v. eval b' f (bind x v s)) h));
    }

-- ---- over {}

pub vacuous : Vacuous
unfolding eval
vacuous =
    record {
      exists_none = λ pick p r x b f s. refl;
      forall_none = λ pick p r x b f s. refl;
      behind_failed = λ pick p q r x a b f s k z e.
          connecting.table pick Or q a (none_of Exists p r x b) f s
          ∙ ap (λ o. tabled Or q (side o) nay) e;
    }
