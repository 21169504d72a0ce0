-- Quantifiers and `let be`, member by member.
use Rattle.std.proofs.Common.{◌≡◌, Bool, true, false, cond, not, List, [], ◌∷◌, ◌++◌, sym, refl, ap, ◌∙◌, inl, inr, append_assoc}
use Rattle.std.proofs.lemmas.List.{append-nil}
use mathlib.Core.Bool.{beq}
use Rattle.syntax.specs.declared.Connective.TheVariants.{Or, And}
use Rattle.syntax.specs.declared.Quantifier.{Quantifier}
use Rattle.syntax.specs.declared.Quantifier.TheVariants.{Forall, Exists}
use Rattle.syntax.specs.declared.Collection.TheVariants.{Set}
use Rattle.syntax.specs.Tree.{Place, Name, Tree}
use Rattle.values.specs.declared.Fault.{Fault}
use Rattle.values.specs.declared.Fault.TheVariants.{WrongKind}
use Rattle.values.specs.Value.{Value, number, truth, many, of, list, pack}
use Rattle.values.specs.Operators.{members}
use Rattle.syntax.specs.Names.{In}
use Rattle.meaning.specs.Names.{bind, Facts, Sight}
use Rattle.meaning.specs.Course.{Outcome, value, fault, Course, ended}
use Rattle.meaning.specs.Eval.{given, strict, Truth, holds, fails, truth_of, decides, looped, over, kept, searching, decider, candidate, testing, choice, eval}
use Rattle.meaning.specs.Play.{Picker, outcome, begun}
use Rattle.meaning.specs.Laws.{side, alone, decisive, failing, walked, Quantified, Quantifying, if_true, those, each, Chosen, Letting}
use Rattle.meaning.proofs.Plays.{outcome_bind, begun_bind}

itself : (d : Bool) → beq d d ≡ true
itself true = refl
itself false = refl

otherwise : (d : Bool) → beq (not d) d ≡ false
otherwise true = refl
otherwise false = refl

-- what does not decide
open_still : (p : Place) (d : Bool) (o : Outcome) → (o ≡ value (truth d) → ⊥) → decides d (truth_of p o) ≡ false
open_still p d (value (number z)) h = refl
open_still p true (value (truth true)) h = absurd (h refl)
open_still p true (value (truth false)) h = refl
open_still p false (value (truth true)) h = refl
open_still p false (value (truth false)) h = absurd (h refl)
open_still p d (value (many k vs)) h = refl
open_still p d (fault k q) h = refl

-- the first that fails stays
stays : (k : Fault) (q : Place) (t : Truth) → kept (fault k q) t ≡ fault k q
stays k q (holds b) = refl
stays k q (fails j r) = refl

module _ (pick : Picker) (p : Place) (d : Bool) (b : Value → Course) where
  abbrev step : (Outcome → Course) → Outcome → Outcome → Course
  step go a o = cond (decides d (truth_of p o)) (ended (value (truth d))) (go (kept a (truth_of p o)))

  abbrev rest : List Value → Outcome → Course
  rest vs = looped (searching p d b) vs

  one : (v : Value) (vs : List Value) (a : Outcome) → outcome pick (rest (v ∷ vs) a) ≡ outcome pick (step (rest vs) a (outcome pick (b v)))
  one v vs a = outcome_bind pick (step (rest vs) a) (b v)

  decided : (u : Value) (vs : List Value) (a : Outcome) → In u vs → outcome pick (b u) ≡ value (truth d) → outcome pick (rest vs a) ≡ value (truth d)
  decided u [] a i e = absurd i
  decided u (v ∷ vs) a (inl j) e =
      one v vs a
      ∙ ap (λ o. outcome pick (step (rest vs) a o)) (ap (λ w. outcome pick (b w)) (sym j) ∙ e)
      ∙ ap (λ c. outcome pick (cond c (ended (value (truth d))) (rest vs a))) (itself d)
  decided u (v ∷ vs) a (inr i) e = one v vs a ∙ go (decides d (truth_of p (outcome pick (b v)))) (rest vs (kept a (truth_of p (outcome pick (b v))))) (decided u vs (kept a (truth_of p (outcome pick (b v)))) i e)
    where
      go : (c : Bool) (m : Course) → outcome pick m ≡ value (truth d) → outcome pick (cond c (ended (value (truth d))) m) ≡ value (truth d)
      go true m h = refl
      go false m h = h

  -- members of the other truth value change nothing
  passed : (us vs : List Value) (a : Outcome) → ((u : Value) → In u us → outcome pick (b u) ≡ value (truth (not d))) → outcome pick (rest (us ++ vs) a) ≡ outcome pick (rest vs a)
  passed [] vs a h = refl
  passed (u ∷ us) vs a h =
      one u (us ++ vs) a
      ∙ ap (λ o. outcome pick (step (rest (us ++ vs)) a o)) (h u (inl refl))
      ∙ ap (λ c. outcome pick (cond c (ended (value (truth d))) (rest (us ++ vs) a))) (otherwise d)
      ∙ passed us vs a (λ w i. h w (inr i))

  -- behind a member that failed
  failed_still : (ws : List Value) (k : Fault) (q : Place) → ((w : Value) → In w ws → outcome pick (b w) ≡ value (truth d) → ⊥) → outcome pick (rest ws (fault k q)) ≡ fault k q
  failed_still [] k q h = refl
  failed_still (w ∷ ws) k q h =
      one w ws (fault k q)
      ∙ ap (λ c. outcome pick (cond c (ended (value (truth d))) (rest ws (kept (fault k q) (truth_of p (outcome pick (b w))))))) (open_still p d (outcome pick (b w)) (h w (inl refl)))
      ∙ ap (λ a. outcome pick (rest ws a)) (stays k q (truth_of p (outcome pick (b w))))
      ∙ failed_still ws k q (λ x i. h x (inr i))

  failing_first : (v : Value) (ws : List Value) (u : Value) (k : Fault) (q : Place) → truth_of p (outcome pick (b v)) ≡ fails k q → ((w : Value) → In w ws → outcome pick (b w) ≡ value (truth d) → ⊥) → outcome pick (rest (v ∷ ws) (value u)) ≡ fault k q
  failing_first v ws u k q e h =
      one v ws (value u)
      ∙ ap (λ t. outcome pick (cond (decides d t) (ended (value (truth d))) (rest ws (kept (value u) t)))) e
      ∙ failed_still ws k q h

-- what a body counts for
pub fails_as : (p : Place) (o r : Outcome) → failing p (side o) r → (k : Fault) × (q : Place) × (truth_of p o ≡ fails k q) × (r ≡ fault k q)
fails_as p (value (number z)) r h = (WrongKind, p, refl, h)
fails_as p (value (truth true)) r h = absurd h
fails_as p (value (truth false)) r h = absurd h
fails_as p (value (many k vs)) r h = (WrongKind, p, refl, h)
fails_as p (fault k q) r h = (k, q, refl, h)

-- where it stops
stop_exists : (p : Place) (o : Outcome) → decides true (truth_of p o) ≡ alone Or (side o)
stop_exists p (value (number z)) = refl
stop_exists p (value (truth true)) = refl
stop_exists p (value (truth false)) = refl
stop_exists p (value (many k vs)) = refl
stop_exists p (fault k q) = refl

stop_forall : (p : Place) (o : Outcome) → decides false (truth_of p o) ≡ alone And (side o)
stop_forall p (value (number z)) = refl
stop_forall p (value (truth true)) = refl
stop_forall p (value (truth false)) = refl
stop_forall p (value (many k vs)) = refl
stop_forall p (fault k q) = refl

module _ (pick : Picker) (p : Place) (b : Value → Course) where
  when : (d c : Bool) (m : Course) (l : List Place) → begun pick m ≡ l → begun pick (cond c (ended (value (truth d))) m) ≡ cond c [] l
  when d true m l h = refl
  when d false m l h = h

  walks : (d : Bool) (vs : List Value) (a : Outcome) → begun pick (looped (searching p d b) vs a) ≡ walked d (λ v. outcome pick (b v)) (λ v. begun pick (b v)) vs
  walks true [] a = refl
  walks false [] a = refl
  walks true (v ∷ vs) a =
      begun_bind pick (step pick p true b (rest pick p true b vs) a) (b v)
      ∙ ap (λ l. begun pick (b v) ++ l)
      (when true (decides true (truth_of p (outcome pick (b v)))) _ _ (walks true vs (kept a (truth_of p (outcome pick (b v)))))
      ∙ ap (λ c. cond c [] (walked true (λ w. outcome pick (b w)) (λ w. begun pick (b w)) vs)) (stop_exists p (outcome pick (b v))))
  walks false (v ∷ vs) a =
      begun_bind pick (step pick p false b (rest pick p false b vs) a) (b v)
      ∙ ap (λ l. begun pick (b v) ++ l)
      (when false (decides false (truth_of p (outcome pick (b v)))) _ _ (walks false vs (kept a (truth_of p (outcome pick (b v)))))
      ∙ ap (λ c. cond c [] (walked false (λ w. outcome pick (b w)) (λ w. begun pick (b w)) vs)) (stop_forall p (outcome pick (b v))))

pub unpacked : (vs : List Value) → list (pack vs) ≡ vs
unpacked [] = refl
unpacked (v ∷ vs) = ap (λ l. v ∷ l) (unpacked vs)

decisive_is : (q : Quantifier) → decider q ≡ decisive q
decisive_is Forall = refl
decisive_is Exists = refl

module _ (pick : Picker) (q : Quantifier) (p : Place) (x : Name) (a b : Tree) (f : Facts) (s : Sight) (vs : List Value) (e : outcome pick (eval a f s) ≡ value (of Set vs)) where
  abbrev B : Value → Course
  B v = eval b f (bind x v s)

  abbrev whole : Outcome → Course
  whole o = given (over p Set (searching p (decider q) B) (value (truth (not (decider q))))) o

  to_loop : outcome pick (eval (Tree.quantifier p q x a b) f s) ≡ outcome pick (looped (searching p (decisive q) B) vs (value (truth (not (decisive q)))))
  unfolding eval
  to_loop =
      outcome_bind pick whole (eval a f s)
      ∙ ap (λ o. outcome pick (whole o)) e
      ∙ ap (λ l. outcome pick (looped (searching p (decider q) B) l (value (truth (not (decider q)))))) (unpacked vs)
      ∙ ap (λ d. outcome pick (looped (searching p d B) vs (value (truth (not d))))) (decisive_is q)

  to_list : begun pick (eval (Tree.quantifier p q x a b) f s) ≡ p ∷ (begun pick (eval a f s) ++ begun pick (looped (searching p (decisive q) B) vs (value (truth (not (decisive q))))))
  unfolding eval
  to_list =
      ap (λ l. p ∷ l)
      (begun_bind pick whole (eval a f s)
      ∙ ap (λ l. begun pick (eval a f s) ++ l)
      (ap (λ o. begun pick (whole o)) e
      ∙ ap (λ l. begun pick (looped (searching p (decider q) B) l (value (truth (not (decider q)))))) (unpacked vs)
      ∙ ap (λ d. begun pick (looped (searching p d B) vs (value (truth (not d))))) (decisive_is q)))

  quantified : Quantified pick q p x a b f s vs
  quantified =
      record {
        decided = λ v i h. to_loop ∙ decided pick p (decisive q) B v vs (value (truth (not (decisive q)))) i h;
        undecided = λ h.
            to_loop
            ∙ ap (λ l. outcome pick (looped (searching p (decisive q) B) l (value (truth (not (decisive q)))))) (sym (append-nil vs))
            ∙ passed pick p (decisive q) B vs [] (value (truth (not (decisive q)))) h;
        first_failed = λ us ws v o j h k n.
            let w = fails_as p (outcome pick (B v)) o k in
            to_loop
            ∙ ap (λ l. outcome pick (looped (searching p (decisive q) B) l (value (truth (not (decisive q)))))) j
            ∙ passed pick p (decisive q) B us (v ∷ ws) (value (truth (not (decisive q)))) h
            ∙ failing_first pick p (decisive q) B v ws (truth (not (decisive q))) w.0 w.1 w.2 n
            ∙ sym w.3;
        list = to_list ∙ ap (λ l. p ∷ (begun pick (eval a f s) ++ l)) (walks pick p B (decisive q) vs (value (truth (not (decisive q)))));
      }

pub quantifying : Quantifying
quantifying pick q p x a b f s vs e = quantified pick q p x a b f s vs e

-- ---- `let be`

with_one : (p : Place) (v : Value) (us : List Value) (o : Outcome) → cond (decides true (truth_of p o)) (candidate v (value (of Set us))) (value (of Set us)) ≡ value (of Set (us ++ if_true (side o) v))
with_one p v us (value (number z)) = ap (λ l. value (of Set l)) (sym (append-nil us))
with_one p v us (value (truth true)) = ap (λ l. value (of Set (l ++ v ∷ []))) (unpacked us)
with_one p v us (value (truth false)) = ap (λ l. value (of Set l)) (sym (append-nil us))
with_one p v us (value (many k vs)) = ap (λ l. value (of Set l)) (sym (append-nil us))
with_one p v us (fault k q) = ap (λ l. value (of Set l)) (sym (append-nil us))

module _ (pick : Picker) (p : Place) (c : Value → Course) where
  abbrev next : Value → (Outcome → Course) → Outcome → Outcome → Course
  next v go a o = go (cond (decides true (truth_of p o)) (candidate v a) a)

  abbrev all : List Value → Outcome → Course
  all vs = looped (testing p c) vs

  gathers : (vs us : List Value) → outcome pick (all vs (value (of Set us))) ≡ value (of Set (us ++ those (λ v. outcome pick (c v)) vs))
  gathers [] us = ap (λ l. value (of Set l)) (sym (append-nil us))
  gathers (v ∷ vs) us =
      let o = outcome pick (c v) in
      outcome_bind pick (next v (all vs) (value (of Set us))) (c v)
      ∙ ap (λ a. outcome pick (all vs a)) (with_one p v us o)
      ∙ gathers vs (us ++ if_true (side o) v)
      ∙ ap (λ l. value (of Set l)) (append_assoc us (if_true (side o) v) (those (λ w. outcome pick (c w)) vs))

  begins_each : (vs : List Value) (a : Outcome) → begun pick (all vs a) ≡ each (λ v. begun pick (c v)) vs
  begins_each [] a = refl
  begins_each (v ∷ vs) a = begun_bind pick (next v (all vs) a) (c v) ∙ ap (λ l. begun pick (c v) ++ l) (begins_each vs _)

module _ (pick : Picker) (p : Place) (x : Name) (a c b : Tree) (f : Facts) (s : Sight) (vs : List Value) (e : outcome pick (eval a f s) ≡ value (of Set vs)) where
  abbrev C : Value → Course
  C v = eval c f (bind x v s)

  abbrev L : Value → Course
  L v = eval b f (bind x v s)

  abbrev found : List Value
  found = those (λ v. outcome pick (C v)) vs

  abbrev gather : Course
  gather = strict (eval a f s) (over p Set (testing p C) (value (of Set [])))

  gather_outcome : outcome pick gather ≡ value (of Set found)
  gather_outcome =
      outcome_bind pick (given (over p Set (testing p C) (value (of Set [])))) (eval a f s)
      ∙ ap (λ o. outcome pick (given (over p Set (testing p C) (value (of Set []))) o)) e
      ∙ ap (λ l. outcome pick (looped (testing p C) l (value (of Set [])))) (unpacked vs)
      ∙ gathers pick p C vs []

  gather_begun : begun pick gather ≡ begun pick (eval a f s) ++ each (λ v. begun pick (C v)) vs
  gather_begun =
      begun_bind pick (given (over p Set (testing p C) (value (of Set [])))) (eval a f s)
      ∙ ap (λ l. begun pick (eval a f s) ++ l)
      (ap (λ o. begun pick (given (over p Set (testing p C) (value (of Set []))) o)) e
      ∙ ap (λ l. begun pick (looped (testing p C) l (value (of Set [])))) (unpacked vs)
      ∙ begins_each pick p C vs (value (of Set [])))

  abbrev choose : Outcome → Course
  choose o = given (λ cs. choice p s L (members cs)) o

  chosen_outcome : (ds : List Value) → found ≡ ds → outcome pick (eval (Tree.let_be p x a c b) f s) ≡ outcome pick (choice p s L ds)
  unfolding eval
  chosen_outcome ds j = outcome_bind pick choose gather ∙ ap (λ o. outcome pick (choose o)) gather_outcome ∙ ap (λ l. outcome pick (choice p s L l)) (unpacked found ∙ j)

  chosen_begun : (ds : List Value) → found ≡ ds → begun pick (eval (Tree.let_be p x a c b) f s) ≡ p ∷ ((begun pick (eval a f s) ++ each (λ v. begun pick (C v)) vs) ++ begun pick (choice p s L ds))
  unfolding eval
  chosen_begun ds j =
      ap (λ l. p ∷ l)
      (begun_bind pick choose gather
      ∙ (λ i. gather_begun i ++ begun pick (choose (gather_outcome i)))
      ∙ ap (λ l. (begun pick (eval a f s) ++ each (λ v. begun pick (C v)) vs) ++ begun pick (choice p s L l)) (unpacked found ∙ j))

  chosen_is : Chosen pick p x a c b f s vs
  chosen_is =
      record {
        without = λ j. chosen_outcome [] j;
        without_list = λ j. chosen_begun [] j ∙ ap (λ l. p ∷ l) (append-nil (begun pick (eval a f s) ++ each (λ v. begun pick (C v)) vs));
        taken = λ d ds j. chosen_outcome (d ∷ ds) j;
        taken_list = λ d ds j. chosen_begun (d ∷ ds) j;
      }

pub letting : Letting
letting pick p x a c b f s vs e = chosen_is pick p x a c b f s vs e
