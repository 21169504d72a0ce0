-- Comprehensions, member by member.
use Rattle.std.proofs.Common.{◌≡◌, Bool, true, false, cond, ◌⊎◌, List, [], ◌∷◌, ◌++◌, Ok, Err, sym, refl, ap, ◌∙◌, subst, inl, inr, append_assoc}
use Rattle.std.proofs.lemmas.List.{append-nil}
use Rattle.std.proofs.lemmas.Bool.{and_parts}
use Rattle.syntax.specs.declared.Collection.{Collection}
use Rattle.syntax.specs.declared.Collection.TheVariants.{Set, Sequence, Tuple}
use Rattle.syntax.specs.Tree.{Place, Name, Tree, Optional}
use Rattle.values.specs.declared.Fault.{Fault}
use Rattle.values.specs.declared.Fault.TheVariants.{WrongKind, TooLarge}
use Rattle.values.specs.declared.Operand.TheVariants.{Number}
use Rattle.values.specs.Value.{Value, number, truth, many, of, list, pack}
use Rattle.values.specs.Lawful.{fits}
use Rattle.values.specs.Sets.{gathered}
use Rattle.values.specs.Operators.{is, grown, grow}
use Rattle.syntax.specs.Names.{In}
use Rattle.meaning.specs.Names.{bind, Facts, Sight}
use Rattle.meaning.specs.Course.{Outcome, value, fault, Course, ended}
use Rattle.meaning.specs.Eval.{given, told, truth_of, branch, looped, all_numbers, fit, over, added, adding, filtering, eval, eval_or}
use Rattle.meaning.specs.Play.{Picker, outcome, begun}
use Rattle.meaning.specs.Laws.{side, if_true, those, each, Values, collected, filtered, Comprehended, Comprehending}
use Rattle.meaning.proofs.Plays.{outcome_bind, begun_bind}
use Rattle.meaning.proofs.Members.{unpacked}

abbrev is_value : Outcome → Type 0
is_value (value v) = Unit {0}
is_value (fault k q) = ⊥

no_value : {k : Fault} {q : Place} {u : Value} → fault k q ≡ value u → ⊥
no_value e = subst is_value (sym e) tt

-- all of them added, one by one
abbrev grown_all : Collection → List Value → List Value → List Value
grown_all k us [] = us
grown_all k us (w ∷ ws) = grown_all k (grown k us w) ws

module _ (pick : Picker) (p : Place) (k : Collection) (c r : Value → Course) where
  abbrev rest : List Value → Outcome → Course
  rest vs = looped (filtering p k c r) vs

  abbrev lists : List Value → List Place
  lists vs = each (λ v. filtered (side (outcome pick (c v))) (begun pick (c v)) (begun pick (r v))) vs

  abbrev Decided : List Value → Type 0
  Decided vs = (v : Value) → In v vs → (outcome pick (c v) ≡ value (truth true)) ⊎ (outcome pick (c v) ≡ value (truth false))

  -- what the loop over vs comes to from the members us
  record Built (us vs : List Value) (u : Value) (l : List Place) : Type 0 where
    decided : Decided vs
    results : List Value
    gives : Values (λ v. outcome pick (r v)) (those (λ v. outcome pick (c v)) vs) results
    is_of : u ≡ of k (grown_all k us results)
    list_is : l ≡ lists vs

  abbrev Goal : List Value → List Value → Value → Type 0
  Goal us vs u = outcome pick (rest vs (value (of k us))) ≡ value u → Built us vs u (begun pick (rest vs (value (of k us))))

  module _ (v : Value) (vs : List Value) (u : Value) (again : (us : List Value) → Goal us vs u) where
    -- from the outcome of the expression before the bar
    abbrev put : List Value → Outcome → Course
    put us o = given (λ x. given (λ y. rest vs (value y)) (added p k (value (of k us)) x)) o

    abbrev onward : List Value → Value → Course
    onward us w = rest vs (value (of k (grown k (list (pack us)) w)))

    record Added (us : List Value) (o : Outcome) : Type 0 where
      what : Value
      it_is : o ≡ value what
      goes : outcome pick (onward us what) ≡ value u
      begins_as : begun pick (put us o) ≡ begun pick (onward us what)

    adds : (us : List Value) (o : Outcome) → outcome pick (put us o) ≡ value u → Added us o
    unfolding grow
    adds us (value w) h = go (fits (of k (grown k (list (pack us)) w))) refl h
      where
        abbrev_of : Bool → Course
        abbrev_of b = given (λ y. rest vs (value y)) (told p (cond b (Ok (of k (grown k (list (pack us)) w))) (Err TooLarge)))

        go : (b : Bool) → fits (of k (grown k (list (pack us)) w)) ≡ b → outcome pick (abbrev_of b) ≡ value u → Added us (value w)
        go true e j = record { what = w; it_is = refl; goes = j; begins_as = ap (λ b. begun pick (abbrev_of b)) e }
        go false e j = absurd (no_value j)
    adds us (fault j q) h = absurd (no_value h)

    record Step (us : List Value) (o : Outcome) (l : List Place) : Type 0 where
      now : (o ≡ value (truth true)) ⊎ (o ≡ value (truth false))
      later : Decided vs
      results : List Value
      gives : Values (λ w. outcome pick (r w)) (if_true (side o) v ++ those (λ w. outcome pick (c w)) vs) results
      is_of : u ≡ of k (grown_all k us results)
      list_is : begun pick (c v) ++ l ≡ filtered (side o) (begun pick (c v)) (begun pick (r v)) ++ lists vs

    abbrev turn : List Value → Outcome → Course
    turn us o = branch (adding p k (r v) (rest vs) (value (of k us))) (rest vs (value (of k us))) (truth_of p o)

    step : (us : List Value) (o : Outcome) → outcome pick (turn us o) ≡ value u → Step us o (begun pick (turn us o))
    step us (value (number z)) h = absurd (no_value h)
    step us (value (truth true)) h =
        let a = adds us (outcome pick (r v)) (sym (outcome_bind pick (put us) (r v)) ∙ h) in
        let b = again (grown k (list (pack us)) a.what) a.goes in
        record {
          now = inl refl;
          later = b.decided;
          results = a.what ∷ b.results;
          gives = (a.it_is, b.gives);
          is_of = b.is_of ∙ ap (λ l. of k (grown_all k (grown k l a.what) b.results)) (unpacked us);
          list_is =
              ap (λ l. begun pick (c v) ++ l) (begun_bind pick (put us) (r v) ∙ ap (λ l. begun pick (r v) ++ l) (a.begins_as ∙ b.list_is))
              ∙ sym (append_assoc (begun pick (c v)) (begun pick (r v)) (lists vs));
        }
    step us (value (truth false)) h =
        let b = again us h in
        record { now = inr refl; later = b.decided; results = b.results; gives = b.gives; is_of = b.is_of; list_is = ap (λ l. begun pick (c v) ++ l) b.list_is }
    step us (value (many j ws)) h = absurd (no_value h)
    step us (fault j q) h = absurd (no_value h)

    built : (us : List Value) → Goal us (v ∷ vs) u
    built us h =
        let t = step us (outcome pick (c v)) (sym (outcome_bind pick (turn us) (c v)) ∙ h) in
        record {
          decided = λ w i. which w i t.now t.later;
          results = t.results;
          gives = t.gives;
          is_of = t.is_of;
          list_is = begun_bind pick (turn us) (c v) ∙ t.list_is;
        }
      where
        which : (w : Value) → In w (v ∷ vs) → (outcome pick (c v) ≡ value (truth true)) ⊎ (outcome pick (c v) ≡ value (truth false)) → Decided vs → (outcome pick (c w) ≡ value (truth true)) ⊎ (outcome pick (c w) ≡ value (truth false))
        which w (inl e) now later = subst (λ y. (outcome pick (c y) ≡ value (truth true)) ⊎ (outcome pick (c y) ≡ value (truth false))) (sym e) now
        which w (inr i) now later = later w i

  builds : (vs : List Value) (u : Value) (us : List Value) → Goal us vs u
  builds [] u us h = record { decided = λ v i. absurd i; results = []; gives = tt; is_of = let q : of k us ≡ u = value_is h in sym q; list_is = refl }
    where
      value_is : {a b : Value} → value a ≡ value b → a ≡ b
      value_is e = cc
  builds (v ∷ vs) u us h = built v vs u (builds vs u) us h

-- ---- what is collected

as_set : (us ws : List Value) → grown_all Set us ws ≡ gathered us ws
as_set us [] = refl
as_set us (w ∷ ws) = as_set (grown Set us w) ws

as_sequence : (us ws : List Value) → grown_all Sequence us ws ≡ us ++ ws
as_sequence us [] = sym (append-nil us)
as_sequence us (w ∷ ws) = as_sequence (us ++ w ∷ []) ws ∙ append_assoc us (w ∷ []) ws

as_tuple : (us ws : List Value) → grown_all Tuple us ws ≡ us ++ ws
as_tuple us [] = sym (append-nil us)
as_tuple us (w ∷ ws) = as_tuple (us ++ w ∷ []) ws ∙ append_assoc us (w ∷ []) ws

as_collected : (k : Collection) (ws : List Value) → of k (grown_all k [] ws) ≡ collected k ws
as_collected Set ws = ap (of Set) (as_set [] ws)
as_collected Sequence ws = ap (of Sequence) (as_sequence [] ws)
as_collected Tuple ws = ap (of Tuple) (as_tuple [] ws)

each_number : (vs : List Value) → all_numbers vs ≡ true → (v : Value) → In v vs → is Number v ≡ true
each_number [] h v i = absurd i
each_number (w ∷ vs) h v (inl e) = ap (is Number) e ∙ (and_parts (is Number w) (all_numbers vs) h).0
each_number (w ∷ vs) h v (inr i) = each_number vs (and_parts (is Number w) (all_numbers vs) h).1 v i

module _ (pick : Picker) (p : Place) (k : Collection) (e : Tree) (x : Name) (a : Tree) (c : Optional) (f : Facts) (s : Sight) (vs : List Value) (u : Value) (q : outcome pick (eval a f s) ≡ value (of Set vs)) where
  abbrev C : Value → Course
  C v = eval_or c f (bind x v s) (ended (value (truth true)))

  abbrev R : Value → Course
  R v = eval e f (bind x v s)

  abbrev whole : Outcome → Course
  whole o = given (over p k (filtering p k C R) (value (of k []))) o

  abbrev loop : List Value → Course
  loop ws = cond (fit k ws) (looped (filtering p k C R) ws (value (of k []))) (ended (fault WrongKind p))

  record Looped (ws : List Value) : Type 0 where
    fitting : fit k ws ≡ true
    built : Built pick p k C R [] ws u (begun pick (loop ws))

  loops : (ws : List Value) → outcome pick (loop ws) ≡ value u → Looped ws
  loops ws h = go (fit k ws) refl h
    where
      go : (b : Bool) → fit k ws ≡ b → outcome pick (cond b (looped (filtering p k C R) ws (value (of k []))) (ended (fault WrongKind p))) ≡ value u → Looped ws
      go true j i =
          let t = builds pick p k C R ws u [] i in
          record {
            fitting = j;
            built = record { decided = t.decided; results = t.results; gives = t.gives; is_of = t.is_of; list_is = ap (λ b. begun pick (cond b (looped (filtering p k C R) ws (value (of k []))) (ended (fault WrongKind p)))) j ∙ t.list_is };
          }
      go false j i = absurd (no_value i)

  comprehended_is : outcome pick (eval (Tree.comprehension p k e x a c) f s) ≡ value u → Comprehended pick p k e x a c f s vs u
  unfolding eval
  comprehended_is h =
      let i : outcome pick (loop (list (pack vs))) ≡ value u = ap (λ o. outcome pick (whole o)) (sym q) ∙ sym (outcome_bind pick whole (eval a f s)) ∙ h in
      let t = loops vs (subst (λ ws. outcome pick (loop ws) ≡ value u) (unpacked vs) i) in
      record {
        numbers = λ j v m. each_number vs (subst (λ z. fit z vs ≡ true) j t.fitting) v m;
        decided = t.built.decided;
        results = t.built.results;
        gives = t.built.gives;
        is_value = t.built.is_of ∙ as_collected k t.built.results;
        list =
            ap (λ l. p ∷ l)
            (begun_bind pick whole (eval a f s)
            ∙ ap (λ l. begun pick (eval a f s) ++ l)
            (ap (λ o. begun pick (whole o)) q ∙ ap (λ ws. begun pick (loop ws)) (unpacked vs) ∙ t.built.list_is));
      }

pub comprehending : Comprehending
comprehending pick p k e x a c f s vs u q h = comprehended_is pick p k e x a c f s vs u q h
