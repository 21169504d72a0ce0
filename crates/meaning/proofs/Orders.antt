-- Operators, `let` and `if`: the order of their parts.
use Rattle.std.proofs.Common.{◌≡◌, [], ◌∷◌, ◌++◌, sym, refl, ap, ◌∙◌}
use Rattle.std.proofs.lemmas.List.{append-nil}
use Rattle.syntax.specs.Tree.{Place, Tree}
use Rattle.values.specs.Value.{Value}
use Rattle.values.specs.Operators as op
use Rattle.meaning.specs.Names.{bind, Facts, Sight}
use Rattle.meaning.specs.Course.{Outcome, value, fault, Course, ended}
use Rattle.meaning.specs.Eval.{given, strict, told, truth_of, branch, eval}
use Rattle.meaning.specs.Play.{Picker, outcome, begun}
use Rattle.meaning.specs.Laws.{of_both, of_one, unless_fault, side, failing, Ordering}
use Rattle.meaning.proofs.Plays.{outcome_bind, begun_bind}
use Rattle.meaning.proofs.Members.{fails_as}

module _ (pick : Picker) where
  given_out : (g : Value → Course) (o : Outcome) → outcome pick (given g o) ≡ of_one (λ v. outcome pick (g v)) o
  given_out g (value v) = refl
  given_out g (fault k q) = refl

  given_list : (g : Value → Course) (o : Outcome) → begun pick (given g o) ≡ unless_fault (λ v. begun pick (g v)) o
  given_list g (value v) = refl
  given_list g (fault k q) = refl

  pub strict_out : (m : Course) (g : Value → Course) → outcome pick (strict m g) ≡ of_one (λ v. outcome pick (g v)) (outcome pick m)
  strict_out m g = outcome_bind pick (given g) m ∙ given_out g (outcome pick m)

  pub strict_list : (m : Course) (g : Value → Course) → begun pick (strict m g) ≡ begun pick m ++ unless_fault (λ v. begun pick (g v)) (outcome pick m)
  strict_list m g = begun_bind pick (given g) m ∙ ap (λ l. begun pick m ++ l) (given_list g (outcome pick m))

  -- nothing is begun behind
  quiet : (g : Value → Course) → ((v : Value) → begun pick (g v) ≡ []) → (o : Outcome) → unless_fault (λ v. begun pick (g v)) o ≡ []
  quiet g h (value v) = h v
  quiet g h (fault k q) = refl

  twice : (n : Course) (g : Value → Value → Outcome) (o : Outcome) → of_one (λ v. outcome pick (strict n (λ w. ended (g v w)))) o ≡ of_both g o (outcome pick n)
  twice n g (fault k q) = refl
  twice n g (value v) = strict_out n (λ w. ended (g v w)) ∙ one (outcome pick n)
    where
      one : (o : Outcome) → of_one (λ w. g v w) o ≡ of_both g (value v) o
      one (value w) = refl
      one (fault k q) = refl

  twice_list : (n : Course) (g : Value → Value → Outcome) (o : Outcome) → unless_fault (λ v. begun pick (strict n (λ w. ended (g v w)))) o ≡ unless_fault (λ v. begun pick n) o
  twice_list n g (fault k q) = refl
  twice_list n g (value v) = strict_list n (λ w. ended (g v w)) ∙ ap (λ l. begun pick n ++ l) (quiet (λ w. ended (g v w)) (λ w. refl) (outcome pick n)) ∙ append-nil (begun pick n)

  module _ (f : Facts) (s : Sight) (p : Place) (a b c : Tree) where
    abbrev B : Outcome → Course
    B o = branch (eval b f s) (eval c f s) (truth_of p o)

    if_out : outcome pick (eval (Tree.if_else p a b c) f s) ≡ outcome pick (B (outcome pick (eval a f s)))
    unfolding eval
    if_out = outcome_bind pick B (eval a f s)

    if_list : begun pick (eval (Tree.if_else p a b c) f s) ≡ p ∷ (begun pick (eval a f s) ++ begun pick (B (outcome pick (eval a f s))))
    unfolding eval
    if_list = ap (λ l. p ∷ l) (begun_bind pick B (eval a f s))

    if_none : (o : Outcome) → failing p (side (outcome pick (eval a f s))) o → B (outcome pick (eval a f s)) ≡ ended o
    if_none o h =
        let w = fails_as p (outcome pick (eval a f s)) o h in
        ap (branch (eval b f s) (eval c f s)) w.2 ∙ ap ended (sym w.3)

pub ordering : Ordering
unfolding eval
ordering pick f s =
    record {
      unary_out = λ p o a. strict_out pick (eval a f s) (λ v. ended (told p (op.unary o v)));
      unary_list = λ p o a. ap (λ l. p ∷ l) (strict_list pick (eval a f s) (λ v. ended (told p (op.unary o v))) ∙ ap (λ l. begun pick (eval a f s) ++ l) (quiet pick (λ v. ended (told p (op.unary o v))) (λ v. refl) (outcome pick (eval a f s))) ∙ append-nil (begun pick (eval a f s)));
      binary_out = λ p o a b.
          strict_out pick (eval a f s) (λ v. strict (eval b f s) λ w. ended (told p (op.binary o v w)))
          ∙ twice pick (eval b f s) (λ v w. told p (op.binary o v w)) (outcome pick (eval a f s));
      binary_list = λ p o a b.
          ap (λ l. p ∷ l)
          (strict_list pick (eval a f s) (λ v. strict (eval b f s) λ w. ended (told p (op.binary o v w)))
          ∙ ap (λ l. begun pick (eval a f s) ++ l) (twice_list pick (eval b f s) (λ v w. told p (op.binary o v w)) (outcome pick (eval a f s))));
      let_out = λ p x a b. strict_out pick (eval a f s) (λ v. eval b f (bind x v s));
      let_list = λ p x a b. ap (λ l. p ∷ l) (strict_list pick (eval a f s) (λ v. eval b f (bind x v s)));
      if_true_out = λ p a b c e. if_out pick f s p a b c ∙ ap (λ o. outcome pick (B pick f s p a b c o)) e;
      if_true_list = λ p a b c e. if_list pick f s p a b c ∙ ap (λ o. p ∷ (begun pick (eval a f s) ++ begun pick (B pick f s p a b c o))) e;
      if_false_out = λ p a b c e. if_out pick f s p a b c ∙ ap (λ o. outcome pick (B pick f s p a b c o)) e;
      if_false_list = λ p a b c e. if_list pick f s p a b c ∙ ap (λ o. p ∷ (begun pick (eval a f s) ++ begun pick (B pick f s p a b c o))) e;
      if_none_out = λ p a b c o h. if_out pick f s p a b c ∙ ap (outcome pick) (if_none pick f s p a b c o h);
      if_none_list = λ p a b c o h. if_list pick f s p a b c ∙ ap (λ m. p ∷ (begun pick (eval a f s) ++ begun pick m)) (if_none pick f s p a b c o h) ∙ ap (λ l. p ∷ l) (append-nil (begun pick (eval a f s)));
    }
