-- Courses played: what comes of one and then another, and of choices with one candidate.
use Rattle.std.proofs.Common.{◌≡◌, ℕ, zero, suc, ◌<◌, List, [], ◌∷◌, ◌++◌, length, get_or, sym, refl, ap, ◌∙◌, inl, inr, le_of_suc-le-suc, not-suc-le-zero}
use Rattle.syntax.specs.Tree.{Place}
use Rattle.values.specs.Value.{Value}
use Rattle.syntax.specs.Names.{In}
use Rattle.meaning.specs.Names.{Sight, nothing}
use Rattle.meaning.specs.Course.{Outcome, Course, ended, begins, chooses, ◌>>=◌}
use Rattle.meaning.specs.Eval.{eval}
use Rattle.meaning.specs.Play.{Picker, outcome, begun, Chooser, nth, by, Assigns}
use Rattle.meaning.specs.Laws.{Single, Choosing}

module _ (pick : Picker) (k : Outcome → Course) where
  pub outcome_bind : (m : Course) → outcome pick (m >>= k) ≡ outcome pick (k (outcome pick m))
  outcome_bind (ended o) = refl
  outcome_bind (begins p m) = outcome_bind m
  outcome_bind (chooses p s c cs f) = outcome_bind (f (pick p s c cs))

  pub begun_bind : (m : Course) → begun pick (m >>= k) ≡ begun pick m ++ begun pick (k (outcome pick m))
  begun_bind (ended o) = refl
  begun_bind (begins p m) = ap (λ l. p ∷ l) (begun_bind m)
  begun_bind (chooses p s c cs f) = begun_bind (f (pick p s c cs))

-- a chooser takes one of the candidates
pub nth_in : (i : ℕ) (c : Value) (cs : List Value) → In (nth i c cs) (c ∷ cs)
nth_in i c [] = inl refl
nth_in zero c (d ∷ ds) = inl refl
nth_in (suc i) c (d ∷ ds) = inr (nth_in i d ds)

pub by_assigns : (χ : Chooser) → Assigns (by χ)
by_assigns χ p s c cs = nth_in (χ.reply p (suc (length cs))) c cs

-- and it is the one with that number
nth_at : (i : ℕ) (c : Value) (cs : List Value) (e : Value) → i < suc (length cs) → nth i c cs ≡ get_or (c ∷ cs) i e
nth_at zero c [] e h = refl
nth_at (suc i) c [] e h = absurd (not-suc-le-zero (le_of_suc-le-suc h))
nth_at zero c (d ∷ ds) e h = refl
nth_at (suc i) c (d ∷ ds) e h = nth_at i d ds e (le_of_suc-le-suc h)

-- of one candidate an assignment takes that one
only : (a : Picker) → Assigns a → (p : Place) (s : Sight) (c : Value) → a p s c [] ≡ c
only a h p s c = go (h p s c [])
  where
    go : In (a p s c []) (c ∷ []) → a p s c [] ≡ c
    go (inl e) = e
    go (inr e) = absurd e

module _ (a b : Picker) (ha : Assigns a) (hb : Assigns b) where
  alone_outcome : (m : Course) → Single a m → outcome b m ≡ outcome a m
  alone_outcome (ended o) h = refl
  alone_outcome (begins p m) h = alone_outcome m h
  alone_outcome (chooses p s c [] f) h = ap (λ v. outcome b (f v)) (only b hb p s c ∙ sym (only a ha p s c)) ∙ alone_outcome (f (a p s c [])) h
  alone_outcome (chooses p s c (d ∷ ds) f) h = absurd h

  alone_begun : (m : Course) → Single a m → begun b m ≡ begun a m
  alone_begun (ended o) h = refl
  alone_begun (begins p m) h = ap (λ l. p ∷ l) (alone_begun m h)
  alone_begun (chooses p s c [] f) h = ap (λ v. begun b (f v)) (only b hb p s c ∙ sym (only a ha p s c)) ∙ alone_begun (f (a p s c [])) h
  alone_begun (chooses p s c (d ∷ ds) f) h = absurd h

pub choosing : Choosing
choosing =
    record {
      numbered = λ χ p s c cs e. nth_at (χ.reply p (suc (length cs))) c cs e (χ.below p (length cs));
      allowed = λ t f χ. record { assignment = by χ; assigns = by_assigns χ; leads = refl };
      same_outcome = λ t f χ ψ h. alone_outcome (by χ) (by ψ) (by_assigns χ) (by_assigns ψ) (eval t f nothing) h;
      same_list = λ t f χ ψ h. alone_begun (by χ) (by ψ) (by_assigns χ) (by_assigns ψ) (eval t f nothing) h;
      sole = λ t f χ o h w. sym w.leads ∙ alone_outcome (by χ) w.assignment (by_assigns χ) w.assigns (eval t f nothing) h;
    }
