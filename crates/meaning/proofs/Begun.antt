-- The list begins with the whole expression, and a fault's place is in it.
use Rattle.std.proofs.Common.{◌≡◌, ◌⊎◌, List, [], ◌∷◌, Ok, Err, Result, refl, subst, inl, inr}
use Rattle.syntax.specs.Tree.{Place, Tree, numeral, name, unary, binary, connective, if_else, let_in, let_be, cases, quantifier, collection, range, comprehension, selection}
use Rattle.values.specs.declared.Fault.{Fault}
use Rattle.values.specs.Value.{Value}
use Rattle.values.specs.Operators as op
use Rattle.syntax.specs.Names.{In}
use Rattle.meaning.specs.Names.{Sight, Facts}
use Rattle.meaning.specs.Course.{fault, Course, ended, begins, chooses}
use Rattle.meaning.specs.Eval.{eval}
use Rattle.meaning.specs.Play.{Picker, outcome, begun}
use Rattle.meaning.specs.Laws.{place, Beginning}
use Rattle.meaning.proofs.Good.{All, Kept, Closed, End, Good, good}

first : (pick : Picker) (t : Tree) (f : Facts) (s : Sight) → (rest : List Place) × (begun pick (eval t f s) ≡ place t ∷ rest)
unfolding eval
first pick (numeral p n) f s = (_, refl)
first pick (Tree.truth p b) f s = (_, refl)
first pick (name p n) f s = (_, refl)
first pick (unary p o a) f s = (_, refl)
first pick (binary p o a b) f s = (_, refl)
first pick (connective p o a b) f s = (_, refl)
first pick (if_else p a b c) f s = (_, refl)
first pick (let_in p x a b) f s = (_, refl)
first pick (let_be p x a c b) f s = (_, refl)
first pick (cases p a cs o) f s = (_, refl)
first pick (quantifier p q x a b) f s = (_, refl)
first pick (collection p k ts) f s = (_, refl)
first pick (range p a b) f s = (_, refl)
first pick (comprehension p k e x a c) f s = (_, refl)
first pick (selection p a n) f s = (_, refl)

-- nothing is asked of values
abbrev Whatever : Value → Type 0
Whatever v = Unit {0}

all_whatever : (vs : List Value) → All Whatever vs
all_whatever [] = tt
all_whatever (v ∷ vs) = (tt, all_whatever vs)

kept_whatever : (r : Result Value Fault) → Kept Whatever r
kept_whatever (Ok v) = tt
kept_whatever (Err k) = tt

whatever : Closed Whatever
whatever =
    record {
      truths = λ b. tt;
      none_yet = λ k. tt;
      inner = λ v h. all_whatever (op.members v);
      ones = λ o v h. kept_whatever (op.unary o v);
      twos = λ o v w h k. kept_whatever (op.binary o v w);
      parted = λ n v h. kept_whatever (op.select n v);
      ranges = λ v w h k. kept_whatever (op.range v w);
      grows = λ k c x i h j. kept_whatever (op.grow k (op.members c) x);
    }

module _ (pick : Picker) (k : Fault) (q : Place) where
  before_or_begun : (m : Course) (ps : List Place) → Good Whatever Whatever ps m → outcome pick m ≡ fault k q → In q ps ⊎ In q (begun pick m)
  before_or_begun (ended o) ps h e = inl (subst (End Whatever ps) e h)
  before_or_begun (begins p m) ps h e = go (before_or_begun m (p ∷ ps) h e)
    where
      go : In q (p ∷ ps) ⊎ In q (begun pick m) → In q ps ⊎ In q (p ∷ begun pick m)
      go (inl (inl i)) = inr (inl i)
      go (inl (inr i)) = inl i
      go (inr i) = inr (inr i)
  before_or_begun (chooses p s c cs f) ps h e = before_or_begun (f (pick p s c cs)) ps (h.2 (pick p s c cs) tt) e

faulty : (pick : Picker) (t : Tree) (f : Facts) (s : Sight) (k : Fault) (q : Place) → outcome pick (eval t f s) ≡ fault k q → In q (begun pick (eval t f s))
faulty pick t f s k q e = go (before_or_begun pick k q (eval t f s) [] (good Whatever whatever f (λ n. tt) t (λ n i. tt) s (λ n v j. tt) []) e)
  where
    go : In q [] ⊎ In q (begun pick (eval t f s)) → In q (begun pick (eval t f s))
    go (inl i) = absurd i
    go (inr i) = i

pub beginning : Beginning
beginning = record { first = first; faulty = faulty }
