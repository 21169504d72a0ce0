-- A course played: by a chooser, and by an assignment.
use Rattle.std.specs.Prelude.{◌≡◌, ℕ, zero, suc, ◌<◌, List, [], ◌∷◌, length}
use Rattle.syntax.specs.Tree.{Place, Tree}
use Rattle.values.specs.Value.{Value}
use Rattle.syntax.specs.Names.{In}
use Rattle.meaning.specs.Names.{Sight, nothing, Facts}
use Rattle.meaning.specs.Course.{Outcome, Course, ended, begins, chooses}
use Rattle.meaning.specs.Eval.{eval}

-- which of the candidates a choice takes: by its place, the names in sight, and the candidates, the first one and the others
abbrev pub Picker : Type 0
Picker = Place → Sight → Value → List Value → Value

-- the outcome, and the places of the expressions begun, in order
abbrev pub outcome : Picker → Course → Outcome
outcome pick (ended o) = o
outcome pick (begins p m) = outcome pick m
outcome pick (chooses p s c cs f) = outcome pick (f (pick p s c cs))

abbrev pub begun : Picker → Course → List Place
begun pick (ended o) = []
begun pick (begins p m) = p ∷ begun pick m
begun pick (chooses p s c cs f) = begun pick (f (pick p s c cs))

-- ---- choosers

-- told a place and a count, a chooser replies a number: below the count where that is 1 or more
pub record Chooser : Type 0 where
  pub reply : Place → ℕ → ℕ
  pub below : (p : Place) (n : ℕ) → reply p (suc n) < suc n

-- the candidate with a number, counted from 0 (the last one where there is none with that number, which no chooser replies)
abbrev pub nth : ℕ → Value → List Value → Value
nth i c [] = c
nth zero c (d ∷ ds) = c
nth (suc i) c (d ∷ ds) = nth i d ds

abbrev pub by : Chooser → Picker
by χ p s c cs = nth (χ.reply p (suc (length cs))) c cs

-- ---- assignments

-- To each `let be`, by its place, and each set of values of the names in sight, one of its candidates where it has any.
-- (The candidates are an argument only so that one of them can be named: place, facts and names in sight settle them.)
abbrev pub Assigns : Picker → Type 0
Assigns a = (p : Place) (s : Sight) (c : Value) (cs : List Value) → In (a p s c cs) (c ∷ cs)

-- the outcome is allowed: some assignment leads to it
pub record Allowed (t : Tree) (f : Facts) (o : Outcome) : Type 0 where
  pub assignment : Picker
  pub assigns : Assigns assignment
  pub leads : outcome assignment (eval t f nothing) ≡ o
