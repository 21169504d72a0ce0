-- What an evaluation does: it begins expressions, makes choices, and ends with an outcome.
use Rattle.std.specs.Prelude.{List}
use Rattle.syntax.specs.Tree.{Place}
use Rattle.values.specs.declared.Fault.{Fault}
use Rattle.values.specs.Value.{Value}
use Rattle.meaning.specs.Names.{Sight}

pub data Outcome : Type 0 where
  value : Value → Outcome
  fault : Fault → Place → Outcome

-- A choice tells its place, the names in sight and the candidates, the first one and the others; it goes on with the candidate taken.
pub data Course : Type 0 where
  ended : Outcome → Course
  begins : Place → Course → Course
  chooses : Place → Sight → Value → List Value → (Value → Course) → Course

-- one course, then what its outcome leads to
infixl 20 ◌>>=◌
abbrev pub ◌>>=◌ : Course → (Outcome → Course) → Course
◌>>=◌ (ended o) k = k o
◌>>=◌ (begins p m) k = begins p (m >>= k)
◌>>=◌ (chooses p s c cs f) k = chooses p s c cs (λ v. f v >>= k)
