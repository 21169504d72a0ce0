use Rattle.meaning.proofs.vacuous.Goals as goal
use Rattle.meaning.proofs.Sides.{vacuous}

pub returns : goal.returns
returns c = vacuous
