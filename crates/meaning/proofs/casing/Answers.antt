use Rattle.meaning.proofs.casing.Goals as goal
use Rattle.meaning.proofs.Cases as cases

pub returns : goal.returns
returns c = cases.casing
