use Rattle.meaning.proofs.matching.Goals as goal
use Rattle.meaning.proofs.Cases as cases

pub returns : goal.returns
returns c = cases.matching
