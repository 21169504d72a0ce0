use Rattle.meaning.proofs.comprehending.Goals as goal
use Rattle.meaning.proofs.Collected as collected

pub returns : goal.returns
returns c = collected.comprehending
