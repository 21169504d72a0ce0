use Rattle.meaning.proofs.quantifying.Goals as goal
use Rattle.meaning.proofs.Members.{quantifying}

pub returns : goal.returns
returns c = quantifying
