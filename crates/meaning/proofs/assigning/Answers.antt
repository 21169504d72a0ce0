use Rattle.meaning.proofs.assigning.Goals as goal
use Rattle.meaning.proofs.Exact.{assigning}

pub returns : goal.returns
returns c = assigning
