use Rattle.meaning.proofs.lawfulness.Goals as goal
use Rattle.meaning.proofs.Lawfully.{lawfulness}

pub returns : goal.returns
returns c = lawfulness
