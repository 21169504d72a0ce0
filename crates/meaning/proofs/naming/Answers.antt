use Rattle.meaning.proofs.naming.Goals as goal
use Rattle.meaning.proofs.Free.{naming}

pub returns : goal.returns
returns c = naming
