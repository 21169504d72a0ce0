use Rattle.meaning.proofs.duality.Goals as goal
use Rattle.meaning.proofs.Sides.{duality}

pub returns : goal.returns
returns c = duality
