use Rattle.meaning.proofs.connecting.Goals as goal
use Rattle.meaning.proofs.Sides.{connecting}

pub returns : goal.returns
returns c = connecting
