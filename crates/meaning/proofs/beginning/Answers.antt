use Rattle.meaning.proofs.beginning.Goals as goal
use Rattle.meaning.proofs.Begun.{beginning}

pub returns : goal.returns
returns c = beginning
