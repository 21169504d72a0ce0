use Rattle.meaning.proofs.choosing.Goals as goal
use Rattle.meaning.proofs.Plays.{choosing}

pub returns : goal.returns
returns c = choosing
