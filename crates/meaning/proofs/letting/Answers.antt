use Rattle.meaning.proofs.letting.Goals as goal
use Rattle.meaning.proofs.Members as members

pub returns : goal.returns
returns c = members.letting
