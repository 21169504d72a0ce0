use Rattle.sets.proofs.Members.{membership}
use Rattle.sets.proofs.membership_laws.Goals as goal

pub returns : goal.returns
returns c = membership
