use Rattle.sets.proofs.Members.{order}
use Rattle.sets.proofs.order_laws.Goals as goal

pub returns : goal.returns
returns c = order
