use Rattle.meaning.proofs.ordering.Goals as goal
use Rattle.meaning.proofs.Orders as orders

pub returns : goal.returns
returns c = orders.ordering
