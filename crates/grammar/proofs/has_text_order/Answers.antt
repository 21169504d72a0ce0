use Rattle.grammar.proofs.has_text_order.Goals as goal
use Rattle.grammar.proofs.Order.{text_order}
use Rattle.grammar.proofs.Examples.{order_examples}

pub returns : goal.returns
returns c = record { laws = text_order; examples = order_examples }
