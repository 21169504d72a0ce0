use Rattle.grammar.proofs.has_examples.Goals as goal
use Rattle.grammar.proofs.Examples.{examples}

pub returns : goal.returns
returns c = examples
