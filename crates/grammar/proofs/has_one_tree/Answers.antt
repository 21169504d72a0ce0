use Rattle.grammar.proofs.has_one_tree.Goals as goal
use Rattle.grammar.proofs.Sentences.{one_tree}

pub returns : goal.returns
returns c = one_tree
