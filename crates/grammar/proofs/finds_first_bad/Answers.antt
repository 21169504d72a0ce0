use Rattle.grammar.proofs.finds_first_bad.Goals as goal
use Rattle.grammar.proofs.Sentences.{first_bad}

pub returns : goal.returns
returns c = first_bad
