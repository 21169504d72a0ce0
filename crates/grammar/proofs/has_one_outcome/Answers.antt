use Rattle.grammar.proofs.has_one_outcome.Goals as goal
use Rattle.grammar.proofs.Sentences.{one_outcome}

pub returns : goal.returns
returns c = one_outcome
