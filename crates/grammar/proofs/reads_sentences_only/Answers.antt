use Rattle.grammar.proofs.reads_sentences_only.Goals as goal
use Rattle.grammar.proofs.Sentences.{sound}

pub returns : goal.returns
returns c = sound
