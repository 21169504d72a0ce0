use Rattle.grammar.proofs.reads_every_sentence.Goals as goal
use Rattle.grammar.proofs.Sentences.{read_whole}

pub returns : goal.returns
returns c = read_whole
