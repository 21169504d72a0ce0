use Rattle.meaning.proofs.examples.Goals as goal
use Rattle.meaning.proofs.Texts as texts

pub returns : goal.returns
returns c = texts.examples
