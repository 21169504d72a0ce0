use Rattle.std.proofs.Common.{rules}
use Rattle.reading.proofs.Looking.{told_found}
use Rattle.reading.proofs.source.Reader.leading.Goals as goal

pub returns : goal.returns
returns c = told_found _ _ c.take.ensures (λ k w e. search rules)
