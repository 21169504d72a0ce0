use Rattle.reading.proofs.Looking.{forall_found, exists_found}
use Rattle.reading.proofs.source.Reader.quantifier.Goals as goal

pub returns-then-accept : goal.returns-then-accept
returns-then-accept c = forall_found c.if-accept.ensures

pub returns-then-accept-2 : goal.returns-then-accept-2
returns-then-accept-2 c = exists_found c.if-accept.ensures c.if-accept-2.ensures
