use Rattle.reading.proofs.Looking.{truth_found, falsity_found}
use Rattle.reading.proofs.source.Reader.truth.Goals as goal

pub returns-then-accept : goal.returns-then-accept
returns-then-accept c = truth_found c.if-accept.ensures

pub returns-then-accept-2 : goal.returns-then-accept-2
returns-then-accept-2 c = falsity_found c.if-accept.ensures c.if-accept-2.ensures
