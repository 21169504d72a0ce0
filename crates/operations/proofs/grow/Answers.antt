use Rattle.std.proofs.Common.{arith}
use Rattle.values.specs.Value.{of}
use Rattle.values.specs.Operators.{grow, grown}
use Rattle.operations.proofs.Outcomes.{grown_told}
use Rattle.operations.proofs.grow.Goals as goal

pub returns-clause-gives : goal.returns-clause-gives
unfolding grow
returns-clause-gives c = λ k us v e n l. grown_told c.grow.result c.map_err.result c.map_err.ensures.cases c.grow.new.s (of k (grown k us v)) (c.grow.ensures.made k us v e n (omega (arith, n, l.short)))
