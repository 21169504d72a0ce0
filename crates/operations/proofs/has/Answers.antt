use Rattle.syntax.specs.declared.Collection.TheVariants.{Set}
use Rattle.values.proofs.Laws.{inner_of}
use Rattle.operations.proofs.has.Goals as goal

pub returns : goal.returns
returns c = λ us v eb. c.contains.ensures us v (inner_of Set us c.args.b.now c.inner.result.now eb c.inner.ensures)
