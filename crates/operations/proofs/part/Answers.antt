use Rattle.syntax.specs.declared.Collection.TheVariants.{Set}
use Rattle.values.proofs.Laws.{inner_of}
use Rattle.operations.proofs.part.Goals as goal

pub returns : goal.returns
returns c = λ us ts ea eb. c.subset.ensures us ts (inner_of Set us c.args.a.now c.inner.result.now ea c.inner.ensures) (inner_of Set ts c.args.b.now c.inner-2.result.now eb c.inner-2.ensures)
