use Rattle.writing.proofs.Bound.{bounded, reached}
use Rattle.writing.proofs.Printable.{printable}
use Rattle.writing.proofs.Distinct.{distinct}
use Rattle.writing.proofs.laws.Goals as goal

pub returns : goal.returns
returns c = record { bounded = bounded; reached = reached; printable = printable; distinct = distinct }
