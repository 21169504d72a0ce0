use Rattle.reading.proofs.Looking.{same_flag}
use Rattle.reading.proofs.source.is_mark.Goals as goal

pub returns-in-Mark : goal.returns-in-Mark
returns-in-Mark c bytes = rw c.in-Mark.is (same_flag c.eq.result c.args.mark c.in-Mark.here c.eq.ensures)
