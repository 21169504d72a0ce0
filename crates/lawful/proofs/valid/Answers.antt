use Rattle.std.proofs.Common.{sym}
use Rattle.std.proofs.lemmas.Int.{to_z-of_z}
use Rattle.lawful.proofs.Whole.{no_kind}
use Rattle.lawful.proofs.valid.Goals as goal

pub returns-in-Err : goal.returns-in-Err
returns-in-Err c = let f = c.ranges.kind in sym (no_kind c.args.kind c.args.content (simp to_z-of_z at c.in-Err.ensures))
