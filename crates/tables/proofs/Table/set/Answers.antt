use Rattle.std.proofs.Common.{◌<◌, arith}
use lib.Seq.{take-set-lt}
use Rattle.std.proofs.lemmas.List.{length-take}
use Rattle.tables.proofs.Table.set.Goals as goal

pub returns-then-i-len-clause-items : goal.returns-then-i-len-clause-items
returns-then-i-len-clause-items g c =
    let h : c.args.i < c.args.self.now.len = omega (arith, length-take c.args.self.now.len c.args.self.now.slots.now) in
    take-set-lt _ _ _ _ h
