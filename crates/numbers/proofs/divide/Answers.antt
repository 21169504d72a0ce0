use Rattle.std.proofs.Common.{rules}
use Rattle.std.proofs.lemmas.Int.{to_z-of_z}
use Rattle.numbers.proofs.Quotients.{rem_is, rem_fits}
use Rattle.numbers.proofs.divide.Goals as goal

pub returns-in-Rem : goal.returns-in-Rem
returns-in-Rem c = λ h.
    let f = c.ranges.a in
    let g = c.ranges.b in
    let k = rem_fits c.args.a c.args.b f in
    simp (to_z-of_z, rem_is) (search rules)
