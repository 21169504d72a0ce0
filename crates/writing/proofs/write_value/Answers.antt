use Rattle.std.proofs.Common.{[], length, ap, arith}
use Rattle.writing.proofs.Bound.{bounded}
use Rattle.writing.proofs.write_value.Goals as goal

pub value-requires : goal.value-requires
value-requires c =
    let v = c.lawful.ensures.value c.if-not-lawful.false in
    record { first = v.0; rest = []; cells_are = v.1; room = omega (arith, bounded v.0 v.2, ap length c.new-line.ensures) }
