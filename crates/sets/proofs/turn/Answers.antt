use Rattle.sets.proofs.Turned.{settled}
use Rattle.sets.proofs.turn.Goals as goal

pub returns : goal.returns
returns c = λ t w z e f g. settled c.args.s.now c.rotate_right.new.self t w z c.args.p c.args.k e f g c.rotate_right.ensures.after
