use Rattle.operations.proofs.Rooms.{room}
use Rattle.operations.proofs.room_laws.Goals as goal

pub returns : goal.returns
returns c = room
