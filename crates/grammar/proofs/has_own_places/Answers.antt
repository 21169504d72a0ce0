use Rattle.grammar.proofs.has_own_places.Goals as goal
use Rattle.grammar.proofs.Places.{own_places}

pub returns : goal.returns
returns c = own_places
