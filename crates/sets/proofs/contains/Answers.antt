use Rattle.std.proofs.Common.{◌≡◌, ℕ, Option, None, Some, Bool, true, false, not, List, sym, is_some}
use Rattle.values.specs.Value.{Value}
use Rattle.values.specs.Lawful.{ascending}
use Rattle.values.specs.Sets.{member, insert}
use Rattle.sets.specs.Walk.{Placed}
use Rattle.sets.proofs.Members.{found_in, not_found}
use Rattle.sets.proofs.contains.Goals as goal

tells : (v : Value) (vs : List Value) (r : Option ℕ) (b : Bool) → ascending vs ≡ true → Placed (insert v vs) vs v r → is_some r ≡ not b → b ≡ member v vs
tells v vs None true o h e = sym (found_in v vs h)
tells v vs None false o h e = cc
tells v vs (Some p) true o h e = cc
tells v vs (Some p) false o h e = sym (not_found v vs h.0 h.1 o h.2 h.4)

pub returns : goal.returns
returns c = λ vs v es ex o. tells v vs c.seek.result c.is_none.result o (c.seek.ensures.placed vs v es ex) c.is_none.ensures
