use Rattle.std.proofs.Common.{◌-◌, length}
use Rattle.tokens.proofs.Turns.{Turn}
use Rattle.tokens.proofs.cut.tokenise.Given as goal

abbrev pub invariant-loop-place : goal.invariant-loop-place
invariant-loop-place l = Turn l.text l.initial.tokens l.tokens l.place

abbrev pub decreases-loop-place : goal.decreases-loop-place
decreases-loop-place l = length l.text - l.place
