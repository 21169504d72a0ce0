use Rattle.std.proofs.Common.{◌≡◌, drop}
use Rattle.tokens.specs.Lexeme.{decimal}
use Rattle.checking.proofs.spans.outside.Given as goal

-- what is left, behind the value so far, writes the number
abbrev pub invariant-loop-d : goal.invariant-loop-d
invariant-loop-d l = decimal l.value (drop l.d-index l.digits) ≡ decimal 0 l.digits
