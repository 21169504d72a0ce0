use Rattle.std.proofs.Common.{sym, rules, tests}
use Rattle.tokens.specs.Pieces.{digit}
use Rattle.tokens.proofs.Forms.{counted, numeral_begins}
use Rattle.tokens.proofs.cut.front.Goals as goal

pub returns-then-is_ascii_digit : goal.returns-then-is_ascii_digit
returns-then-is_ascii_digit c =
    numeral_begins _ _ (sym c.if-is_ascii_digit.ensures.value) (counted digit c.count-len.ensures.ran (cc) c.take_while.ensures.closure c.take_while.ensures.done (λ x b q k. search (rules, tests)))
