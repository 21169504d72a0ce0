use Rattle.std.proofs.Common.{rules, tests}
use Rattle.tokens.specs.declared.Kind.TheVariants as kind
use Rattle.tokens.specs.Pieces.{word_byte}
use Rattle.tokens.proofs.Forms.{counted, word_begins, name_begins, word_bad}
use Rattle.tokens.proofs.cut.word.Goals as goal

pub returns-in-Some : goal.returns-in-Some
returns-in-Some c =
    word_begins c.args.bytes.now c.count-len.result c.requires (counted word_byte c.count-len.ensures.ran (cc) c.take_while.ensures.closure c.take_while.ensures.done (λ x b q k. search (rules, tests))) (kind.Mark c.in-Some.mark) c.in-Some.ensures

pub returns-in-None : goal.returns-in-None
returns-in-None c =
    name_begins c.args.bytes.now c.count-len.result c.requires (counted word_byte c.count-len.ensures.ran (cc) c.take_while.ensures.closure c.take_while.ensures.done (λ x b q k. search (rules, tests))) c.in-None.ensures c.if-obeys_rule.ensures

pub returns-in-None-2 : goal.returns-in-None-2
returns-in-None-2 c =
    word_bad c.args.bytes.now c.count-len.result c.requires (counted word_byte c.count-len.ensures.ran (cc) c.take_while.ensures.closure c.take_while.ensures.done (λ x b q k. search (rules, tests))) c.in-None.ensures c.if-obeys_rule.ensures
