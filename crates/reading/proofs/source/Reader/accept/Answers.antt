use Rattle.std.proofs.Common.{sym, ◌∙◌}
use Rattle.reading.proofs.Looking.{first_taken}
use Rattle.reading.proofs.source.Reader.accept.Goals as goal

pub returns-in-Some : goal.returns-in-Some
returns-in-Some c = first_taken c.args.self.now c.in-Some.token.now c.in-Some.rest _ c.in-Some.ensures.cases (sym (c.is_mark.ensures _) ∙ c.if-is_mark.true)
