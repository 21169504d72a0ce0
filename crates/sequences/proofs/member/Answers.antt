use Rattle.std.proofs.Common.{ap, ◌∙◌}
use Rattle.values.specs.Value.{past, front}
use Rattle.values.proofs.Laws.{inner_of}
use Rattle.sequences.proofs.Rows.{nth-row}
use Rattle.sequences.proofs.member.Goals as goal

pub returns : goal.returns
returns c = λ k vs d e h.
    let r = inner_of k vs c.args.s.now c.inner.result.now e c.inner.ensures in
    c.split.ensures.front ∙ ap front (c.skip.ensures ∙ ap (past c.args.i) r) ∙ nth-row c.args.i vs d h
