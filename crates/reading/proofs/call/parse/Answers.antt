use Rattle.std.proofs.Common.{arith}
use Rattle.std.proofs.lemmas.Bool.Decides.{nat_tests}
use Rattle.std.proofs.lemmas.Result.{err_from_is_err_and}
use Rattle.reading.proofs.Drafts.{stopped, left_over, whole}
use Rattle.reading.proofs.call.parse.Goals as goal

pub returns-in_err-root-clause-parsed : goal.returns-in_err-root-clause-parsed
returns-in_err-root-clause-parsed c =
    let e = err_from_is_err_and c.from_residual.result c.from_residual.ensures.1 in
    rw e.1 (stopped _ c.in_err-root.ensures.way.ends)

pub returns-then-not-is_empty-clause-parsed : goal.returns-then-not-is_empty-clause-parsed
returns-then-not-is_empty-clause-parsed c = left_over _ _ c.in_ok-root.ensures.way.ends.way (grind (arith, nat_tests))

pub returns-clause-parsed : goal.returns-clause-parsed
returns-clause-parsed c = whole _ c.in_ok-root.ensures.way.ends (grind (arith, nat_tests))
