use Rattle.std.proofs.Common.{replicate, ap, ◌∙◌, rules}
use Rattle.tables.proofs.Front.{written}
use Rattle.tables.proofs.Table.clear.Goals as goal

pub returns-clause-slots : goal.returns-clause-slots
returns-clause-slots g c =
    written _ _ c.args.empty (λ y f s. search rules) _ _ c.fill_with.ensures.ran.1 ∙ ap (λ n. replicate n c.args.empty) c.fill_with.ensures.len
