use Rattle.std.proofs.Common.{◌≡◌, length, drop, replicate, ap, ◌∙◌, rules, arith}
use Rattle.std.proofs.lemmas.Grind.{common_steps}
use Rattle.tables.proofs.Front.{written, behind}
use Rattle.tables.proofs.Table.blank.Goals as goal

pub returns-clause-spare : goal.returns-clause-spare
returns-clause-spare g c =
    let n = c.args.self.now.len in
    let xs = c.args.self.now.slots.now in
    let ys = c.fill_with.new.self in
    let long : length ys ≡ length (drop n xs) = grind (arith, common_steps) in
    behind n c.len-start.result xs ys c.len-start.ensures long ∙ written _ _ c.args.empty (λ y f s. search rules) ys _ c.fill_with.ensures.ran.1 ∙ ap (λ k. replicate k c.args.empty) long
