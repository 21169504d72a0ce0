use Rattle.std.proofs.Common.{[], ◌∷◌, ap, ◌∙◌, arith, rules}
use Rattle.std.proofs.lemmas.Int.{to_z-of_z}
use Rattle.operations.proofs.Sorts.{pair_front}
use Rattle.operations.proofs.pair.Goals as goal

pub returns-clause-holds : goal.returns-clause-holds
returns-clause-holds c =
    let g = c.ranges.content in
    simp to_z-of_z (pair_front c.args.out.now _ c.args.content (omega arith) ∙ ap (λ z. z ∷ c.args.content ∷ []) (search rules))
