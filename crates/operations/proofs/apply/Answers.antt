use Rattle.std.proofs.Common.{◌≡◌, false, List, ℤ, pos, negsuc, nat_abs, refl, ap, ◌∙◌, true≢false}
use lib.Signed.{lt_z}
use Rattle.std.proofs.lemmas.Int.{to_z-of_z}
use Rattle.values.specs.Value.{Value}
use Rattle.values.specs.Operators.{nth, at}
use Rattle.values.specs.Cells.{in_cells}
use Rattle.operations.proofs.apply.Goals as goal

by_size : (i : ℤ) (vs : List Value) → lt_z i (pos 0) ≡ false → nth (nat_abs i) vs ≡ at i vs
by_size (pos n) vs h = refl
by_size (negsuc n) vs h = absurd (true≢false h)

pub returns : goal.returns
returns c =
    let f = c.ranges.i in
    let h = simp to_z-of_z at c.if-i-lt0.false in
    record { inside = c.pick.ensures.inside; spared = c.pick.ensures.spared; gives = λ k vs e s. c.pick.ensures.gives k vs e s ∙ simp to_z-of_z (ap in_cells (by_size c.args.i vs h)) }
