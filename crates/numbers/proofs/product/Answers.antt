use Rattle.std.proofs.Common.{◌*ℤ◌, arith, w32, w64, SFits}
use borrow.Author.Numbers.{signed_product}
use Rattle.std.proofs.lemmas.Int.{to_z-of_z, ints}
use Rattle.numbers.proofs.product.Goals as goal

pub returns : goal.returns
returns c =
    let a = c.args.a in
    let b = c.args.b in
    let f = c.ranges.a in
    let g = c.ranges.b in
    let fa : SFits w64 a = omega (arith, ints) in
    let fb : SFits w64 b = omega (arith, ints) in
    let fm : SFits w64 (a *ℤ b) = simp to_z-of_z at (signed_product w64 w32 w32 a b f g tt) in
    simp to_z-of_z at c.ranged.ensures
