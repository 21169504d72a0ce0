use Rattle.std.proofs.Common.{◌≢◌, pos, ap, inl, inr, ◌+ℤ◌, arith, w32, SFits, to_z, of_z}
use lib.Signed.{rem_z}
use Rattle.std.proofs.lemmas.Int.{to_z-of_z, ints}
use Rattle.numbers.proofs.Quotients.{rem_fits, signs, raised, kept}
use Rattle.numbers.proofs.modulus.Goals as goal
use Rattle.numbers.proofs.modulus.Goals.{else-r-ne0-via-then-r-ne0+else-r-b, else-r-ne0-via-else-r-ne0}

pub returns-then-r-b : goal.returns-then-r-b
returns-then-r-b c =
    let a = c.args.a in
    let b = c.args.b in
    let f = c.ranges.a in
    let g = c.ranges.b in
    let h = rem_fits a b f in
    let n : rem_z a b ≢ pos 0 = λ e. (simp to_z-of_z at c.if-r-ne0.true) (ap (of_z w32) e) in
    let p = simp to_z-of_z at c.if-r-b.true in
    let k : SFits w32 (rem_z a b +ℤ b) = elim (signs (rem_z a b) b p) [ inl e ↦ omega (arith, ints, e) | inr e ↦ omega (arith, ints, e) ] in
    simp to_z-of_z (raised a b c.requires.divisor n p)

pub returns-else-r-ne0 : goal.returns-else-r-ne0
returns-else-r-ne0 c =
    let a = c.args.a in
    let b = c.args.b in
    let f = c.ranges.a in
    let g = c.ranges.b in
    let h = rem_fits a b f in
    elim c.else-r-ne0.branch [
      | else-r-ne0-via-then-r-ne0+else-r-b w ↦ simp to_z-of_z (kept a b c.requires.divisor (inr (simp to_z-of_z at w.if-r-b.false)))
      | else-r-ne0-via-else-r-ne0 w ↦ simp to_z-of_z (kept a b c.requires.divisor (inl (simp to_z-of_z at (ap (to_z w32) w.if-r-ne0.false))))
    ]
