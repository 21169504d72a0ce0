use Rattle.std.proofs.Common.{◌≡◌, true, false, ◌&&◌, sym, ap, ◌∙◌}
use Rattle.values.specs.Operators.{is, left, right}
use Rattle.operations.proofs.takes.Goals as goal

pub returns-then-fits : goal.returns-then-fits
returns-then-fits c = λ v w ea eb.
    let p : is (left c.args.op) v ≡ true = ap (λ o. is o v) (sym c.left.ensures) ∙ sym (c.fits.ensures v ea) ∙ c.if-fits.true in
    let q : c.fits-then-fits.result ≡ is (right c.args.op) w = c.fits-then-fits.ensures w eb ∙ ap (λ o. is o w) c.right.ensures in
    q ∙ ap (λ b. b && is (right c.args.op) w) (sym p)

pub returns-else-fits : goal.returns-else-fits
returns-else-fits c = λ v w ea eb.
    let p : is (left c.args.op) v ≡ false = ap (λ o. is o v) (sym c.left.ensures) ∙ sym (c.fits.ensures v ea) ∙ c.if-fits.false in
    c.if-fits.false ∙ ap (λ b. b && is (right c.args.op) w) (sym p)
