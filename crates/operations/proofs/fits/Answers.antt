use Rattle.std.proofs.Common.{◌≡◌, get_or, pos, ap, ◌∙◌, w32, SFits, rules}
use Rattle.std.proofs.lemmas.Int.{to_z-of_z}
use Rattle.values.specs.Cells.{begins}
use Rattle.operations.proofs.Sorts.{begins_is}
use Rattle.operations.proofs.fits.Goals as goal

pub returns : goal.returns
returns c = λ v e.
    let f : SFits w32 c.kind.result = search rules in
    let h : c.is.result ≡ begins c.args.what c.kind.result = simp to_z-of_z at c.is.ensures in
    h ∙ ap (begins c.args.what) (c.kind.ensures ∙ ap (λ l. get_or l 0 (pos 0)) e) ∙ begins_is c.args.what v
