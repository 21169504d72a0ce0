use Rattle.std.proofs.Common.{◌≡◌, true, sym, ap, ◌∙◌}
use Rattle.syntax.specs.declared.Collection.TheVariants.{Tuple}
use Rattle.values.specs.declared.Operand.TheVariants.{Many}
use Rattle.values.specs.Operators.{is, taking, nth, members, select}
use Rattle.values.specs.Cells.{in_cells}
use Rattle.operations.proofs.Sorts.{many_cells, short}
use Rattle.operations.proofs.select.Goals as goal

pub returns-then-not-fits-clause-gives : goal.returns-then-not-fits-clause-gives
unfolding select
returns-then-not-fits-clause-gives c = λ v e l. ap (λ b. in_cells (taking b (nth c.args.n (members v)))) (sym (sym (c.fits.ensures v e) ∙ c.if-not-fits.true))

pub returns-clause-gives : goal.returns-clause-gives
unfolding select
returns-clause-gives c = λ v e l.
    let k : is (Many Tuple) v ≡ true = sym (c.fits.ensures v e) ∙ c.if-not-fits.false in
    c.pick.ensures.gives Tuple (members v) (many_cells Tuple v c.args.a.now e k) (short v c.args.a.now e l) ∙ ap (λ b. in_cells (taking b (nth c.args.n (members v)))) (sym k)
