use Rattle.std.proofs.Common.{◌≡◌, true, false, ◌&&◌, length, sym, ap, ◌∙◌, arith, w32, SFits, rules}
use mathlib.Core.Bool.{and-false}
use Rattle.std.proofs.lemmas.Int.{to_z-of_z}
use Rattle.std.proofs.lemmas.Result.{MatchResult-weaker}
use Rattle.syntax.specs.declared.Collection.TheVariants.{Set}
use Rattle.values.specs.declared.Operand.TheVariants.{Number}
use Rattle.values.specs.Value.{of}
use Rattle.values.specs.Numbers.{between}
use Rattle.values.specs.Operators.{is, taking, made, number_of, range}
use Rattle.values.specs.Cells.{in_cells}
use Rattle.operations.proofs.Sorts.{number_cell}
use Rattle.operations.proofs.Outcomes.{made_told}
use Rattle.operations.proofs.range.Goals as goal
use Rattle.operations.proofs.range.Goals.{then-not-fits-via-then-not-fits, then-not-fits-via-else-not-fits+then-not-fits-2}

pub returns-then-not-fits-clause-gives : goal.returns-then-not-fits-clause-gives
unfolding range
returns-then-not-fits-clause-gives c = λ v w ea eb la lb.
    let not_both : (is Number v && is Number w) ≡ false = elim c.then-not-fits.branch [
      | then-not-fits-via-then-not-fits t ↦ ap (λ b. b && is Number w) (sym (c.fits.ensures v ea) ∙ t.if-not-fits.true)
      | then-not-fits-via-else-not-fits+then-not-fits-2 t ↦ ap (λ b. is Number v && b) (sym (t.fits-else-not-fits.ensures w eb) ∙ t.if-not-fits-2.true) ∙ and-false (is Number v)
    ] in
    ap (λ b. in_cells (taking b (made (of Set (between (number_of v) (number_of w)))))) (sym not_both)

pub returns-clause-gives : goal.returns-clause-gives
unfolding range
returns-clause-gives c = λ v w ea eb la lb.
    let h : is Number v ≡ true = sym (c.fits.ensures v ea) ∙ c.if-not-fits.false in
    let k : is Number w ≡ true = sym (c.fits-else-not-fits.ensures w eb) ∙ c.if-not-fits-2.false in
    let f : SFits w32 c.content.result = search rules in
    let g : SFits w32 c.content-2.result = search rules in
    let x = c.content.ensures ∙ number_cell v c.args.a.now ea h in
    let y = c.content-2.ensures ∙ number_cell w c.args.b.now eb k in
    let m = simp to_z-of_z at c.range.ensures.made in
    let n : length c.range.new.out ≡ 200 = omega (arith, c.told-out, c.range.auto.out) in
    made_told c.range.result c.map_err.result c.map_err.ensures.cases c.range.new.out (of Set (between c.content.result c.content-2.result)) n (MatchResult-weaker c.range.result (m (omega (arith, c.told-out))) (λ _ p. p) (λ _ p. omega (arith, p, c.told-out))) ∙ (λ i. in_cells (made (of Set (between (x i) (y i))))) ∙ (λ i. in_cells (taking (sym h i && sym k i) (made (of Set (between (number_of v) (number_of w))))))
