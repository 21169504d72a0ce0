use Rattle.std.proofs.Common.{◌≡◌, ◌+◌, ◌≤◌, true, not, [], length, pos, neg_ℤ, nat_abs, Ok, sym, ap, ◌∙◌, inl, inr, arith, w32, SFits, rules}
use Rattle.std.proofs.lemmas.Int.{to_z-of_z}
use Rattle.std.proofs.lemmas.Result.{MatchResult-weaker}
use Rattle.std.proofs.lemmas.List.{length-drop}
use Rattle.syntax.specs.declared.Collection.TheVariants.{Set, Sequence}
use Rattle.syntax.specs.declared.Unary.TheVariants.{Not, Negate, Abs, Card, Len, Hd, Tl, Elems, Inds}
use Rattle.values.specs.declared.Operand.TheVariants.{Number, Truth, Many}
use Rattle.values.specs.Value.{number, of}
use Rattle.values.specs.Lawful.{in_range}
use Rattle.values.specs.Numbers.{between}
use Rattle.values.specs.Sets.{gathered}
use Rattle.values.specs.Operators.{is, operand, members, answer, made}
use Rattle.values.specs.Cells.{in_cells}
use Rattle.values.proofs.Laws.{inner_of, cells_of}
use Rattle.operations.proofs.Sorts.{number_cell, truth_cell, many_cell, many_cells, in_range_lem, short}
use Rattle.operations.proofs.Outcomes.{one_taken, one_refused, pair_told, made_told}
use Rattle.operations.proofs.unary.Goals as goal

pub returns-then-not-fits-clause-gives : goal.returns-then-not-fits-clause-gives
returns-then-not-fits-clause-gives c = λ v e l. one_refused c.args.op v (ap (λ o. is o v) (sym c.operand.ensures) ∙ sym (c.fits.ensures v e) ∙ c.if-not-fits.true)

pub returns-in-Not-clause-gives : goal.returns-in-Not-clause-gives
returns-in-Not-clause-gives c = λ v e l.
    let k : is (operand c.args.op) v ≡ true = ap (λ o. is o v) (sym c.operand.ensures) ∙ sym (c.fits.ensures v e) ∙ c.if-not-fits.false in
    let h : is Truth v ≡ true = ap (λ o. is (operand o) v) (sym c.in-Not.is) ∙ k in
    one_taken c.args.op Not v _ c.in-Not.is k (pair_told c.answer.result c.answer.new.out _ c.answer.ensures.is c.answer.ensures.holds ∙ ap (λ b. in_cells (answer (not b))) (c.flag.ensures ∙ truth_cell v c.args.a.now e h))

pub returns-in-Negate-clause-gives : goal.returns-in-Negate-clause-gives
returns-in-Negate-clause-gives c = λ v e l.
    let k : is (operand c.args.op) v ≡ true = ap (λ o. is o v) (sym c.operand.ensures) ∙ sym (c.fits.ensures v e) ∙ c.if-not-fits.false in
    let h : is Number v ≡ true = ap (λ o. is (operand o) v) (sym c.in-Negate.is) ∙ k in
    let x : SFits w32 c.content.result = search rules in
    let y : SFits w32 c.negated.result = search rules in
    let z = c.content.ensures ∙ number_cell v c.args.a.now e h in
    let m = simp to_z-of_z at c.negated.ensures in
    let t = simp to_z-of_z at c.number.ensures.gives in
    one_taken c.args.op Negate v _ c.in-Negate.is k (t ∙ ap (λ i. in_cells (Ok (number i))) (m (ap in_range z ∙ in_range_lem v l h) ∙ ap (λ i. neg_ℤ i) z))

pub returns-in-Abs-clause-gives : goal.returns-in-Abs-clause-gives
returns-in-Abs-clause-gives c = λ v e l.
    let k : is (operand c.args.op) v ≡ true = ap (λ o. is o v) (sym c.operand.ensures) ∙ sym (c.fits.ensures v e) ∙ c.if-not-fits.false in
    let h : is Number v ≡ true = ap (λ o. is (operand o) v) (sym c.in-Abs.is) ∙ k in
    let x : SFits w32 c.content-in-Abs.result = search rules in
    let y : SFits w32 c.magnitude.result = search rules in
    let z = c.content-in-Abs.ensures ∙ number_cell v c.args.a.now e h in
    let m = simp to_z-of_z at c.magnitude.ensures in
    let t = simp to_z-of_z at c.number-in-Abs.ensures.gives in
    one_taken c.args.op Abs v _ c.in-Abs.is k (t ∙ ap (λ i. in_cells (Ok (number i))) (m (ap in_range z ∙ in_range_lem v l h) ∙ ap (λ i. pos (nat_abs i)) z))

pub returns-in-Card-clause-gives : goal.returns-in-Card-clause-gives
returns-in-Card-clause-gives c = λ v e l.
    let k : is (operand c.args.op) v ≡ true = ap (λ o. is o v) (sym c.operand.ensures) ∙ sym (c.fits.ensures v e) ∙ c.if-not-fits.false in
    let x : SFits w32 c.content-in-Card.result = search rules in
    let t = simp to_z-of_z at c.number-in-Card.ensures.gives in
    elim c.in-Card.is [
      | inl o ↦
          let h : is (Many Set) v ≡ true = ap (λ o. is (operand o) v) (sym o) ∙ k in
          one_taken c.args.op Card v _ o k (t ∙ ap (λ i. in_cells (Ok (number i))) (c.content-in-Card.ensures ∙ many_cell Set v c.args.a.now e h))
      | inr o ↦
          let h : is (Many Sequence) v ≡ true = ap (λ o. is (operand o) v) (sym o) ∙ k in
          one_taken c.args.op Len v _ o k (t ∙ ap (λ i. in_cells (Ok (number i))) (c.content-in-Card.ensures ∙ many_cell Sequence v c.args.a.now e h))
    ]

pub returns-in-Hd-clause-gives : goal.returns-in-Hd-clause-gives
returns-in-Hd-clause-gives c = λ v e l.
    let k : is (operand c.args.op) v ≡ true = ap (λ o. is o v) (sym c.operand.ensures) ∙ sym (c.fits.ensures v e) ∙ c.if-not-fits.false in
    let h : is (Many Sequence) v ≡ true = ap (λ o. is (operand o) v) (sym c.in-Hd.is) ∙ k in
    one_taken c.args.op Hd v _ c.in-Hd.is k (c.pick.ensures.gives Sequence (members v) (many_cells Sequence v c.args.a.now e h) (short v c.args.a.now e l))

pub returns-in-Tl-clause-gives : goal.returns-in-Tl-clause-gives
returns-in-Tl-clause-gives c = λ v e l.
    let k : is (operand c.args.op) v ≡ true = ap (λ o. is o v) (sym c.operand.ensures) ∙ sym (c.fits.ensures v e) ∙ c.if-not-fits.false in
    let h : is (Many Sequence) v ≡ true = ap (λ o. is (operand o) v) (sym c.in-Tl.is) ∙ k in
    one_taken c.args.op Tl v _ c.in-Tl.is k (c.tail.ensures.gives (members v) (many_cells Sequence v c.args.a.now e h))

pub returns-in-Elems-clause-gives : goal.returns-in-Elems-clause-gives
returns-in-Elems-clause-gives c = λ v e l.
    let k : is (operand c.args.op) v ≡ true = ap (λ o. is o v) (sym c.operand.ensures) ∙ sym (c.fits.ensures v e) ∙ c.if-not-fits.false in
    let h : is (Many Sequence) v ≡ true = ap (λ o. is (operand o) v) (sym c.in-Elems.is) ∙ k in
    let a = c.args.a.now in
    let q = many_cells Sequence v a e h in
    let x = inner_of Sequence (members v) a c.inner.result.now q c.inner.ensures in
    let s : 2 + length c.inner.result.now ≤ 200 = omega (arith, short v a e l, ap length c.inner.ensures, length-drop 2 a, ap length (q ∙ cells_of Sequence (members v))) in
    let g = c.gather.ensures.made (members v) x s (omega (arith, s, c.told-out)) in
    let n : length c.gather.new.out ≡ 200 = omega (arith, c.told-out, c.gather.auto.out) in
    one_taken c.args.op Elems v _ c.in-Elems.is k (made_told c.gather.result c.map_err.result c.map_err.ensures.cases c.gather.new.out (of Set (gathered [] (members v))) n (MatchResult-weaker c.gather.result g (λ _ p. p.0) (λ _ p. absurd p)))

pub returns-in-Inds-clause-gives : goal.returns-in-Inds-clause-gives
returns-in-Inds-clause-gives c = λ v e l.
    let k : is (operand c.args.op) v ≡ true = ap (λ o. is o v) (sym c.operand.ensures) ∙ sym (c.fits.ensures v e) ∙ c.if-not-fits.false in
    let h : is (Many Sequence) v ≡ true = ap (λ o. is (operand o) v) (sym c.in-Inds.is) ∙ k in
    let f : SFits w32 c.content-in-Inds.result = search rules in
    let z = c.content-in-Inds.ensures ∙ many_cell Sequence v c.args.a.now e h in
    let m = simp to_z-of_z at c.range.ensures.made in
    let n : length c.range.new.out ≡ 200 = omega (arith, c.told-out, c.range.auto.out) in
    one_taken c.args.op Inds v _ c.in-Inds.is k (made_told c.range.result c.map_err-in-Inds.result c.map_err-in-Inds.ensures.cases c.range.new.out (of Set (between (pos 1) c.content-in-Inds.result)) n (MatchResult-weaker c.range.result (m (omega (arith, c.told-out))) (λ _ p. p) (λ _ p. omega (arith, p, c.told-out))) ∙ ap (λ i. in_cells (made (of Set (between (pos 1) i)))) z)
