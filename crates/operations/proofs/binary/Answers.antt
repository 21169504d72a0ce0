use Rattle.std.proofs.Common.{◌≡◌, ◌+◌, ◌^◌, ◌<◌, true, not, ◌++◌, length, ◌+ℤ◌, ◌-ℤ◌, ◌*ℤ◌, sym, ap, ◌∙◌, arith, w32, SFits, rules}
use mathlib.Core.Bool.{beq}
use lib.Signed.{lt_z, le_z}
use Rattle.std.proofs.lemmas.Int.{to_z-of_z}
use Rattle.std.proofs.lemmas.Result.{MatchResult-weaker}
use Rattle.std.specs.Ordering.{is_eq}
use Rattle.syntax.specs.declared.Collection.TheVariants.{Set, Sequence}
use Rattle.syntax.specs.declared.Binary.TheVariants.{Iff, Equal, NotEqual, Less, LessEqual, Greater, GreaterEqual, Subset, ProperSubset, InSet, NotInSet, Plus, Minus, Union, Difference, Concat, Times, Div, Rem, Mod, Inter, Apply}
use Rattle.values.specs.Value.{of, by_cells}
use Rattle.values.specs.Lawful.{in_range}
use Rattle.values.specs.Sets.{union, inter, difference}
use Rattle.values.specs.Numbers.{quotient, remainder, modulus}
use Rattle.values.specs.Operators.{takes, members, number_of, answer, at}
use Rattle.values.specs.Cells.{in_cells}
use Rattle.numbers.specs.Number.{ranged, unless_zero}
use Rattle.operations.specs.Fit.{numbered}
use Rattle.operations.proofs.Sorts.{number_cell, truth_cell, many_cells, in_range_lem, in_order, short, few}
use Rattle.operations.proofs.Outcomes.{both_taken, both_refused, both_kinds, pair_told, made_told, calculates, divides}
use Rattle.operations.proofs.binary.Goals as goal

pub returns-then-not-takes-clause-gives : goal.returns-then-not-takes-clause-gives
returns-then-not-takes-clause-gives c = λ v w ea eb la lb. both_refused c.args.op v w (sym (c.takes.ensures v w ea eb) ∙ c.if-not-takes.true)

pub returns-in-Iff-clause-gives : goal.returns-in-Iff-clause-gives
returns-in-Iff-clause-gives c = λ v w ea eb la lb.
    let k : takes c.args.op v w ≡ true = sym (c.takes.ensures v w ea eb) ∙ c.if-not-takes.false in
    let h = both_kinds c.args.op Iff v w c.in-Iff.is k in
    both_taken c.args.op Iff v w _ c.in-Iff.is k (pair_told c.answer.result c.answer.new.out _ c.answer.ensures.is c.answer.ensures.holds ∙ (λ i. in_cells (answer (beq ((c.flag.ensures ∙ truth_cell v c.args.a.now ea h.0) i) ((c.flag-in-Iff.ensures ∙ truth_cell w c.args.b.now eb h.1) i)))))

pub returns-in-Equal-clause-gives : goal.returns-in-Equal-clause-gives
returns-in-Equal-clause-gives c = λ v w ea eb la lb.
    let k : takes c.args.op v w ≡ true = sym (c.takes.ensures v w ea eb) ∙ c.if-not-takes.false in
    let h = both_kinds c.args.op Equal v w c.in-Equal.is k in
    both_taken c.args.op Equal v w _ c.in-Equal.is k (pair_told c.answer-in-Equal.result c.answer-in-Equal.new.out _ c.answer-in-Equal.ensures.is c.answer-in-Equal.ensures.holds ∙ ap (λ b. in_cells (answer b)) (c.equal.ensures ∙ (λ i. is_eq (by_cells (ea i) (eb i)))))

pub returns-in-NotEqual-clause-gives : goal.returns-in-NotEqual-clause-gives
returns-in-NotEqual-clause-gives c = λ v w ea eb la lb.
    let k : takes c.args.op v w ≡ true = sym (c.takes.ensures v w ea eb) ∙ c.if-not-takes.false in
    let h = both_kinds c.args.op NotEqual v w c.in-NotEqual.is k in
    both_taken c.args.op NotEqual v w _ c.in-NotEqual.is k (pair_told c.answer-in-NotEqual.result c.answer-in-NotEqual.new.out _ c.answer-in-NotEqual.ensures.is c.answer-in-NotEqual.ensures.holds ∙ ap (λ b. in_cells (answer (not b))) (c.equal-in-NotEqual.ensures ∙ (λ i. is_eq (by_cells (ea i) (eb i)))))

pub returns-in-Less-clause-gives : goal.returns-in-Less-clause-gives
returns-in-Less-clause-gives c = λ v w ea eb la lb.
    let k : takes c.args.op v w ≡ true = sym (c.takes.ensures v w ea eb) ∙ c.if-not-takes.false in
    let h = both_kinds c.args.op Less v w c.in-Less.is k in
    let f : SFits w32 c.content-x.result = search rules in
    let g : SFits w32 c.content-y.result = search rules in
    let x = c.content-x.ensures ∙ number_cell v c.args.a.now ea h.0 in
    let y = c.content-y.ensures ∙ number_cell w c.args.b.now eb h.1 in
    let z = simp to_z-of_z at c.answer-in-Less.ensures.holds in
    both_taken c.args.op Less v w _ c.in-Less.is k (pair_told c.answer-in-Less.result c.answer-in-Less.new.out _ c.answer-in-Less.ensures.is z ∙ (λ i. in_cells (answer (lt_z (x i) (y i)))))

pub returns-in-LessEqual-clause-gives : goal.returns-in-LessEqual-clause-gives
returns-in-LessEqual-clause-gives c = λ v w ea eb la lb.
    let k : takes c.args.op v w ≡ true = sym (c.takes.ensures v w ea eb) ∙ c.if-not-takes.false in
    let h = both_kinds c.args.op LessEqual v w c.in-LessEqual.is k in
    let f : SFits w32 c.content-x.result = search rules in
    let g : SFits w32 c.content-y.result = search rules in
    let x = c.content-x.ensures ∙ number_cell v c.args.a.now ea h.0 in
    let y = c.content-y.ensures ∙ number_cell w c.args.b.now eb h.1 in
    let z = simp to_z-of_z at c.answer-in-LessEqual.ensures.holds in
    both_taken c.args.op LessEqual v w _ c.in-LessEqual.is k (pair_told c.answer-in-LessEqual.result c.answer-in-LessEqual.new.out _ c.answer-in-LessEqual.ensures.is z ∙ (λ i. in_cells (answer (le_z (x i) (y i)))))

pub returns-in-Greater-clause-gives : goal.returns-in-Greater-clause-gives
returns-in-Greater-clause-gives c = λ v w ea eb la lb.
    let k : takes c.args.op v w ≡ true = sym (c.takes.ensures v w ea eb) ∙ c.if-not-takes.false in
    let h = both_kinds c.args.op Greater v w c.in-Greater.is k in
    let f : SFits w32 c.content-x.result = search rules in
    let g : SFits w32 c.content-y.result = search rules in
    let x = c.content-x.ensures ∙ number_cell v c.args.a.now ea h.0 in
    let y = c.content-y.ensures ∙ number_cell w c.args.b.now eb h.1 in
    let z = simp to_z-of_z at c.answer-in-Greater.ensures.holds in
    both_taken c.args.op Greater v w _ c.in-Greater.is k (pair_told c.answer-in-Greater.result c.answer-in-Greater.new.out _ c.answer-in-Greater.ensures.is z ∙ (λ i. in_cells (answer (lt_z (y i) (x i)))))

pub returns-in-GreaterEqual-clause-gives : goal.returns-in-GreaterEqual-clause-gives
returns-in-GreaterEqual-clause-gives c = λ v w ea eb la lb.
    let k : takes c.args.op v w ≡ true = sym (c.takes.ensures v w ea eb) ∙ c.if-not-takes.false in
    let h = both_kinds c.args.op GreaterEqual v w c.in-GreaterEqual.is k in
    let f : SFits w32 c.content-x.result = search rules in
    let g : SFits w32 c.content-y.result = search rules in
    let x = c.content-x.ensures ∙ number_cell v c.args.a.now ea h.0 in
    let y = c.content-y.ensures ∙ number_cell w c.args.b.now eb h.1 in
    let z = simp to_z-of_z at c.answer-in-GreaterEqual.ensures.holds in
    both_taken c.args.op GreaterEqual v w _ c.in-GreaterEqual.is k (pair_told c.answer-in-GreaterEqual.result c.answer-in-GreaterEqual.new.out _ c.answer-in-GreaterEqual.ensures.is z ∙ (λ i. in_cells (answer (le_z (y i) (x i)))))

pub returns-in-Subset-clause-gives : goal.returns-in-Subset-clause-gives
returns-in-Subset-clause-gives c = λ v w ea eb la lb.
    let k : takes c.args.op v w ≡ true = sym (c.takes.ensures v w ea eb) ∙ c.if-not-takes.false in
    let h = both_kinds c.args.op Subset v w c.in-Subset.is k in
    let x = many_cells Set v c.args.a.now ea h.0 in
    let y = many_cells Set w c.args.b.now eb h.1 in
    both_taken c.args.op Subset v w _ c.in-Subset.is k (pair_told c.answer-in-Subset.result c.answer-in-Subset.new.out _ c.answer-in-Subset.ensures.is c.answer-in-Subset.ensures.holds ∙ ap (λ b. in_cells (answer b)) (c.part.ensures (members v) (members w) x y (in_order v la h.0) (in_order w lb h.1)))

pub returns-in-ProperSubset-clause-gives : goal.returns-in-ProperSubset-clause-gives
returns-in-ProperSubset-clause-gives c = λ v w ea eb la lb.
    let k : takes c.args.op v w ≡ true = sym (c.takes.ensures v w ea eb) ∙ c.if-not-takes.false in
    let h = both_kinds c.args.op ProperSubset v w c.in-ProperSubset.is k in
    let x = many_cells Set v c.args.a.now ea h.0 in
    let y = many_cells Set w c.args.b.now eb h.1 in
    both_taken c.args.op ProperSubset v w _ c.in-ProperSubset.is k (pair_told c.answer-in-ProperSubset.result c.answer-in-ProperSubset.new.out _ c.answer-in-ProperSubset.ensures.is c.answer-in-ProperSubset.ensures.holds ∙ ap (λ b. in_cells (answer b)) (c.proper.ensures (members v) (members w) x y (in_order v la h.0) (in_order w lb h.1)))

pub returns-in-InSet-clause-gives : goal.returns-in-InSet-clause-gives
returns-in-InSet-clause-gives c = λ v w ea eb la lb.
    let k : takes c.args.op v w ≡ true = sym (c.takes.ensures v w ea eb) ∙ c.if-not-takes.false in
    let h = both_kinds c.args.op InSet v w c.in-InSet.is k in
    let y = many_cells Set w c.args.b.now eb h.1 in
    both_taken c.args.op InSet v w _ c.in-InSet.is k (pair_told c.answer-in-InSet.result c.answer-in-InSet.new.out _ c.answer-in-InSet.ensures.is c.answer-in-InSet.ensures.holds ∙ ap (λ b. in_cells (answer b)) (c.has.ensures (members w) v y ea (in_order w lb h.1)))

pub returns-in-NotInSet-clause-gives : goal.returns-in-NotInSet-clause-gives
returns-in-NotInSet-clause-gives c = λ v w ea eb la lb.
    let k : takes c.args.op v w ≡ true = sym (c.takes.ensures v w ea eb) ∙ c.if-not-takes.false in
    let h = both_kinds c.args.op NotInSet v w c.in-NotInSet.is k in
    let y = many_cells Set w c.args.b.now eb h.1 in
    both_taken c.args.op NotInSet v w _ c.in-NotInSet.is k (pair_told c.answer-in-NotInSet.result c.answer-in-NotInSet.new.out _ c.answer-in-NotInSet.ensures.is c.answer-in-NotInSet.ensures.holds ∙ ap (λ b. in_cells (answer (not b))) (c.has-in-NotInSet.ensures (members w) v y ea (in_order w lb h.1)))

pub returns-in-Plus-clause-gives : goal.returns-in-Plus-clause-gives
returns-in-Plus-clause-gives c = λ v w ea eb la lb.
    let k : takes c.args.op v w ≡ true = sym (c.takes.ensures v w ea eb) ∙ c.if-not-takes.false in
    let h = both_kinds c.args.op Plus v w c.in-Plus.is k in
    let f : SFits w32 c.content-x.result = search rules in
    let g : SFits w32 c.content-y.result = search rules in
    let x = c.content-x.ensures ∙ number_cell v c.args.a.now ea h.0 in
    let y = c.content-y.ensures ∙ number_cell w c.args.b.now eb h.1 in
    let m = simp to_z-of_z at c.sum.ensures in
    both_taken c.args.op Plus v w _ c.in-Plus.is k (c.number.ensures.gives ∙ ap (λ q. in_cells (numbered q)) (m ∙ (λ i. ranged (x i +ℤ y i))) ∙ ap in_cells (calculates (number_of v +ℤ number_of w)))

pub returns-in-Minus-clause-gives : goal.returns-in-Minus-clause-gives
returns-in-Minus-clause-gives c = λ v w ea eb la lb.
    let k : takes c.args.op v w ≡ true = sym (c.takes.ensures v w ea eb) ∙ c.if-not-takes.false in
    let h = both_kinds c.args.op Minus v w c.in-Minus.is k in
    let f : SFits w32 c.content-x.result = search rules in
    let g : SFits w32 c.content-y.result = search rules in
    let x = c.content-x.ensures ∙ number_cell v c.args.a.now ea h.0 in
    let y = c.content-y.ensures ∙ number_cell w c.args.b.now eb h.1 in
    let m = simp to_z-of_z at c.difference.ensures in
    both_taken c.args.op Minus v w _ c.in-Minus.is k (c.number-in-Minus.ensures.gives ∙ ap (λ q. in_cells (numbered q)) (m ∙ (λ i. ranged (x i -ℤ y i))) ∙ ap in_cells (calculates (number_of v -ℤ number_of w)))

pub returns-in-Times-clause-gives : goal.returns-in-Times-clause-gives
returns-in-Times-clause-gives c = λ v w ea eb la lb.
    let k : takes c.args.op v w ≡ true = sym (c.takes.ensures v w ea eb) ∙ c.if-not-takes.false in
    let h = both_kinds c.args.op Times v w c.in-Times.is k in
    let f : SFits w32 c.content-x.result = search rules in
    let g : SFits w32 c.content-y.result = search rules in
    let x = c.content-x.ensures ∙ number_cell v c.args.a.now ea h.0 in
    let y = c.content-y.ensures ∙ number_cell w c.args.b.now eb h.1 in
    let m = simp to_z-of_z at c.product.ensures in
    both_taken c.args.op Times v w _ c.in-Times.is k (c.number-in-Times.ensures.gives ∙ ap (λ q. in_cells (numbered q)) (m ∙ (λ i. ranged (x i *ℤ y i))) ∙ ap in_cells (calculates (number_of v *ℤ number_of w)))

pub returns-in-Div-clause-gives : goal.returns-in-Div-clause-gives
returns-in-Div-clause-gives c = λ v w ea eb la lb.
    let k : takes c.args.op v w ≡ true = sym (c.takes.ensures v w ea eb) ∙ c.if-not-takes.false in
    let h = both_kinds c.args.op Div v w c.in-Div.is k in
    let f : SFits w32 c.content-x.result = search rules in
    let g : SFits w32 c.content-y.result = search rules in
    let x = c.content-x.ensures ∙ number_cell v c.args.a.now ea h.0 in
    let y = c.content-y.ensures ∙ number_cell w c.args.b.now eb h.1 in
    let m = simp to_z-of_z at c.divide.ensures in
    both_taken c.args.op Div v w _ c.in-Div.is k (c.number-in-Div.ensures.gives ∙ ap (λ q. in_cells (numbered q)) (m (ap in_range x ∙ in_range_lem v la h.0) ∙ (λ i. unless_zero (y i) (quotient (x i) (y i)))) ∙ ap in_cells (divides (number_of w) (quotient (number_of v) (number_of w))))

pub returns-in-Rem-clause-gives : goal.returns-in-Rem-clause-gives
returns-in-Rem-clause-gives c = λ v w ea eb la lb.
    let k : takes c.args.op v w ≡ true = sym (c.takes.ensures v w ea eb) ∙ c.if-not-takes.false in
    let h = both_kinds c.args.op Rem v w c.in-Rem.is k in
    let f : SFits w32 c.content-x.result = search rules in
    let g : SFits w32 c.content-y.result = search rules in
    let x = c.content-x.ensures ∙ number_cell v c.args.a.now ea h.0 in
    let y = c.content-y.ensures ∙ number_cell w c.args.b.now eb h.1 in
    let m = simp to_z-of_z at c.divide-in-Rem.ensures in
    both_taken c.args.op Rem v w _ c.in-Rem.is k (c.number-in-Rem.ensures.gives ∙ ap (λ q. in_cells (numbered q)) (m (ap in_range x ∙ in_range_lem v la h.0) ∙ (λ i. unless_zero (y i) (remainder (x i) (y i)))) ∙ ap in_cells (divides (number_of w) (remainder (number_of v) (number_of w))))

pub returns-in-Mod-clause-gives : goal.returns-in-Mod-clause-gives
returns-in-Mod-clause-gives c = λ v w ea eb la lb.
    let k : takes c.args.op v w ≡ true = sym (c.takes.ensures v w ea eb) ∙ c.if-not-takes.false in
    let h = both_kinds c.args.op Mod v w c.in-Mod.is k in
    let f : SFits w32 c.content-x.result = search rules in
    let g : SFits w32 c.content-y.result = search rules in
    let x = c.content-x.ensures ∙ number_cell v c.args.a.now ea h.0 in
    let y = c.content-y.ensures ∙ number_cell w c.args.b.now eb h.1 in
    let m = simp to_z-of_z at c.divide-in-Mod.ensures in
    both_taken c.args.op Mod v w _ c.in-Mod.is k (c.number-in-Mod.ensures.gives ∙ ap (λ q. in_cells (numbered q)) (m (ap in_range x ∙ in_range_lem v la h.0) ∙ (λ i. unless_zero (y i) (modulus (x i) (y i)))) ∙ ap in_cells (divides (number_of w) (modulus (number_of v) (number_of w))))

pub returns-in-Union-clause-gives : goal.returns-in-Union-clause-gives
returns-in-Union-clause-gives c = λ v w ea eb la lb.
    let k : takes c.args.op v w ≡ true = sym (c.takes.ensures v w ea eb) ∙ c.if-not-takes.false in
    let h = both_kinds c.args.op Union v w c.in-Union.is k in
    let x = many_cells Set v c.args.a.now ea h.0 in
    let y = many_cells Set w c.args.b.now eb h.1 in
    let m = c.combine.ensures.made (members v) (members w) x y (short v c.args.a.now ea la) (short w c.args.b.now eb lb) (in_order v la h.0) (in_order w lb h.1) in
    let n : length c.combine.new.out ≡ 200 = omega (arith, c.told-out, c.combine.auto.out) in
    both_taken c.args.op Union v w _ c.in-Union.is k (made_told c.combine.result c.map_err.result c.map_err.ensures.cases c.combine.new.out (of Set (union (members v) (members w))) n (MatchResult-weaker c.combine.result m (λ _ p. p) (λ _ p. omega (arith, p, c.told-out))))

pub returns-in-Difference-clause-gives : goal.returns-in-Difference-clause-gives
returns-in-Difference-clause-gives c = λ v w ea eb la lb.
    let k : takes c.args.op v w ≡ true = sym (c.takes.ensures v w ea eb) ∙ c.if-not-takes.false in
    let h = both_kinds c.args.op Difference v w c.in-Difference.is k in
    let x = many_cells Set v c.args.a.now ea h.0 in
    let y = many_cells Set w c.args.b.now eb h.1 in
    let m = c.combine-in-Difference.ensures.made (members v) (members w) x y (short v c.args.a.now ea la) (short w c.args.b.now eb lb) (in_order v la h.0) (in_order w lb h.1) in
    let n : length c.combine-in-Difference.new.out ≡ 200 = omega (arith, c.told-out, c.combine-in-Difference.auto.out) in
    both_taken c.args.op Difference v w _ c.in-Difference.is k (made_told c.combine-in-Difference.result c.map_err-in-Difference.result c.map_err-in-Difference.ensures.cases c.combine-in-Difference.new.out (of Set (difference (members v) (members w))) n (MatchResult-weaker c.combine-in-Difference.result m (λ _ p. p) (λ _ p. omega (arith, p, c.told-out))))

pub returns-in-Inter-clause-gives : goal.returns-in-Inter-clause-gives
returns-in-Inter-clause-gives c = λ v w ea eb la lb.
    let k : takes c.args.op v w ≡ true = sym (c.takes.ensures v w ea eb) ∙ c.if-not-takes.false in
    let h = both_kinds c.args.op Inter v w c.in-Inter.is k in
    let x = many_cells Set v c.args.a.now ea h.0 in
    let y = many_cells Set w c.args.b.now eb h.1 in
    let m = c.combine-in-Inter.ensures.made (members v) (members w) x y (short v c.args.a.now ea la) (short w c.args.b.now eb lb) (in_order v la h.0) (in_order w lb h.1) in
    let n : length c.combine-in-Inter.new.out ≡ 200 = omega (arith, c.told-out, c.combine-in-Inter.auto.out) in
    both_taken c.args.op Inter v w _ c.in-Inter.is k (made_told c.combine-in-Inter.result c.map_err-in-Inter.result c.map_err-in-Inter.ensures.cases c.combine-in-Inter.new.out (of Set (inter (members v) (members w))) n (MatchResult-weaker c.combine-in-Inter.result m (λ _ p. p) (λ _ p. omega (arith, p, c.told-out))))

pub returns-in-Concat-clause-gives : goal.returns-in-Concat-clause-gives
returns-in-Concat-clause-gives c = λ v w ea eb la lb.
    let k : takes c.args.op v w ≡ true = sym (c.takes.ensures v w ea eb) ∙ c.if-not-takes.false in
    let h = both_kinds c.args.op Concat v w c.in-Concat.is k in
    let x = many_cells Sequence v c.args.a.now ea h.0 in
    let y = many_cells Sequence w c.args.b.now eb h.1 in
    let t : length (members v) + length (members w) < 2 ^ 31 = omega (arith, few Sequence v la h.0, few Sequence w lb h.1) in
    let m = c.join.ensures.made (members v) (members w) x y t in
    let n : length c.join.new.out ≡ 200 = omega (arith, c.told-out, c.join.auto.out) in
    both_taken c.args.op Concat v w _ c.in-Concat.is k (made_told c.join.result c.map_err-in-Concat.result c.map_err-in-Concat.ensures.cases c.join.new.out (of Sequence (members v ++ members w)) n (MatchResult-weaker c.join.result m (λ _ p. p) (λ _ p. omega (arith, p, c.told-out))))

pub returns-in-Apply-clause-gives : goal.returns-in-Apply-clause-gives
returns-in-Apply-clause-gives c = λ v w ea eb la lb.
    let k : takes c.args.op v w ≡ true = sym (c.takes.ensures v w ea eb) ∙ c.if-not-takes.false in
    let h = both_kinds c.args.op Apply v w c.in-Apply.is k in
    let g : SFits w32 c.content-y.result = search rules in
    let y = c.content-y.ensures ∙ number_cell w c.args.b.now eb h.1 in
    let m = simp to_z-of_z at c.apply.ensures.gives in
    both_taken c.args.op Apply v w _ c.in-Apply.is k (m Sequence (members v) (many_cells Sequence v c.args.a.now ea h.0) (short v c.args.a.now ea la) ∙ ap (λ i. in_cells (at i (members v))) y)
