use Rattle.std.proofs.Common.{◌≡◌, ◌+◌, ◌-◌, [], ◌∷◌, ◌++◌, length, pos, ◌+ℤ◌, ap, ◌∙◌, arith, w32, SFits, rules}
use Rattle.std.proofs.lemmas.Int.{to_z-of_z}
use Rattle.tables.specs.Items.{items}
use Rattle.values.specs.Value.{row}
use Rattle.values.specs.Numbers.{span}
use Rattle.sequences.proofs.Rows.{span_step, pair_on}
use Rattle.sequences.proofs.numbers.Goals as goal

pub loop-i-preserved : goal.loop-i-preserved
loop-i-preserved c =
    let a = c.args.a in
    let i = c.loop-i.i in
    let n = c.args.count in
    let f = c.ranges.a in
    let g : SFits w32 c.shifted.result = search rules in
    let h = c.in_ok-extend_from_slice.ensures in
    let inv = c.loop-i.invariant in
    let e : c.shifted.result ≡ a +ℤ pos i = simp to_z-of_z at c.shifted.ensures in
    let so = simp to_z-of_z at inv.0 in
    let l : length (items c.extend_from_slice.new.self) ≡ length (items c.loop-i.table) + 2 = h.len in
    let p : items c.extend_from_slice.new.self ≡ items c.loop-i.table ++ (pos 0 ∷ (a +ℤ pos i) ∷ []) = h.items ∙ ap (λ z. items c.loop-i.table ++ (pos 0 ∷ z ∷ [])) (to_z-of_z w32 c.shifted.result g ∙ e) in (
      simp to_z-of_z (pair_on _ _ _ _ (row (span (a +ℤ pos (i + 1)) (n - (i + 1)))) (a +ℤ pos i) p (ap row (span_step a i n c.loop-i-test.true)) so),
      omega (arith, l, inv.1),
      h.room ∙ inv.2,
      h.lent ∙ inv.3,
    )
