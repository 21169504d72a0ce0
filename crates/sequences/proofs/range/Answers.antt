use Rattle.std.proofs.Common.{◌≡◌, ◌+◌, ◌*◌, ◌<◌, [], ◌∷◌, ◌++◌, length, pos, sym, refl, ap, ◌∙◌, arith, rules}
use Rattle.std.proofs.lemmas.Result.{MatchResult-from_err}
use Rattle.std.proofs.lemmas.Int.{to_z-of_z}
use Rattle.syntax.specs.declared.Collection.TheVariants.{Set}
use Rattle.tables.specs.Items.{items, room, loan}
use Rattle.tables.proofs.Back.{in_front}
use Rattle.values.specs.Value.{cells, of, row}
use Rattle.values.specs.Numbers.{span, between}
use Rattle.sequences.specs.Count.{width}
use Rattle.sequences.proofs.Rows.{set_span, long_span}
use Rattle.sequences.proofs.range.Goals as goal

pub returns-then-count-gt-MOST_NUMBERS-clause-made : goal.returns-then-count-gt-MOST_NUMBERS-clause-made
returns-then-count-gt-MOST_NUMBERS-clause-made c = λ small.
    let f = c.ranges.a in
    let g = c.ranges.b in
    let is : c.wide-count.result ≡ width c.args.a c.args.b = simp to_z-of_z at c.wide-count.ensures.is in
    omega (arith, is, long_span c.args.a (width c.args.a c.args.b), c.if-count-gt-MOST_NUMBERS.true)

pub returns-in_err-numbers-clause-made : goal.returns-in_err-numbers-clause-made
returns-in_err-numbers-clause-made c = λ small.
    MatchResult-from_err _ _ _ c.from_residual-in_err-numbers.ensures.0 (λ _.
    let f = c.ranges.a in
    let g = c.ranges.b in
    let is : c.wide-count.result ≡ width c.args.a c.args.b = simp to_z-of_z at c.wide-count.ensures.is in
    let i : length (items c.begin.new.table) ≡ 2 = search rules in
    let r : room c.begin.new.table ≡ length c.args.out.now = search rules in
    let h : room c.begin.new.table < length (items c.begin.new.table) + 2 * c.wide-count.result = c.in_err-numbers.ensures.made in
    omega (arith, h, i, r, is, long_span c.args.a (width c.args.a c.args.b)))

pub returns-clause-made : goal.returns-clause-made
returns-clause-made c = λ small.
    let n = c.wide-count.result in
    let a = c.args.a in
    let f = c.ranges.a in
    let g = c.ranges.b in
    let is : n ≡ width a c.args.b = simp to_z-of_z at c.wide-count.ensures.is in
    let begun : items c.begin.new.table ≡ pos 2 ∷ pos n ∷ [] = c.in_ok-begin.ensures.begun.0 ∙ ap (λ l. l ++ (pos 2 ∷ pos n ∷ [])) c.make-table.ensures.items in
    let made : items c.numbers.new.table ≡ items c.begin.new.table ++ row (span a n) = simp to_z-of_z at c.in_ok-numbers.ensures.made in
    let same : loan c.make-table.result ≡ loan c.numbers.new.table = sym (c.in_ok-numbers.ensures.lent ∙ c.in_ok-begin.ensures.lent) in
    in_front c.numbers.new.table _ (cells (of Set (between a c.args.b))) c.len.result (search rules) c.len.ensures (set_span a n _ _ (pos n) made begun refl ∙ ap (λ k. cells (of Set (span a k))) is)
