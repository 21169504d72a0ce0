use Rattle.std.proofs.Common.{◌≡◌, ◌+◌, ◌^◌, ◌<◌, ◌≤◌, ◌⊎◌, [], ◌∷◌, ◌++◌, length, pos, sym, refl, ap, ◌∙◌, arith, rules}
use Rattle.std.proofs.lemmas.Bool.{leb-false}
use Rattle.std.proofs.lemmas.Result.{MatchResult-from_err}
use Rattle.syntax.specs.declared.Collection.TheVariants.{Sequence}
use Rattle.tables.specs.Items.{items, room, loan}
use Rattle.tables.proofs.Back.{in_front}
use Rattle.values.specs.Value.{cells, of, row}
use Rattle.values.proofs.Laws.{inner_of, cells_of}
use Rattle.sequences.proofs.Rows.{counted_of, total, joined}
use Rattle.sequences.proofs.join.Goals as goal

pub returns-in_err-begin-clause-made : goal.returns-in_err-begin-clause-made
returns-in_err-begin-clause-made c = λ us vs ea eb small.
    MatchResult-from_err _ _ _ c.from_residual.ensures.0 (λ _.
    let h : (2 ^ 31 ≤ c.count.result + c.count-2.result) ⊎ (room c.make-table.result < length (items c.make-table.result) + 2) = c.in_err-begin.ensures.begun in
    let i : length (items c.make-table.result) ≡ 0 = search rules in
    let r : room c.make-table.result ≡ length c.args.out.now = search rules in
    omega (arith, h, i, r, ap length (cells_of Sequence (us ++ vs)), c.count.ensures.is ∙ counted_of Sequence us c.args.a.now ea, c.count-2.ensures.is ∙ counted_of Sequence vs c.args.b.now eb))

pub returns-in_err-extend_from_slice-clause-made : goal.returns-in_err-extend_from_slice-clause-made
returns-in_err-extend_from_slice-clause-made c = λ us vs ea eb small.
    MatchResult-from_err _ _ _ c.from_residual-in_err-extend_from_slice.ensures.0 (λ _.
    let x = inner_of Sequence us c.args.a.now c.inner.result.now ea c.inner.ensures in
    let full = leb-false (length (items c.begin.new.table) + length c.inner.result.now) (room c.begin.new.table) (sym c.in_err-extend_from_slice.ensures.test) in
    let i : length (items c.begin.new.table) ≡ 2 = search rules in
    let r : room c.begin.new.table ≡ length c.args.out.now = search rules in
    omega (arith, full, i, r, total Sequence us vs c.inner.result.now (row vs) x refl))

pub returns-in_err-extend_from_slice-2-clause-made : goal.returns-in_err-extend_from_slice-2-clause-made
returns-in_err-extend_from_slice-2-clause-made c = λ us vs ea eb small.
    MatchResult-from_err _ _ _ c.from_residual-in_err-extend_from_slice-2.ensures.0 (λ _.
    let x = inner_of Sequence us c.args.a.now c.inner.result.now ea c.inner.ensures in
    let y = inner_of Sequence vs c.args.b.now c.inner-2.result.now eb c.inner-2.ensures in
    let full = leb-false (length (items c.extend_from_slice.new.self) + length c.inner-2.result.now) (room c.extend_from_slice.new.self) (sym c.in_err-extend_from_slice-2.ensures.test) in
    let i : length (items c.begin.new.table) ≡ 2 = search rules in
    let l : length (items c.extend_from_slice.new.self) ≡ length (items c.begin.new.table) + length c.inner.result.now = c.in_ok-extend_from_slice.ensures.len in
    let r : room c.extend_from_slice.new.self ≡ length c.args.out.now = search rules in
    omega (arith, full, i, l, r, total Sequence us vs c.inner.result.now c.inner-2.result.now x y))

pub returns-clause-made : goal.returns-clause-made
returns-clause-made c = λ us vs ea eb small.
    let x = inner_of Sequence us c.args.a.now c.inner.result.now ea c.inner.ensures in
    let y = inner_of Sequence vs c.args.b.now c.inner-2.result.now eb c.inner-2.ensures in
    let members = c.count.result + c.count-2.result in
    let ca = c.count.ensures.is ∙ counted_of Sequence us c.args.a.now ea in
    let cb = c.count-2.ensures.is ∙ counted_of Sequence vs c.args.b.now eb in
    let sum : members ≡ length us + length vs = omega (arith, ca, cb) in
    let begun : items c.begin.new.table ≡ pos 3 ∷ pos members ∷ [] = c.in_ok-begin.ensures.begun.0 ∙ ap (λ l. l ++ (pos 3 ∷ pos members ∷ [])) c.make-table.ensures.items in
    let same : loan c.make-table.result ≡ loan c.extend_from_slice-2.new.self = sym (c.in_ok-extend_from_slice-2.ensures.lent ∙ c.in_ok-extend_from_slice.ensures.lent ∙ c.in_ok-begin.ensures.lent) in
    in_front c.extend_from_slice-2.new.self _ (cells (of Sequence (us ++ vs))) c.len.result (search rules) c.len.ensures (joined Sequence us vs members _ _ _ _ c.inner.result.now c.inner-2.result.now (pos members) refl begun c.in_ok-extend_from_slice.ensures.items c.in_ok-extend_from_slice-2.ensures.items refl sum x y)
