use Rattle.std.proofs.Common.{◌≡◌, ◌+◌, ◌-◌, [], ◌∷◌, ◌++◌, length, pos, sym, ap, ◌∙◌, arith, rules}
use Rattle.std.proofs.lemmas.Bool.{leb-false}
use Rattle.std.proofs.lemmas.Result.{MatchResult-from_err}
use Rattle.syntax.specs.declared.Collection.TheVariants.{Sequence}
use Rattle.tables.specs.Items.{items, room, loan}
use Rattle.tables.proofs.Back.{in_front}
use Rattle.values.specs.Value.{cells, of, past, row}
use Rattle.values.proofs.Laws.{inner_of, past_first, cells_of}
use Rattle.sequences.proofs.Rows.{counted_of, pair_row}
use Rattle.sequences.proofs.tail.Goals as goal

pub returns-in_err-extend_from_slice-clause-made : goal.returns-in_err-extend_from_slice-clause-made
returns-in_err-extend_from_slice-clause-made c = λ v vs e.
    MatchResult-from_err _ _ _ c.from_residual-in_err-extend_from_slice.ensures.0 (λ _.
    let x = inner_of Sequence (v ∷ vs) c.args.s.now c.inner.result.now e c.inner.ensures in
    let y = c.split.ensures.back ∙ ap (past 1) x ∙ past_first v (row vs) in
    let full = leb-false (length (items c.begin.new.table) + length c.split.result.1.now) (room c.begin.new.table) (sym c.in_err-extend_from_slice.ensures.test) in
    let i : length (items c.begin.new.table) ≡ 2 = search rules in
    let r : room c.begin.new.table ≡ length c.args.out.now = search rules in
    omega (arith, full, i, r, ap length y, ap length (cells_of Sequence vs)))

pub returns-clause-made : goal.returns-clause-made
returns-clause-made c = λ v vs e.
    let n = c.count-members.result in
    let m = c.count-members.ensures.is ∙ counted_of Sequence (v ∷ vs) c.args.s.now e in
    let x = inner_of Sequence (v ∷ vs) c.args.s.now c.inner.result.now e c.inner.ensures in
    let y = c.split.ensures.back ∙ ap (past 1) x ∙ past_first v (row vs) in
    let begun : items c.begin.new.table ≡ pos 3 ∷ pos (n - 1) ∷ [] = c.in_ok-begin.ensures.begun.0 ∙ ap (λ l. l ++ (pos 3 ∷ pos (n - 1) ∷ [])) c.make-table.ensures.items in
    let same : loan c.make-table.result ≡ loan c.extend_from_slice.new.self = sym (c.in_ok-extend_from_slice.ensures.lent ∙ c.in_ok-begin.ensures.lent) in
    in_front c.extend_from_slice.new.self _ (cells (of Sequence vs)) c.len.result (search rules) c.len.ensures (pair_row Sequence vs _ _ c.split.result.1.now (pos (n - 1)) c.in_ok-extend_from_slice.ensures.items begun (ap pos (omega (arith, m))) y)
