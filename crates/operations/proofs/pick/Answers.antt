use Rattle.std.proofs.Common.{◌+◌, ◌++◌, length, Ok, sym, refl, ap, ◌∙◌, arith}
use Rattle.std.proofs.lemmas.Bool.{leb-false}
use Rattle.tables.specs.Items.{items, room}
use Rattle.tables.proofs.Back.{in_front}
use Rattle.operations.proofs.Outcomes.{picked_short, row_short}
use Rattle.operations.proofs.pick.Goals as goal

pub returns-in_err-extend_from_slice-clause-gives : goal.returns-in_err-extend_from_slice-clause-gives
returns-in_err-extend_from_slice-clause-gives c = λ k vs e s.
    let x = c.in_ok-member.member.now in
    let full = leb-false (length (items c.make-table.result) + length x) (room c.make-table.result) (sym c.in_err-extend_from_slice.ensures.test) in
    absurd (omega (arith, full, ap length c.make-table.ensures.items, c.make-table.ensures.room, c.told-out, picked_short x c.args.n vs (c.in_ok-member.ensures k vs e), row_short k vs c.args.a.now e s))

pub returns-clause-gives : goal.returns-clause-gives
returns-clause-gives c = λ k vs e s.
    let x = c.in_ok-member.member.now in
    let made = c.in_ok-extend_from_slice.ensures.items ∙ ap (λ l. l ++ x) c.make-table.ensures.items in
    ap Ok (in_front c.extend_from_slice.new.self _ x c.len.result refl c.len.ensures made) ∙ c.in_ok-member.ensures k vs e
