use Rattle.std.proofs.Common.{◌≡◌, suc, ◌-◌, ◌<◌, ◌⊎◌, length, pos, Ok, sym, ap, ◌∙◌, inl, inr, arith}
use Rattle.values.specs.Value.{number}
use Rattle.values.specs.Operators.{nth}
use Rattle.values.specs.Cells.{in_cells}
use Rattle.sequences.proofs.Rows.{nth_at, nth_out, counted_of}
use Rattle.sequences.proofs.pick.Goals as goal
use Rattle.sequences.proofs.pick.Goals.{then-n-lt1-via-then-n-lt1, then-n-lt1-via-else-n-lt1+then-n-count}

pub returns-then-n-lt1 : goal.returns-then-n-lt1
returns-then-n-lt1 c = λ k vs e.
    let out : (c.args.n < 1) ⊎ (length vs < c.args.n) = elim c.then-n-lt1.branch [
      | then-n-lt1-via-then-n-lt1 w ↦ inl (omega (arith, w.if-n-lt1.true))
      | then-n-lt1-via-else-n-lt1+then-n-count w ↦ inr (omega (arith, w.if-n-count.true, w.count.ensures.is ∙ counted_of k vs c.args.s.now e))
    ] in
    sym (ap in_cells (nth_out c.args.n vs out))

pub returns : goal.returns
returns c = λ k vs e.
    let n = c.args.n in
    let m = c.count.ensures.is ∙ counted_of k vs c.args.s.now e in
    let d = number (pos 0) in
    let h : n - 1 < length vs = omega (arith, m) in
    let g : suc (n - 1) ≡ n = omega arith in
    ap Ok (c.member.ensures k vs d e h) ∙ sym (ap in_cells (ap (λ i. nth i vs) (sym g) ∙ nth_at (n - 1) vs d h))
