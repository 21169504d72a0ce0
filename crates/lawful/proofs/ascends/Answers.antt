use Rattle.std.proofs.Common.{◌≡◌, ◌+◌, ◌-◌, ◌&&◌, sym, ap, ◌∙◌, arith}
use Rattle.std.specs.Ordering.{is_lt}
use Rattle.values.specs.Value.{front, past, by_cells}
use Rattle.lawful.specs.Shape.{ascends}
use Rattle.lawful.proofs.Whole.{ascends_step}
use Rattle.lawful.proofs.ascends.Goals as goal
use Rattle.lawful.proofs.ascends.Goals.{After-is_lt}

-- the first two of what is left, and the rest
step : (c : After-is_lt) → (c.is_lt.result && ascends (c.args.n + 1 - (c.loop.counter + 1)) c.split.result.1.now) ≡ ascends c.args.n c.args.s.now
step c =
    let xs = c.loop.rest.now in
    let n = c.args.n + 1 - c.loop.counter in
    let y = c.split-in-loop.ensures.front ∙ ap front c.split.ensures.back in
    let t : c.is_lt.result ≡ is_lt (by_cells (front xs) (front (past 1 xs))) = c.is_lt.ensures ∙ ap is_lt (c.compare.ensures ∙ (λ i. by_cells (c.split.ensures.front i) (y i))) in
    let m : c.args.n + 1 - (c.loop.counter + 1) ≡ n - 1 = omega arith in
    (λ i. t i && ascends (m i) (c.split.ensures.back i)) ∙ sym (ascends_step n xs (omega arith)) ∙ c.loop.invariant

pub returns-then-not-is_lt : goal.returns-then-not-is_lt
returns-then-not-is_lt c = ap (λ b. b && ascends (c.args.n + 1 - (c.loop.counter + 1)) c.split.result.1.now) (sym c.if-not-is_lt.true) ∙ step (goal.at.returns-then-not-is_lt c).After-is_lt

pub loop-preserved : goal.loop-preserved
loop-preserved c = ap (λ b. b && ascends (c.args.n + 1 - (c.loop.counter + 1)) c.split.result.1.now) (sym c.if-not-is_lt.false) ∙ step (goal.at.loop-preserved c).After-is_lt
