-- Each way through the functions for patterns follows the reading program.
use Rattle.std.proofs.Common.{◌∙◌, None, refl}
use Rattle.grammar.specs.Steps.{next}
use Rattle.reading.specs.Sources.{limit_of}
use Rattle.reading.proofs.Held.{◌then◌, pattern_later, patterns_later, name_later, numeral_later}
use Rattle.reading.proofs.Looking.{place_here}
use Rattle.reading.proofs.Ways.{wanted, taken, passed, called, added, rewritten, refused, failed, ended, returned, lost, tail, after_pattern_is, more, no_more, none_where_due}
use Rattle.reading.proofs.source.Reader.+pattern.Goals as goal

pub pattern-returns-then-accept-clause-way : goal.pattern-returns-then-accept-clause-way
pattern-returns-then-accept-clause-way t c =
    let e = c.place-place.ensures ∙ place_here c.args.self.now _ _ c.if-accept.ensures.here in
    returned (taken c.if-accept.ensures (added c.put.ensures ended)) (rw e at c.put.ensures.stands)

pub pattern-returns-in-Some-clause-way : goal.pattern-returns-in-Some-clause-way
pattern-returns-in-Some-clause-way t c = returned (passed c.if-accept.ensures (taken c.in-Some.ensures.takes (added c.put-in-Some.ensures ended))) (_, (c.put-in-Some.ensures.stands, name_later (c.in-Some.ensures.takes.moves.later then c.put-in-Some.ensures.later) c.in-Some.ensures.takes.token _ c.in-Some.ensures.tells))

pub pattern-returns-in-Some-numeral-clause-way : goal.pattern-returns-in-Some-numeral-clause-way
pattern-returns-in-Some-numeral-clause-way t c = returned (passed c.if-accept.ensures (passed c.in_default.ensures (taken c.in-Some-numeral.ensures.takes (added c.put-in-Some-numeral.ensures ended)))) (_, (c.put-in-Some-numeral.ensures.stands, numeral_later (c.in-Some-numeral.ensures.takes.moves.later then c.put-in-Some-numeral.ensures.later) c.in-Some-numeral.ensures.takes.token _ c.in-Some-numeral.ensures.tells))

pub pattern-returns-in-Some-truth-clause-way : goal.pattern-returns-in-Some-truth-clause-way
pattern-returns-in-Some-truth-clause-way t c =
    let e = c.place-place.ensures ∙ place_here c.args.self.now _ _ (c.if-accept.ensures.here ∙ c.in_default.ensures.here ∙ c.in_default-numeral.ensures.here ∙ c.in-Some-truth.ensures.takes.here) in
    returned (passed c.if-accept.ensures (passed c.in_default.ensures (passed c.in_default-numeral.ensures (taken c.in-Some-truth.ensures.takes (added c.put-in-Some-truth.ensures ended))))) (rw (e, c.in-Some-truth.ensures.tells) at c.put-in-Some-truth.ensures.stands)

pub pattern-returns-then-accept-2-clause-way : goal.pattern-returns-then-accept-2-clause-way
pattern-returns-then-accept-2-clause-way t c =
    let e = c.place-place.ensures ∙ place_here c.args.self.now _ _ (c.if-accept.ensures.here ∙ c.in_default.ensures.here ∙ c.in_default-numeral.ensures.here ∙ c.in_default-truth.ensures.here ∙ c.if-accept-2.ensures.here) in
    tail c.sequence.ensures.way (λ v w. passed c.if-accept.ensures (passed c.in_default.ensures (passed c.in_default-numeral.ensures (passed c.in_default-truth.ensures (taken c.if-accept-2.ensures (rw (← e) w))))))

pub pattern-returns-in_err-want-clause-way : goal.pattern-returns-in_err-want-clause-way
pattern-returns-in_err-want-clause-way t c = lost _ _ c.from_residual.ensures.1 (passed c.if-accept.ensures (passed c.in_default.ensures (passed c.in_default-numeral.ensures (passed c.in_default-truth.ensures (passed c.if-accept-2.ensures (refused c.in_err-want.ensures))))))

pub pattern-returns-in_err-want-2-clause-way : goal.pattern-returns-in_err-want-2-clause-way
pattern-returns-in_err-want-2-clause-way t c = lost _ _ c.from_residual-in_err-want-2.ensures.1 (passed c.if-accept.ensures (passed c.in_default.ensures (passed c.in_default-numeral.ensures (passed c.in_default-truth.ensures (passed c.if-accept-2.ensures (wanted c.in_ok-want.ensures (refused c.in_err-want-2.ensures)))))))

pub pattern-returns-in_err-parts-clause-way : goal.pattern-returns-in_err-parts-clause-way
pattern-returns-in_err-parts-clause-way t c = lost _ _ c.from_residual-in_err-parts.ensures.1 (passed c.if-accept.ensures (passed c.in_default.ensures (passed c.in_default-numeral.ensures (passed c.in_default-truth.ensures (passed c.if-accept-2.ensures (wanted c.in_ok-want.ensures (wanted c.in_ok-want-2.ensures (failed c.in_err-parts.ensures.way))))))))

pub pattern-returns-in_err-want-3-clause-way : goal.pattern-returns-in_err-want-3-clause-way
pattern-returns-in_err-want-3-clause-way t c = lost _ _ c.from_residual-in_err-want-3.ensures.1 (passed c.if-accept.ensures (passed c.in_default.ensures (passed c.in_default-numeral.ensures (passed c.in_default-truth.ensures (passed c.if-accept-2.ensures (wanted c.in_ok-want.ensures (wanted c.in_ok-want-2.ensures (called c.in_ok-parts.ensures.way (refused c.in_err-want-3.ensures)))))))))

pub pattern-returns-clause-way : goal.pattern-returns-clause-way
pattern-returns-clause-way t c =
    let e = c.place-place.ensures ∙ place_here c.args.self.now _ _ (c.if-accept.ensures.here ∙ c.in_default.ensures.here ∙ c.in_default-numeral.ensures.here ∙ c.in_default-truth.ensures.here ∙ c.if-accept-2.ensures.here ∙ c.in_ok-want.ensures.here) in
    returned (passed c.if-accept.ensures (passed c.in_default.ensures (passed c.in_default-numeral.ensures (passed c.in_default-truth.ensures (passed c.if-accept-2.ensures (wanted c.in_ok-want.ensures (wanted c.in_ok-want-2.ensures (called c.in_ok-parts.ensures.way (wanted c.in_ok-want-3.ensures (added c.put-2.ensures ended)))))))))) (_, (rw e at c.put-2.ensures.stands, patterns_later (c.in_ok-want-3.ensures.moves.later then c.put-2.ensures.later) _ _ c.in_ok-parts.ensures.way.ends.held))

-- [ ] | [ P (, P)* ]

pub sequence-returns-then-accept-clause-way : goal.sequence-returns-then-accept-clause-way
sequence-returns-then-accept-clause-way t c = returned (taken c.if-accept.ensures (added c.put.ensures ended)) (None, (c.put.ensures.stands, refl))

pub sequence-returns-in_err-parts-clause-way : goal.sequence-returns-in_err-parts-clause-way
sequence-returns-in_err-parts-clause-way t c = lost _ _ c.from_residual.ensures.1 (passed c.if-accept.ensures (failed c.in_err-parts.ensures.way))

pub sequence-returns-in_err-want-clause-way : goal.sequence-returns-in_err-want-clause-way
sequence-returns-in_err-want-clause-way t c = lost _ _ c.from_residual-in_err-want.ensures.1 (passed c.if-accept.ensures (called c.in_ok-parts.ensures.way (refused c.in_err-want.ensures)))

pub sequence-returns-clause-way : goal.sequence-returns-clause-way
sequence-returns-clause-way t c = returned (passed c.if-accept.ensures (called c.in_ok-parts.ensures.way (wanted c.in_ok-want.ensures (added c.put-2.ensures ended)))) (_, (c.put-2.ensures.stands, patterns_later (c.in_ok-want.ensures.moves.later then c.put-2.ensures.later) _ _ c.in_ok-parts.ensures.way.ends.held))

-- P (, P)*

pub patterns-returns-in_err-node-clause-way : goal.patterns-returns-in_err-node-clause-way
patterns-returns-in_err-node-clause-way t c = lost _ _ c.from_residual.ensures.1 (failed c.in_err-node.ensures.way)

pub patterns-returns-in_err-limit-clause-way : goal.patterns-returns-in_err-limit-clause-way
patterns-returns-in_err-limit-clause-way t c =
    let n = next (limit_of c.args.limit) in
    lost _ _ c.from_residual-in_err-limit.ensures.1 (called c.in_ok-node.ensures.way (rewritten (after_pattern_is (limit_of c.args.limit) n c.in_ok-node.ensures.way.ends.value) (none_where_due _ _ _ n _ c.in_err-limit.ensures.follows)))

pub patterns-returns-in_default-clause-way : goal.patterns-returns-in_default-clause-way
patterns-returns-in_default-clause-way t c =
    let n = next (limit_of c.args.limit) in
    let m = rw c.in_default.is at c.in_ok-limit.ensures.took in
    returned (called c.in_ok-node.ensures.way (rewritten (after_pattern_is (limit_of c.args.limit) n c.in_ok-node.ensures.way.ends.value) (no_more _ _ _ n (rw c.in_default.is at c.in_ok-limit.ensures.follows) (added c.put.ensures ended)))) (_, _, (None, (refl, (c.put.ensures.stands, (pattern_later (m.later then c.put.ensures.later) _ _ c.in_ok-node.ensures.way.ends.held, refl)))))

pub patterns-returns-in_err-next-clause-way : goal.patterns-returns-in_err-next-clause-way
patterns-returns-in_err-next-clause-way t c =
    let n = next (limit_of c.args.limit) in
    lost _ _ c.from_residual-in_err-next.ensures.1 (called c.in_ok-node.ensures.way (rewritten (after_pattern_is (limit_of c.args.limit) n c.in_ok-node.ensures.way.ends.value) (more _ _ _ n _ (rw c.in-Some.is at c.in_ok-limit.ensures.follows) (failed c.in_err-next.ensures.way))))

pub patterns-returns-clause-way : goal.patterns-returns-clause-way
patterns-returns-clause-way t c =
    let n = next (limit_of c.args.limit) in
    let m = rw c.in-Some.is at c.in_ok-limit.ensures.took in
    returned (called c.in_ok-node.ensures.way (rewritten (after_pattern_is (limit_of c.args.limit) n c.in_ok-node.ensures.way.ends.value) (more _ _ _ n _ (rw c.in-Some.is at c.in_ok-limit.ensures.follows) (called c.in_ok-next.ensures.way (added c.put-2.ensures ended))))) (_, _, (_, (refl, (c.put-2.ensures.stands, (pattern_later (m.later then c.in_ok-next.ensures.way.ends.way.later then c.put-2.ensures.later) _ _ c.in_ok-node.ensures.way.ends.held, patterns_later c.put-2.ensures.later _ _ c.in_ok-next.ensures.way.ends.held)))))
