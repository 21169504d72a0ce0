-- Each way through the functions for expressions follows the reading program.
use Rattle.std.proofs.Common.{◌∙◌, false, None, sym, refl, ap}
use Rattle.syntax.specs.declared.Binary.TheVariants as bin
use Rattle.syntax.specs.Tree.{Tree}
use Rattle.grammar.specs.Grammar.{join}
use Rattle.grammar.specs.Steps.{next, member, after_comma, members, operation, infix_at, numeral_of}
use Rattle.reading.specs.Sources.{limit_of, bracket_of}
use Rattle.reading.proofs.Held.{◌then◌, stands_more, tree_later, trees_later, pattern_later, arms_later, bind_later, name_later, numeral_later, spelled_later, holds_join}
use Rattle.reading.proofs.Looking.{place_here}
use Rattle.reading.proofs.Ways.{wanted, taken, passed, both, neither, called, added, rewritten, refused, failed, ended, returned, lost, tail, passing, after_item_is, more, no_more, none_where_due}
use Rattle.reading.proofs.source.Reader.+expression.Goals as goal

pub expr-returns-then-accept-clause-way : goal.expr-returns-then-accept-clause-way
expr-returns-then-accept-clause-way t c =
    let e = c.place-place.ensures ∙ place_here c.args.self.now _ _ c.if-accept.ensures.here in
    tail c.lets.ensures.way (λ v w. taken c.if-accept.ensures (rw (← e) w))

pub expr-returns-then-accept-2-clause-way : goal.expr-returns-then-accept-2-clause-way
expr-returns-then-accept-2-clause-way t c =
    let e = c.place-place.ensures ∙ place_here c.args.self.now _ _ (c.if-accept.ensures.here ∙ c.if-accept-2.ensures.here) in
    tail (passing (λ v. v) c.choice.ensures.way) (λ v w. passed c.if-accept.ensures (taken c.if-accept-2.ensures (rw (← e) w)))

pub expr-returns-then-accept-3-clause-way : goal.expr-returns-then-accept-3-clause-way
expr-returns-then-accept-3-clause-way t c =
    let e = c.place-place.ensures ∙ place_here c.args.self.now _ _ (c.if-accept.ensures.here ∙ c.if-accept-2.ensures.here ∙ c.if-accept-3.ensures.here) in
    tail (c.cases.ensures.way c.args.inside) (λ v w. passed c.if-accept.ensures (passed c.if-accept-2.ensures (taken c.if-accept-3.ensures (rw (← e) w))))

pub expr-returns-in-Some-clause-way : goal.expr-returns-in-Some-clause-way
expr-returns-in-Some-clause-way t c =
    let e = c.place-place.ensures ∙ place_here c.args.self.now _ _ (c.if-accept.ensures.here ∙ c.if-accept-2.ensures.here ∙ c.if-accept-3.ensures.here ∙ c.in-Some.ensures.takes.here) in
    tail c.quant.ensures.way (λ v w. passed c.if-accept.ensures (passed c.if-accept-2.ensures (passed c.if-accept-3.ensures (taken c.in-Some.ensures.takes (rw (← e, ← c.in-Some.ensures.tells) w)))))

pub expr-returns-clause-way : goal.expr-returns-clause-way
expr-returns-clause-way t c = tail (passing (λ v. v) c.chain.ensures.way) (λ v w. passed c.if-accept.ensures (passed c.if-accept-2.ensures (passed c.if-accept-3.ensures (passed c.in_default.ensures w))))

pub lets-returns-in_default-clause-way : goal.lets-returns-in_default-clause-way
lets-returns-in_default-clause-way t c = record { ends = refused c.in_default.ensures }

pub lets-returns-then-accept-clause-way : goal.lets-returns-then-accept-clause-way
lets-returns-then-accept-clause-way t c =
    let n = name_later (c.in-Some.ensures.takes.moves.later then c.if-accept.ensures.moves.later) c.in-Some.ensures.takes.token _ c.in-Some.ensures.tells in
    tail c.bound.ensures.way (λ v w. wanted c.in-Some.ensures.takes (taken c.if-accept.ensures (rw (← n.1) w)))

pub lets-returns-clause-way : goal.lets-returns-clause-way
lets-returns-clause-way t c =
    let n = name_later (c.in-Some.ensures.takes.moves.later then c.if-accept.ensures.moves.later) c.in-Some.ensures.takes.token _ c.in-Some.ensures.tells in
    tail c.such.ensures.way (λ v w. wanted c.in-Some.ensures.takes (passed c.if-accept.ensures (rw (← n.1) w)))

pub bound-returns-in_err-value-clause-way : goal.bound-returns-in_err-value-clause-way
bound-returns-in_err-value-clause-way t c = lost _ _ c.from_residual.ensures.1 (failed c.in_err-value.ensures.way)

pub bound-returns-in_err-want-clause-way : goal.bound-returns-in_err-want-clause-way
bound-returns-in_err-want-clause-way t c = lost _ _ c.from_residual-in_err-want.ensures.1 (called c.in_ok-value.ensures.way (refused c.in_err-want.ensures))

pub bound-returns-in_err-body-clause-way : goal.bound-returns-in_err-body-clause-way
bound-returns-in_err-body-clause-way t c = lost _ _ c.from_residual-in_err-body.ensures.1 (called c.in_ok-value.ensures.way (wanted c.in_ok-want.ensures (failed c.in_err-body.ensures.way)))

pub bound-returns-clause-way : goal.bound-returns-clause-way
bound-returns-clause-way t c = returned (called c.in_ok-value.ensures.way (wanted c.in_ok-want.ensures (called c.in_ok-body.ensures.way (added c.put.ensures ended)))) (_, (_, _, (c.put.ensures.stands, (spelled_later (c.in_ok-value.ensures.way.ends.way.later then c.in_ok-want.ensures.moves.later then c.in_ok-body.ensures.way.ends.way.later then c.put.ensures.later) _, (tree_later (c.in_ok-want.ensures.moves.later then c.in_ok-body.ensures.way.ends.way.later then c.put.ensures.later) _ _ c.in_ok-value.ensures.way.ends.held, tree_later c.put.ensures.later _ _ c.in_ok-body.ensures.way.ends.held)))))

pub such-returns-in_err-want-clause-way : goal.such-returns-in_err-want-clause-way
such-returns-in_err-want-clause-way t c = lost _ _ c.from_residual.ensures.1 (refused c.in_err-want.ensures)

pub such-returns-in_err-want-2-clause-way : goal.such-returns-in_err-want-2-clause-way
such-returns-in_err-want-2-clause-way t c = lost _ _ c.from_residual-in_err-want-2.ensures.1 (wanted c.in_ok-want.ensures (refused c.in_err-want-2.ensures))

pub such-returns-in_err-set-clause-way : goal.such-returns-in_err-set-clause-way
such-returns-in_err-set-clause-way t c = lost _ _ c.from_residual-in_err-set.ensures.1 (wanted c.in_ok-want.ensures (wanted c.in_ok-want-2.ensures (failed c.in_err-set.ensures.way)))

pub such-returns-in_err-want-3-clause-way : goal.such-returns-in_err-want-3-clause-way
such-returns-in_err-want-3-clause-way t c = lost _ _ c.from_residual-in_err-want-3.ensures.1 (wanted c.in_ok-want.ensures (wanted c.in_ok-want-2.ensures (called c.in_ok-set.ensures.way (refused c.in_err-want-3.ensures))))

pub such-returns-in_err-want-4-clause-way : goal.such-returns-in_err-want-4-clause-way
such-returns-in_err-want-4-clause-way t c = lost _ _ c.from_residual-in_err-want-4.ensures.1 (wanted c.in_ok-want.ensures (wanted c.in_ok-want-2.ensures (called c.in_ok-set.ensures.way (wanted c.in_ok-want-3.ensures (refused c.in_err-want-4.ensures)))))

pub such-returns-in_err-condition-clause-way : goal.such-returns-in_err-condition-clause-way
such-returns-in_err-condition-clause-way t c = lost _ _ c.from_residual-in_err-condition.ensures.1 (wanted c.in_ok-want.ensures (wanted c.in_ok-want-2.ensures (called c.in_ok-set.ensures.way (wanted c.in_ok-want-3.ensures (wanted c.in_ok-want-4.ensures (failed c.in_err-condition.ensures.way))))))

pub such-returns-in_err-want-5-clause-way : goal.such-returns-in_err-want-5-clause-way
such-returns-in_err-want-5-clause-way t c = lost _ _ c.from_residual-in_err-want-5.ensures.1 (wanted c.in_ok-want.ensures (wanted c.in_ok-want-2.ensures (called c.in_ok-set.ensures.way (wanted c.in_ok-want-3.ensures (wanted c.in_ok-want-4.ensures (called c.in_ok-condition.ensures.way (refused c.in_err-want-5.ensures)))))))

pub such-returns-in_err-body-clause-way : goal.such-returns-in_err-body-clause-way
such-returns-in_err-body-clause-way t c = lost _ _ c.from_residual-in_err-body.ensures.1 (wanted c.in_ok-want.ensures (wanted c.in_ok-want-2.ensures (called c.in_ok-set.ensures.way (wanted c.in_ok-want-3.ensures (wanted c.in_ok-want-4.ensures (called c.in_ok-condition.ensures.way (wanted c.in_ok-want-5.ensures (failed c.in_err-body.ensures.way))))))))

pub such-returns-clause-way : goal.such-returns-clause-way
such-returns-clause-way t c = returned (wanted c.in_ok-want.ensures (wanted c.in_ok-want-2.ensures (called c.in_ok-set.ensures.way (wanted c.in_ok-want-3.ensures (wanted c.in_ok-want-4.ensures (called c.in_ok-condition.ensures.way (wanted c.in_ok-want-5.ensures (called c.in_ok-body.ensures.way (added c.put.ensures ended))))))))) (_, (_, _, _, (c.put.ensures.stands, (spelled_later (c.in_ok-want.ensures.moves.later then c.in_ok-want-2.ensures.moves.later then c.in_ok-set.ensures.way.ends.way.later then c.in_ok-want-3.ensures.moves.later then c.in_ok-want-4.ensures.moves.later then c.in_ok-condition.ensures.way.ends.way.later then c.in_ok-want-5.ensures.moves.later then c.in_ok-body.ensures.way.ends.way.later then c.put.ensures.later) _, (tree_later (c.in_ok-want-3.ensures.moves.later then c.in_ok-want-4.ensures.moves.later then c.in_ok-condition.ensures.way.ends.way.later then c.in_ok-want-5.ensures.moves.later then c.in_ok-body.ensures.way.ends.way.later then c.put.ensures.later) _ _ c.in_ok-set.ensures.way.ends.held, (tree_later (c.in_ok-want-5.ensures.moves.later then c.in_ok-body.ensures.way.ends.way.later then c.put.ensures.later) _ _ c.in_ok-condition.ensures.way.ends.held, tree_later c.put.ensures.later _ _ c.in_ok-body.ensures.way.ends.held))))))

pub choice-returns-in_err-test-clause-way : goal.choice-returns-in_err-test-clause-way
choice-returns-in_err-test-clause-way t c = lost _ _ c.from_residual.ensures.1 (failed c.in_err-test.ensures.way)

pub choice-returns-in_err-want-clause-way : goal.choice-returns-in_err-want-clause-way
choice-returns-in_err-want-clause-way t c = lost _ _ c.from_residual-in_err-want.ensures.1 (called c.in_ok-test.ensures.way (refused c.in_err-want.ensures))

pub choice-returns-in_err-then-clause-way : goal.choice-returns-in_err-then-clause-way
choice-returns-in_err-then-clause-way t c = lost _ _ c.from_residual-in_err-then.ensures.1 (called c.in_ok-test.ensures.way (wanted c.in_ok-want.ensures (failed c.in_err-then.ensures.way)))

pub choice-returns-in_err-otherwise-clause-way : goal.choice-returns-in_err-otherwise-clause-way
choice-returns-in_err-otherwise-clause-way t c =
    let e = c.place-next.ensures ∙ place_here c.expr-2.new.self _ _ c.if-accept.ensures.here in
    lost _ _ c.from_residual-in_err-otherwise.ensures.1 (called c.in_ok-test.ensures.way (wanted c.in_ok-want.ensures (called c.in_ok-then.ensures.way (taken c.if-accept.ensures (rw (← e) (failed c.in_err-otherwise.ensures.way))))))

pub choice-returns-then-accept-clause-way : goal.choice-returns-then-accept-clause-way
choice-returns-then-accept-clause-way t c =
    let e = c.place-next.ensures ∙ place_here c.expr-2.new.self _ _ c.if-accept.ensures.here in
    returned {a = Tree.if_else c.args.place c.in_ok-test.ensures.way.ends.value c.in_ok-then.ensures.way.ends.value c.in_ok-otherwise.ensures.way.ends.value} (called c.in_ok-test.ensures.way (wanted c.in_ok-want.ensures (called c.in_ok-then.ensures.way (taken c.if-accept.ensures (rw (← e) (called c.in_ok-otherwise.ensures.way (added c.put.ensures ended))))))) (_, _, _, (c.put.ensures.stands, (tree_later (c.in_ok-want.ensures.moves.later then c.in_ok-then.ensures.way.ends.way.later then c.if-accept.ensures.moves.later then c.in_ok-otherwise.ensures.way.ends.way.later then c.put.ensures.later) _ _ c.in_ok-test.ensures.way.ends.held, (tree_later (c.if-accept.ensures.moves.later then c.in_ok-otherwise.ensures.way.ends.way.later then c.put.ensures.later) _ _ c.in_ok-then.ensures.way.ends.held, tree_later c.put.ensures.later _ _ c.in_ok-otherwise.ensures.way.ends.held))))

pub choice-returns-in_err-want-2-clause-way : goal.choice-returns-in_err-want-2-clause-way
choice-returns-in_err-want-2-clause-way t c = lost _ _ c.from_residual-in_err-want-2.ensures.1 (called c.in_ok-test.ensures.way (wanted c.in_ok-want.ensures (called c.in_ok-then.ensures.way (passed c.if-accept.ensures (refused c.in_err-want-2.ensures)))))

pub choice-returns-in_err-otherwise-2-clause-way : goal.choice-returns-in_err-otherwise-2-clause-way
choice-returns-in_err-otherwise-2-clause-way t c = lost _ _ c.from_residual-in_err-otherwise-2.ensures.1 (called c.in_ok-test.ensures.way (wanted c.in_ok-want.ensures (called c.in_ok-then.ensures.way (passed c.if-accept.ensures (wanted c.in_ok-want-2.ensures (failed c.in_err-otherwise-2.ensures.way))))))

pub choice-returns-clause-way : goal.choice-returns-clause-way
choice-returns-clause-way t c = returned (called c.in_ok-test.ensures.way (wanted c.in_ok-want.ensures (called c.in_ok-then.ensures.way (passed c.if-accept.ensures (wanted c.in_ok-want-2.ensures (called c.in_ok-otherwise-2.ensures.way (added c.put-2.ensures ended))))))) (_, _, _, (c.put-2.ensures.stands, (tree_later (c.in_ok-want.ensures.moves.later then c.in_ok-then.ensures.way.ends.way.later then c.if-accept.ensures.moves.later then c.in_ok-want-2.ensures.moves.later then c.in_ok-otherwise-2.ensures.way.ends.way.later then c.put-2.ensures.later) _ _ c.in_ok-test.ensures.way.ends.held, (tree_later (c.if-accept.ensures.moves.later then c.in_ok-want-2.ensures.moves.later then c.in_ok-otherwise-2.ensures.way.ends.way.later then c.put-2.ensures.later) _ _ c.in_ok-then.ensures.way.ends.held, tree_later c.put-2.ensures.later _ _ c.in_ok-otherwise-2.ensures.way.ends.held))))

pub cases-returns-in_err-subject-clause-way : goal.cases-returns-in_err-subject-clause-way
cases-returns-in_err-subject-clause-way t c f = lost _ _ c.from_residual.ensures.1 (failed c.in_err-subject.ensures.way)

pub cases-returns-in_err-want-clause-way : goal.cases-returns-in_err-want-clause-way
cases-returns-in_err-want-clause-way t c f = lost _ _ c.from_residual-in_err-want.ensures.1 (called c.in_ok-subject.ensures.way (refused c.in_err-want.ensures))

pub cases-returns-in_err-arms-clause-way : goal.cases-returns-in_err-arms-clause-way
cases-returns-in_err-arms-clause-way t c f = lost _ _ c.from_residual-in_err-arms.ensures.1 (called c.in_ok-subject.ensures.way (wanted c.in_ok-want.ensures (failed c.in_err-arms.ensures.way)))

pub cases-returns-in_err-want-2-clause-way : goal.cases-returns-in_err-want-2-clause-way
cases-returns-in_err-want-2-clause-way t c f = lost _ _ c.from_residual-in_err-want-2.ensures.1 (called c.in_ok-subject.ensures.way (wanted c.in_ok-want.ensures (called c.in_ok-arms.ensures.way (refused c.in_err-want-2.ensures))))

pub cases-returns-clause-way : goal.cases-returns-clause-way
cases-returns-clause-way t c f = returned (called c.in_ok-subject.ensures.way (wanted c.in_ok-want.ensures (called c.in_ok-arms.ensures.way (wanted c.in_ok-want-2.ensures (added c.put.ensures ended))))) (_, _, (_, (c.put.ensures.stands, (tree_later (c.in_ok-want.ensures.moves.later then c.in_ok-arms.ensures.way.ends.way.later then c.in_ok-want-2.ensures.moves.later then c.put.ensures.later) _ _ c.in_ok-subject.ensures.way.ends.held, arms_later (c.in_ok-want-2.ensures.moves.later then c.put.ensures.later) c.in_ok-arms.arms _ c.in_ok-arms.ensures.way.ends.held))))

pub arms-returns-in_err-pattern-clause-way : goal.arms-returns-in_err-pattern-clause-way
arms-returns-in_err-pattern-clause-way t c = lost _ _ c.from_residual.ensures.1 (failed c.in_err-pattern.ensures.way)

pub arms-returns-in_err-want-clause-way : goal.arms-returns-in_err-want-clause-way
arms-returns-in_err-want-clause-way t c = lost _ _ c.from_residual-in_err-want.ensures.1 (called c.in_ok-pattern.ensures.way (refused c.in_err-want.ensures))

pub arms-returns-in_err-right-clause-way : goal.arms-returns-in_err-right-clause-way
arms-returns-in_err-right-clause-way t c = lost _ _ c.from_residual-in_err-right.ensures.1 (called c.in_ok-pattern.ensures.way (wanted c.in_ok-want.ensures (failed c.in_err-right.ensures.way)))

pub arms-returns-then-not-accept-clause-way : goal.arms-returns-then-not-accept-clause-way
arms-returns-then-not-accept-clause-way t c = returned (called c.in_ok-pattern.ensures.way (wanted c.in_ok-want.ensures (called c.in_ok-right.ensures.way (passed c.if-not-accept.ensures (added c.put-first.ensures ended))))) ((_, _, _, (_, (refl, (c.put-first.ensures.stands, (pattern_later (c.in_ok-want.ensures.moves.later then c.in_ok-right.ensures.way.ends.way.later then c.if-not-accept.ensures.moves.later then c.put-first.ensures.later) _ _ c.in_ok-pattern.ensures.way.ends.held, (tree_later (c.if-not-accept.ensures.moves.later then c.put-first.ensures.later) _ _ c.in_ok-right.ensures.way.ends.held, refl)))))), refl)

pub arms-returns-in_err-more-clause-way : goal.arms-returns-in_err-more-clause-way
arms-returns-in_err-more-clause-way t c = lost _ _ c.from_residual-in_err-more.ensures.1 (called c.in_ok-pattern.ensures.way (wanted c.in_ok-want.ensures (called c.in_ok-right.ensures.way (taken c.if-not-accept.ensures (passed c.if-not-accept-2.ensures (failed c.in_err-more.ensures.way))))))

pub arms-returns-then-not-accept-2-clause-way : goal.arms-returns-then-not-accept-2-clause-way
arms-returns-then-not-accept-2-clause-way t c =
    let m = arms_later c.put-first-then-not-accept-2.ensures.later c.in_ok-more.more _ c.in_ok-more.ensures.way.ends.held in
    returned (called c.in_ok-pattern.ensures.way (wanted c.in_ok-want.ensures (called c.in_ok-right.ensures.way (taken c.if-not-accept.ensures (passed c.if-not-accept-2.ensures (called c.in_ok-more.ensures.way (added c.put-first-then-not-accept-2.ensures ended))))))) ((_, _, _, (_, (refl, (c.put-first-then-not-accept-2.ensures.stands, (pattern_later (c.in_ok-want.ensures.moves.later then c.in_ok-right.ensures.way.ends.way.later then c.if-not-accept.ensures.moves.later then c.if-not-accept-2.ensures.moves.later then c.in_ok-more.ensures.way.ends.way.later then c.put-first-then-not-accept-2.ensures.later) _ _ c.in_ok-pattern.ensures.way.ends.held, (tree_later (c.if-not-accept.ensures.moves.later then c.if-not-accept-2.ensures.moves.later then c.in_ok-more.ensures.way.ends.way.later then c.put-first-then-not-accept-2.ensures.later) _ _ c.in_ok-right.ensures.way.ends.held, m.0)))))), m.1)

pub arms-returns-in_err-want-2-clause-way : goal.arms-returns-in_err-want-2-clause-way
arms-returns-in_err-want-2-clause-way t c = lost _ _ c.from_residual-in_err-want-2.ensures.1 (called c.in_ok-pattern.ensures.way (wanted c.in_ok-want.ensures (called c.in_ok-right.ensures.way (taken c.if-not-accept.ensures (taken c.if-not-accept-2.ensures (refused c.in_err-want-2.ensures))))))

pub arms-returns-in_err-others-clause-way : goal.arms-returns-in_err-others-clause-way
arms-returns-in_err-others-clause-way t c = lost _ _ c.from_residual-in_err-others.ensures.1 (called c.in_ok-pattern.ensures.way (wanted c.in_ok-want.ensures (called c.in_ok-right.ensures.way (taken c.if-not-accept.ensures (taken c.if-not-accept-2.ensures (wanted c.in_ok-want-2.ensures (failed c.in_err-others.ensures.way)))))))

pub arms-returns-clause-way : goal.arms-returns-clause-way
arms-returns-clause-way t c = returned (called c.in_ok-pattern.ensures.way (wanted c.in_ok-want.ensures (called c.in_ok-right.ensures.way (taken c.if-not-accept.ensures (taken c.if-not-accept-2.ensures (wanted c.in_ok-want-2.ensures (called c.in_ok-others.ensures.way (added c.put-first-2.ensures ended)))))))) ((_, _, _, (_, (refl, (c.put-first-2.ensures.stands, (pattern_later (c.in_ok-want.ensures.moves.later then c.in_ok-right.ensures.way.ends.way.later then c.if-not-accept.ensures.moves.later then c.if-not-accept-2.ensures.moves.later then c.in_ok-want-2.ensures.moves.later then c.in_ok-others.ensures.way.ends.way.later then c.put-first-2.ensures.later) _ _ c.in_ok-pattern.ensures.way.ends.held, (tree_later (c.if-not-accept.ensures.moves.later then c.if-not-accept-2.ensures.moves.later then c.in_ok-want-2.ensures.moves.later then c.in_ok-others.ensures.way.ends.way.later then c.put-first-2.ensures.later) _ _ c.in_ok-right.ensures.way.ends.held, refl)))))), (_, (refl, tree_later c.put-first-2.ensures.later _ _ c.in_ok-others.ensures.way.ends.held)))

pub quant-returns-in_err-bind-clause-way : goal.quant-returns-in_err-bind-clause-way
quant-returns-in_err-bind-clause-way t c = lost _ _ c.from_residual.ensures.1 (failed c.in_err-bind.ensures.way)

pub quant-returns-in_err-want-clause-way : goal.quant-returns-in_err-want-clause-way
quant-returns-in_err-want-clause-way t c = lost _ _ c.from_residual-in_err-want.ensures.1 (called c.in_ok-bind.ensures.way (refused c.in_err-want.ensures))

pub quant-returns-in_err-body-clause-way : goal.quant-returns-in_err-body-clause-way
quant-returns-in_err-body-clause-way t c = lost _ _ c.from_residual-in_err-body.ensures.1 (called c.in_ok-bind.ensures.way (wanted c.in_ok-want.ensures (failed c.in_err-body.ensures.way)))

pub quant-returns-clause-way : goal.quant-returns-clause-way
quant-returns-clause-way t c =
    let b = bind_later (c.in_ok-want.ensures.moves.later then c.in_ok-body.ensures.way.ends.way.later then c.put.ensures.later) c.in_ok-bind.bind _ c.in_ok-bind.ensures.way.ends.held in
    returned (called c.in_ok-bind.ensures.way (wanted c.in_ok-want.ensures (called c.in_ok-body.ensures.way (added c.put.ensures ended)))) (_, (_, _, (c.put.ensures.stands, (b.0, (b.1, tree_later c.put.ensures.later _ _ c.in_ok-body.ensures.way.ends.held)))))

pub bind-returns-in_default-clause-way : goal.bind-returns-in_default-clause-way
bind-returns-in_default-clause-way t c = record { ends = refused c.in_default.ensures }

pub bind-returns-in_err-want-clause-way : goal.bind-returns-in_err-want-clause-way
bind-returns-in_err-want-clause-way t c = lost _ _ c.from_residual.ensures.1 (wanted c.in-Some.ensures.takes (refused c.in_err-want.ensures))

pub bind-returns-in_err-want-2-clause-way : goal.bind-returns-in_err-want-2-clause-way
bind-returns-in_err-want-2-clause-way t c = lost _ _ c.from_residual-in_err-want-2.ensures.1 (wanted c.in-Some.ensures.takes (wanted c.in_ok-want.ensures (refused c.in_err-want-2.ensures)))

pub bind-returns-in_err-set-clause-way : goal.bind-returns-in_err-set-clause-way
bind-returns-in_err-set-clause-way t c = lost _ _ c.from_residual-in_err-set.ensures.1 (wanted c.in-Some.ensures.takes (wanted c.in_ok-want.ensures (wanted c.in_ok-want-2.ensures (failed c.in_err-set.ensures.way))))

pub bind-returns-clause-way : goal.bind-returns-clause-way
bind-returns-clause-way t c = returned (wanted c.in-Some.ensures.takes (wanted c.in_ok-want.ensures (wanted c.in_ok-want-2.ensures (called c.in_ok-set.ensures.way ended)))) ((name_later (c.in-Some.ensures.takes.moves.later then c.in_ok-want.ensures.moves.later then c.in_ok-want-2.ensures.moves.later then c.in_ok-set.ensures.way.ends.way.later) c.in-Some.ensures.takes.token _ c.in-Some.ensures.tells).1, c.in_ok-set.ensures.way.ends.held)

pub chain-returns-in_err-first-clause-way : goal.chain-returns-in_err-first-clause-way
chain-returns-in_err-first-clause-way t c = lost _ _ c.from_residual.ensures.1 (failed c.in_err-first.ensures.way)

pub chain-returns-clause-way : goal.chain-returns-clause-way
chain-returns-clause-way t c = tail (passing (λ v. v) (c.more.ensures.way _ c.in_ok-first.ensures.way.ends.way.then c.in_ok-first.ensures.way.ends.held)) (λ v w. called c.in_ok-first.ensures.way w)

pub more-returns-in_default-clause-way : goal.more-returns-in_default-clause-way
more-returns-in_default-clause-way t c a far held = returned (passed c.in_default.ensures ended) (tree_later c.in_default.ensures.moves.later _ a held)

pub more-returns-in_err-right-clause-way : goal.more-returns-in_err-right-clause-way
more-returns-in_err-right-clause-way t c a far held = lost _ _ c.from_residual.ensures.1 (taken c.in-Some.ensures.takes (failed c.in_err-right.ensures.way))

pub more-returns-clause-way : goal.more-returns-clause-way
more-returns-clause-way t c a far held =
    let f = c.in-Some.ensures in
    let x = f.takes.token in
    let g = c.in_ok-right.ensures.way.ends in
    let e = c.place-place.ensures ∙ place_here c.args.self.now _ _ c.in-Some.ensures.takes.here in
    let h = holds_join c.put-node.new.self (operation (infix_at x.symbol)) x.place _ _ _ a g.value (rw (c.join.ensures, f.tells, e) at c.put-node.ensures.stands) (tree_later (c.in-Some.ensures.takes.moves.later then c.in_ok-right.ensures.way.ends.way.later then c.put-node.ensures.later) _ a held) (tree_later c.put-node.ensures.later _ _ c.in_ok-right.ensures.way.ends.held) in
    tail (passing (λ v. v) (c.more.ensures.way (join (operation (infix_at x.symbol)) x.place a g.value) g.way.then h)) (λ v w. taken c.in-Some.ensures.takes (called c.in_ok-right.ensures.way (added c.put-node.ensures w)))

pub imply-returns-in_err-left-clause-way : goal.imply-returns-in_err-left-clause-way
imply-returns-in_err-left-clause-way t c = lost _ _ c.from_residual.ensures.1 (failed c.in_err-left.ensures.way)

pub imply-returns-then-not-accept-clause-way : goal.imply-returns-then-not-accept-clause-way
imply-returns-then-not-accept-clause-way t c = returned (called c.in_ok-left.ensures.way (passed c.if-not-accept.ensures ended)) (tree_later c.if-not-accept.ensures.moves.later _ _ c.in_ok-left.ensures.way.ends.held)

pub imply-returns-in_err-right-clause-way : goal.imply-returns-in_err-right-clause-way
imply-returns-in_err-right-clause-way t c = lost _ _ c.from_residual-in_err-right.ensures.1 (called c.in_ok-left.ensures.way (taken c.if-not-accept.ensures (failed c.in_err-right.ensures.way)))

pub imply-returns-clause-way : goal.imply-returns-clause-way
imply-returns-clause-way t c =
    let e = c.place-place.ensures ∙ place_here c.chain.new.self _ _ c.if-not-accept.ensures.here in
    returned (called c.in_ok-left.ensures.way (taken c.if-not-accept.ensures (called c.in_ok-right.ensures.way (added c.put.ensures ended)))) (_, _, (rw e at c.put.ensures.stands, (tree_later (c.if-not-accept.ensures.moves.later then c.in_ok-right.ensures.way.ends.way.later then c.put.ensures.later) _ _ c.in_ok-left.ensures.way.ends.held, tree_later c.put.ensures.later _ _ c.in_ok-right.ensures.way.ends.held)))

pub lead-returns-in_default-clause-way : goal.lead-returns-in_default-clause-way
lead-returns-in_default-clause-way t c = tail (passing (λ v. v) c.bare.ensures.way) (λ v w. passed c.in_default.ensures w)

pub lead-returns-in_err-operand-clause-way : goal.lead-returns-in_err-operand-clause-way
lead-returns-in_err-operand-clause-way t c = lost _ _ c.from_residual.ensures.1 (taken c.in-Some.ensures.takes (failed c.in_err-operand.ensures.way))

pub lead-returns-clause-way : goal.lead-returns-clause-way
lead-returns-clause-way t c =
    let e = c.place-place.ensures ∙ place_here c.args.self.now _ _ c.in-Some.ensures.takes.here in
    returned (taken c.in-Some.ensures.takes (called c.in_ok-operand.ensures.way (added c.put.ensures ended))) (_, (rw (e, c.in-Some.ensures.tells) at c.put.ensures.stands, tree_later c.put.ensures.later _ _ c.in_ok-operand.ensures.way.ends.held))

pub bare-returns-in-Minus-clause-way : goal.bare-returns-in-Minus-clause-way
bare-returns-in-Minus-clause-way t c = rw c.in-Minus.is (c.postfix.ensures.way c.args.inside)

pub relation-returns-in_err-left-clause-way : goal.relation-returns-in_err-left-clause-way
relation-returns-in_err-left-clause-way t c = lost _ _ c.from_residual.ensures.1 (failed c.in_err-left.ensures.way)

pub relation-returns-in-Some-clause-way : goal.relation-returns-in-Some-clause-way
relation-returns-in-Some-clause-way t c =
    let e = c.place-place.ensures ∙ place_here c.chain.new.self _ _ c.in-Some.ensures.takes.here in
    tail (c.side.ensures.way c.args.inside _ (tree_later c.in-Some.ensures.takes.moves.later _ _ c.in_ok-left.ensures.way.ends.held)) (λ v w. called c.in_ok-left.ensures.way (taken c.in-Some.ensures.takes (rw (← e, ← c.in-Some.ensures.tells) w)))

pub relation-returns-in_err-want-clause-way : goal.relation-returns-in_err-want-clause-way
relation-returns-in_err-want-clause-way t c = lost _ _ c.from_residual-in_err-want.ensures.1 (called c.in_ok-left.ensures.way (passed c.in_default.ensures (taken c.if-accept.ensures (refused c.in_err-want.ensures))))

pub relation-returns-in_err-want-2-clause-way : goal.relation-returns-in_err-want-2-clause-way
relation-returns-in_err-want-2-clause-way t c = lost _ _ c.from_residual-in_err-want-2.ensures.1 (called c.in_ok-left.ensures.way (passed c.in_default.ensures (taken c.if-accept.ensures (wanted c.in_ok-want.ensures (refused c.in_err-want-2.ensures)))))

pub relation-returns-then-accept-clause-way : goal.relation-returns-then-accept-clause-way
relation-returns-then-accept-clause-way t c =
    let e = c.place-place.ensures ∙ place_here c.chain.new.self _ _ (c.in_default.ensures.here ∙ c.if-accept.ensures.here) in
    tail (c.side-then-accept.ensures.way c.args.inside _ (tree_later (c.in_default.ensures.moves.later then c.if-accept.ensures.moves.later then c.in_ok-want.ensures.moves.later then c.in_ok-want-2.ensures.moves.later) _ _ c.in_ok-left.ensures.way.ends.held)) (λ v w. called c.in_ok-left.ensures.way (passed c.in_default.ensures (taken c.if-accept.ensures (wanted c.in_ok-want.ensures (wanted c.in_ok-want-2.ensures (rw (← e) w))))))

pub relation-returns-then-not-accept_both-clause-way : goal.relation-returns-then-not-accept_both-clause-way
relation-returns-then-not-accept_both-clause-way t c = returned (called c.in_ok-left.ensures.way (passed c.in_default.ensures (passed c.if-accept.ensures (rewritten (ap (λ b. member b c.in_ok-left.ensures.way.ends.value) c.if-inside.true) (neither c.if-not-accept_both.ensures (λ _. ended)))))) (tree_later (c.in_default.ensures.moves.later then c.if-accept.ensures.moves.later then c.if-not-accept_both.ensures.moves.later) _ _ c.in_ok-left.ensures.way.ends.held)

pub relation-returns-then-inside-clause-way : goal.relation-returns-then-inside-clause-way
relation-returns-then-inside-clause-way t c =
    let e = c.place-place.ensures ∙ place_here c.chain.new.self _ _ (c.in_default.ensures.here ∙ c.if-accept.ensures.here ∙ c.if-not-accept_both.ensures.here) in
    tail (c.side-then-inside.ensures.way c.args.inside _ (tree_later (c.in_default.ensures.moves.later then c.if-accept.ensures.moves.later then c.if-not-accept_both.ensures.moves.later) _ _ c.in_ok-left.ensures.way.ends.held)) (λ v w. called c.in_ok-left.ensures.way (passed c.in_default.ensures (passed c.if-accept.ensures (rewritten (ap (λ b. member b c.in_ok-left.ensures.way.ends.value) c.if-inside.true) (both c.if-not-accept_both.ensures (rw (← e) w))))))

pub relation-returns-then-not-accept-clause-way : goal.relation-returns-then-not-accept-clause-way
relation-returns-then-not-accept-clause-way t c = returned (called c.in_ok-left.ensures.way (passed c.in_default.ensures (passed c.if-accept.ensures (rewritten (ap (λ b. member b c.in_ok-left.ensures.way.ends.value) c.if-inside.false) (passed c.if-not-accept.ensures ended))))) (tree_later (c.in_default.ensures.moves.later then c.if-accept.ensures.moves.later then c.if-not-accept.ensures.moves.later) _ _ c.in_ok-left.ensures.way.ends.held)

pub relation-returns-in_err-want-3-clause-way : goal.relation-returns-in_err-want-3-clause-way
relation-returns-in_err-want-3-clause-way t c = lost _ _ c.from_residual-in_err-want-3.ensures.1 (called c.in_ok-left.ensures.way (passed c.in_default.ensures (passed c.if-accept.ensures (rewritten (ap (λ b. member b c.in_ok-left.ensures.way.ends.value) c.if-inside.false) (taken c.if-not-accept.ensures (refused c.in_err-want-3.ensures))))))

pub relation-returns-clause-way : goal.relation-returns-clause-way
relation-returns-clause-way t c =
    let e = c.place-place.ensures ∙ place_here c.chain.new.self _ _ (c.in_default.ensures.here ∙ c.if-accept.ensures.here ∙ c.if-not-accept.ensures.here) in
    tail (c.side-2.ensures.way c.args.inside _ (tree_later (c.in_default.ensures.moves.later then c.if-accept.ensures.moves.later then c.if-not-accept.ensures.moves.later then c.in_ok-want-3.ensures.moves.later) _ _ c.in_ok-left.ensures.way.ends.held)) (λ v w. called c.in_ok-left.ensures.way (passed c.in_default.ensures (passed c.if-accept.ensures (rewritten (ap (λ b. member b c.in_ok-left.ensures.way.ends.value) c.if-inside.false) (taken c.if-not-accept.ensures (wanted c.in_ok-want-3.ensures (rw (← e) w)))))))

pub side-returns-in_err-right-clause-way : goal.side-returns-in_err-right-clause-way
side-returns-in_err-right-clause-way t c f a held = lost _ _ c.from_residual.ensures.1 (failed c.in_err-right.ensures.way)

pub side-returns-clause-way : goal.side-returns-clause-way
side-returns-clause-way t c f a held = returned (called c.in_ok-right.ensures.way (added c.put.ensures ended)) (_, _, (c.put.ensures.stands, (tree_later (c.in_ok-right.ensures.way.ends.way.later then c.put.ensures.later) _ a held, tree_later c.put.ensures.later _ _ c.in_ok-right.ensures.way.ends.held)))

pub postfix-returns-in_err-first-clause-way : goal.postfix-returns-in_err-first-clause-way
postfix-returns-in_err-first-clause-way t c f = lost _ _ c.from_residual.ensures.1 (failed c.in_err-first.ensures.way)

pub postfix-returns-clause-way : goal.postfix-returns-clause-way
postfix-returns-clause-way t c f = tail (passing (λ v. v) (c.applied.ensures.way _ c.in_ok-first.ensures.way.ends.way.then c.in_ok-first.ensures.way.ends.held)) (λ v w. called c.in_ok-first.ensures.way w)

pub applied-returns-in_err-right-clause-way : goal.applied-returns-in_err-right-clause-way
applied-returns-in_err-right-clause-way t c a far held = lost _ _ c.from_residual.ensures.1 (taken c.if-accept.ensures (failed c.in_err-right.ensures.way))

pub applied-returns-in_err-want-clause-way : goal.applied-returns-in_err-want-clause-way
applied-returns-in_err-want-clause-way t c a far held = lost _ _ c.from_residual-in_err-want.ensures.1 (taken c.if-accept.ensures (called c.in_ok-right.ensures.way (refused c.in_err-want.ensures)))

pub applied-returns-then-accept-clause-way : goal.applied-returns-then-accept-clause-way
applied-returns-then-accept-clause-way t c a far held =
    let e = c.place-place.ensures ∙ place_here c.args.self.now _ _ c.if-accept.ensures.here in
    tail (passing (λ v. v) (c.applied.ensures.way (Tree.binary c.if-accept.ensures.token.place bin.Apply a c.in_ok-right.ensures.way.ends.value) false (_, _, (rw e at c.put-node.ensures.stands, (tree_later (c.if-accept.ensures.moves.later then c.in_ok-right.ensures.way.ends.way.later then c.in_ok-want.ensures.moves.later then c.put-node.ensures.later) _ a held, tree_later (c.in_ok-want.ensures.moves.later then c.put-node.ensures.later) _ _ c.in_ok-right.ensures.way.ends.held))))) (λ v w. taken c.if-accept.ensures (called c.in_ok-right.ensures.way (wanted c.in_ok-want.ensures (added c.put-node.ensures w))))

pub applied-returns-then-not-accept-clause-way : goal.applied-returns-then-not-accept-clause-way
applied-returns-then-not-accept-clause-way t c a far held = returned (passed c.if-accept.ensures (passed c.if-not-accept.ensures ended)) (tree_later (c.if-accept.ensures.moves.later then c.if-not-accept.ensures.moves.later) _ a held)

pub applied-returns-in_default-clause-way : goal.applied-returns-in_default-clause-way
applied-returns-in_default-clause-way t c a far held = record { ends = passed c.if-accept.ensures (taken c.if-not-accept.ensures (refused c.in_default.ensures)) }

pub applied-returns-clause-way : goal.applied-returns-clause-way
applied-returns-clause-way t c a far held =
    let e = c.place-place.ensures ∙ place_here c.args.self.now _ _ (c.if-accept.ensures.here ∙ c.if-not-accept.ensures.here) in
    let n = numeral_later (c.in-Some.ensures.takes.moves.later then c.put-node-2.ensures.later) c.in-Some.ensures.takes.token _ c.in-Some.ensures.tells in
    tail (passing (λ v. v) (c.applied-2.ensures.way (Tree.selection c.if-not-accept.ensures.token.place a (numeral_of c.in-Some.ensures.takes.token.symbol)) false (_, (_, (rw e at c.put-node-2.ensures.stands, (n.1, tree_later (c.if-accept.ensures.moves.later then c.if-not-accept.ensures.moves.later then c.in-Some.ensures.takes.moves.later then c.put-node-2.ensures.later) _ a held)))))) (λ v w. passed c.if-accept.ensures (taken c.if-not-accept.ensures (wanted c.in-Some.ensures.takes (added c.put-node-2.ensures w))))

pub atom-returns-in-Some-clause-way : goal.atom-returns-in-Some-clause-way
atom-returns-in-Some-clause-way t c = returned (taken c.in-Some.ensures.takes (added c.put.ensures ended)) (_, (c.put.ensures.stands, numeral_later (c.in-Some.ensures.takes.moves.later then c.put.ensures.later) c.in-Some.ensures.takes.token _ c.in-Some.ensures.tells))

pub atom-returns-in-Some-name-clause-way : goal.atom-returns-in-Some-name-clause-way
atom-returns-in-Some-name-clause-way t c = returned (passed c.in_default.ensures (taken c.in-Some-name.ensures.takes (added c.put-in-Some-name.ensures ended))) (_, (c.put-in-Some-name.ensures.stands, name_later (c.in-Some-name.ensures.takes.moves.later then c.put-in-Some-name.ensures.later) c.in-Some-name.ensures.takes.token _ c.in-Some-name.ensures.tells))

pub atom-returns-in-Some-truth-clause-way : goal.atom-returns-in-Some-truth-clause-way
atom-returns-in-Some-truth-clause-way t c =
    let e = c.place-place.ensures ∙ place_here c.args.self.now _ _ (c.in_default.ensures.here ∙ c.in_default-name.ensures.here ∙ c.in-Some-truth.ensures.takes.here) in
    returned (passed c.in_default.ensures (passed c.in_default-name.ensures (taken c.in-Some-truth.ensures.takes (added c.put-in-Some-truth.ensures ended)))) (rw (e, c.in-Some-truth.ensures.tells) at c.put-in-Some-truth.ensures.stands)

pub atom-returns-then-accept-clause-way : goal.atom-returns-then-accept-clause-way
atom-returns-then-accept-clause-way t c = tail c.paren.ensures.way (λ v w. passed c.in_default.ensures (passed c.in_default-name.ensures (passed c.in_default-truth.ensures (taken c.if-accept.ensures w))))

pub atom-returns-then-accept-2-clause-way : goal.atom-returns-then-accept-2-clause-way
atom-returns-then-accept-2-clause-way t c =
    let e = c.place-place.ensures ∙ place_here c.args.self.now _ _ (c.in_default.ensures.here ∙ c.in_default-name.ensures.here ∙ c.in_default-truth.ensures.here ∙ c.if-accept.ensures.here ∙ c.if-accept-2.ensures.here) in
    tail c.collect.ensures.way (λ v w. passed c.in_default.ensures (passed c.in_default-name.ensures (passed c.in_default-truth.ensures (passed c.if-accept.ensures (taken c.if-accept-2.ensures (rw (← e) w))))))

pub atom-returns-then-accept-3-clause-way : goal.atom-returns-then-accept-3-clause-way
atom-returns-then-accept-3-clause-way t c =
    let e = c.place-place.ensures ∙ place_here c.args.self.now _ _ (c.in_default.ensures.here ∙ c.in_default-name.ensures.here ∙ c.in_default-truth.ensures.here ∙ c.if-accept.ensures.here ∙ c.if-accept-2.ensures.here ∙ c.if-accept-3.ensures.here) in
    tail c.collect-then-accept-3.ensures.way (λ v w. passed c.in_default.ensures (passed c.in_default-name.ensures (passed c.in_default-truth.ensures (passed c.if-accept.ensures (passed c.if-accept-2.ensures (taken c.if-accept-3.ensures (rw (← e) w)))))))

pub atom-returns-in_err-want-clause-way : goal.atom-returns-in_err-want-clause-way
atom-returns-in_err-want-clause-way t c = lost _ _ c.from_residual.ensures.1 (passed c.in_default.ensures (passed c.in_default-name.ensures (passed c.in_default-truth.ensures (passed c.if-accept.ensures (passed c.if-accept-2.ensures (passed c.if-accept-3.ensures (refused c.in_err-want.ensures)))))))

pub atom-returns-clause-way : goal.atom-returns-clause-way
atom-returns-clause-way t c =
    let e = c.place-place.ensures ∙ place_here c.args.self.now _ _ (c.in_default.ensures.here ∙ c.in_default-name.ensures.here ∙ c.in_default-truth.ensures.here ∙ c.if-accept.ensures.here ∙ c.if-accept-2.ensures.here ∙ c.if-accept-3.ensures.here ∙ c.in_ok-want.ensures.here) in
    tail c.tuple.ensures.way (λ v w. passed c.in_default.ensures (passed c.in_default-name.ensures (passed c.in_default-truth.ensures (passed c.if-accept.ensures (passed c.if-accept-2.ensures (passed c.if-accept-3.ensures (wanted c.in_ok-want.ensures (rw (← e) w))))))))

pub paren-returns-in_err-inner-clause-way : goal.paren-returns-in_err-inner-clause-way
paren-returns-in_err-inner-clause-way t c = lost _ _ c.from_residual.ensures.1 (failed c.in_err-inner.ensures.way)

pub paren-returns-in_err-want-clause-way : goal.paren-returns-in_err-want-clause-way
paren-returns-in_err-want-clause-way t c = lost _ _ c.from_residual-in_err-want.ensures.1 (called c.in_ok-inner.ensures.way (refused c.in_err-want.ensures))

pub paren-returns-clause-way : goal.paren-returns-clause-way
paren-returns-clause-way t c = returned (called c.in_ok-inner.ensures.way (wanted c.in_ok-want.ensures ended)) (tree_later c.in_ok-want.ensures.moves.later _ _ c.in_ok-inner.ensures.way.ends.held)

pub tuple-returns-in_err-want-clause-way : goal.tuple-returns-in_err-want-clause-way
tuple-returns-in_err-want-clause-way t c = lost _ _ c.from_residual.ensures.1 (refused c.in_err-want.ensures)

pub tuple-returns-in_err-parts-clause-way : goal.tuple-returns-in_err-parts-clause-way
tuple-returns-in_err-parts-clause-way t c = lost _ _ c.from_residual-in_err-parts.ensures.1 (wanted c.in_ok-want.ensures (failed c.in_err-parts.ensures.way))

pub tuple-returns-in_err-want-2-clause-way : goal.tuple-returns-in_err-want-2-clause-way
tuple-returns-in_err-want-2-clause-way t c = lost _ _ c.from_residual-in_err-want-2.ensures.1 (wanted c.in_ok-want.ensures (called c.in_ok-parts.ensures.way (refused c.in_err-want-2.ensures)))

pub tuple-returns-clause-way : goal.tuple-returns-clause-way
tuple-returns-clause-way t c = returned (wanted c.in_ok-want.ensures (called c.in_ok-parts.ensures.way (wanted c.in_ok-want-2.ensures (added c.put.ensures ended)))) (_, (c.put.ensures.stands, trees_later (c.in_ok-want-2.ensures.moves.later then c.put.ensures.later) _ _ c.in_ok-parts.ensures.way.ends.held))

pub collect-returns-then-accept-clause-way : goal.collect-returns-then-accept-clause-way
collect-returns-then-accept-clause-way t c = returned (taken (rw c.closing.ensures at c.if-accept.ensures) (added c.put.ensures ended)) (None, (rw c.kind.ensures at c.put.ensures.stands, refl))

pub collect-returns-in_err-node-clause-way : goal.collect-returns-in_err-node-clause-way
collect-returns-in_err-node-clause-way t c = lost _ _ c.from_residual.ensures.1 (passed (rw c.closing.ensures at c.if-accept.ensures) (failed c.in_err-node.ensures.way))

pub collect-returns-then-accept-2-clause-way : goal.collect-returns-then-accept-2-clause-way
collect-returns-then-accept-2-clause-way t c = tail (c.compre.ensures.way _ (tree_later c.if-accept-2.ensures.moves.later _ _ c.in_ok-node.ensures.way.ends.held)) (λ v w. passed (rw c.closing.ensures at c.if-accept.ensures) (called c.in_ok-node.ensures.way (taken c.if-accept-2.ensures w)))

pub collect-returns-then-accept-3-clause-way : goal.collect-returns-then-accept-3-clause-way
collect-returns-then-accept-3-clause-way t c = tail (c.after_comma.ensures.way _ (tree_later (c.if-accept-2.ensures.moves.later then c.if-accept-3.ensures.moves.later) _ _ c.in_ok-node.ensures.way.ends.held)) (λ v w. passed (rw c.closing.ensures at c.if-accept.ensures) (called c.in_ok-node.ensures.way (passed c.if-accept-2.ensures (taken c.if-accept-3.ensures w))))

pub collect-returns-in_err-want-clause-way : goal.collect-returns-in_err-want-clause-way
collect-returns-in_err-want-clause-way t c = lost _ _ c.from_residual-in_err-want.ensures.1 (passed (rw c.closing.ensures at c.if-accept.ensures) (called c.in_ok-node.ensures.way (passed c.if-accept-2.ensures (passed c.if-accept-3.ensures (refused (rw c.closing-2.ensures at c.in_err-want.ensures))))))

pub collect-returns-clause-way : goal.collect-returns-clause-way
collect-returns-clause-way t c = returned (passed (rw c.closing.ensures at c.if-accept.ensures) (called c.in_ok-node.ensures.way (passed c.if-accept-2.ensures (passed c.if-accept-3.ensures (wanted (rw c.closing-2.ensures at c.in_ok-want.ensures) (added c.put-item.ensures (added c.put-2.ensures ended))))))) (_, (rw c.kind-2.ensures at c.put-2.ensures.stands, (_, _, (_, (refl, (stands_more c.put-2.ensures.later.entries c.put-item.ensures.stands, (tree_later (c.if-accept-2.ensures.moves.later then c.if-accept-3.ensures.moves.later then c.in_ok-want.ensures.moves.later then c.put-item.ensures.later then c.put-2.ensures.later) _ _ c.in_ok-node.ensures.way.ends.held, refl)))))))

pub after_comma-returns-then-accept-clause-way : goal.after_comma-returns-then-accept-clause-way
after_comma-returns-then-accept-clause-way t c a held = tail (c.range.ensures.way a (tree_later c.if-accept.ensures.moves.later _ a held)) (λ v w. rewritten (ap (λ b. after_comma (bracket_of b) c.args.place a) c.in-Brace.is) (taken c.if-accept.ensures w))

pub after_comma-returns-else-accept-clause-way : goal.after_comma-returns-else-accept-clause-way
after_comma-returns-else-accept-clause-way t c a held = tail (c.members.ensures.way a (tree_later c.if-accept.ensures.moves.later _ a held)) (λ v w. rewritten (ap (λ b. after_comma (bracket_of b) c.args.place a) c.in-Brace.is) (passed c.if-accept.ensures (rewritten (ap (λ b. members (bracket_of b) c.args.place a) (sym c.in-Brace.is)) w)))

pub after_comma-returns-in-Square-clause-way : goal.after_comma-returns-in-Square-clause-way
after_comma-returns-in-Square-clause-way t c a held = tail (c.members-in-Square.ensures.way a held) (λ v w. rewritten (ap (λ b. after_comma (bracket_of b) c.args.place a) c.in-Square.is) (rewritten (ap (λ b. members (bracket_of b) c.args.place a) (sym c.in-Square.is)) w))

pub members-returns-in_err-next-clause-way : goal.members-returns-in_err-next-clause-way
members-returns-in_err-next-clause-way t c a held = lost _ _ c.from_residual.ensures.1 (failed c.in_err-next.ensures.way)

pub members-returns-in_err-want-clause-way : goal.members-returns-in_err-want-clause-way
members-returns-in_err-want-clause-way t c a held = lost _ _ c.from_residual-in_err-want.ensures.1 (called c.in_ok-next.ensures.way (refused (rw c.closing.ensures at c.in_err-want.ensures)))

pub members-returns-clause-way : goal.members-returns-clause-way
members-returns-clause-way t c a held = returned (called c.in_ok-next.ensures.way (wanted (rw c.closing.ensures at c.in_ok-want.ensures) (added c.put-item.ensures (added c.put.ensures ended)))) (_, (rw c.kind.ensures at c.put.ensures.stands, (_, _, (_, (refl, (stands_more c.put.ensures.later.entries c.put-item.ensures.stands, (tree_later (c.in_ok-next.ensures.way.ends.way.later then c.in_ok-want.ensures.moves.later then c.put-item.ensures.later then c.put.ensures.later) _ a held, trees_later (c.in_ok-want.ensures.moves.later then c.put-item.ensures.later then c.put.ensures.later) _ _ c.in_ok-next.ensures.way.ends.held)))))))

pub range-returns-in_err-want-clause-way : goal.range-returns-in_err-want-clause-way
range-returns-in_err-want-clause-way t c a held = lost _ _ c.from_residual.ensures.1 (refused c.in_err-want.ensures)

pub range-returns-in_err-end-clause-way : goal.range-returns-in_err-end-clause-way
range-returns-in_err-end-clause-way t c a held = lost _ _ c.from_residual-in_err-end.ensures.1 (wanted c.in_ok-want.ensures (failed c.in_err-end.ensures.way))

pub range-returns-in_err-want-2-clause-way : goal.range-returns-in_err-want-2-clause-way
range-returns-in_err-want-2-clause-way t c a held = lost _ _ c.from_residual-in_err-want-2.ensures.1 (wanted c.in_ok-want.ensures (called c.in_ok-end.ensures.way (refused c.in_err-want-2.ensures)))

pub range-returns-clause-way : goal.range-returns-clause-way
range-returns-clause-way t c a held = returned (wanted c.in_ok-want.ensures (called c.in_ok-end.ensures.way (wanted c.in_ok-want-2.ensures (added c.put.ensures ended)))) (_, _, (c.put.ensures.stands, (tree_later (c.in_ok-want.ensures.moves.later then c.in_ok-end.ensures.way.ends.way.later then c.in_ok-want-2.ensures.moves.later then c.put.ensures.later) _ a held, tree_later (c.in_ok-want-2.ensures.moves.later then c.put.ensures.later) _ _ c.in_ok-end.ensures.way.ends.held)))

pub compre-returns-in_err-bind-clause-way : goal.compre-returns-in_err-bind-clause-way
compre-returns-in_err-bind-clause-way t c a held = lost _ _ c.from_residual.ensures.1 (failed c.in_err-bind.ensures.way)

pub compre-returns-in_err-want-clause-way : goal.compre-returns-in_err-want-clause-way
compre-returns-in_err-want-clause-way t c a held = lost _ _ c.from_residual-in_err-want.ensures.1 (called c.in_ok-bind.ensures.way (passed c.if-not-accept.ensures (refused (rw c.closing.ensures at c.in_err-want.ensures))))

pub compre-returns-then-not-accept-clause-way : goal.compre-returns-then-not-accept-clause-way
compre-returns-then-not-accept-clause-way t c a held =
    let b = bind_later (c.if-not-accept.ensures.moves.later then c.in_ok-want.ensures.moves.later then c.put.ensures.later) c.in_ok-bind.bind _ c.in_ok-bind.ensures.way.ends.held in
    returned (called c.in_ok-bind.ensures.way (passed c.if-not-accept.ensures (wanted (rw c.closing.ensures at c.in_ok-want.ensures) (added c.put.ensures ended)))) (_, (_, (_, (None, (rw c.kind.ensures at c.put.ensures.stands, (b.0, (tree_later (c.in_ok-bind.ensures.way.ends.way.later then c.if-not-accept.ensures.moves.later then c.in_ok-want.ensures.moves.later then c.put.ensures.later) _ a held, (b.1, refl))))))))

pub compre-returns-in_err-condition-clause-way : goal.compre-returns-in_err-condition-clause-way
compre-returns-in_err-condition-clause-way t c a held = lost _ _ c.from_residual-in_err-condition.ensures.1 (called c.in_ok-bind.ensures.way (taken c.if-not-accept.ensures (failed c.in_err-condition.ensures.way)))

pub compre-returns-in_err-want-2-clause-way : goal.compre-returns-in_err-want-2-clause-way
compre-returns-in_err-want-2-clause-way t c a held = lost _ _ c.from_residual-in_err-want-2.ensures.1 (called c.in_ok-bind.ensures.way (taken c.if-not-accept.ensures (called c.in_ok-condition.ensures.way (refused (rw c.closing-2.ensures at c.in_err-want-2.ensures)))))

pub compre-returns-clause-way : goal.compre-returns-clause-way
compre-returns-clause-way t c a held =
    let b = bind_later (c.if-not-accept.ensures.moves.later then c.in_ok-condition.ensures.way.ends.way.later then c.in_ok-want-2.ensures.moves.later then c.put-2.ensures.later) c.in_ok-bind.bind _ c.in_ok-bind.ensures.way.ends.held in
    returned (called c.in_ok-bind.ensures.way (taken c.if-not-accept.ensures (called c.in_ok-condition.ensures.way (wanted (rw c.closing-2.ensures at c.in_ok-want-2.ensures) (added c.put-2.ensures ended))))) (_, (_, (_, (_, (rw c.kind-2.ensures at c.put-2.ensures.stands, (b.0, (tree_later (c.in_ok-bind.ensures.way.ends.way.later then c.if-not-accept.ensures.moves.later then c.in_ok-condition.ensures.way.ends.way.later then c.in_ok-want-2.ensures.moves.later then c.put-2.ensures.later) _ a held, (b.1, (_, (refl, tree_later (c.in_ok-want-2.ensures.moves.later then c.put-2.ensures.later) _ _ c.in_ok-condition.ensures.way.ends.held))))))))))

pub items-returns-in_err-node-clause-way : goal.items-returns-in_err-node-clause-way
items-returns-in_err-node-clause-way t c = lost _ _ c.from_residual.ensures.1 (failed c.in_err-node.ensures.way)

pub items-returns-in_err-limit-clause-way : goal.items-returns-in_err-limit-clause-way
items-returns-in_err-limit-clause-way t c =
    let n = next (limit_of c.args.limit) in
    lost _ _ c.from_residual-in_err-limit.ensures.1 (called c.in_ok-node.ensures.way (rewritten (after_item_is (limit_of c.args.limit) n c.in_ok-node.ensures.way.ends.value) (none_where_due _ _ _ n _ c.in_err-limit.ensures.follows)))

pub items-returns-in_default-clause-way : goal.items-returns-in_default-clause-way
items-returns-in_default-clause-way t c =
    let n = next (limit_of c.args.limit) in
    let m = rw c.in_default.is at c.in_ok-limit.ensures.took in
    returned (called c.in_ok-node.ensures.way (rewritten (after_item_is (limit_of c.args.limit) n c.in_ok-node.ensures.way.ends.value) (no_more _ _ _ n (rw c.in_default.is at c.in_ok-limit.ensures.follows) (added c.put.ensures ended)))) (_, _, (None, (refl, (c.put.ensures.stands, (tree_later (m.later then c.put.ensures.later) _ _ c.in_ok-node.ensures.way.ends.held, refl)))))

pub items-returns-in_err-next-clause-way : goal.items-returns-in_err-next-clause-way
items-returns-in_err-next-clause-way t c =
    let n = next (limit_of c.args.limit) in
    lost _ _ c.from_residual-in_err-next.ensures.1 (called c.in_ok-node.ensures.way (rewritten (after_item_is (limit_of c.args.limit) n c.in_ok-node.ensures.way.ends.value) (more _ _ _ n _ (rw c.in-Some.is at c.in_ok-limit.ensures.follows) (failed c.in_err-next.ensures.way))))

pub items-returns-clause-way : goal.items-returns-clause-way
items-returns-clause-way t c =
    let n = next (limit_of c.args.limit) in
    let m = rw c.in-Some.is at c.in_ok-limit.ensures.took in
    returned (called c.in_ok-node.ensures.way (rewritten (after_item_is (limit_of c.args.limit) n c.in_ok-node.ensures.way.ends.value) (more _ _ _ n _ (rw c.in-Some.is at c.in_ok-limit.ensures.follows) (called c.in_ok-next.ensures.way (added c.put-2.ensures ended))))) (_, _, (_, (refl, (c.put-2.ensures.stands, (tree_later (m.later then c.in_ok-next.ensures.way.ends.way.later then c.put-2.ensures.later) _ _ c.in_ok-node.ensures.way.ends.held, trees_later c.put-2.ensures.later _ _ c.in_ok-next.ensures.way.ends.held)))))
