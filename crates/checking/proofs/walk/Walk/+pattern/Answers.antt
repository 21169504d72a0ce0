use Rattle.std.proofs.Common.{sym, ap, inl, inr, ◌∙◌}
use Rattle.checking.specs.Walk.{visit_patterns}
use Rattle.checking.specs.Walked.{pattern_at, patterns_at, trail, text_of, reach}
use Rattle.checking.proofs.Going.{resting, matched, then_matched, on_matched, no_pattern_left, no_patterns_left, into_pattern, into_patterns}
use Rattle.checking.proofs.Others.{no_pattern, no_item}
use Rattle.checking.proofs.walk.Walk.+pattern.Goals as goal

pub pattern-returns-in_default : goal.pattern-returns-in_default
pattern-returns-in_default t c = no_pattern_left c.in_default.ensures.none _ _ _

pub pattern-returns-in-AnyPattern : goal.pattern-returns-in-AnyPattern
pattern-returns-in-AnyPattern t c =
    elim c.in-AnyPattern.is [
      | inl is ↦ into_pattern _ _ c.in-Some.ensures.some.0 _ (sym c.entry.ensures ∙ is) _ (matched c.node-in-AnyPattern.ensures)
      | inr is ↦ into_pattern _ _ c.in-Some.ensures.some.0 _ (sym c.entry.ensures ∙ is.1) _ (matched c.node-in-AnyPattern.ensures)
    ]

pub pattern-returns-in-NamePattern : goal.pattern-returns-in-NamePattern
pattern-returns-in-NamePattern t c = into_pattern _ _ c.in-Some.ensures.some.0 _ (sym c.in-NamePattern.ensures) _ (then_matched (matched c.node.ensures) c.pattern_name.ensures)

pub pattern-returns-in-NumeralPattern : goal.pattern-returns-in-NumeralPattern
pattern-returns-in-NumeralPattern t c =
    into_pattern _ _ c.in-Some.ensures.some.0 _ (sym c.in-NumeralPattern.ensures) _ (then_matched (matched c.node-in-NumeralPattern.ensures) (matched c.number.ensures))

pub pattern-returns-in-PartsPattern : goal.pattern-returns-in-PartsPattern
pattern-returns-in-PartsPattern t c =
    into_pattern _ _ c.in-Some.ensures.some.0 _ (sym c.in-PartsPattern.ensures) _
    (then_matched (matched c.node-in-PartsPattern.ensures) (on_matched c.in-Some.ensures.some.1 (patterns_at c.args.from c.in-PartsPattern.first c.in-Some.inner.fuel) c.patterns.ensures))

pub pattern-returns-in_default-entry : goal.pattern-returns-in_default-entry
pattern-returns-in_default-entry t c =
    let w = c.args.self.now in
    let o = c.in_default-entry in
    into_pattern _ _ c.in-Some.ensures.some.0 _ (sym c.entry.ensures) _
    (resting (no_pattern (text_of w.src) (reach w.src c.in-Some.inner.fuel) c.entry.result c.args.from c.args.depth.level (trail w) o.not-AnyPattern o.not-NamePattern o.not-NumeralPattern o.not-TruthPattern o.not-PartsPattern))

pub patterns-returns-in_default : goal.patterns-returns-in_default
patterns-returns-in_default t c = no_patterns_left c.in_default.ensures.none _ _ _

pub patterns-returns-in_default-linked : goal.patterns-returns-in_default-linked
patterns-returns-in_default-linked t c =
    let w = c.args.self.now in
    into_patterns _ _ c.in-Some.ensures.some.0 _ (sym c.linked.ensures) _
    (resting (ap (λ x. visit_patterns (text_of w.src) (reach w.src c.in-Some.rest.fuel) c.args.from x c.args.depth.level (trail w)) (no_item c.linked.result c.in_default-linked.not-Item)))

pub patterns-returns : goal.patterns-returns
patterns-returns t c =
    into_patterns _ _ c.in-Some.ensures.some.0 _ (sym c.in-Item.ensures) _
    (then_matched
    (on_matched c.in-Some.ensures.some.1 (pattern_at c.args.from c.in-Item.node c.in-Some.rest.fuel) c.pattern.ensures)
    (on_matched c.in-Some.ensures.some.1 (patterns_at c.args.from c.in-Item.next c.in-Some.rest.fuel) c.patterns.ensures))
