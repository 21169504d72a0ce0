use Rattle.std.proofs.Common.{Some, sym, ap, inl, inr, ◌∙◌}
use Rattle.checking.specs.Walk.{visit_items, visit_arms}
use Rattle.checking.specs.Walked.{text_of, reach, in_sight, noted, tree_at, items_at, arms_at, under_at, filter_at, optional_at, side_at}
use Rattle.checking.proofs.Going.{staying, then, on, no_tree_left, no_items_left, no_arms_left, into_tree, into_items, into_arms}
use Rattle.checking.proofs.Others.{no_expression, no_item, no_arm}
use Rattle.checking.proofs.walk.Walk.+expression.Goals as goal

pub expression-returns-in_default : goal.expression-returns-in_default
expression-returns-in_default t c = no_tree_left c.in_default.ensures.none _ _

pub expression-returns-in-Numeral : goal.expression-returns-in-Numeral
expression-returns-in-Numeral t c = into_tree _ _ c.in-Some.ensures.some.0 _ (sym c.in-Numeral.ensures) (then c.node.ensures c.number.ensures)

pub expression-returns-in-Truth : goal.expression-returns-in-Truth
expression-returns-in-Truth t c = into_tree _ _ c.in-Some.ensures.some.0 _ (sym c.in-Truth.ensures) c.node-in-Truth.ensures

pub expression-returns-in-Name : goal.expression-returns-in-Name
expression-returns-in-Name t c = into_tree _ _ c.in-Some.ensures.some.0 _ (sym c.in-Name.ensures) (then c.node-in-Name.ensures c.name.ensures)

pub expression-returns-in-Unary : goal.expression-returns-in-Unary
expression-returns-in-Unary t c =
    into_tree _ _ c.in-Some.ensures.some.0 _ (sym c.in-Unary.ensures)
    (then c.node-in-Unary.ensures (on c.in-Some.ensures.some.1 (tree_at c.in-Unary.operand c.in-Some.inner.fuel) c.expression.ensures))

pub expression-returns-in-Binary : goal.expression-returns-in-Binary
expression-returns-in-Binary t c =
    let m = c.in-Binary in
    let n = c.in-Some.inner.fuel in
    let deeper = c.in-Some.ensures.some.1 in
    let parts = then c.node-in-Binary.ensures (then (on deeper (tree_at m.left n) c.expression-in-Binary.ensures) (on deeper (tree_at m.right n) c.expression-in-Binary-2.ensures)) in
    elim m.is [
      | inl is ↦ into_tree _ _ c.in-Some.ensures.some.0 _ (sym c.entry.ensures ∙ is.1) parts
      | inr (inl is) ↦ into_tree _ _ c.in-Some.ensures.some.0 _ (sym c.entry.ensures ∙ is.1) parts
      | inr (inr is) ↦ into_tree _ _ c.in-Some.ensures.some.0 _ (sym c.entry.ensures ∙ is) parts
    ]

pub expression-returns-in-If : goal.expression-returns-in-If
expression-returns-in-If t c =
    let m = c.in-If in
    let n = c.in-Some.inner.fuel in
    let deeper = c.in-Some.ensures.some.1 in
    into_tree _ _ c.in-Some.ensures.some.0 _ (sym m.ensures)
    (then c.node-in-If.ensures
    (then (on deeper (tree_at m.test n) c.expression-in-If.ensures)
    (then (on deeper (tree_at m.then n) c.expression-in-If-2.ensures) (on deeper (tree_at m.otherwise n) c.expression-in-If-3.ensures))))

pub expression-returns-in-Let : goal.expression-returns-in-Let
expression-returns-in-Let t c =
    let m = c.in-Let in
    let n = c.in-Some.inner.fuel in
    let deeper = c.in-Some.ensures.some.1 in
    let parts = then c.node-in-Let.ensures (then (on deeper (tree_at m.given n) c.expression-in-Let.ensures) (on deeper (under_at m.name m.body n) c.under-in-Let.ensures)) in
    elim m.is [
      | inl is ↦ into_tree _ _ c.in-Some.ensures.some.0 _ (sym c.entry.ensures ∙ is) parts
      | inr is ↦ into_tree _ _ c.in-Some.ensures.some.0 _ (sym c.entry.ensures ∙ is.1) parts
    ]

pub expression-returns-in-LetBe : goal.expression-returns-in-LetBe
expression-returns-in-LetBe t c =
    let m = c.in-LetBe in
    let n = c.in-Some.inner.fuel in
    let deeper = c.in-Some.ensures.some.1 in
    into_tree _ _ c.in-Some.ensures.some.0 _ (sym m.ensures)
    (then c.node-in-LetBe.ensures
    (then (on deeper (tree_at m.set n) c.expression-in-LetBe.ensures)
    (then (on deeper (under_at m.name m.condition n) c.under.ensures) (on deeper (under_at m.name m.body n) c.under-in-LetBe.ensures))))

pub expression-returns-in-Cases : goal.expression-returns-in-Cases
expression-returns-in-Cases t c =
    let m = c.in-Cases in
    let n = c.in-Some.inner.fuel in
    let deeper = c.in-Some.ensures.some.1 in
    into_tree _ _ c.in-Some.ensures.some.0 _ (sym m.ensures)
    (then c.node-in-Cases.ensures
    (then (on deeper (tree_at m.subject n) c.expression-in-Cases.ensures)
    (then (on deeper (arms_at (Some m.first) n) c.arms.ensures) (on deeper (optional_at m.others n) c.optional.ensures))))

pub expression-returns-in-Collection : goal.expression-returns-in-Collection
expression-returns-in-Collection t c =
    into_tree _ _ c.in-Some.ensures.some.0 _ (sym c.in-Collection.ensures)
    (then c.node-in-Collection.ensures (on c.in-Some.ensures.some.1 (items_at c.in-Collection.first c.in-Some.inner.fuel) c.items.ensures))

pub expression-returns-in-Comprehension : goal.expression-returns-in-Comprehension
expression-returns-in-Comprehension t c =
    let m = c.in-Comprehension in
    let n = c.in-Some.inner.fuel in
    let deeper = c.in-Some.ensures.some.1 in
    into_tree _ _ c.in-Some.ensures.some.0 _ (sym m.ensures)
    (then c.node-in-Comprehension.ensures
    (then (on deeper (under_at m.name m.member n) c.under-in-Comprehension.ensures)
    (then (on deeper (tree_at m.set n) c.expression-in-Comprehension.ensures) (on deeper (filter_at m.name m.condition n) c.filter.ensures))))

pub expression-returns-in-Selection : goal.expression-returns-in-Selection
expression-returns-in-Selection t c =
    into_tree _ _ c.in-Some.ensures.some.0 _ (sym c.in-Selection.ensures)
    (then c.node-in-Selection.ensures
    (then c.number-in-Selection.ensures (on c.in-Some.ensures.some.1 (tree_at c.in-Selection.tuple c.in-Some.inner.fuel) c.expression-in-Selection.ensures)))

pub expression-returns-in_default-entry : goal.expression-returns-in_default-entry
expression-returns-in_default-entry t c =
    let w = c.args.self.now in
    let o = c.in_default-entry in
    into_tree _ _ c.in-Some.ensures.some.0 _ (sym c.entry.ensures)
    (staying (no_expression (text_of w.src) (reach w.src c.in-Some.inner.fuel) c.entry.result c.args.depth.level (in_sight w) (noted w) o.not-Numeral o.not-Truth o.not-Name o.not-Unary o.not-Binary o.not-Connective o.not-If o.not-Let o.not-LetBe o.not-Cases o.not-Quantifier o.not-Collection o.not-Range o.not-Comprehension o.not-Selection))

pub items-returns-in_default : goal.items-returns-in_default
items-returns-in_default t c = no_items_left c.in_default.ensures.none _ _

pub items-returns-in_default-linked : goal.items-returns-in_default-linked
items-returns-in_default-linked t c =
    let w = c.args.self.now in
    into_items _ _ c.in-Some.ensures.some.0 _ (sym c.linked.ensures)
    (staying (ap (λ x. visit_items (text_of w.src) (reach w.src c.in-Some.rest.fuel) x c.args.depth.level (in_sight w) (noted w)) (no_item c.linked.result c.in_default-linked.not-Item)))

pub items-returns : goal.items-returns
items-returns t c =
    into_items _ _ c.in-Some.ensures.some.0 _ (sym c.in-Item.ensures)
    (then
    (on c.in-Some.ensures.some.1 (tree_at c.in-Item.node c.in-Some.rest.fuel) c.expression.ensures)
    (on c.in-Some.ensures.some.1 (items_at c.in-Item.next c.in-Some.rest.fuel) c.items.ensures))

pub arms-returns-in_default : goal.arms-returns-in_default
arms-returns-in_default t c = no_arms_left c.in_default.ensures.none _ _

pub arms-returns-in_default-linked : goal.arms-returns-in_default-linked
arms-returns-in_default-linked t c =
    let w = c.args.self.now in
    into_arms _ _ c.in-Some.ensures.some.0 _ (sym c.linked.ensures)
    (staying (ap (λ x. visit_arms (text_of w.src) (reach w.src c.in-Some.rest.fuel) x c.args.depth.level (in_sight w) (noted w)) (no_arm c.linked.result c.in_default-linked.not-Alternative)))

pub arms-returns : goal.arms-returns
arms-returns t c =
    let m = c.in-Alternative in
    let n = c.in-Some.rest.fuel in
    let same = c.in-Some.ensures.some.1 in
    into_arms _ _ c.in-Some.ensures.some.0 _ (sym m.ensures) (then (on same (side_at m.pattern m.right n) c.side.ensures) (on same (arms_at m.next n) c.arms.ensures))
