use Rattle.std.proofs.Common.{◌≡◌, ◌<◌, true, false, cond, [], length, sym, ap, ◌∙◌, arith, rules}
use Rattle.std.specs.Ordering.{is_lt, is_le, is_ge}
use Rattle.values.proofs.Laws.{row_none}
use Rattle.sets.specs.Walk.{merge, keeps, side}
use Rattle.sets.specs.declared.Blend.TheVariants.{Difference}
use Rattle.sets.proofs.Turns.{turn, sides, falls, left_of, right_of}
use Rattle.sets.proofs.Members.{none, walk_none, none_more, none_same, none_all}
use Rattle.sets.proofs.subset.Goals as goal

pub returns-then-is_lt : goal.returns-then-is_lt
returns-then-is_lt c = λ us ts ea eb oa ob.
    let x = c.loop-x.x.now in
    let y = c.loop-x.y.now in
    let some : 0 < length x = search rules in
    let h = c.loop-x.invariant us ts ea eb in
    let t = turn Difference h.0 h.1 x y h.2 h.3 (omega arith) in
    let k : is_lt (sides x y) ≡ true = ap is_lt (sym (c.side-o.ensures ∙ (λ i. side (c.split.ensures.front i) (c.split-in-loop-x.ensures.front i)))) ∙ sym c.if-is_lt.ensures in
    sym (sym (walk_none us ts oa ob) ∙ ap none h.4 ∙ none_more (is_lt (sides x y)) t.next (merge (keeps Difference) h.0 h.1) (merge (keeps Difference) t.left t.right) t.members_are k)

-- what the turn leaves of the two rows
left_is : (c : goal.After-choose-y) → c.choose-x.result.now ≡ left_of c.loop-x.x.now c.loop-x.y.now (sides c.loop-x.x.now c.loop-x.y.now)
left_is c = c.choose-x.ensures ∙ (λ i. cond ((c.is_le.ensures ∙ ap is_le (c.side-o.ensures ∙ (λ j. side (c.split.ensures.front j) (c.split-in-loop-x.ensures.front j)))) i) (c.split.ensures.back i) c.loop-x.x.now)

right_is : (c : goal.After-choose-y) → c.choose-y.result.now ≡ right_of c.loop-x.x.now c.loop-x.y.now (sides c.loop-x.x.now c.loop-x.y.now)
right_is c = c.choose-y.ensures ∙ (λ i. cond ((c.is_ge.ensures ∙ ap is_ge (c.side-o.ensures ∙ (λ j. side (c.split.ensures.front j) (c.split-in-loop-x.ensures.front j)))) i) (c.split-in-loop-x.ensures.back i) c.loop-x.y.now)

pub loop-x-smaller : goal.loop-x-smaller
loop-x-smaller c =
    let some : 0 < length c.loop-x.x.now = search rules in
    omega (arith, falls c.loop-x.x.now c.loop-x.y.now (omega arith), ap length (left_is c), ap length (right_is c))

pub loop-x-preserved : goal.loop-x-preserved
loop-x-preserved c = λ us ts ea eb.
    let x = c.loop-x.x.now in
    let y = c.loop-x.y.now in
    let some : 0 < length x = search rules in
    let h = c.loop-x.invariant us ts ea eb in
    let t = turn Difference h.0 h.1 x y h.2 h.3 (omega arith) in
    let k : is_lt (sides x y) ≡ false = ap is_lt (sym (c.side-o.ensures ∙ (λ i. side (c.split.ensures.front i) (c.split-in-loop-x.ensures.front i)))) ∙ sym c.if-is_lt.ensures in
    (t.left, t.right, left_is c ∙ t.left_is, right_is c ∙ t.right_is, h.4 ∙ none_same (is_lt (sides x y)) t.next (merge (keeps Difference) h.0 h.1) (merge (keeps Difference) t.left t.right) t.members_are k)

pub returns : goal.returns
returns c = λ us ts ea eb oa ob.
    let h = c.loop-x.invariant us ts ea eb in
    let n : h.0 ≡ [] = row_none h.0 c.loop-x.x.now h.2 (search rules) in
    sym (sym (walk_none us ts oa ob) ∙ ap none (h.4 ∙ ap (λ l. merge (keeps Difference) l h.1) n) ∙ none_all h.1)
