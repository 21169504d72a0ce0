use Rattle.std.proofs.Common.{◌≡◌, ℕ, Bool, true, false, refl, ◌+◌, ◌<◌, cond, nat_le, [], ◌++◌, length, sym, ap, ◌∙◌, arith, rules}
use mir.Val.{bool_byte}
use Rattle.std.specs.Ordering.{is_le, is_ge}
use Rattle.std.proofs.lemmas.List.{append-nil}
use Rattle.std.proofs.lemmas.Result.{MatchResult-from_err}
use Rattle.tables.specs.Items.{items, room}
use Rattle.values.specs.Value.{row, front}
use Rattle.sets.specs.Walk.{merge, keeps, side, taken}
use Rattle.values.proofs.Laws.{row_none}
use Rattle.sets.proofs.Turns.{turn, sides, falls, left_of, right_of, goes_on, no_room, at_most_one}
use Rattle.sets.proofs.weave.Goals as goal
use Rattle.sets.proofs.weave.Goals.{then-not-is_empty, else-not-is_empty+then-not-is_empty-2}

pub returns-in_err-extend_from_slice-clause-made : goal.returns-in_err-extend_from_slice-clause-made
returns-in_err-extend_from_slice-clause-made c = λ us ts ea eb.
    let x = c.loop-x.x.now in
    let y = c.loop-x.y.now in
    let some : 0 < length x + length y = elim c.if-not-is_empty.branch [ then-not-is_empty w ↦ let p : 0 < length x = search rules in omega arith | else-not-is_empty+then-not-is_empty-2 w ↦ let p : 0 < length y = search rules in omega arith ] in
    let h = c.loop-x.invariant.2 us ts ea eb in
    let t = turn c.args.op h.0 h.1 x y h.2 h.3 some in
    let o : c.side-o.result ≡ sides x y = c.side-o.ensures ∙ (λ i. side (c.split.ensures.front i) (c.split-in-loop-x.ensures.front i)) in
    let p : c.keeps-keep.result ≡ keeps c.args.op (sides x y) = c.keeps-keep.ensures ∙ ap (keeps c.args.op) o in
    let next = taken (keeps c.args.op (sides x y)) (sides x y) (front x) (front y) in
    let n : c.taken.result.now ≡ next = c.taken.ensures ∙ (λ i. taken (p i) (o i) (c.split.ensures.front i) (c.split-in-loop-x.ensures.front i)) in
    let full : false ≡ nat_le (length (items c.loop-x.table) + length c.taken.result.now) (room c.loop-x.table) = c.in_err-extend_from_slice.ensures.test in
    let less : room c.loop-x.table < length (items c.loop-x.table) + length c.taken.result.now = search rules in
    let l : room c.args.table.now < length (items c.loop-x.table) + length next = omega (arith, less, ap length n, c.loop-x.invariant.0.0) in
    MatchResult-from_err _ _ _ c.from_residual.ensures.0 (λ _. no_room (items c.args.table.now) (items c.loop-x.table) next (row (merge (keeps c.args.op) h.0 h.1)) (row (merge (keeps c.args.op) t.left t.right)) (row (merge (keeps c.args.op) us ts)) (room c.args.table.now) l t.cells_are h.4)

-- the number of a truth value
one : (b : Bool) → bool_byte b ≡ cond b 1 0
one true = refl
one false = refl

-- what the turn leaves of the two rows
left_is : (c : goal.After-choose-y) → c.choose-x.result.now ≡ left_of c.loop-x.x.now c.loop-x.y.now (sides c.loop-x.x.now c.loop-x.y.now)
left_is c = c.choose-x.ensures ∙ (λ i. cond ((c.is_le.ensures ∙ ap is_le (c.side-o.ensures ∙ (λ j. side (c.split.ensures.front j) (c.split-in-loop-x.ensures.front j)))) i) (c.split.ensures.back i) c.loop-x.x.now)

right_is : (c : goal.After-choose-y) → c.choose-y.result.now ≡ right_of c.loop-x.x.now c.loop-x.y.now (sides c.loop-x.x.now c.loop-x.y.now)
right_is c = c.choose-y.ensures ∙ (λ i. cond ((c.is_ge.ensures ∙ ap is_ge (c.side-o.ensures ∙ (λ j. side (c.split.ensures.front j) (c.split-in-loop-x.ensures.front j)))) i) (c.split-in-loop-x.ensures.back i) c.loop-x.y.now)

some_left : (c : goal.After-choose-y) → 0 < length c.loop-x.x.now + length c.loop-x.y.now
some_left c = elim c.if-not-is_empty.branch [ then-not-is_empty w ↦ let p : 0 < length c.loop-x.x.now = search rules in omega arith | else-not-is_empty+then-not-is_empty-2 w ↦ let p : 0 < length c.loop-x.y.now = search rules in omega arith ]

fewer : (c : goal.After-choose-y) → length c.choose-x.result.now + length c.choose-y.result.now < length c.loop-x.x.now + length c.loop-x.y.now
fewer c = omega (arith, falls c.loop-x.x.now c.loop-x.y.now (some_left c), ap length (left_is c), ap length (right_is c))

pub loop-x-smaller : goal.loop-x-smaller
loop-x-smaller c = fewer c

pub loop-x-preserved : goal.loop-x-preserved
loop-x-preserved c =
    let x = c.loop-x.x.now in
    let y = c.loop-x.y.now in
    let a = c.in_ok-extend_from_slice.ensures in
    let o : c.side-o.result ≡ sides x y = c.side-o.ensures ∙ (λ i. side (c.split.ensures.front i) (c.split-in-loop-x.ensures.front i)) in
    let p : c.keeps-keep.result ≡ keeps c.args.op (sides x y) = c.keeps-keep.ensures ∙ ap (keeps c.args.op) o in
    let next = taken (keeps c.args.op (sides x y)) (sides x y) (front x) (front y) in
    let n : c.taken.result.now ≡ next = c.taken.ensures ∙ (λ i. taken (p i) (o i) (c.split.ensures.front i) (c.split-in-loop-x.ensures.front i)) in
    let k : c.from-made.result ≡ cond (keeps c.args.op (sides x y)) 1 0 = c.from-made.ensures ∙ one c.keeps-keep.result ∙ ap (λ b. cond {A = ℕ} b 1 0) p in (
      (a.room ∙ c.loop-x.invariant.0.0, a.lent ∙ c.loop-x.invariant.0.1),
      omega (arith, k, at_most_one (keeps c.args.op (sides x y)), fewer c, c.loop-x.invariant.1),
      λ us ts ea eb.
          let h = c.loop-x.invariant.2 us ts ea eb in
          let t = turn c.args.op h.0 h.1 x y h.2 h.3 (some_left c) in (
            t.left,
            t.right,
            left_is c ∙ t.left_is,
            right_is c ∙ t.right_is,
            goes_on (items c.loop-x.table) next (items c.extend_from_slice.new.self) (row (merge (keeps c.args.op) h.0 h.1)) (row (merge (keeps c.args.op) t.left t.right)) (items c.args.table.now ++ row (merge (keeps c.args.op) us ts)) (a.items ∙ ap (λ q. items c.loop-x.table ++ q) n) t.cells_are h.4,
            omega (arith, k, t.count_is, h.5),
          ),
    )

pub returns-clause-made : goal.returns-clause-made
returns-clause-made c = λ us ts ea eb.
    let h = c.loop-x.invariant.2 us ts ea eb in
    let a : h.0 ≡ [] = row_none h.0 c.loop-x.x.now h.2 (search rules) in
    let b : h.1 ≡ [] = row_none h.1 c.loop-x.y.now h.3 (search rules) in
    let m : merge (keeps c.args.op) h.0 h.1 ≡ [] = λ i. merge (keeps c.args.op) (a i) (b i) in (
      sym (append-nil (items c.loop-x.table)) ∙ ap (λ r. items c.loop-x.table ++ row r) (sym m) ∙ h.4,
      omega (arith, h.5, ap length m),
    )
