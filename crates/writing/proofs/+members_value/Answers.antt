use Rattle.std.proofs.Common.{◌-◌, ◌<◌, ◌≤◌, ◌++◌, length, drop, w32, sym, refl, ap, ◌∙◌, subst, append_assoc, rules, arith}
use Rattle.std.proofs.lemmas.Int.{to_z-of_z}
use Rattle.std.proofs.lemmas.List.{append-nil, length-append, length-drop, length-take}
use Rattle.values.specs.Value.{ontos}
use Rattle.writing.specs.Heads.{Begins}
use Rattle.writing.specs.Written.{written, members, opening, closing}
use Rattle.writing.proofs.Walk.{is, first, begins, next, goes_on, ends, none_left, length-onto, length_many}
use Rattle.writing.proofs.+members_value.Goals as goal

-- ---- value

pub value-returns-in_default-clause-written : goal.value-returns-in_default-clause-written
value-returns-in_default-clause-written t c v xs e =
    let short : length c.args.cells.now < 2 = search rules in
    absurd (omega (arith, ap length e, length-onto v xs))

pub value-add_number-requires : goal.value-add_number-requires
value-add_number-requires t c =
    let n = is _ _ _ _ c.requires.cells_are (search rules) (search rules) c.in-Number.ensures in
    rw (to_z-of_z w32 c.in-Number.number (search rules)) (omega (arith, ap (λ v. length (written v)) n.0, c.requires.room))

pub value-returns-in-Number-clause-written : goal.value-returns-in-Number-clause-written
value-returns-in-Number-clause-written t c v xs e =
    let n = is v xs _ _ e (search rules) (search rules) c.in-Number.ensures in
    (n.1, c.add_number.ensures ∙ rw (to_z-of_z w32 c.in-Number.number (search rules), n.0) refl)

pub value-push_str-requires : goal.value-push_str-requires
value-push_str-requires t c =
    let n = is _ _ _ _ c.requires.cells_are (search rules) (search rules) c.in-Truth.ensures in
    (omega arith, omega (arith, ap length c.word.ensures, ap (λ v. length (written v)) n.0, c.requires.room))

pub value-returns-in-Truth-clause-written : goal.value-returns-in-Truth-clause-written
value-returns-in-Truth-clause-written t c v xs e =
    let n = is v xs _ _ e (search rules) (search rules) c.in-Truth.ensures in
    (n.1, c.push_str.ensures.bytes ∙ rw (c.word.ensures, n.0) refl)

pub value-push_str-requires-in-Many : goal.value-push_str-requires-in-Many
value-push_str-requires-in-Many t c =
    let n = is _ _ _ _ c.requires.cells_are (search rules) (search rules) c.in-Many.ensures in
    (omega arith, omega (arith, ap length c.opening.ensures, ap (λ v. length (written v)) n.is, length_many c.in-Many.kind n.those, c.requires.room))

pub value-members-after-requires : goal.value-members-after-requires
value-members-after-requires t c =
    let n = is _ _ _ _ c.requires.cells_are (search rules) (search rules) c.in-Many.ensures in
    let s = c.args.cells.now in
    let l : 2 ≤ length s = omega (arith, ap length c.requires.cells_are, length-onto c.requires.first c.requires.rest) in (
      omega (arith, c.decreases, length-drop 2 s, length-take (length s - 2) (drop 2 s)),
      record {
        those = n.those;
        rest = c.requires.rest;
        many_are = n.many_are;
        cells_are = n.cells_are;
        room = omega (arith, ap length c.opening.ensures, ap (λ v. length (written v)) n.is, length_many c.in-Many.kind n.those, c.push_str-in-Many.ensures.len, c.requires.room);
      },
    )

pub value-push_str-requires-in-Many-2 : goal.value-push_str-requires-in-Many-2
value-push_str-requires-in-Many-2 t c =
    let k = c.in-Many.kind in
    let n = is _ _ _ _ c.requires.cells_are (search rules) (search rules) c.in-Many.ensures in
    let m = (c.members-after.ensures.written n.those c.requires.rest n.many_are n.cells_are).1 in
    let l1 = c.push_str-in-Many.new.self.bytes in
    (omega arith, omega (arith, ap length c.opening.ensures, ap length c.closing.ensures, ap (λ v. length (written v)) n.is, length_many k n.those, ap length m, length-append l1 (members n.those), c.push_str-in-Many.ensures.len, c.requires.room))

pub value-returns-in-Many-clause-written : goal.value-returns-in-Many-clause-written
value-returns-in-Many-clause-written t c v xs e =
    let k = c.in-Many.kind in
    let n = is v xs _ _ e (search rules) (search rules) c.in-Many.ensures in
    let m = c.members-after.ensures.written n.those xs n.many_are n.cells_are in
    let l0 = c.args.line.now.bytes in (
      m.0,
      rw (n.is, ← append_assoc l0 (opening k) (members n.those ++ closing k), ← append_assoc (l0 ++ opening k) (members n.those) (closing k), ← c.opening.ensures, ← c.closing.ensures, ← c.push_str-in-Many.ensures.bytes, ← m.1) c.push_str-in-Many-2.ensures.bytes,
    )

-- ---- members

pub members-returns-then-count-eq0-clause-written : goal.members-returns-then-count-eq0-clause-written
members-returns-then-count-eq0-clause-written t c vs xs m e =
    let z = none_left vs (sym m ∙ c.if-count-eq0.true) in
    (e ∙ ap (λ ws. ontos ws xs) z, rw z (sym (append-nil c.args.line.now.bytes)))

pub members-value-rest-requires : goal.members-value-rest-requires
members-value-rest-requires t c =
    (omega (arith, c.decreases), begins _ _ _ (first c.args.count c.args.cells.now (length c.args.line.now.bytes) c.requires c.if-count-eq0.false))

pub members-push_str-requires : goal.members-push_str-requires
members-push_str-requires t c =
    let x = next c.args.line.now.bytes c.requires c.if-count-eq0.false c.value-rest.ensures.written c.loop.invariant c.loop-test.true in
    (omega arith, omega (arith, x.room))

pub members-value-rest-requires-in-loop : goal.members-value-rest-requires-in-loop
members-value-rest-requires-in-loop t c =
    let x = next c.args.line.now.bytes c.requires c.if-count-eq0.false c.value-rest.ensures.written c.loop.invariant c.loop-test.true in
    (omega (arith, c.decreases, c.loop.invariant.shorter), subst (Begins c.loop.rest.now) (sym c.push_str.ensures.len) x)

pub members-loop-preserved : goal.members-loop-preserved
members-loop-preserved t c =
    goes_on c.args.line.now.bytes c.requires c.if-count-eq0.false c.value-rest.ensures.written c.loop.invariant
    c.value-rest-in-loop.result.now c.value-rest-in-loop.new.line.bytes c.loop-test.true c.value-rest-in-loop.ensures.shorter (rw (← c.push_str.ensures.bytes) c.value-rest-in-loop.ensures.written)

pub members-returns-clause-written : goal.members-returns-clause-written
members-returns-clause-written t c =
    ends c.args.line.now.bytes c.requires c.if-count-eq0.false c.value-rest.ensures.written c.loop.invariant c.loop-test.false
