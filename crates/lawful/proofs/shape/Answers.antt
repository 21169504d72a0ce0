use Rattle.std.proofs.Common.{◌≡◌, ◌+◌, ◌-◌, ◌&&◌, get_or, drop, pos, sym, refl, ap, ◌∙◌, inl, inr, arith, w32, SFits, rules}
use Rattle.std.proofs.lemmas.Int.{to_z-of_z}
use Rattle.std.proofs.lemmas.List.{take_rest}
use Rattle.values.specs.Value.{within}
use Rattle.lawful.specs.Shape.{shape, valid}
use Rattle.lawful.proofs.Whole.{shape_step, shape_stop}
use Rattle.lawful.proofs.shape.Goals as goal
use Rattle.lawful.proofs.shape.Goals.{then-pending-eq0-via-then-pending-eq0, then-pending-eq0-via-else-pending-eq0+then-pending-rest}

pub returns-then-pending-eq0 : goal.returns-then-pending-eq0
returns-then-pending-eq0 c = sym (shape_stop c.loop-rest.pending c.loop-rest.rest.now c.in-len2-up.len_at_least (elim c.then-pending-eq0.branch [ then-pending-eq0-via-then-pending-eq0 w ↦ inl w.if-pending-eq0.true | then-pending-eq0-via-else-pending-eq0+then-pending-rest w ↦ inr w.if-pending-rest.true ])) ∙ c.loop-rest.invariant.0

pub returns-then-not-valid : goal.returns-then-not-valid
returns-then-not-valid c =
    let xs = c.loop-rest.rest.now in
    let p = c.loop-rest.pending in
    let f : SFits w32 (get_or xs 0 (pos 0)) = search rules in
    let g : SFits w32 (get_or xs 1 (pos 0)) = search rules in
    let v : c.valid.result ≡ valid (get_or xs 0 (pos 0)) (get_or xs 1 (pos 0)) = simp to_z-of_z at c.valid.ensures in
    let m = within (get_or xs 0 (pos 0)) (get_or xs 1 (pos 0)) in
    sym (shape_step p m xs (pos 0) (omega arith) c.in-len2-up.len_at_least refl ∙ ap (λ b. b && shape (p - 1 + m) (drop 2 xs)) (sym v ∙ c.if-not-valid.true)) ∙ c.loop-rest.invariant.0

pub loop-rest-preserved : goal.loop-rest-preserved
loop-rest-preserved c =
    let xs = c.loop-rest.rest.now in
    let p = c.loop-rest.pending in
    let f : SFits w32 (get_or xs 0 (pos 0)) = search rules in
    let g : SFits w32 (get_or xs 1 (pos 0)) = search rules in
    let v : c.valid.result ≡ valid (get_or xs 0 (pos 0)) (get_or xs 1 (pos 0)) = simp to_z-of_z at c.valid.ensures in
    let e : c.members.result ≡ within (get_or xs 0 (pos 0)) (get_or xs 1 (pos 0)) = simp to_z-of_z at c.members.ensures in
    let n = p - 1 + c.members.result in (
      ap (shape n) (take_rest xs 2) ∙ sym (shape_step p c.members.result xs (pos 0) (omega arith) c.in-len2-up.len_at_least e ∙ ap (λ b. b && shape n (drop 2 xs)) (sym v ∙ c.if-not-valid.false)) ∙ c.loop-rest.invariant.0,
      omega arith,
    )
