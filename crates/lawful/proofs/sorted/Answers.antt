use Rattle.std.proofs.Common.{◌≡◌, ◌≤◌, ◌&&◌, length, get_or, drop, pos, sym, ap, ◌∙◌, w32, SFits, rules}
use Rattle.std.proofs.lemmas.Int.{to_z-of_z}
use Rattle.std.proofs.lemmas.List.{take_rest}
use Rattle.lawful.specs.Shape.{members, sorted}
use Rattle.lawful.proofs.Whole.{sorted_step}
use Rattle.lawful.proofs.sorted.Goals as goal

pub returns-then-not-in_order : goal.returns-then-not-in_order
returns-then-not-in_order c =
    let xs = c.loop-rest.rest.now in
    let l : 2 ≤ length xs = search rules in
    let f : SFits w32 (get_or xs 0 (pos 0)) = search rules in
    let g : SFits w32 (get_or xs 1 (pos 0)) = search rules in
    let e : c.in_order.result ≡ members (get_or xs 0 (pos 0)) (get_or xs 1 (pos 0)) (drop 2 xs) = simp (to_z-of_z, take_rest) at c.in_order.ensures in
    sym (sym c.loop-rest.invariant ∙ sorted_step xs (pos 0) l ∙ ap (λ b. b && sorted (drop 2 xs)) (sym e ∙ c.if-not-in_order.true))

pub loop-rest-preserved : goal.loop-rest-preserved
loop-rest-preserved c =
    let xs = c.loop-rest.rest.now in
    let l : 2 ≤ length xs = search rules in
    let f : SFits w32 (get_or xs 0 (pos 0)) = search rules in
    let g : SFits w32 (get_or xs 1 (pos 0)) = search rules in
    let e : c.in_order.result ≡ members (get_or xs 0 (pos 0)) (get_or xs 1 (pos 0)) (drop 2 xs) = simp (to_z-of_z, take_rest) at c.in_order.ensures in
    ap sorted (take_rest xs 2) ∙ sym (sorted_step xs (pos 0) l ∙ ap (λ b. b && sorted (drop 2 xs)) (sym e ∙ c.if-not-in_order.false)) ∙ c.loop-rest.invariant
