use Rattle.std.proofs.Common.{◌≡◌, ◌+◌, ◌∷◌, length, get_or, pos, ◌+ℤ◌, sym, refl, ap, ◌∙◌, arith, w32, SFits, rules}
use Rattle.std.proofs.lemmas.List.{length-set, take_all}
use Rattle.std.proofs.lemmas.Int.{to_z-of_z, ints}
use Rattle.values.specs.Value.{cells, row, of, code}
use Rattle.values.specs.Operators.{grown}
use Rattle.sets.proofs.Turned.{pair, fewer, grown_cells, grown_long, raised}
use Rattle.sets.proofs.grow.Goals as goal
use Rattle.sets.proofs.grow.Goals.{then-s-gt200-via-then-s-gt200, then-s-gt200-via-else-s-gt200+then-s-gt200-2}

pub returns-then-n-lt2 : goal.returns-then-n-lt2
returns-then-n-lt2 c =
    record {
      inside = tt;
      made = λ k us v es en ln. let p = pair k us v c.args.s.now c.args.n es en in absurd (omega (arith, c.then-n-lt2.either, p.long, p.all));
      unchanged = refl;
    }

pub returns-in_default : goal.returns-in_default
returns-in_default c =
    record {
      inside = omega arith;
      made = λ k us v es en ln.
          let s = c.args.s.now in
          let p = pair k us v s c.args.n es en in
          let f : SFits w32 (get_or s 0 (pos 0)) = search rules in
          let q = simp to_z-of_z at c.in_default.ensures.placed in
          let h = q k us v p.first p.members p.behind in
          (p.front ∙ ap (λ l. cells (of k l)) (sym h), ln);
      unchanged = tt;
    }

pub returns-then-s-gt200 : goal.returns-then-s-gt200
returns-then-s-gt200 c =
    record {
      inside = tt;
      made = λ k us v es en ln.
          let s = c.args.s.now in
          let p = pair k us v s c.args.n es en in
          let f : SFits w32 (get_or s 0 (pos 0)) = search rules in
          let g : SFits w32 (get_or s 1 (pos 0)) = omega (arith, ints, fewer us, p.long, p.second) in
          let q = simp to_z-of_z at c.in-Some.ensures.placed in
          let h = q k us v p.first p.members p.behind in
          let l = grown_long k us h.0 h.1 (grown k us v) v s c.args.n p h.2 h.4 in
          elim c.then-s-gt200.branch [
            | then-s-gt200-via-then-s-gt200 w ↦ omega (arith, l, w.if-s-gt200.true)
            | then-s-gt200-via-else-s-gt200+then-s-gt200-2 w ↦ absurd (omega (arith, ints, fewer us, p.long, p.second, w.if-s-gt200-2.true))
          ];
      unchanged = refl;
    }

pub returns : goal.returns
returns c =
    let s = c.args.s.now in
    record {
      inside = omega (arith, simp length-set at c.turn.auto.s);
      made = λ k us v es en ln.
          let p = pair k us v s c.args.n es en in
          let f : SFits w32 (get_or s 0 (pos 0)) = search rules in
          let g : SFits w32 (get_or s 1 (pos 0)) = search rules in
          let q = simp to_z-of_z at c.in-Some.ensures.placed in
          let h = q k us v p.first p.members p.behind in
          let z : get_or s 1 (pos 0) +ℤ pos 1 ≡ pos (length us + 1) = omega (arith, ints, p.second) in
          let x : SFits w32 (get_or s 1 (pos 0) +ℤ pos 1) = omega (arith, ints, fewer us, p.long, p.second) in
          let t = simp to_z-of_z at c.turn.ensures in
          let y = t (code k ∷ pos (length us + 1) ∷ row h.0) (row h.1) (cells v) (raised k us h.0 h.1 v s c.args.n _ p h.2 z) (omega (arith, h.3)) (omega (arith, p.all, length-set s 1 (get_or s 1 (pos 0) +ℤ pos 1))) in
          (take_all (length c.turn.new.s) c.turn.new.s (omega arith) ∙ y ∙ sym (grown_cells k us h.0 h.1 (grown k us v) v h.2 h.4), omega (arith, simp length-set at c.turn.auto.s));
      unchanged = tt;
    }
