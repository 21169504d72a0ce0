use Rattle.std.proofs.Common.{◌≡◌, ◌-◌, ◌<◌, ◌≤◌, List, [], ◌∷◌, ◌++◌, length, ℤ, Ordering, Less, Equal, Greater, sym, ap, ◌∙◌, arith, rules}
use Rattle.std.proofs.lemmas.List.{append_assoc, length-append}
use Rattle.values.specs.Value.{Value, row, cells, past, front, by_cells, compare}
use Rattle.values.proofs.Laws.{next, row_none}
use Rattle.values.specs.Sets.{insert}
use Rattle.sets.proofs.Members.{insert_less, insert_equal, insert_greater}
use Rattle.sets.proofs.Turned.{row-append}
use Rattle.sets.proofs.seek.Goals as goal
use Rattle.sets.proofs.seek.Goals.{else-loop-y-test, then-loop-y-test+in-Less}

-- the first value of what is left, and how it stands to v
seen : (ws : List Value) (v : Value) (rest x y : List ℤ) (o : Ordering) → rest ≡ row ws → x ≡ cells v → y ≡ front rest → o ≡ by_cells x y → 0 < length rest → (u : Value) × (zs : List Value) × (ws ≡ u ∷ zs) × (past 1 rest ≡ row zs) × (compare v u ≡ o)
seen ws v rest x y o er ex ey eo h =
    let n = next ws rest er h in
    (n.0, n.1, n.2, n.4, sym (eo ∙ (λ i. by_cells (ex i) ((ey ∙ n.3) i))))

-- how many cells the members passed have
passed : (us ts ws : List Value) (members rest : List ℤ) → length rest ≤ length members → members ≡ row us → us ≡ ts ++ ws → rest ≡ row ws → length (row ts) ≡ length members - length rest
passed us ts ws members rest l em eu er =
    let a = ap length em ∙ ap (λ l. length (row l)) eu ∙ ap length (row-append ts ws) ∙ length-append (row ts) (row ws) in
    omega (arith, ap length er)

pub loop-y-preserved : goal.loop-y-preserved
loop-y-preserved c = (
  omega (arith, ap length c.split.ensures.whole ∙ length-append c.split.result.0.now c.split.result.1.now),
  λ us v em ex.
      let h = c.loop-y.invariant.1 us v em ex in
      let t = seen h.1 v c.loop-y.rest.now c.args.x.now c.split.result.0.now Greater h.3 ex c.split.ensures.front c.in-Greater.ensures (search rules) in
      (h.0 ++ t.0 ∷ [], t.1, h.2 ∙ ap (λ l. h.0 ++ l) t.2 ∙ sym (append_assoc h.0 (t.0 ∷ []) t.1), c.split.ensures.back ∙ t.3, h.4 ∙ ap (λ l. h.0 ++ insert v l) t.2 ∙ ap (λ l. h.0 ++ l) (insert_greater v t.0 t.1 t.4) ∙ sym (append_assoc h.0 (t.0 ∷ []) (insert v t.1))),
)

pub returns-in-Equal : goal.returns-in-Equal
returns-in-Equal c =
    record {
      inside = tt;
      placed = λ us v em ex.
          let h = c.loop-y.invariant.1 us v em ex in
          let t = seen h.1 v c.loop-y.rest.now c.args.x.now c.split.result.0.now Equal h.3 ex c.split.ensures.front c.in-Equal.ensures (search rules) in
          h.4 ∙ ap (λ l. h.0 ++ insert v l) t.2 ∙ ap (λ l. h.0 ++ l) (insert_equal v t.0 t.1 t.4 ∙ sym t.2) ∙ sym h.2;
    }

pub returns : goal.returns
returns c =
    record {
      inside = omega arith;
      placed = λ us v em ex.
          let h = c.loop-y.invariant.1 us v em ex in
          let here : insert v h.1 ≡ v ∷ h.1 = elim c.loop-y-test.branch [
            | else-loop-y-test w ↦ let n : h.1 ≡ [] = row_none h.1 c.loop-y.rest.now h.3 (search rules) in ap (insert v) n ∙ ap (λ l. v ∷ l) (sym n)
            | then-loop-y-test+in-Less w ↦
                let t = seen h.1 v c.loop-y.rest.now c.args.x.now w.split.result.0.now Less h.3 ex w.split.ensures.front w.in-Less.ensures (search rules) in
                ap (insert v) t.2 ∙ insert_less v t.0 t.1 t.4 ∙ ap (λ l. v ∷ l) (sym t.2)
          ] in
          (h.0, h.1, h.2, passed us h.0 h.1 c.args.members.now c.loop-y.rest.now c.loop-y.invariant.0 em h.2 h.3, h.4 ∙ ap (λ l. h.0 ++ l) here);
    }
