use Rattle.std.proofs.Common.{◌≡◌, ◌<◌, List, [], ◌∷◌, length, pos, ◌≤ℤ◌, ◌<ℤ◌, sym, refl, ap, ◌∙◌, arith, w32, SFits, rules}
use Rattle.std.proofs.lemmas.Int.{to_z-of_z, ints}
use Rattle.std.proofs.lemmas.List.{nil_from_length}
use Rattle.std.proofs.lemmas.Result.{MatchResult-weaker}
use Rattle.syntax.specs.declared.Collection.TheVariants.{Sequence}
use Rattle.values.specs.Value.{Value, cells, of}
use Rattle.values.specs.Operators.{tail}
use Rattle.values.specs.Cells.{in_cells}
use Rattle.operations.proofs.Outcomes.{second, made_told}
use Rattle.operations.proofs.tail.Goals as goal

pub returns-then-content-lt1 : goal.returns-then-content-lt1
returns-then-content-lt1 c =
    record {
      inside = tt;
      spared = λ _. refl;
      gives = λ vs e.
          let f : SFits w32 c.content.result = search rules in
          let g = c.content.ensures ∙ second Sequence vs c.args.a.now e in
          let t : c.content.result <ℤ pos 1 = let u = simp to_z-of_z at c.if-content-lt1.true in omega (arith, ints) in
          let z : length vs ≡ 0 = omega (arith, ints, g) in
          sym (ap (λ l. in_cells (tail l)) (nil_from_length vs z));
    }

some : (vs : List Value) → 0 < length vs → (v : Value) × (ws : List Value) × (vs ≡ v ∷ ws)
some [] h = absurd (omega arith)
some (v ∷ vs) h = (v, vs, refl)

pub returns-clause-gives : goal.returns-clause-gives
returns-clause-gives c = λ vs e.
    let f : SFits w32 c.content.result = search rules in
    let g = c.content.ensures ∙ second Sequence vs c.args.a.now e in
    let t : pos 1 ≤ℤ c.content.result = let u = simp to_z-of_z at c.if-content-lt1.false in omega (arith, ints) in
    let v = some vs (omega (arith, ints, g)) in
    let h = c.tail.ensures.made v.0 v.1 (e ∙ ap (λ l. cells (of Sequence l)) v.2) in
    let l : length c.tail.new.out ≡ 200 = omega (arith, c.told-out, c.tail.auto.out) in
    made_told c.tail.result c.map_err.result c.map_err.ensures.cases c.tail.new.out (of Sequence v.1) l (MatchResult-weaker c.tail.result h (λ _ p. p) (λ _ p. omega (arith, p, c.told-out))) ∙ sym (ap (λ l. in_cells (tail l)) v.2)
