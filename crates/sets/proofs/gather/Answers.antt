use Rattle.std.proofs.Common.{◌≡◌, ℕ, ◌+◌, ◌-◌, ◌<◌, ◌≤◌, List, [], ◌∷◌, ◌++◌, length, take, ℤ, pos, sym, refl, ap, ◌∙◌, arith, rules}
use borrow.Rule.Slice.PartMut.{post_of}
use Rattle.std.proofs.lemmas.List.{length-append, take-append-le, length-take, length-take-le}
use Rattle.syntax.specs.declared.Collection.TheVariants.{Set}
use Rattle.tables.specs.Items.{items, loan}
use Rattle.tables.proofs.Back.{in_front}
use Rattle.values.specs.Value.{Value, row, cells, of, front, past}
use Rattle.values.specs.Sets.{insert, gathered}
use Rattle.values.proofs.Laws.{next, row_none}
use Rattle.sets.proofs.Turned.{cells-insert}
use Rattle.sets.proofs.gather.Goals as goal

-- one turn: the first value of what is left stands behind the set so far
record Turn (us ws : List Value) (n m : ℕ) (out x more : List ℤ) : Type 0 where
  value : Value
  rest : List Value
  row_is : ws ≡ value ∷ rest
  more_is : more ≡ row rest
  part : take (m - 0) out ≡ cells (of Set us) ++ cells value
  long : length (cells (of Set us)) ≡ n
  short : length (cells value) ≡ length x
  taken : length (take (m - 0) out) ≡ n + length x

turn : (us ws : List Value) (n m : ℕ) (out old rest x more : List ℤ) → rest ≡ row ws → take n old ≡ cells (of Set us) → n ≤ length old → 0 < length rest → x ≡ front rest → more ≡ past 1 rest → take m out ≡ take n old ++ x → Turn us ws n m out x more
turn us ws n m out old rest x more er es l h ex em ep =
    let f = next ws rest er h in
    let z : m - 0 ≡ m = omega arith in
    let p = ap (λ k. take k out) z ∙ ep ∙ (λ i. es i ++ (ex ∙ f.3) i) in
    let g : length (cells (of Set us)) ≡ n = sym (ap length es) ∙ length-take-le n old l in
    record {
      value = f.0;
      rest = f.1;
      row_is = f.2;
      more_is = em ∙ f.4;
      part = p;
      long = g;
      short = sym (ap length (ex ∙ f.3));
      taken = omega (arith, ap length p ∙ length-append (cells (of Set us)) (cells f.0), ap length (ex ∙ f.3));
    }

pair_fits : (out : List ℤ) (n : ℕ) → take n out ≡ pos 2 ∷ pos 0 ∷ [] → n ≡ 2 → n ≤ length out
pair_fits out n e t = omega (arith, ap length e, length-take n out)

pub loop-rest-init : goal.loop-rest-init
loop-rest-init c =
    let begun : items c.begin.new.table ≡ pos 2 ∷ pos 0 ∷ [] = c.in_ok-begin.ensures.begun.0 ∙ ap (λ l. l ++ (pos 2 ∷ pos 0 ∷ [])) c.make-table.ensures.items in
    let two : c.len-n.result ≡ 2 = c.len-n.ensures ∙ ap length begun in
    let same : loan c.make-table.result ≡ loan c.begin.new.table = sym c.in_ok-begin.ensures.lent in (
      pair_fits _ _ (in_front c.begin.new.table _ (pos 2 ∷ pos 0 ∷ []) c.len-n.result (search rules) c.len-n.ensures begun) two,
      λ vs es l. (omega (arith, two), ([], vs, es, in_front c.begin.new.table _ (pos 2 ∷ pos 0 ∷ []) c.len-n.result (search rules) c.len-n.ensures begun, refl)),
    )

pub returns-in_err-n-clause-made : goal.returns-in_err-n-clause-made
returns-in_err-n-clause-made c = λ vs es l k.
    let h = c.loop-rest.invariant.1 vs es l in
    let some : 0 < length c.loop-rest.rest.now = search rules in
    let a = c.in_ok-m.ensures in
    let t = turn h.1.0 h.1.1 c.loop-rest.n c.in_ok-m.m c.append.new.out c.loop-rest.out c.loop-rest.rest.now c.split.result.0.now c.split.result.1.now h.1.2 h.1.3 c.loop-rest.invariant.0 some c.split.ensures.front c.split.ensures.back a.0 in
    let w = ap length c.split.ensures.whole ∙ length-append c.split.result.0.now c.split.result.1.now in
    let g = c.in_err-n.ensures.made Set h.1.0 t.value t.part t.long (omega (arith, h.0)) in
    absurd (omega (arith, g, cells-insert t.value h.1.0, t.long, t.short, w, h.0))

pub loop-rest-preserved : goal.loop-rest-preserved
loop-rest-preserved c =
    let x = c.split.result.0.now in
    let part = c.grow.new.s in
    let post = post_of 0 (c.in_ok-m.m - 0) c.append.new.out in
    let a = c.in_ok-m.ensures in
    let i = c.in_ok-n.ensures.inside in
    let k : c.in_ok-n.n ≤ length part = omega (arith, i, c.grow.auto.s) in
    let w = ap length c.split.ensures.whole ∙ length-append x c.split.result.1.now in (
      omega (arith, k, length-append part post),
      λ vs es l.
          let h = c.loop-rest.invariant.1 vs es l in
          let some : 0 < length c.loop-rest.rest.now = search rules in
          let t = turn h.1.0 h.1.1 c.loop-rest.n c.in_ok-m.m c.append.new.out c.loop-rest.out c.loop-rest.rest.now x c.split.result.1.now h.1.2 h.1.3 c.loop-rest.invariant.0 some c.split.ensures.front c.split.ensures.back a.0 in
          let g = c.in_ok-n.ensures.made Set h.1.0 t.value t.part t.long (omega (arith, h.0)) in (
            omega (arith, h.0, w, t.taken, i),
            (insert t.value h.1.0, t.rest, t.more_is, take-append-le c.in_ok-n.n part post k ∙ g.0, ap (gathered h.1.0) (sym t.row_is) ∙ h.1.4),
          ),
    )

pub returns-clause-made : goal.returns-clause-made
returns-clause-made c = λ vs es l k.
    let h = c.loop-rest.invariant.1 vs es l in
    let n : h.1.1 ≡ [] = row_none h.1.1 c.loop-rest.rest.now h.1.2 (search rules) in
    (h.1.3 ∙ ap (λ us. cells (of Set us)) (sym (ap (gathered h.1.0) n) ∙ h.1.4), omega (arith, h.0))
