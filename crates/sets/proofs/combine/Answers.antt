use Rattle.std.proofs.Common.{◌≡◌, ◌^◌, ◌<◌, [], ◌∷◌, ◌++◌, length, pos, sym, ap, ◌∙◌, arith, w32, to_z, rules}
use Rattle.std.proofs.lemmas.List.{length-drop}
use Rattle.std.proofs.lemmas.Result.{MatchResult-from_err}
use Rattle.std.proofs.lemmas.Int.{to_z_pos}
use Rattle.syntax.specs.declared.Collection.TheVariants.{Set}
use Rattle.tables.proofs.Back.{in_front}
use Rattle.tables.specs.Items.{items, room, loan}
use Rattle.values.specs.Value.{cells, of, row}
use Rattle.values.proofs.Laws.{cells_of, inner_of}
use Rattle.sets.specs.Walk.{merge, keeps, blended}
use Rattle.sets.proofs.Turns.{headed}
use Rattle.sets.proofs.Members.{blends}
use Rattle.sets.proofs.combine.Goals as goal

pub returns-in_err-made-clause-made : goal.returns-in_err-made-clause-made
returns-in_err-made-clause-made c = λ us ts ea eb la lb oa ob.
    MatchResult-from_err _ _ _ c.from_residual-in_err-made.ensures.0 (λ _.
    let x = inner_of Set us c.args.a.now c.inner.result.now ea c.inner.ensures in
    let y = inner_of Set ts c.args.b.now c.inner-2.result.now eb c.inner-2.ensures in
    let h = c.in_err-made.ensures.made us ts x y in
    let k = ap length (cells_of Set (merge (keeps c.args.op) us ts)) in
    let e = ap (λ l. length (cells (of Set l))) (blends c.args.op us ts oa ob) in
    let i : length (items c.begin.new.table) ≡ 2 = search rules in
    let r : room c.begin.new.table ≡ length c.args.out.now = search rules in
    omega (arith, h, k, e, i, r))

pub returns-clause-made : goal.returns-clause-made
returns-clause-made c = λ us ts ea eb la lb oa ob.
    let x = inner_of Set us c.args.a.now c.inner.result.now ea c.inner.ensures in
    let y = inner_of Set ts c.args.b.now c.inner-2.result.now eb c.inner-2.ensures in
    let h = c.in_ok-made.ensures.made us ts x y in
    let i = c.in_ok-made.ensures.inside in
    let n = c.in_ok-made.made in
    let small : n < 2 ^ 31 = omega (arith, i, ap length c.inner.ensures, ap length c.inner-2.ensures, length-drop 2 c.args.a.now, length-drop 2 c.args.b.now) in
    let begun = c.in_ok-begin.ensures.begun.0 ∙ ap (λ l. l ++ (pos 2 ∷ pos 0 ∷ [])) c.make-table.ensures.items in
    let same : loan c.make-table.result ≡ loan c.set.new.self = sym (c.set.ensures.lent ∙ c.in_ok-made.ensures.lent ∙ c.in_ok-begin.ensures.lent) in
    in_front c.set.new.self _ (cells (of Set (blended c.args.op us ts))) c.len.result (search rules) c.len.ensures (headed (items c.weave.new.table) (items c.set.new.self) n c.set.result (to_z w32 n) (merge (keeps c.args.op) us ts) c.set.ensures.items c.set.ensures.test (h.0 ∙ ap (λ l. l ++ row (merge (keeps c.args.op) us ts)) begun) h.1 (to_z_pos w32 n small) ∙ ap (λ l. cells (of Set l)) (blends c.args.op us ts oa ob))
