-- What always has room: a part of a lawful value, or a set of its members.
use Rattle.std.proofs.Common.{◌≡◌, ℕ, zero, suc, ◌+◌, ◌*◌, ◌≤◌, Bool, true, false, cond, List, [], ◌∷◌, length, pos, ◌+ℤ◌, ◌-ℤ◌, Ok, Err, Result, sym, refl, ap, ◌∙◌, arith}
use Rattle.std.proofs.lemmas.List.{length-append}
use Rattle.std.proofs.lemmas.Bool.{and_parts}
use Rattle.syntax.specs.declared.Collection.{Collection}
use Rattle.syntax.specs.declared.Collection.TheVariants.{Set, Sequence}
use Rattle.syntax.specs.declared.Unary.{Unary}
use Rattle.syntax.specs.declared.Unary.TheVariants.{Not, Negate, Abs, Card, Len, Hd, Tl, Elems, Inds}
use Rattle.syntax.specs.declared.Binary.TheVariants.{Inter, Difference}
use Rattle.values.specs.declared.Fault.{Fault}
use Rattle.values.specs.declared.Fault.TheVariants.{TooLarge}
use Rattle.values.specs.declared.Operand.TheVariants.{Many}
use Rattle.values.specs.Value.{Value, number, truth, many, cells, row, of}
use Rattle.values.specs.Lawful.{Lawful}
use Rattle.values.specs.Sets.{member, insert, gathered, those, inter, difference}
use Rattle.values.specs.Numbers.{size, between}
use Rattle.values.specs.Operators.{is, operand, takes, taking, members, made, nth, tail, gives, results, unary, binary}
use Rattle.values.proofs.Laws.{cells_of, onto_is}
use Rattle.sets.proofs.Turned.{row-insert}
use Rattle.sequences.proofs.Rows.{cells-span}
use Rattle.operations.specs.Laws.{Room}
use Rattle.operations.proofs.Sorts.{many_is}
use Rattle.operations.proofs.Outcomes.{made_ok}
use Rattle.operations.proofs.Subjects.{size_is}

-- ---- cells

abbrev Fine : Result Value Fault → Type 0
Fine r = r ≡ Err TooLarge → ⊥

fine_ok : (v : Value) → Fine (Ok v)
fine_ok v e = let z : ◌≡◌ {A = ℕ} 0 1 = cc in omega arith

fine_made : (k : Collection) (vs : List Value) → 2 + length (row vs) ≤ 200 → Fine (made (of k vs))
fine_made k vs h e = fine_ok (of k vs) (sym (made_ok (of k vs) (omega (arith, h, ap length (cells_of k vs)))) ∙ e)

fine_taking : (b : Bool) (r : Result Value Fault) → (b ≡ true → Fine r) → Fine (taking b r)
fine_taking true r h e = h refl e
fine_taking false r h e = let z : ◌≡◌ {A = ℕ} 0 1 = cc in omega arith

fine_nth : (n : ℕ) (vs : List Value) → Fine (nth n vs)
fine_nth n [] e = let z : ◌≡◌ {A = ℕ} 0 1 = cc in omega arith
fine_nth zero (v ∷ vs) e = let z : ◌≡◌ {A = ℕ} 0 1 = cc in omega arith
fine_nth (suc zero) (v ∷ vs) e = let z : ◌≡◌ {A = ℕ} 0 1 = cc in omega arith
fine_nth (suc (suc n)) (v ∷ vs) e = fine_nth (suc n) vs e

more_cells : (v : Value) (vs : List Value) → length (row (v ∷ vs)) ≡ length (cells v) + length (row vs)
more_cells v vs = ap length (onto_is v (row vs)) ∙ length-append (cells v) (row vs)

two_cells : (v : Value) → 2 ≤ length (cells v)
two_cells (number z) = omega arith
two_cells (truth b) = omega arith
two_cells (many k vs) = omega arith

pairs : (vs : List Value) → 2 * length vs ≤ length (row vs)
pairs [] = omega arith
pairs (v ∷ vs) = omega (arith, pairs vs, more_cells v vs, two_cells v)

row-gathered : (ws vs : List Value) → length (row (gathered ws vs)) ≤ length (row ws) + length (row vs)
row-gathered ws [] = omega arith
row-gathered ws (v ∷ vs) = omega (arith, row-gathered (insert v ws) vs, row-insert v ws, more_cells v vs)

row_kept : (b : Bool) (v : Value) (us ws : List Value) → length (row ws) ≤ length (row us) → length (row (cond b (v ∷ ws) ws)) ≤ length (row (v ∷ us))
row_kept true v us ws h = omega (arith, h, more_cells v us, more_cells v ws)
row_kept false v us ws h = omega (arith, h, more_cells v us)

row_left : (b : Bool) (v : Value) (us ws : List Value) → length (row ws) ≤ length (row us) → length (row (cond b ws (v ∷ ws))) ≤ length (row (v ∷ us))
row_left true v us ws h = omega (arith, h, more_cells v us)
row_left false v us ws h = omega (arith, h, more_cells v us, more_cells v ws)

row_those : (b : Bool) (vs ws : List Value) → length (row (those b vs ws)) ≤ length (row vs)
row_those true [] ws = omega arith
row_those false [] ws = omega arith
row_those true (v ∷ vs) ws = row_kept (member v ws) v vs (those true vs ws) (row_those true vs ws)
row_those false (v ∷ vs) ws = row_left (member v ws) v vs (those false vs ws) (row_those false vs ws)

row_fits : (k : Collection) (v : Value) → Lawful v → is (Many k) v ≡ true → 2 + length (row (members v)) ≤ 200
row_fits k v l h = omega (arith, l.short, ap (λ x. length (cells x)) (many_is k v h) ∙ ap length (cells_of k (members v)))

-- ---- the operators

fine_tail : (vs : List Value) → 2 + length (row vs) ≤ 200 → Fine (tail vs)
fine_tail [] h e = let z : ◌≡◌ {A = ℕ} 0 1 = cc in omega arith
fine_tail (v ∷ vs) h e = fine_made Sequence vs (omega (arith, h, more_cells v vs)) e

fine_gives : (op : Unary) (v : Value) → Lawful v → is (operand op) v ≡ true → Fine (gives op v)
fine_gives Not v l h = fine_ok _
fine_gives Negate v l h = fine_ok _
fine_gives Abs v l h = fine_ok _
fine_gives Card v l h = fine_ok _
fine_gives Len v l h = fine_ok _
fine_gives Hd v l h = fine_nth 1 (members v)
fine_gives Tl v l h = fine_tail (members v) (row_fits Sequence v l h)
fine_gives Elems v l h = fine_made Set (gathered [] (members v)) (omega (arith, row-gathered [] (members v), row_fits Sequence v l h))
fine_gives Inds v l h =
    let n = length (members v) in
    fine_made Set (between (pos 1) (pos n)) (omega (arith, cells-span (pos 1) (size (pos n -ℤ pos 1 +ℤ pos 1)), size_is n, pairs (members v), row_fits Sequence v l h))

pub room : Room
unfolding unary binary
room =
    record {
      one = λ op v l. fine_taking (is (operand op) v) (gives op v) (fine_gives op v l);
      inter = λ v w l m. fine_taking (takes Inter v w) (results Inter v w) (λ h. let p = and_parts (is (Many Set) v) (is (Many Set) w) h in fine_made Set (inter (members v) (members w)) (omega (arith, row_those true (members v) (members w), row_fits Set v l p.0)));
      difference = λ v w l m. fine_taking (takes Difference v w) (results Difference v w) (λ h. let p = and_parts (is (Many Set) v) (is (Many Set) w) h in fine_made Set (difference (members v) (members w)) (omega (arith, row_those false (members v) (members w), row_fits Set v l p.0)));
    }
