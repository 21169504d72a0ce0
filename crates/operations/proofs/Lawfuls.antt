-- What is made of lawful values is lawful.
use Rattle.std.proofs.Common.{◌≡◌, ℕ, zero, suc, ◌/◌, ◌%◌, ◌^◌, ◌<◌, ◌≤◌, Bool, true, false, cond, not, ◌&&◌, eqb, List, [], ◌∷◌, ◌++◌, length, ℤ, pos, negsuc, ◌+ℤ◌, ◌-ℤ◌, ◌*ℤ◌, neg_ℤ, nat_abs, ◌<ℤ◌, Ok, Err, Result, Ordering, Less, Equal, Greater, sym, refl, ap, ◌∙◌, subst, mod-lt, div-le_self, arith}
use native.Mathlib.Nat.{mod-le}
use lib.IntN.{*ℤ-zero}
use lib.Signed.{quot_z, rem_z}
use Rattle.std.proofs.lemmas.Int.{ints}
use Rattle.std.proofs.lemmas.Bool.{lt-ltb, ltb-true, leb-true, eqb-false, and_parts, and_from}
use Rattle.std.specs.Ordering.{is_lt, ordering_then, MatchOrdering, int_cmp}
use Rattle.std.specs.Cmp.{int_ranks}
use Rattle.syntax.specs.declared.Collection.{Collection}
use Rattle.syntax.specs.declared.Collection.TheVariants.{Set, Sequence, Tuple}
use Rattle.syntax.specs.declared.Unary.{Unary}
use Rattle.syntax.specs.declared.Unary.TheVariants.{Not, Negate, Abs, Card, Len, Hd, Tl, Elems, Inds}
use Rattle.syntax.specs.declared.Binary.{Binary}
use Rattle.syntax.specs.declared.Binary.TheVariants.{Iff, Equal as Eq, NotEqual, Less as Lt, LessEqual, Greater as Gt, GreaterEqual, Subset, ProperSubset, InSet, NotInSet, Plus, Minus, Union, Difference, Concat, Times, Div, Rem, Mod, Inter, Apply}
use Rattle.values.specs.declared.Fault.{Fault}
use Rattle.values.specs.declared.Fault.TheVariants.{OutOfRange, DivisionByZero, TooLarge}
use Rattle.values.specs.declared.Operand.TheVariants.{Number, Many}
use Rattle.values.specs.Value.{Value, number, Values, none, more, cells, of, list, pack, compare}
use Rattle.values.specs.Lawful.{Lawful, in_range, fits, ascending, is_in_order, ranged, rangeds, ordered, ordereds}
use Rattle.values.specs.Sets.{member, insert, gathered, those, union, inter, difference}
use Rattle.values.specs.Numbers.{quotient, remainder, modulus, span, size, between}
use Rattle.values.specs.Operators.{is, operand, left, right, takes, taking, number_of, truth_of, members, calculated, divided, made, nth, at, tail, answer, gives, results, unary, binary, select, range, grow, grown}
use Rattle.values.proofs.Laws.{cells_of}
use Rattle.sets.proofs.Members.{sorted_insert, sorted_gathered, sorted_those, insert_less, insert_equal, insert_greater}
use Rattle.sets.proofs.Order.{sorted_from, to_ascending}
use Rattle.numbers.proofs.Quotients.{rem_is, neg_pos, pos_neg, same}
use Rattle.operations.specs.Laws.{Sound, Lawfuls}
use Rattle.operations.proofs.Sorts.{many_is, few, in_range_lem}
use Rattle.operations.proofs.Outcomes.{nth_short}

-- ---- a test of every value of a row

module _ (f : Value → Bool) where
  abbrev pub alls : List Value → Bool
  alls [] = true
  alls (v ∷ vs) = f v && alls vs

  alls_insert : (v : Value) (ws : List Value) → f v ≡ true → alls ws ≡ true → alls (insert v ws) ≡ true
  alls_insert v [] p q = and_from (f v) true p refl
  alls_insert v (w ∷ ws) p q =
      let h = and_parts (f w) (alls ws) q in
      go (compare v w) refl (alls_insert v ws p h.1) h.0
    where
      go : (o : Ordering) → compare v w ≡ o → alls (insert v ws) ≡ true → f w ≡ true → alls (insert v (w ∷ ws)) ≡ true
      go Less e ih h = ap alls (insert_less v w ws e) ∙ and_from (f v) (alls (w ∷ ws)) p q
      go Equal e ih h = ap alls (insert_equal v w ws e) ∙ q
      go Greater e ih h = ap alls (insert_greater v w ws e) ∙ and_from (f w) (alls (insert v ws)) h ih

  alls_gathered : (ws vs : List Value) → alls ws ≡ true → alls vs ≡ true → alls (gathered ws vs) ≡ true
  alls_gathered ws [] p q = p
  alls_gathered ws (v ∷ vs) p q =
      let h = and_parts (f v) (alls vs) q in
      alls_gathered (insert v ws) vs (alls_insert v ws h.0 p) h.1

  alls_kept : (b : Bool) (v : Value) (us ws : List Value) → alls (v ∷ us) ≡ true → alls ws ≡ true → alls (cond b (v ∷ ws) ws) ≡ true
  alls_kept true v us ws p q = and_from (f v) (alls ws) (and_parts (f v) (alls us) p).0 q
  alls_kept false v us ws p q = q

  alls_left : (b : Bool) (v : Value) (us ws : List Value) → alls (v ∷ us) ≡ true → alls ws ≡ true → alls (cond b ws (v ∷ ws)) ≡ true
  alls_left true v us ws p q = q
  alls_left false v us ws p q = and_from (f v) (alls ws) (and_parts (f v) (alls us) p).0 q

  alls_those : (b : Bool) (vs ws : List Value) → alls vs ≡ true → alls (those b vs ws) ≡ true
  alls_those true [] ws p = refl
  alls_those false [] ws p = refl
  alls_those true (v ∷ vs) ws p = alls_kept (member v ws) v vs (those true vs ws) p (alls_those true vs ws (and_parts (f v) (alls vs) p).1)
  alls_those false (v ∷ vs) ws p = alls_left (member v ws) v vs (those false vs ws) p (alls_those false vs ws (and_parts (f v) (alls vs) p).1)

  alls_append : (vs ws : List Value) → alls vs ≡ true → alls ws ≡ true → alls (vs ++ ws) ≡ true
  alls_append [] ws p q = q
  alls_append (v ∷ vs) ws p q =
      let h = and_parts (f v) (alls vs) p in
      and_from (f v) (alls (vs ++ ws)) h.0 (alls_append vs ws h.1 q)

  alls_nth : (n : ℕ) (vs : List Value) (v : Value) → alls vs ≡ true → nth n vs ≡ Ok v → f v ≡ true
  alls_nth n [] v p e = cc
  alls_nth zero (w ∷ vs) v p e = cc
  alls_nth (suc zero) (w ∷ vs) v p e = let h : w ≡ v = cc in ap f (sym h) ∙ (and_parts (f w) (alls vs) p).0
  alls_nth (suc (suc n)) (w ∷ vs) v p e = alls_nth (suc n) vs v (and_parts (f w) (alls vs) p).1 e

ranged_all : (vs : Values) → rangeds vs ≡ alls ranged (list vs)
ranged_all none = refl
ranged_all (more v vs) = ap (λ b. ranged v && b) (ranged_all vs)

ordered_all : (vs : Values) → ordereds vs ≡ alls ordered (list vs)
ordered_all none = refl
ordered_all (more v vs) = ap (λ b. ordered v && b) (ordered_all vs)

list_pack : (vs : List Value) → list (pack vs) ≡ vs
list_pack [] = refl
list_pack (v ∷ vs) = ap (λ l. v ∷ l) (list_pack vs)

-- ---- what a lawful value is made of, and what makes one

record Good (k : Collection) (vs : List Value) : Type 0 where
  numbers : alls ranged vs ≡ true
  sets : alls ordered vs ≡ true
  order : is_in_order k vs ≡ true

of_good : (k : Collection) (vs : List Value) → Good k vs → length (cells (of k vs)) ≤ 200 → Lawful (of k vs)
of_good k vs g s =
    record {
      numbers = ranged_all (pack vs) ∙ ap (alls ranged) (list_pack vs) ∙ g.numbers;
      sets = and_from (is_in_order k (list (pack vs))) (ordereds (pack vs)) (ap (is_in_order k) (list_pack vs) ∙ g.order) (ordered_all (pack vs) ∙ ap (alls ordered) (list_pack vs) ∙ g.sets);
      short = s;
    }

good_of : (k : Collection) (vs : List Value) → Lawful (of k vs) → Good k vs
good_of k vs l =
    let h = and_parts (is_in_order k (list (pack vs))) (ordereds (pack vs)) l.sets in
    record {
      numbers = ap (alls ranged) (sym (list_pack vs)) ∙ sym (ranged_all (pack vs)) ∙ l.numbers;
      sets = ap (alls ordered) (sym (list_pack vs)) ∙ sym (ordered_all (pack vs)) ∙ h.1;
      order = ap (is_in_order k) (sym (list_pack vs)) ∙ h.0;
    }

good_in : (k : Collection) (v : Value) → Lawful v → is (Many k) v ≡ true → Good k (members v)
good_in k v l h = good_of k (members v) (subst Lawful (many_is k v h) l)

sound_made : (k : Collection) (vs : List Value) → Good k vs → Sound (made (of k vs))
sound_made k vs g = go (fits (of k vs)) refl
  where
    go : (b : Bool) → fits (of k vs) ≡ b → Sound (cond b (Ok (of k vs)) (Err TooLarge))
    go true e = of_good k vs g (leb-true (length (cells (of k vs))) 200 e)
    go false e = tt

sound_truth : (b : Bool) → Sound (answer b)
sound_truth b = record { numbers = refl; sets = refl; short = omega arith }

sound_number : (z : ℤ) → in_range z ≡ true → Lawful (number z)
sound_number z h = record { numbers = h; sets = refl; short = omega arith }

sound_calculated : (z : ℤ) → Sound (calculated z)
sound_calculated z = go (in_range z) refl
  where
    go : (b : Bool) → in_range z ≡ b → Sound (cond b (Ok (number z)) (Err OutOfRange))
    go true e = sound_number z e
    go false e = tt

sound_nth : (k : Collection) (v : Value) (n : ℕ) → Lawful v → is (Many k) v ≡ true → Sound (nth n (members v))
sound_nth k v n l h = go (nth n (members v)) refl
  where
    go : (o : Result Value Fault) → nth n (members v) ≡ o → Sound o
    go (Err f) e = tt
    go (Ok w) e =
        let g = good_in k v l h in
        record {
          numbers = alls_nth ranged n (members v) w g.numbers e;
          sets = alls_nth ordered n (members v) w g.sets e;
          short = omega (arith, l.short, nth_short n (members v) w e, ap (λ x. length (cells x)) (many_is k v h) ∙ ap length (cells_of k (members v)));
        }

-- ---- numbers

small : (y z : ℤ) → nat_abs y ≤ nat_abs z → in_range z ≡ true → in_range y ≡ true
small y z h r = lt-ltb (nat_abs y) (2 ^ 31) (omega (arith, h, ltb-true (nat_abs z) (2 ^ 31) r))

neg_size : (z : ℤ) → nat_abs (neg_ℤ z) ≤ nat_abs z
neg_size (pos zero) = omega arith
neg_size (pos (suc n)) = omega arith
neg_size (negsuc n) = omega arith

quot_size : (a b : ℤ) → nat_abs (quot_z a b) ≤ nat_abs a
quot_size (pos a) (pos b) = div-le_self a b
quot_size (pos a) (negsuc b) = omega (arith, neg_size (pos (a / suc b)), div-le_self a (suc b))
quot_size (negsuc a) (pos b) = omega (arith, neg_size (pos (suc a / b)), div-le_self (suc a) b)
quot_size (negsuc a) (negsuc b) = div-le_self (suc a) (suc b)

rem_size : (a b : ℤ) → nat_abs (remainder a b) ≤ nat_abs a
rem_size a b = omega (arith, ap nat_abs (rem_is a b), go a)
  where
    go : (a : ℤ) → nat_abs (rem_z a b) ≤ nat_abs a
    go (pos a) = mod-le a (nat_abs b)
    go (negsuc a) = omega (arith, neg_size (pos (suc a % nat_abs b)), mod-le (suc a) (nat_abs b))

sub_size : (a b c : ℕ) → a ≤ c → b ≤ c → nat_abs (pos a -ℤ pos b) ≤ c
sub_size a b c h k = omega (arith, ints)

mod_size : (a b : ℤ) → (b ≡ pos 0 → ⊥) → nat_abs (modulus a b) ≤ nat_abs b
mod_size (pos a) (pos zero) n = absurd (n refl)
mod_size (negsuc a) (pos zero) n = absurd (n refl)
mod_size (pos a) (pos (suc b)) n =
    let l : a % suc b < suc b = mod-lt a (omega arith) in
    omega (arith, ap nat_abs (same (pos a) (pos (suc b)) refl))
mod_size (negsuc a) (pos (suc b)) n =
    let l : a % suc b < suc b = mod-lt a (omega arith) in
    omega (arith, ap nat_abs (neg_pos a b), sub_size b (a % suc b) b (omega arith) (omega arith))
mod_size (pos zero) (negsuc b) n = omega (arith, ints, *ℤ-zero (negsuc b))
mod_size (pos (suc a)) (negsuc b) n =
    let l : a % suc b < suc b = mod-lt a (omega arith) in
    omega (arith, ap nat_abs (pos_neg a b), sub_size (a % suc b) b b (omega arith) (omega arith))
mod_size (negsuc a) (negsuc b) n =
    let l : suc a % suc b < suc b = mod-lt (suc a) (omega arith) in
    omega (arith, ap nat_abs (same (negsuc a) (negsuc b) refl), neg_size (pos (suc a % suc b)))

sound_divided : (b z : ℤ) → ((b ≡ pos 0 → ⊥) → in_range z ≡ true) → Sound (divided b z)
sound_divided b z h = go (eqb (nat_abs b) 0) refl
  where
    go : (t : Bool) → eqb (nat_abs b) 0 ≡ t → Sound (cond t (Err DivisionByZero) (Ok (number z)))
    go true e = tt
    go false e = sound_number z (h (λ p. eqb-false (nat_abs b) 0 e (ap nat_abs p)))

-- ---- intervals

less_rank : (x y : ℤ) → x <ℤ y → int_cmp x y ≡ Less
less_rank x y h = go (int_cmp x y) (int_ranks x y)
  where
    go : (o : Ordering) → MatchOrdering o (x <ℤ y) (x ≡ y) (y <ℤ x) → o ≡ Less
    go Less r = refl
    go Equal r = absurd (omega (arith, ints, h, r))
    go Greater r = absurd (omega (arith, ints, h, r))

next_above : (a : ℤ) → compare (number a) (number (a +ℤ pos 1)) ≡ Less
next_above a = ap (λ o. ordering_then o Equal) (less_rank a (a +ℤ pos 1) (omega (arith, ints)))

span_ascends : (a : ℤ) (n : ℕ) → ascending (span a n) ≡ true
span_ascends a zero = refl
span_ascends a (suc zero) = refl
span_ascends a (suc (suc n)) = (λ i. is_lt (next_above a i) && ascending (span (a +ℤ pos 1) (suc n))) ∙ span_ascends (a +ℤ pos 1) (suc n)

span_ordered : (a : ℤ) (n : ℕ) → alls ordered (span a n) ≡ true
span_ordered a zero = refl
span_ordered a (suc n) = span_ordered (a +ℤ pos 1) n

span_ranged : (n : ℕ) (a : ℤ) → ((i : ℕ) → i < n → in_range (a +ℤ pos i) ≡ true) → alls ranged (span a n) ≡ true
span_ranged zero a h = refl
span_ranged (suc n) a h =
    let e : a +ℤ pos 0 ≡ a = omega (arith, ints) in
    and_from (in_range a) (alls ranged (span (a +ℤ pos 1) n)) (ap in_range (sym e) ∙ h 0 (omega arith)) (span_ranged n (a +ℤ pos 1) (λ i l. let f : a +ℤ pos 1 +ℤ pos i ≡ a +ℤ pos (suc i) = omega (arith, ints) in ap in_range f ∙ h (suc i) (omega arith)))

good_between : (a b : ℤ) → in_range a ≡ true → in_range b ≡ true → Good Set (between a b)
good_between a b p q =
    let n = size (b -ℤ a +ℤ pos 1) in
    record {
      numbers = span_ranged n a (λ i l. inside (b -ℤ a +ℤ pos 1) refl i l);
      sets = span_ordered a n;
      order = span_ascends a n;
    }
  where
    inside : (z : ℤ) → b -ℤ a +ℤ pos 1 ≡ z → (i : ℕ) → i < size z → in_range (a +ℤ pos i) ≡ true
    inside (pos n) e i l =
        let s = ltb-true (nat_abs a) (2 ^ 31) p in
        let t = ltb-true (nat_abs b) (2 ^ 31) q in
        lt-ltb (nat_abs (a +ℤ pos i)) (2 ^ 31) (omega (arith, ints, e, l))
    inside (negsuc n) e i l = absurd (omega arith)

-- ---- the operators

sound_taking : (b : Bool) (r : Result Value Fault) → (b ≡ true → Sound r) → Sound (taking b r)
sound_taking true r h = h refl
sound_taking false r h = tt

good_tail : (v : Value) (vs : List Value) → Good Sequence (v ∷ vs) → Good Sequence vs
good_tail v vs g =
    record {
      numbers = (and_parts (ranged v) (alls ranged vs) g.numbers).1;
      sets = (and_parts (ordered v) (alls ordered vs) g.sets).1;
      order = refl;
    }

sound_tail : (vs : List Value) → Good Sequence vs → Sound (tail vs)
sound_tail [] g = tt
sound_tail (v ∷ vs) g = sound_made Sequence vs (good_tail v vs g)

good_gathered : (ws vs : List Value) (k : Collection) → Good Set ws → Good k vs → Good Set (gathered ws vs)
good_gathered ws vs k g h =
    record {
      numbers = alls_gathered ranged ws vs g.numbers h.numbers;
      sets = alls_gathered ordered ws vs g.sets h.sets;
      order = to_ascending (gathered ws vs) (sorted_gathered ws vs (sorted_from ws g.order));
    }

good_those : (b : Bool) (vs ws : List Value) → Good Set vs → Good Set (those b vs ws)
good_those b vs ws g =
    record {
      numbers = alls_those ranged b vs ws g.numbers;
      sets = alls_those ordered b vs ws g.sets;
      order = to_ascending (those b vs ws) (sorted_those b vs ws (sorted_from vs g.order));
    }

good_none : Good Set []
good_none = record { numbers = refl; sets = refl; order = refl }

good_append : (k : Collection) (vs ws : List Value) → alls ranged vs ≡ true → alls ordered vs ≡ true → alls ranged ws ≡ true → alls ordered ws ≡ true → is_in_order k (vs ++ ws) ≡ true → Good k (vs ++ ws)
good_append k vs ws p q r s o =
    record {
      numbers = alls_append ranged vs ws p r;
      sets = alls_append ordered vs ws q s;
      order = o;
    }

count_in_range : (k : Collection) (v : Value) → Lawful v → is (Many k) v ≡ true → in_range (pos (length (members v))) ≡ true
count_in_range k v l h = lt-ltb (length (members v)) (2 ^ 31) (omega (arith, few k v l h))

sound_gives : (op : Unary) (v : Value) → Lawful v → is (operand op) v ≡ true → Sound (gives op v)
sound_gives Not v l h = sound_truth (not (truth_of v))
sound_gives Negate v l h = sound_number (neg_ℤ (number_of v)) (small (neg_ℤ (number_of v)) (number_of v) (neg_size (number_of v)) (in_range_lem v l h))
sound_gives Abs v l h = sound_number (pos (nat_abs (number_of v))) (small (pos (nat_abs (number_of v))) (number_of v) (omega arith) (in_range_lem v l h))
sound_gives Card v l h = sound_number (pos (length (members v))) (count_in_range Set v l h)
sound_gives Len v l h = sound_number (pos (length (members v))) (count_in_range Sequence v l h)
sound_gives Hd v l h = sound_nth Sequence v 1 l h
sound_gives Tl v l h = sound_tail (members v) (good_in Sequence v l h)
sound_gives Elems v l h = sound_made Set (gathered [] (members v)) (good_gathered [] (members v) Sequence good_none (good_in Sequence v l h))
sound_gives Inds v l h = sound_made Set (between (pos 1) (pos (length (members v)))) (good_between (pos 1) (pos (length (members v))) refl (count_in_range Sequence v l h))

sound_at : (v w : Value) → Lawful v → is (Many Sequence) v ≡ true → Sound (at (number_of w) (members v))
sound_at v w l h = go (number_of w)
  where
    go : (z : ℤ) → Sound (at z (members v))
    go (pos n) = sound_nth Sequence v n l h
    go (negsuc n) = tt

sound_concat : (v w : Value) → Good Sequence (members v) → Good Sequence (members w) → Sound (made (of Sequence (members v ++ members w)))
sound_concat v w g h = sound_made Sequence (members v ++ members w) (good_append Sequence (members v) (members w) g.numbers g.sets h.numbers h.sets refl)

sound_results : (op : Binary) (v w : Value) → Lawful v → Lawful w → is (left op) v ≡ true → is (right op) w ≡ true → Sound (results op v w)
sound_results Iff v w l m h k = sound_truth _
sound_results Eq v w l m h k = sound_truth _
sound_results NotEqual v w l m h k = sound_truth _
sound_results Lt v w l m h k = sound_truth _
sound_results LessEqual v w l m h k = sound_truth _
sound_results Gt v w l m h k = sound_truth _
sound_results GreaterEqual v w l m h k = sound_truth _
sound_results Subset v w l m h k = sound_truth _
sound_results ProperSubset v w l m h k = sound_truth _
sound_results InSet v w l m h k = sound_truth _
sound_results NotInSet v w l m h k = sound_truth _
sound_results Plus v w l m h k = sound_calculated (number_of v +ℤ number_of w)
sound_results Minus v w l m h k = sound_calculated (number_of v -ℤ number_of w)
sound_results Times v w l m h k = sound_calculated (number_of v *ℤ number_of w)
sound_results Div v w l m h k = sound_divided (number_of w) (quotient (number_of v) (number_of w)) (λ _. small (quotient (number_of v) (number_of w)) (number_of v) (quot_size (number_of v) (number_of w)) (in_range_lem v l h))
sound_results Rem v w l m h k = sound_divided (number_of w) (remainder (number_of v) (number_of w)) (λ _. small (remainder (number_of v) (number_of w)) (number_of v) (rem_size (number_of v) (number_of w)) (in_range_lem v l h))
sound_results Mod v w l m h k = sound_divided (number_of w) (modulus (number_of v) (number_of w)) (λ n. small (modulus (number_of v) (number_of w)) (number_of w) (mod_size (number_of v) (number_of w) n) (in_range_lem w m k))
sound_results Union v w l m h k = sound_made Set (union (members v) (members w)) (good_gathered (members v) (members w) Set (good_in Set v l h) (good_in Set w m k))
sound_results Inter v w l m h k = sound_made Set (inter (members v) (members w)) (good_those true (members v) (members w) (good_in Set v l h))
sound_results Difference v w l m h k = sound_made Set (difference (members v) (members w)) (good_those false (members v) (members w) (good_in Set v l h))
sound_results Concat v w l m h k = sound_concat v w (good_in Sequence v l h) (good_in Sequence w m k)
sound_results Apply v w l m h k = sound_at v w l h

good_grown : (k : Collection) (vs : List Value) (w : Value) → Good k vs → Lawful w → Good k (grown k vs w)
good_grown Set vs w g l =
    record {
      numbers = alls_insert ranged w vs l.numbers g.numbers;
      sets = alls_insert ordered w vs l.sets g.sets;
      order = to_ascending (insert w vs) (sorted_insert w vs (sorted_from vs g.order));
    }
good_grown Sequence vs w g l = good_append Sequence vs (w ∷ []) g.numbers g.sets (and_from (ranged w) true l.numbers refl) (and_from (ordered w) true l.sets refl) refl
good_grown Tuple vs w g l = good_append Tuple vs (w ∷ []) g.numbers g.sets (and_from (ranged w) true l.numbers refl) (and_from (ordered w) true l.sets refl) refl

lawful_empty : (k : Collection) → Lawful (of k [])
lawful_empty Set = record { numbers = refl; sets = refl; short = omega arith }
lawful_empty Sequence = record { numbers = refl; sets = refl; short = omega arith }
lawful_empty Tuple = record { numbers = refl; sets = refl; short = omega arith }

kind_of : (k : Collection) (vs : List Value) → is (Many k) (of k vs) ≡ true
kind_of Set vs = refl
kind_of Sequence vs = refl
kind_of Tuple vs = refl

sound_each : (k : Collection) (vs : List Value) (n : ℕ) → Lawful (of k vs) → Sound (nth n vs)
sound_each k vs n l = subst (λ ws. Sound (nth n ws)) (list_pack vs) (sound_nth k (of k vs) n l (kind_of k vs))

pub lawfuls : Lawfuls
unfolding unary binary select range grow
lawfuls =
    record {
      numeral = sound_number;
      truths = sound_truth;
      empty = lawful_empty;
      each = sound_each;
      one = λ op v l. sound_taking (is (operand op) v) (gives op v) (sound_gives op v l);
      both = λ op v w l m. sound_taking (takes op v w) (results op v w) (λ h. let p = and_parts (is (left op) v) (is (right op) w) h in sound_results op v w l m p.0 p.1);
      part = λ n v l. sound_taking (is (Many Tuple) v) (nth n (members v)) (sound_nth Tuple v n l);
      interval = λ v w l m. sound_taking (is Number v && is Number w) (made (of Set (between (number_of v) (number_of w)))) (λ h. let p = and_parts (is Number v) (is Number w) h in sound_made Set (between (number_of v) (number_of w)) (good_between (number_of v) (number_of w) (in_range_lem v l p.0) (in_range_lem w m p.1)));
      growing = λ k vs w l m. sound_made k (grown k vs w) (good_grown k vs w (good_of k vs l) m);
    }
