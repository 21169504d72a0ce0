-- The laws of numbers, intervals, sequences and their sets; and what always has room.
use Rattle.std.proofs.Common.{◌≡◌, ℕ, zero, suc, ◌+◌, ◌≤◌, Bool, true, false, ◌&&◌, ◌||◌, List, [], ◌∷◌, ◌++◌, length, ℤ, pos, negsuc, ◌+ℤ◌, ◌-ℤ◌, ◌*ℤ◌, ◌<ℤ◌, Ordering, Less, Equal, Greater, sym, refl, ap, ◌∙◌, true≢false, arith}
use lib.Signed.{lt_z, le_z}
use Rattle.std.proofs.lemmas.List.{length-append}
use Rattle.std.proofs.lemmas.Int.{ints}
use Rattle.std.specs.Ordering.{is_eq, ordering_then, MatchOrdering, int_cmp}
use Rattle.std.specs.Cmp.{int_ranks}
use Rattle.syntax.specs.declared.Collection.TheVariants.{Set, Sequence, Tuple}
use Rattle.values.specs.declared.Operand.TheVariants.{Number}
use Rattle.values.specs.Value.{Value, number, truth, many, compare}
use Rattle.values.specs.Sets.{equal, member, insert, gathered, union}
use Rattle.values.specs.Numbers.{quotient, remainder, span, size, between}
use Rattle.values.specs.Operators.{is}
use Rattle.sets.proofs.Members.{ext, in_gathered, sorted_gathered, insert_less, insert_equal, insert_greater}
use Rattle.sequences.proofs.Rows.{length-span}
use Rattle.operations.specs.Laws.{Subject}

division : (a b : ℤ) → a ≡ b *ℤ quotient a b +ℤ remainder a b
division a b = go (b *ℤ quotient a b)
  where
    go : (q : ℤ) → a ≡ q +ℤ (a -ℤ q)
    go q = omega (arith, ints)

-- ---- intervals

then_equal : (o : Ordering) → is_eq (ordering_then o Equal) ≡ is_eq o
then_equal Less = refl
then_equal Equal = refl
then_equal Greater = refl

in_span : (n : ℕ) (a i : ℤ) → member (number i) (span a n) ≡ (le_z a i && lt_z i (a +ℤ pos n))
in_span zero a i = grind (arith, ints)
in_span (suc n) a i = ap (λ b. b || member (number i) (span (a +ℤ pos 1) n)) (then_equal (int_cmp i a)) ∙ ap (λ b. is_eq (int_cmp i a) || b) (in_span n (a +ℤ pos 1) i) ∙ go (int_cmp i a) (int_ranks i a)
  where
    go : (o : Ordering) → MatchOrdering o (i <ℤ a) (i ≡ a) (a <ℤ i) → (is_eq o || (le_z (a +ℤ pos 1) i && lt_z i (a +ℤ pos 1 +ℤ pos n))) ≡ (le_z a i && lt_z i (a +ℤ pos (suc n)))
    go Less h = grind (arith, ints)
    go Equal h = grind (arith, ints)
    go Greater h = grind (arith, ints)

in_interval : (a b i : ℤ) → member (number i) (between a b) ≡ (le_z a i && le_z i b)
in_interval a b i = in_span (size (b -ℤ a +ℤ pos 1)) a i ∙ go (b -ℤ a +ℤ pos 1) refl
  where
    go : (z : ℤ) → b -ℤ a +ℤ pos 1 ≡ z → (le_z a i && lt_z i (a +ℤ pos (size z))) ≡ (le_z a i && le_z i b)
    go (pos n) e = grind (arith, ints)
    go (negsuc n) e = grind (arith, ints)

not_in_span : (n : ℕ) (a : ℤ) (v : Value) → is Number v ≡ false → member v (span a n) ≡ false
not_in_span zero a v h = refl
not_in_span (suc n) a (number z) h = absurd (true≢false h)
not_in_span (suc n) a (truth b) h = not_in_span n (a +ℤ pos 1) (truth b) h
not_in_span (suc n) a (many Set vs) h = not_in_span n (a +ℤ pos 1) (many Set vs) h
not_in_span (suc n) a (many Sequence vs) h = not_in_span n (a +ℤ pos 1) (many Sequence vs) h
not_in_span (suc n) a (many Tuple vs) h = not_in_span n (a +ℤ pos 1) (many Tuple vs) h

pub size_is : (n : ℕ) → size (pos n -ℤ pos 1 +ℤ pos 1) ≡ n
size_is n = ap size (let e : pos n -ℤ pos 1 +ℤ pos 1 ≡ pos n = omega (arith, ints) in e)

card_inds : (n : ℕ) → length (between (pos 1) (pos n)) ≡ n
card_inds n = length-span (pos 1) (size (pos n -ℤ pos 1 +ℤ pos 1)) ∙ size_is n

-- ---- sequences and their sets

insert_long : (v : Value) (ws : List Value) → length (insert v ws) ≤ length ws + 1
insert_long v [] = omega arith
insert_long v (w ∷ ws) = go (compare v w) refl (insert_long v ws)
  where
    go : (o : Ordering) → compare v w ≡ o → length (insert v ws) ≤ length ws + 1 → length (insert v (w ∷ ws)) ≤ length (w ∷ ws) + 1
    go Less e h = omega (arith, ap length (insert_less v w ws e))
    go Equal e h = omega (arith, ap length (insert_equal v w ws e))
    go Greater e h = omega (arith, ap length (insert_greater v w ws e))

gathered_long : (ws vs : List Value) → length (gathered ws vs) ≤ length ws + length vs
gathered_long ws [] = omega arith
gathered_long ws (v ∷ vs) = omega (arith, gathered_long (insert v ws) vs, insert_long v ws)

member-append : (u : Value) (vs ws : List Value) → member u (vs ++ ws) ≡ (member u vs || member u ws)
member-append u [] ws = refl
member-append u (v ∷ vs) ws = ap (λ b. equal u v || b) (member-append u vs ws) ∙ go (equal u v) (member u vs) (member u ws)
  where
    go : (a b c : Bool) → (a || (b || c)) ≡ ((a || b) || c)
    go true b c = refl
    go false b c = refl

elems_concat : (us vs : List Value) → gathered [] (us ++ vs) ≡ union (gathered [] us) (gathered [] vs)
elems_concat us vs =
    ext (gathered [] (us ++ vs)) (union (gathered [] us) (gathered [] vs)) (sorted_gathered [] (us ++ vs) tt) (sorted_gathered (gathered [] us) (gathered [] vs) (sorted_gathered [] us tt)) (λ v. in_gathered v [] (us ++ vs) ∙ member-append v us vs ∙ (λ i. sym (in_gathered v [] us) i || sym (in_gathered v [] vs) i) ∙ sym (in_gathered v (gathered [] us) (gathered [] vs)))

pub subject : Subject
subject =
    record {
      division = division;
      in_interval = in_interval;
      only_numbers = λ a b v h. not_in_span (size (b -ℤ a +ℤ pos 1)) a v h;
      card_inds = card_inds;
      card_elems = λ vs. omega (arith, gathered_long [] vs);
      elems_concat = elems_concat;
      len_concat = length-append;
    }
