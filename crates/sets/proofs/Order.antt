-- The order of values, and what the walk through two ascending rows gives.
use Rattle.std.proofs.Common.{◌≡◌, Bool, true, false, ◌&&◌, ◌||◌, List, [], ◌∷◌, ◌++◌, ℤ, ◌<ℤ◌, Ordering, Less, Equal, Greater, sym, refl, ap, ◌∙◌, true≢false}
use Rattle.std.specs.Ordering.{ordering_reverse, is_eq, is_lt, is_gt, ordering_then, MatchOrdering, int_cmp}
use Rattle.std.specs.Cmp.{int_cmp_total, int_ranks}
use Rattle.std.specs.Cmp.Lexicographic.{lists_total}
use Rattle.values.specs.Value.{Value, cells, by_cells, compare}
use Rattle.values.specs.Sets.{by, member}
use Rattle.values.proofs.Laws.{onto_is, onto_inj}
use Rattle.values.specs.Lawful.{ascending}
use Rattle.sets.specs.Walk.{put, all, merge}

-- whether a member stays, by the sets that have it
abbrev pub stays : (Ordering → Bool) → Bool → Bool → Bool
stays keep true true = keep Equal
stays keep true false = keep Less
stays keep false true = keep Greater
stays keep false false = false

-- ---- the order

cell_same : (x y : ℤ) → int_cmp x y ≡ Equal → x ≡ y
cell_same x y e = go (int_cmp x y) (int_ranks x y) e
  where
    go : (o : Ordering) → MatchOrdering o (x <ℤ y) (x ≡ y) (y <ℤ x) → o ≡ Equal → x ≡ y
    go Less h e = absurd (true≢false (ap is_lt e))
    go Equal h e = h
    go Greater h e = absurd (true≢false (ap is_gt e))

then_both : (a b : Ordering) → ordering_then a b ≡ Equal → (a ≡ Equal) × (b ≡ Equal)
then_both Less b e = absurd (true≢false (ap is_lt e))
then_both Equal b e = (refl, e)
then_both Greater b e = absurd (true≢false (ap is_gt e))

pub cells_same : (xs ys : List ℤ) → by_cells xs ys ≡ Equal → xs ≡ ys
cells_same [] [] e = refl
cells_same [] (y ∷ ys) e = absurd (true≢false (ap is_lt e))
cells_same (x ∷ xs) [] e = absurd (true≢false (ap is_gt e))
cells_same (x ∷ xs) (y ∷ ys) e = let t = then_both (int_cmp x y) (by_cells xs ys) e in λ i. cell_same x y t.0 i ∷ cells_same xs ys t.1 i

pub same : (v w : Value) → compare v w ≡ Equal → v ≡ w
same v w e = (onto_inj v w [] [] (cells_same (cells v) (cells w) e)).0

pub flips : (v w : Value) → compare v w ≡ ordering_reverse (compare w v)
flips v w = (lists_total int_cmp_total).antisymm (cells v) (cells w)

self_reversed : (o : Ordering) → o ≡ ordering_reverse o → o ≡ Equal
self_reversed Less e = absurd (true≢false (ap is_lt e))
self_reversed Equal e = refl
self_reversed Greater e = absurd (true≢false (ap is_gt e))

pub itself : (v : Value) → compare v v ≡ Equal
itself v = self_reversed (compare v v) (flips v v)

pub chains : (u v w : Value) → compare u v ≡ Less → compare v w ≡ Less → compare u w ≡ Less
chains u v w = (lists_total int_cmp_total).trans (cells u) (cells v) (cells w)

pub alike : (u v w : Value) → compare u v ≡ Equal → compare u w ≡ compare v w
alike u v w = (lists_total int_cmp_total).congr (cells u) (cells v) (cells w)

pub apart : (v w : Value) (xs ys : List ℤ) → cells v ++ xs ≡ cells w ++ ys → (v ≡ w) × (xs ≡ ys)
apart v w xs ys e = onto_inj v w xs ys (onto_is v xs ∙ e ∙ sym (onto_is w ys))

-- ---- ascending rows: each member is below all behind it

abbrev pub Above : Value → List Value → Type 0
Above x [] = Unit {0}
Above x (y ∷ ys) = (compare x y ≡ Less) × Above x ys

abbrev pub Sorted : List Value → Type 0
Sorted [] = Unit {0}
Sorted (x ∷ xs) = Above x xs × Sorted xs

pub above_less : (x y : Value) (ys : List Value) → compare x y ≡ Less → Above y ys → Above x ys
above_less x y [] e h = tt
above_less x y (z ∷ ys) e h = (chains x y z e h.0, above_less x y ys e h.1)

pub less_of : (o : Ordering) → is_lt o ≡ true → o ≡ Less
less_of Less e = refl
less_of Equal e = absurd (true≢false (sym e))
less_of Greater e = absurd (true≢false (sym e))

pub and_left : (a b : Bool) → (a && b) ≡ true → a ≡ true
and_left true b h = refl
and_left false b h = h

pub and_right : (a b : Bool) → (a && b) ≡ true → b ≡ true
and_right true b h = h
and_right false b h = absurd (true≢false (sym h))

pub sorted_from : (xs : List Value) → ascending xs ≡ true → Sorted xs
sorted_from [] h = tt
sorted_from (x ∷ []) h = (tt, tt)
sorted_from (x ∷ y ∷ xs) h =
    let e = less_of (compare x y) (and_left (is_lt (compare x y)) (ascending (y ∷ xs)) h) in
    let s = sorted_from (y ∷ xs) (and_right (is_lt (compare x y)) (ascending (y ∷ xs)) h) in
    ((e, above_less x y xs e s.0), s)

pub to_ascending : (xs : List Value) → Sorted xs → ascending xs ≡ true
to_ascending [] h = refl
to_ascending (x ∷ []) h = refl
to_ascending (x ∷ y ∷ xs) h = (λ i. is_lt (h.0.0 i) && ascending (y ∷ xs)) ∙ to_ascending (y ∷ xs) h.1

-- ---- the walk keeps what is above, and the order

above_put : (z : Value) (b : Bool) (x : Value) (xs : List Value) → compare z x ≡ Less → Above z xs → Above z (put b x xs)
above_put z true x xs e h = (e, h)
above_put z false x xs e h = h

sorted_put : (b : Bool) (x : Value) (xs : List Value) → Above x xs → Sorted xs → Sorted (put b x xs)
sorted_put true x xs a s = (a, s)
sorted_put false x xs a s = s

-- ---- the walk, by induction: P is to hold of two rows and what the walk gives

module _ (keep : Ordering → Bool) (P : List Value → List Value → List Value → Type 0) (none : P [] [] []) (right : (y : Value) (ys m : List Value) → P [] ys m → P [] (y ∷ ys) (put (keep Greater) y m)) (left : (x : Value) (xs m : List Value) → P xs [] m → P (x ∷ xs) [] (put (keep Less) x m)) (less : (x y : Value) (xs ys m : List Value) → compare x y ≡ Less → P xs (y ∷ ys) m → P (x ∷ xs) (y ∷ ys) (put (keep Less) x m)) (equal : (x y : Value) (xs ys m : List Value) → compare x y ≡ Equal → P xs ys m → P (x ∷ xs) (y ∷ ys) (put (keep Equal) x m)) (greater : (x y : Value) (xs ys m : List Value) → compare x y ≡ Greater → P (x ∷ xs) ys m → P (x ∷ xs) (y ∷ ys) (put (keep Greater) y m)) where
  walk_all : (ys : List Value) → P [] ys (all (keep Greater) ys)
  walk_all [] = none
  walk_all (y ∷ ys) = right y ys (all (keep Greater) ys) (walk_all ys)

  walk_by : (x y : Value) (xs ys a b c : List Value) (o : Ordering) → compare x y ≡ o → P xs (y ∷ ys) a → P xs ys b → P (x ∷ xs) ys c → P (x ∷ xs) (y ∷ ys) (by o (put (keep Less) x a) (put (keep Equal) x b) (put (keep Greater) y c))
  walk_by x y xs ys a b c Less e p q r = less x y xs ys a e p
  walk_by x y xs ys a b c Equal e p q r = equal x y xs ys b e q
  walk_by x y xs ys a b c Greater e p q r = greater x y xs ys c e r

  walk_beside : (x : Value) (xs : List Value) → ((ys : List Value) → P xs ys (merge keep xs ys)) → (ys : List Value) → P (x ∷ xs) ys (merge keep (x ∷ xs) ys)
  walk_beside x xs ih [] = left x xs (merge keep xs []) (ih [])
  walk_beside x xs ih (y ∷ ys) = walk_by x y xs ys (merge keep xs (y ∷ ys)) (merge keep xs ys) (merge keep (x ∷ xs) ys) (compare x y) refl (ih (y ∷ ys)) (ih ys) (walk_beside x xs ih ys)

  walk : (xs ys : List Value) → P xs ys (merge keep xs ys)
  walk [] ys = walk_all ys
  walk (x ∷ xs) ys = walk_beside x xs (walk xs) ys

-- ---- it keeps what is above, and the order

abbrev Kept : List Value → List Value → List Value → Type 0
Kept xs ys m = Sorted xs → Sorted ys → Sorted m × ((z : Value) → Above z xs → Above z ys → Above z m)

pub flip_greater : (x y : Value) → compare x y ≡ Greater → compare y x ≡ Less
flip_greater x y e = flips y x ∙ ap ordering_reverse e

pub above_equal : (x y : Value) (ys : List Value) → compare x y ≡ Equal → Above y ys → Above x ys
above_equal x y [] e h = tt
above_equal x y (z ∷ ys) e h = (alike x y z e ∙ h.0, above_equal x y ys e h.1)

kept : (keep : Ordering → Bool) (xs ys : List Value) → Kept xs ys (merge keep xs ys)
kept keep =
    walk keep Kept
    (λ s t. (tt, λ z a b. tt))
    (λ y ys m ih s t. let h = ih s t.1 in (sorted_put (keep Greater) y m (h.1 y tt t.0) h.0, λ z a b. above_put z (keep Greater) y m b.0 (h.1 z tt b.1)))
    (λ x xs m ih s t. let h = ih s.1 t in (sorted_put (keep Less) x m (h.1 x s.0 tt) h.0, λ z a b. above_put z (keep Less) x m a.0 (h.1 z a.1 tt)))
    (λ x y xs ys m e ih s t. let h = ih s.1 t in (sorted_put (keep Less) x m (h.1 x s.0 (e, above_less x y ys e t.0)) h.0, λ z a b. above_put z (keep Less) x m a.0 (h.1 z a.1 b)))
    (λ x y xs ys m e ih s t. let h = ih s.1 t.1 in (sorted_put (keep Equal) x m (h.1 x s.0 (above_equal x y ys e t.0)) h.0, λ z a b. above_put z (keep Equal) x m a.0 (h.1 z a.1 b.1)))
    (λ x y xs ys m e ih s t. let h = ih s t.1 in let f = flip_greater x y e in (sorted_put (keep Greater) y m (h.1 y (f, above_less y x xs f s.0) t.0) h.0, λ z a b. above_put z (keep Greater) y m b.0 (h.1 z a b.1)))

pub ascends : (keep : Ordering → Bool) (xs ys : List Value) → ascending xs ≡ true → ascending ys ≡ true → ascending (merge keep xs ys) ≡ true
ascends keep xs ys p q = to_ascending (merge keep xs ys) (kept keep xs ys (sorted_from xs p) (sorted_from ys q)).0

-- ---- its members

pub not_in : (v x : Value) (xs : List Value) → compare v x ≡ Equal → Above x xs → member v xs ≡ false
not_in v x [] e h = refl
not_in v x (y ∷ ys) e h = (λ i. is_eq ((alike v x y e ∙ h.0) i) || member v ys) ∙ not_in v x ys e h.1

pub equal_of : (o : Ordering) → is_eq o ≡ true → o ≡ Equal
equal_of Less e = absurd (true≢false (sym e))
equal_of Equal e = refl
equal_of Greater e = absurd (true≢false (sym e))

stays_at : (keep : Ordering → Bool) {a a' b b' : Bool} → a ≡ a' → b ≡ b' → stays keep a b ≡ stays keep a' b'
stays_at keep p q = λ i. stays keep (p i) (q i)

or_false : (a : Bool) → (a || false) ≡ a
or_false true = refl
or_false false = refl

put-member : (v x : Value) (b : Bool) (m : List Value) → is_eq (compare v x) ≡ false → member v (put b x m) ≡ member v m
put-member v x true m e = ap (λ t. t || member v m) e
put-member v x false m e = refl

put_here : (v x : Value) (b : Bool) (m : List Value) → is_eq (compare v x) ≡ true → member v m ≡ false → member v (put b x m) ≡ b
put_here v x true m e h = ap (λ t. t || member v m) e
put_here v x false m e h = h

abbrev Found : (Ordering → Bool) → Value → List Value → List Value → List Value → Type 0
Found keep v xs ys m = Sorted xs → Sorted ys → member v m ≡ stays keep (member v xs) (member v ys)

-- one member more, at a place where v either is it or is not
module _ (keep : Ordering → Bool) (v : Value) where
  at_left : (x : Value) (xs ys m : List Value) → Above x xs → Above x ys → member v m ≡ stays keep (member v xs) (member v ys) → (b : Bool) → is_eq (compare v x) ≡ b → member v (put (keep Less) x m) ≡ stays keep (b || member v xs) (member v ys)
  at_left x xs ys m a c h true e =
      let q = equal_of (compare v x) e in
      let f = not_in v x xs q a in
      let g = not_in v x ys q c in
      put_here v x (keep Less) m e (h ∙ stays_at keep f g) ∙ sym (stays_at keep {a = true} refl g)
  at_left x xs ys m a c h false e = put-member v x (keep Less) m e ∙ h

  at_right : (y : Value) (xs ys m : List Value) → Above y xs → Above y ys → member v m ≡ stays keep (member v xs) (member v ys) → (b : Bool) → is_eq (compare v y) ≡ b → member v (put (keep Greater) y m) ≡ stays keep (member v xs) (b || member v ys)
  at_right y xs ys m a c h true e =
      let q = equal_of (compare v y) e in
      let f = not_in v y xs q a in
      let g = not_in v y ys q c in
      put_here v y (keep Greater) m e (h ∙ stays_at keep f g) ∙ sym (stays_at keep {b = true} f refl)
  at_right y xs ys m a c h false e = put-member v y (keep Greater) m e ∙ h

  at_both : (x : Value) (xs ys m : List Value) → Above x xs → Above x ys → member v m ≡ stays keep (member v xs) (member v ys) → (b : Bool) → is_eq (compare v x) ≡ b → member v (put (keep Equal) x m) ≡ stays keep (b || member v xs) (b || member v ys)
  at_both x xs ys m a c h true e =
      let q = equal_of (compare v x) e in
      let f = not_in v x xs q a in
      let g = not_in v x ys q c in
      put_here v x (keep Equal) m e (h ∙ stays_at keep f g)
  at_both x xs ys m a c h false e = put-member v x (keep Equal) m e ∙ h

  found : (xs ys : List Value) → Found keep v xs ys (merge keep xs ys)
  found =
      walk keep (Found keep v)
      (λ s t. refl)
      (λ y ys m ih s t. at_right y [] ys m tt t.0 (ih s t.1) (is_eq (compare v y)) refl)
      (λ x xs m ih s t. at_left x xs [] m s.0 tt (ih s.1 t) (is_eq (compare v x)) refl)
      (λ x y xs ys m e ih s t. at_left x xs (y ∷ ys) m s.0 (e, above_less x y ys e t.0) (ih s.1 t) (is_eq (compare v x)) refl)
      (λ x y xs ys m e ih s t.
      let p : is_eq (compare v x) ≡ is_eq (compare v y) = ap (λ w. is_eq (compare v w)) (same x y e) in
      at_both x xs ys m s.0 (above_equal x y ys e t.0) (ih s.1 t.1) (is_eq (compare v x)) refl ∙ ap (λ b. stays keep (is_eq (compare v x) || member v xs) (b || member v ys)) p)
      (λ x y xs ys m e ih s t. let f = flip_greater x y e in at_right y (x ∷ xs) ys m (f, above_less y x xs f s.0) t.0 (ih s t.1) (is_eq (compare v y)) refl)

pub members : (keep : Ordering → Bool) (xs ys : List Value) (v : Value) → ascending xs ≡ true → ascending ys ≡ true → member v (merge keep xs ys) ≡ stays keep (member v xs) (member v ys)
members keep xs ys v p q = found keep v xs ys (sorted_from xs p) (sorted_from ys q)
