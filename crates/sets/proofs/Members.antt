-- Sets in the words of membership.
use Rattle.std.proofs.Common.{◌≡◌, Bool, true, false, cond, not, ◌&&◌, ◌||◌, List, [], ◌∷◌, ◌++◌, length, Ordering, Less, Equal, Greater, sym, refl, ap, ◌∙◌, subst, true≢false, arith}
use mathlib.Core.Bool.{or-false, and-false}
use Rattle.std.proofs.lemmas.List.{length-append}
use Rattle.std.specs.Ordering.{is_eq}
use Rattle.values.specs.Value.{Value, compare}
use Rattle.values.specs.Lawful.{ascending}
use Rattle.values.specs.Sets.{by, equal, member, every, insert, gathered, those, union, inter, difference}
use Rattle.sets.specs.declared.Blend.{Blend}
use Rattle.sets.specs.declared.Blend.TheVariants.{Union, Inter, Difference}
use Rattle.sets.specs.Walk.{blended, keeps, put, all, merge}
use Rattle.sets.specs.Laws.{Order, Alike, Membership}
use Rattle.sets.proofs.Order.{same, itself, flips, chains, apart, Above, Sorted, above_less, sorted_from, to_ascending, flip_greater, not_in, equal_of, and_left, and_right, stays, members, ascends}

-- ---- a set is known by its members

first_in : (v : Value) (vs : List Value) → member v (v ∷ vs) ≡ true
first_in v vs = ap (λ o. is_eq o || member v vs) (itself v)

-- below all of them: not one of them
not_above : (v : Value) (vs : List Value) → Above v vs → member v vs ≡ false
not_above v vs h = not_in v v vs (itself v) h

-- a member is not below the first
not_below : (v w : Value) (ws : List Value) → member v (w ∷ ws) ≡ true → compare v w ≡ Less → Above w ws → ⊥
not_below v w ws h e a =
    let f : member v (w ∷ ws) ≡ false = (λ i. is_eq (e i) || member v ws) ∙ not_above v ws (above_less v w ws e a) in
    true≢false (sym h ∙ f)

-- where the first are the same, the others are alike
others : (u v : Value) (vs ws : List Value) → Above v vs → Above v ws → (b : Bool) → equal u v ≡ b → (b || member u vs) ≡ (b || member u ws) → member u vs ≡ member u ws
others u v vs ws s t true e h = let q = equal_of (compare u v) e in not_in u v vs q s ∙ sym (not_in u v ws q t)
others u v vs ws s t false e h = h

pub ext : (vs ws : List Value) → Sorted vs → Sorted ws → Alike vs ws → vs ≡ ws
ext [] [] s t h = refl
ext [] (w ∷ ws) s t h = absurd (true≢false (sym (first_in w ws) ∙ sym (h w)))
ext (v ∷ vs) [] s t h = absurd (true≢false (sym (first_in v vs) ∙ h v))
ext (v ∷ vs) (w ∷ ws) s t h = go (compare v w) refl (ext vs ws s.1 t.1)
  where
    go : (o : Ordering) → compare v w ≡ o → (Alike vs ws → vs ≡ ws) → v ∷ vs ≡ w ∷ ws
    go Less e ih = absurd (not_below v w ws (sym (h v) ∙ first_in v vs) e t.0)
    go Greater e ih = absurd (not_below w v vs (h w ∙ first_in w ws) (flip_greater v w e) s.0)
    go Equal e ih =
        let p = same v w e in
        let a : Above v ws = subst (λ x. Above x ws) (sym p) t.0 in
        let q : vs ≡ ws = ih (λ u. others u v vs ws s.0 a (equal u v) refl (h u ∙ ap (λ x. equal u x || member u ws) (sym p))) in
        λ i. p i ∷ q i

-- ---- one member more

abbrev steps : Value → Value → List Value → Ordering → List Value
steps v w ws o = by o (v ∷ w ∷ ws) (w ∷ ws) (w ∷ insert v ws)

pub insert_less : (v w : Value) (ws : List Value) → compare v w ≡ Less → insert v (w ∷ ws) ≡ v ∷ w ∷ ws
insert_less v w ws e = ap (steps v w ws) e

pub insert_equal : (v w : Value) (ws : List Value) → compare v w ≡ Equal → insert v (w ∷ ws) ≡ w ∷ ws
insert_equal v w ws e = ap (steps v w ws) e

pub insert_greater : (v w : Value) (ws : List Value) → compare v w ≡ Greater → insert v (w ∷ ws) ≡ w ∷ insert v ws
insert_greater v w ws e = ap (steps v w ws) e

or_swap : (a b c : Bool) → (a || (b || c)) ≡ (b || (a || c))
or_swap true true c = refl
or_swap true false c = refl
or_swap false true c = refl
or_swap false false c = refl

or_twice : (a c : Bool) → (a || c) ≡ (a || (a || c))
or_twice true c = refl
or_twice false c = refl

pub in_insert : (u v : Value) (ws : List Value) → member u (insert v ws) ≡ (equal u v || member u ws)
in_insert u v [] = refl
in_insert u v (w ∷ ws) = go (compare v w) refl (in_insert u v ws)
  where
    go : (o : Ordering) → compare v w ≡ o → member u (insert v ws) ≡ (equal u v || member u ws) → member u (insert v (w ∷ ws)) ≡ (equal u v || (equal u w || member u ws))
    go Less e ih = ap (member u) (insert_less v w ws e)
    go Equal e ih = ap (member u) (insert_equal v w ws e) ∙ or_twice (equal u w) (member u ws) ∙ ap (λ x. equal u x || (equal u w || member u ws)) (sym (same v w e))
    go Greater e ih = ap (member u) (insert_greater v w ws e) ∙ ap (λ b. equal u w || b) ih ∙ or_swap (equal u w) (equal u v) (member u ws)

above_insert : (u v : Value) (ws : List Value) → compare u v ≡ Less → Above u ws → Above u (insert v ws)
above_insert u v [] e h = (e, tt)
above_insert u v (w ∷ ws) e h = go (compare v w) refl (above_insert u v ws e h.1)
  where
    go : (o : Ordering) → compare v w ≡ o → Above u (insert v ws) → Above u (insert v (w ∷ ws))
    go Less f ih = subst (Above u) (sym (insert_less v w ws f)) (e, h)
    go Equal f ih = subst (Above u) (sym (insert_equal v w ws f)) h
    go Greater f ih = subst (Above u) (sym (insert_greater v w ws f)) (h.0, ih)

pub sorted_insert : (v : Value) (ws : List Value) → Sorted ws → Sorted (insert v ws)
sorted_insert v [] s = (tt, tt)
sorted_insert v (w ∷ ws) s = go (compare v w) refl (sorted_insert v ws s.1)
  where
    go : (o : Ordering) → compare v w ≡ o → Sorted (insert v ws) → Sorted (insert v (w ∷ ws))
    go Less f ih = subst Sorted (sym (insert_less v w ws f)) ((f, above_less v w ws f s.0), s)
    go Equal f ih = subst Sorted (sym (insert_equal v w ws f)) s
    go Greater f ih = subst Sorted (sym (insert_greater v w ws f)) (above_insert w v ws (flip_greater v w f) s.0, ih)

-- ---- many members more

pub in_gathered : (u : Value) (ws vs : List Value) → member u (gathered ws vs) ≡ (member u ws || member u vs)
in_gathered u ws [] = sym (or-false (member u ws))
in_gathered u ws (v ∷ vs) = in_gathered u (insert v ws) vs ∙ ap (λ b. b || member u vs) (in_insert u v ws) ∙ turn (equal u v) (member u ws) (member u vs)
  where
    turn : (a b c : Bool) → ((a || b) || c) ≡ (b || (a || c))
    turn true true c = refl
    turn true false c = refl
    turn false true c = refl
    turn false false c = refl

pub sorted_gathered : (ws vs : List Value) → Sorted ws → Sorted (gathered ws vs)
sorted_gathered ws [] s = s
sorted_gathered ws (v ∷ vs) s = sorted_gathered (insert v ws) vs (sorted_insert v ws s)

-- ---- those that stay

above_those : (b : Bool) (u : Value) (vs ws : List Value) → Above u vs → Above u (those b vs ws)
above_those true u [] ws h = tt
above_those false u [] ws h = tt
above_those true u (v ∷ vs) ws h = go (member v ws) (above_those true u vs ws h.1)
  where
    go : (b : Bool) → Above u (those true vs ws) → Above u (cond b (v ∷ those true vs ws) (those true vs ws))
    go true ih = (h.0, ih)
    go false ih = ih
above_those false u (v ∷ vs) ws h = go (member v ws) (above_those false u vs ws h.1)
  where
    go : (b : Bool) → Above u (those false vs ws) → Above u (cond b (those false vs ws) (v ∷ those false vs ws))
    go true ih = ih
    go false ih = (h.0, ih)

pub sorted_those : (b : Bool) (vs ws : List Value) → Sorted vs → Sorted (those b vs ws)
sorted_those true [] ws s = tt
sorted_those false [] ws s = tt
sorted_those true (v ∷ vs) ws s = go (member v ws) (sorted_those true vs ws s.1)
  where
    go : (b : Bool) → Sorted (those true vs ws) → Sorted (cond b (v ∷ those true vs ws) (those true vs ws))
    go true ih = (above_those true v vs ws s.0, ih)
    go false ih = ih
sorted_those false (v ∷ vs) ws s = go (member v ws) (sorted_those false vs ws s.1)
  where
    go : (b : Bool) → Sorted (those false vs ws) → Sorted (cond b (those false vs ws) (v ∷ those false vs ws))
    go true ih = ih
    go false ih = (above_those false v vs ws s.0, ih)

-- equal values are members alike
member_equal : (u v : Value) (ws : List Value) → equal u v ≡ true → member u ws ≡ member v ws
member_equal u v ws e = ap (λ x. member x ws) (same u v (equal_of (compare u v) e))

pub in_inter : (vs ws : List Value) (u : Value) → member u (inter vs ws) ≡ (member u vs && member u ws)
in_inter [] ws u = refl
in_inter (v ∷ vs) ws u = go (member v ws) refl (equal u v) refl (in_inter vs ws u)
  where
    go : (b : Bool) → member v ws ≡ b → (c : Bool) → equal u v ≡ c → member u (those true vs ws) ≡ (member u vs && member u ws) → member u (cond b (v ∷ those true vs ws) (those true vs ws)) ≡ ((c || member u vs) && member u ws)
    go true e true f ih = ap (λ x. x || member u (those true vs ws)) f ∙ sym (member_equal u v ws f ∙ e)
    go true e false f ih = ap (λ x. x || member u (those true vs ws)) f ∙ ih
    go false e true f ih = ih ∙ ap (λ x. member u vs && x) (member_equal u v ws f ∙ e) ∙ and-false (member u vs) ∙ sym (member_equal u v ws f ∙ e)
    go false e false f ih = ih

pub in_difference : (vs ws : List Value) (u : Value) → member u (difference vs ws) ≡ (member u vs && not (member u ws))
in_difference [] ws u = refl
in_difference (v ∷ vs) ws u = go (member v ws) refl (equal u v) refl (in_difference vs ws u)
  where
    go : (b : Bool) → member v ws ≡ b → (c : Bool) → equal u v ≡ c → member u (those false vs ws) ≡ (member u vs && not (member u ws)) → member u (cond b (those false vs ws) (v ∷ those false vs ws)) ≡ ((c || member u vs) && not (member u ws))
    go true e true f ih = ih ∙ ap (λ x. member u vs && not x) (member_equal u v ws f ∙ e) ∙ and-false (member u vs) ∙ sym (ap not (member_equal u v ws f ∙ e))
    go true e false f ih = ih
    go false e true f ih = ap (λ x. x || member u (those false vs ws)) f ∙ sym (ap not (member_equal u v ws f ∙ e))
    go false e false f ih = ap (λ x. x || member u (those false vs ws)) f ∙ ih

-- ---- parts

pub part : (vs ws : List Value) → every vs ws ≡ true → (v : Value) → member v vs ≡ true → member v ws ≡ true
part [] ws h v m = absurd (true≢false (sym m))
part (u ∷ vs) ws h v m = go (equal v u) refl m (part vs ws (and_right (member u ws) (every vs ws) h) v)
  where
    go : (b : Bool) → equal v u ≡ b → (b || member v vs) ≡ true → (member v vs ≡ true → member v ws ≡ true) → member v ws ≡ true
    go true e m ih = member_equal v u ws e ∙ and_left (member u ws) (every vs ws) h
    go false e m ih = ih m

pub is_part : (vs ws : List Value) → ((v : Value) → member v vs ≡ true → member v ws ≡ true) → every vs ws ≡ true
is_part [] ws h = refl
is_part (u ∷ vs) ws h = (λ i. h u (first_in u vs) i && every vs ws) ∙ is_part vs ws (λ v m. h v (later (equal v u) (member v vs) m))
  where
    later : (a b : Bool) → b ≡ true → (a || b) ≡ true
    later true b e = refl
    later false b e = e

-- ---- the laws

pub order : Order
order = record { apart = apart; same = same; itself = itself; flips = flips; chains = chains }

pub membership : Membership
membership =
    record {
      extensional = λ vs ws p q h. ext vs ws (sorted_from vs p) (sorted_from ws q) h;
      enumerated = λ vs. to_ascending (gathered [] vs) (sorted_gathered [] vs tt);
      in_enumeration = λ vs v. in_gathered v [] vs;
      any_order = λ vs ws h. ext (gathered [] vs) (gathered [] ws) (sorted_gathered [] vs tt) (sorted_gathered [] ws tt) (λ v. in_gathered v [] vs ∙ h v ∙ sym (in_gathered v [] ws));
      in_union = λ vs ws v. in_gathered v vs ws;
      in_inter = in_inter;
      in_difference = in_difference;
      union_ascends = λ vs ws p. to_ascending (union vs ws) (sorted_gathered vs ws (sorted_from vs p));
      inter_ascends = λ vs ws p. to_ascending (inter vs ws) (sorted_those true vs ws (sorted_from vs p));
      difference_ascends = λ vs ws p. to_ascending (difference vs ws) (sorted_those false vs ws (sorted_from vs p));
      part = part;
      is_part = is_part;
    }

-- ---- the walk gives the three

stays_union : (a b : Bool) → stays (keeps Union) a b ≡ (a || b)
stays_union true true = refl
stays_union true false = refl
stays_union false true = refl
stays_union false false = refl

stays_inter : (a b : Bool) → stays (keeps Inter) a b ≡ (a && b)
stays_inter true true = refl
stays_inter true false = refl
stays_inter false true = refl
stays_inter false false = refl

stays_difference : (a b : Bool) → stays (keeps Difference) a b ≡ (a && not b)
stays_difference true true = refl
stays_difference true false = refl
stays_difference false true = refl
stays_difference false false = refl

pub blends : (op : Blend) (vs ws : List Value) → ascending vs ≡ true → ascending ws ≡ true → merge (keeps op) vs ws ≡ blended op vs ws
blends op vs ws p q = go op
  where
    sorted : (op : Blend) → Sorted (merge (keeps op) vs ws)
    sorted op = sorted_from (merge (keeps op) vs ws) (ascends (keeps op) vs ws p q)

    go : (op : Blend) → merge (keeps op) vs ws ≡ blended op vs ws
    go Union = ext _ _ (sorted Union) (sorted_gathered vs ws (sorted_from vs p)) (λ v. members (keeps Union) vs ws v p q ∙ stays_union (member v vs) (member v ws) ∙ sym (in_gathered v vs ws))
    go Inter = ext _ _ (sorted Inter) (sorted_those true vs ws (sorted_from vs p)) (λ v. members (keeps Inter) vs ws v p q ∙ stays_inter (member v vs) (member v ws) ∙ sym (in_inter vs ws v))
    go Difference = ext _ _ (sorted Difference) (sorted_those false vs ws (sorted_from vs p)) (λ v. members (keeps Difference) vs ws v p q ∙ stays_difference (member v vs) (member v ws) ∙ sym (in_difference vs ws v))

-- nothing is left of the first without the second exactly where it is a part
abbrev pub none : List Value → Bool
none [] = true
none (v ∷ vs) = false

pub none_left : (vs ws : List Value) → none (difference vs ws) ≡ every vs ws
none_left [] ws = refl
none_left (v ∷ vs) ws = go (member v ws) (none_left vs ws)
  where
    go : (b : Bool) → none (those false vs ws) ≡ every vs ws → none (cond b (those false vs ws) (v ∷ those false vs ws)) ≡ (b && every vs ws)
    go true ih = ih
    go false ih = refl

-- the same of the walk: what it keeps of two rows
pub walk_none : (vs ws : List Value) → ascending vs ≡ true → ascending ws ≡ true → none (merge (keeps Difference) vs ws) ≡ every vs ws
walk_none vs ws p q = ap none (blends Difference vs ws p q) ∙ none_left vs ws

pub none_more : (b : Bool) (v : Value) (vs ws : List Value) → vs ≡ put b v ws → b ≡ true → none vs ≡ false
none_more b v vs ws e f = ap none (e ∙ ap (λ c. put c v ws) f)

pub none_same : (b : Bool) (v : Value) (vs ws : List Value) → vs ≡ put b v ws → b ≡ false → vs ≡ ws
none_same b v vs ws e f = e ∙ ap (λ c. put c v ws) f

pub none_all : (ws : List Value) → none (all false ws) ≡ true
none_all [] = refl
none_all (w ∷ ws) = none_all ws

-- ---- a member that is there, or is not

pub found_in : (v : Value) (us : List Value) → insert v us ≡ us → member v us ≡ true
found_in v us e = ap (member v) (sym e) ∙ in_insert v v us ∙ ap (λ o. is_eq o || member v us) (itself v)

pub not_found : (v : Value) (us ts ws : List Value) → ascending us ≡ true → us ≡ ts ++ ws → insert v us ≡ ts ++ v ∷ ws → member v us ≡ false
not_found v us ts ws h e f = go (member v us) refl
  where
    absorb : (u : Value) → member v us ≡ true → (b : Bool) → equal u v ≡ b → (b || member u us) ≡ member u us
    absorb u m true q = sym (member_equal u v us q ∙ m)
    absorb u m false q = refl

    go : (b : Bool) → member v us ≡ b → b ≡ false
    go false m = refl
    go true m =
        let s = sorted_from us h in
        let p : insert v us ≡ us = ext (insert v us) us (sorted_insert v us s) s (λ u. in_insert u v us ∙ absorb u m (equal u v) refl) in
        absurd (omega (arith, ap length (sym p ∙ f) ∙ length-append ts (v ∷ ws), ap length e ∙ length-append ts ws))
