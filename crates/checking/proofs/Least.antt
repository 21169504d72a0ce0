-- The smallest place of those that a test takes.
use Rattle.std.proofs.Common.{◌≡◌, ℕ, ◌≤◌, min, Bool, true, false, ◌⊎◌, List, [], ◌∷◌, Some, None, Option, sym, refl, ap, ◌∙◌, inl, inr, ⊎_elim, true≢false, arith}
use native.Mathlib.Nat.{min-le_left, min-le_right, min-eq_left, min-eq_right}
use Rattle.std.proofs.lemmas.Bool.{cases_lt}
use Rattle.syntax.specs.Tree.{Place}
use Rattle.syntax.specs.Names.{In}
use Rattle.checking.specs.Conditions.{Smallest, Never}
use Rattle.checking.specs.Walk.{lower, lower_if}
use Rattle.checking.proofs.Surveys.{lowers}

module _ {A : Type 0} (test : A → Bool) (place : A → Place) where
  -- one of them is taken, at this place
  pub record Hit (xs : List A) (p : Place) : Type 0 where
    pub item : A
    pub stands : In item xs
    pub taken : test item ≡ true
    pub here : place item ≡ p

  -- found before, or taken now
  abbrev Known : Option ℕ → List A → Place → Type 0
  Known o xs p = (o ≡ Some p) ⊎ Hit xs p

  -- what the answer says
  abbrev Says : (Place → Type 0) → Option ℕ → Type 0
  Says C None = Never C
  Says C (Some p) = Smallest C p

  later : {x : A} {xs : List A} {p : Place} → Hit xs p → Hit (x ∷ xs) p
  later h = record { item = h.item; stands = inr h.stands; taken = h.taken; here = h.here }

  -- two conditions of which each gives the other a place that is not larger
  says_too : (C D : Place → Type 0) → ((p : Place) → C p → D p) → ((p : Place) → D p → (q : Place) × (C q × (q ≤ p))) → (r : Option ℕ) → Says C r → Says D r
  says_too C D to from None h = λ p d. let f = from p d in h f.0 f.1.0
  says_too C D to from (Some p) h = record {
    here = to p h.here;
    first = λ q d. let f = from q d in let le = h.first f.0 f.1.0 in omega (arith, f.1.1);
  }

  none_some : (p : ℕ) → ◌≡◌ {A = Option ℕ} None (Some p) → ⊥
  none_some p e = let z : ◌≡◌ {A = ℕ} 0 1 = cc in omega arith

  -- without the test's consent nothing changes
  passed : (o : Option ℕ) (x : A) (xs : List A) → test x ≡ false → (p : Place) → Known o (x ∷ xs) p → (q : Place) × (Known o xs q × (q ≤ p))
  passed o x xs t p (inl e) = (p, (inl e, omega arith))
  passed o x xs t p (inr h) = go h.stands
    where
      go : In h.item (x ∷ xs) → (q : Place) × (Known o xs q × (q ≤ p))
      go (inl e) = absurd (true≢false (sym h.taken ∙ ap test e ∙ t))
      go (inr i) = (p, (inr (record { item = h.item; stands = i; taken = h.taken; here = h.here }), omega arith))

  kept : (o : Option ℕ) (x : A) (xs : List A) (p : Place) → Known o xs p → Known o (x ∷ xs) p
  kept o x xs p (inl e) = inl e
  kept o x xs p (inr h) = inr (later h)

  -- with it, the smaller of the two is known
  taken_to : (o : Option ℕ) (x : A) (xs : List A) → test x ≡ true → (p : Place) → Known (lower o (place x)) xs p → Known o (x ∷ xs) p
  taken_to o x xs t p (inr h) = inr (later h)
  taken_to None x xs t p (inl e) = let e' : place x ≡ p = cc in inr (record { item = x; stands = inl refl; taken = t; here = e' })
  taken_to (Some q) x xs t p (inl e) =
      let m : min q (place x) ≡ p = cc in
      ⊎_elim
      (λ lt. let le : q ≤ place x = omega arith in let w : q ≡ p = sym (min-eq_left le) ∙ m in inl (ap (λ k. Some k) w))
      (λ le. inr (record { item = x; stands = inl refl; taken = t; here = sym (min-eq_right le) ∙ m }))
      (cases_lt q (place x))

  taken_from : (o : Option ℕ) (x : A) (xs : List A) → (p : Place) → Known o (x ∷ xs) p → (q : Place) × (Known (lower o (place x)) xs q × (q ≤ p))
  taken_from None x xs p (inl e) = absurd (none_some p e)
  taken_from (Some q) x xs p (inl e) = let w : q ≡ p = cc in (min q (place x), (inl refl, omega (arith, min-le_left q (place x))))
  taken_from o x xs p (inr h) = go o h.stands
    where
      go : (o : Option ℕ) → In h.item (x ∷ xs) → (q : Place) × (Known (lower o (place x)) xs q × (q ≤ p))
      go o (inr i) = (p, (inr (record { item = h.item; stands = i; taken = h.taken; here = h.here }), omega arith))
      go None (inl e) = (place x, (inl refl, omega (arith, ap place e, h.here)))
      go (Some q) (inl e) = (min q (place x), (inl refl, omega (arith, ap place e, h.here, min-le_right q (place x))))

  least : (o : Option ℕ) (xs : List A) → Says (Known o xs) (lowers test place o xs)
  least None [] = λ p k. elim k [ inl e ↦ none_some p e | inr h ↦ h.stands ]
  least (Some q) [] = record { here = inl refl; first = λ p k. elim k [ inl e ↦ (let w : q ≡ p = cc in omega arith) | inr h ↦ absurd h.stands ] }
  least o (x ∷ xs) = go (test x) refl (λ o'. least o' xs)
    where
      go : (b : Bool) → test x ≡ b → ((o' : Option ℕ) → Says (Known o' xs) (lowers test place o' xs)) → Says (Known o (x ∷ xs)) (lowers test place (lower_if b o (place x)) xs)
      go true t ih = says_too (Known (lower o (place x)) xs) (Known o (x ∷ xs)) (taken_to o x xs t) (taken_from o x xs) (lowers test place (lower o (place x)) xs) (ih (lower o (place x)))
      go false t ih = says_too (Known o xs) (Known o (x ∷ xs)) (kept o x xs) (passed o x xs t) (lowers test place o xs) (ih o)

  -- from nothing: none is taken, or this is the smallest place
  pub smallest : (xs : List A) → Says (Hit xs) (lowers test place None xs)
  smallest xs = says_too (Known None xs) (Hit xs) (λ p k. elim k [ inl e ↦ absurd (none_some p e) | inr h ↦ h ]) (λ p h. (p, (inr h, omega arith))) (lowers test place None xs) (least None xs)
