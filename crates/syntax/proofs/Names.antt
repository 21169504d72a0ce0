-- Members of lists, and names among others.
use Rattle.std.proofs.Common.{◌≡◌, Bool, true, false, ◌||◌, ◌⊎◌, List, [], ◌∷◌, ◌++◌, Decides, sym, refl, ap, inl, inr, true≢false}
use Rattle.std.proofs.lemmas.Slice.Eq.{compares_Decides}
use Rattle.syntax.specs.Tree.{Name}
use Rattle.syntax.specs.Names.{In, same, among}

pub in_left : {A : Type 0} (x : A) (xs ys : List A) → In x xs → In x (xs ++ ys)
in_left x [] ys i = absurd i
in_left x (y ∷ xs) ys (inl e) = inl e
in_left x (y ∷ xs) ys (inr i) = inr (in_left x xs ys i)

pub in_right : {A : Type 0} (x : A) (xs ys : List A) → In x ys → In x (xs ++ ys)
in_right x [] ys i = i
in_right x (y ∷ xs) ys i = inr (in_right x xs ys i)

pub in_either : {A : Type 0} (x : A) (xs ys : List A) → In x (xs ++ ys) → In x xs ⊎ In x ys
in_either x [] ys i = inr i
in_either x (y ∷ xs) ys (inl e) = inl (inl e)
in_either x (y ∷ xs) ys (inr i) = go (in_either x xs ys i)
  where
    go : In x xs ⊎ In x ys → In x (y ∷ xs) ⊎ In x ys
    go (inl j) = inl (inr j)
    go (inr j) = inr j

-- equal bytes
pub same_decides : (n m : Name) → Decides (same n m) (n ≡ m)
same_decides = compares_Decides same record { empty = refl; shorter = λ y ys. refl; longer = λ x xs. refl; heads = λ x y xs ys. refl }

pub same_itself : (n : Name) → same n n ≡ true
same_itself n = (same_decides n n).1 refl

pub same_is : (n m : Name) → same n m ≡ true → n ≡ m
same_is n m e = (same_decides n m).0 e

-- a test that decides whether two names are equal is this one
pub same_test : (r : Bool) (n m : Name) → Decides r (n ≡ m) → r ≡ same n m
same_test true n m d = sym ((same_decides n m).1 (d.0 refl))
same_test false n m d = go (same n m) refl
  where
    go : (b : Bool) → same n m ≡ b → false ≡ b
    go false e = refl
    go true e = d.1 (same_is n m e)

pub among_in : (n : Name) (ns : List Name) → among n ns ≡ true → In n ns
among_in n [] e = absurd (true≢false (sym e))
among_in n (m ∷ ns) e = go (among_in n ns) (same n m) refl e
  where
    go : (among n ns ≡ true → In n ns) → (b : Bool) → same n m ≡ b → (b || among n ns) ≡ true → In n (m ∷ ns)
    go later true s h = inl (same_is n m s)
    go later false s h = inr (later h)

pub in_among : (n : Name) (ns : List Name) → In n ns → among n ns ≡ true
in_among n [] i = absurd i
in_among n (m ∷ ns) (inl e) = ap (λ b. b || among n ns) ((same_decides n m).1 e)
in_among n (m ∷ ns) (inr i) = go (in_among n ns i) (same n m)
  where
    go : among n ns ≡ true → (b : Bool) → (b || among n ns) ≡ true
    go later true = refl
    go later false = later

pub among_append : (n : Name) (ns ms : List Name) → among n (ns ++ ms) ≡ (among n ns || among n ms)
among_append n [] ms = refl
among_append n (x ∷ ns) ms = go (among_append n ns ms) (same n x)
  where
    go : among n (ns ++ ms) ≡ (among n ns || among n ms) → (b : Bool) → (b || among n (ns ++ ms)) ≡ ((b || among n ns) || among n ms)
    go later true = refl
    go later false = later
