-- The course depends on the facts at the free names only.
use Rattle.std.proofs.Common.{◌≡◌, Bool, true, false, cond, not, ◌&&◌, ◌||◌, List, [], ◌∷◌, ◌++◌, pos, sym, refl, ap, ◌∙◌, subst, inl, inr}
use Rattle.std.proofs.Math.Option.{some-injective}
use mathlib.Core.Option.{Option, none, some}
use Rattle.std.proofs.lemmas.Bool.{and_parts, true≢false}
use Rattle.syntax.specs.declared.Collection.{Collection}
use Rattle.syntax.specs.declared.Collection.TheVariants.{Set}
use Rattle.syntax.specs.Tree.{Place, Name, Pattern, any, binds, number, parts, Patterns, Tree, numeral, name, unary, binary, connective, if_else, let_in, let_be, cases, quantifier, collection, range, comprehension, selection, Trees, Alternatives, no_more, alternative, Optional, absent, present}
use Rattle.values.specs.declared.Fault.TheVariants.{NoCase}
use Rattle.values.specs.declared.Operand.TheVariants.{Many}
use Rattle.values.specs.Value.{Value}
use Rattle.values.specs.Value as val
use Rattle.values.specs.Operators as op
use Rattle.values.specs.Sets.{equal}
use Rattle.syntax.proofs.Names.{in_left, in_right}
use Rattle.syntax.specs.Names.{In, same, Occurrence, among, names, all_names, free, free_all, free_in, free_of}
use Rattle.meaning.specs.Names.{Binding, Sight, nothing, bind, bind_all, Facts, known, Map, lookup}
use Rattle.meaning.specs.Course.{Outcome, value, fault, Course, ended, begins, ◌>>=◌}
use Rattle.meaning.specs.Eval.{strict, told, truth_of, branch, deciding, left, connect, over, decider, searching, adding, filtering, testing, choice, both, match, match_all, matched, eval, eval_all, eval_cases, eval_or}
use Rattle.meaning.specs.Laws.{Naming}

-- ---- what is bound

-- each of the names has a value in sight
pub Scope : List Name → Sight → Type 0
Scope bs s = (n : Name) → among n bs ≡ true → (v : Value) × (s n ≡ some v)

pub scope_none : (s : Sight) → Scope [] s
unfolding Scope
scope_none s n e = (val.number (pos 0), cc)

pub scope_bind : (x : Name) (v : Value) (bs : List Name) (s : Sight) → Scope bs s → Scope (x ∷ bs) (bind x v s)
unfolding Scope
scope_bind x v bs s w n e = go (same n x) e
  where
    go : (b : Bool) → (b || among n bs) ≡ true → (u : Value) × (cond b (some v) (s n) ≡ some u)
    go true h = (v, refl)
    go false h = w n h

abbrev bounds : List Binding → List Name
bounds [] = []
bounds (b ∷ bs) = b.bound ∷ bounds bs

bounds_append : (xs ys : List Binding) → bounds (xs ++ ys) ≡ bounds xs ++ bounds ys
bounds_append [] ys = refl
bounds_append (x ∷ xs) ys = ap (λ l. x.bound ∷ l) (bounds_append xs ys)

pub scope_all : (found : List Binding) (bs : List Name) (s : Sight) → Scope bs s → Scope (bounds found ++ bs) (bind_all found s)
scope_all [] bs s w = w
scope_all (b ∷ found) bs s w = scope_bind b.bound b.to (bounds found ++ bs) (bind_all found s) (scope_all found bs s w)

-- a pattern that matches binds its names
abbrev Fits : List Name → Option (List Binding) → Type 0
Fits xs none = Unit {0}
Fits xs (some found) = bounds found ≡ xs

fits_cond : (xs : List Name) (b : Bool) (o : Option (List Binding)) → Fits xs o → Fits xs (cond b o none)
fits_cond xs true o h = h
fits_cond xs false o h = tt

fits_both : (xs ys : List Name) (a b : Option (List Binding)) → Fits xs a → Fits ys b → Fits (xs ++ ys) (both a b)
fits_both xs ys none b h k = tt
fits_both xs ys (some u) none h k = tt
fits_both xs ys (some u) (some w) h k = bounds_append u w ∙ (λ i. h i ++ k i)

mutual
  pub match_names : (pat : Pattern) (v : Value) → Fits (names pat) (match pat v)
  match_names (any p) v = refl
  match_names (binds p n) v = refl
  match_names (number p n) v = fits_cond [] (equal v (val.number (pos n))) (some []) refl
  match_names (Pattern.truth p b) v = fits_cond [] (equal v (val.truth b)) (some []) refl
  match_names (parts p k ps) v = fits_cond (all_names ps) (op.is (Many k) v) (match_all ps (op.members v)) (match_all_names ps (op.members v))

  match_all_names : (ps : Patterns) (vs : List Value) → Fits (all_names ps) (match_all ps vs)
  match_all_names Patterns.none [] = refl
  match_all_names Patterns.none (v ∷ vs) = tt
  match_all_names (Patterns.more p ps) [] = tt
  match_all_names (Patterns.more p ps) (v ∷ vs) = fits_both (names p) (all_names ps) (match p v) (match_all ps vs) (match_names p v) (match_all_names ps vs)

-- ---- two facts that agree on what is free

module _ (f g : Facts) where
  abbrev On : List Occurrence → Type 0
  On os = (o : Occurrence) → In o os → f o.name ≡ g o.name

  l : (xs ys : List Occurrence) → On (xs ++ ys) → On xs
  l xs ys h o i = h o (in_left o xs ys i)

  r : (xs ys : List Occurrence) → On (xs ++ ys) → On ys
  r xs ys h o i = h o (in_right o xs ys i)

  same_name : (p : Place) (n : Name) (bs : List Name) (s : Sight) → Scope bs s → (b : Bool) → among n bs ≡ b → On (cond b [] (record { place = p; name = n } ∷ [])) → known (f n) (s n) ≡ known (g n) (s n)
  unfolding Scope
  same_name p n bs s w true e h = let u = w n e in ap (known (f n)) u.1 ∙ sym (ap (known (g n)) u.1)
  same_name p n bs s w false e h = ap (λ x. known x (s n)) (h (record { place = p; name = n }) (inl refl))

  same_matched :
      (xs : List Name) (a b : List Binding → Course) (c d : Course)
      → ((found : List Binding) → bounds found ≡ xs → a found ≡ b found)
      → c ≡ d
      → (o : Option (List Binding))
      → Fits xs o
      → matched a c o ≡ matched b d o
  same_matched xs a b c d h e none k = e
  same_matched xs a b c d h e (some found) k = h found k

  mutual
    unfolding eval free

    same_eval : (t : Tree) (bs : List Name) (s : Sight) → Scope bs s → On (free t bs) → eval t f s ≡ eval t g s
    same_eval (numeral p n) bs s w h = refl
    same_eval (Tree.truth p b) bs s w h = refl
    same_eval (name p n) bs s w h = λ i. begins p (ended (value (same_name p n bs s w (among n bs) refl h i)))
    same_eval (unary p o a) bs s w h = λ i. begins p (strict (same_eval a bs s w h i) λ v. ended (told p (op.unary o v)))
    same_eval (binary p o a b) bs s w h =
        λ i.
        begins p
        (strict (same_eval a bs s w (l (free a bs) (free b bs) h) i) λ v.
        strict (same_eval b bs s w (r (free a bs) (free b bs) h) i) λ u. ended (told p (op.binary o v u)))
    same_eval (connective p o a b) bs s w h =
        λ i.
        begins p
        (same_eval a bs s w (l (free a bs) (free b bs) h) i >>= λ x.
        connect p (deciding o) (same_eval b bs s w (r (free a bs) (free b bs) h) i) (left o (truth_of p x)))
    same_eval (if_else p a b c) bs s w h =
        let k = r (free a bs) (free b bs ++ free c bs) h in
        λ i.
        begins p
        (same_eval a bs s w (l (free a bs) (free b bs ++ free c bs) h) i >>= λ x.
        branch (same_eval b bs s w (l (free b bs) (free c bs) k) i) (same_eval c bs s w (r (free b bs) (free c bs) k) i) (truth_of p x))
    same_eval (let_in p x a b) bs s w h =
        λ i.
        begins p
        (strict (same_eval a bs s w (l (free a bs) (free b (x ∷ bs)) h) i) λ v.
        same_eval b (x ∷ bs) (bind x v s) (scope_bind x v bs s w) (r (free a bs) (free b (x ∷ bs)) h) i)
    same_eval (let_be p x a c b) bs s w h =
        let k = r (free a bs) (free c (x ∷ bs) ++ free b (x ∷ bs)) h in
        λ i.
        begins p
        (strict
        (strict (same_eval a bs s w (l (free a bs) (free c (x ∷ bs) ++ free b (x ∷ bs)) h) i)
        (over p Set
        (testing p λ v. same_eval c (x ∷ bs) (bind x v s) (scope_bind x v bs s w) (l (free c (x ∷ bs)) (free b (x ∷ bs)) k) i)
        (value (val.of Set []))))
        λ cs. choice p s (λ v. same_eval b (x ∷ bs) (bind x v s) (scope_bind x v bs s w) (r (free c (x ∷ bs)) (free b (x ∷ bs)) k) i) (op.members cs))
    same_eval (cases p a cs o) bs s w h =
        let k = r (free a bs) (free_in cs bs ++ free_of o bs) h in
        λ i.
        begins p
        (strict (same_eval a bs s w (l (free a bs) (free_in cs bs ++ free_of o bs) h) i) λ v.
        same_cases cs bs s w (l (free_in cs bs) (free_of o bs) k) v (same_or o bs s w (r (free_in cs bs) (free_of o bs) k) (ended (fault NoCase p))) i)
    same_eval (quantifier p q x a b) bs s w h =
        λ i.
        begins p
        (strict (same_eval a bs s w (l (free a bs) (free b (x ∷ bs)) h) i)
        (over p Set
        (searching p (decider q) λ v. same_eval b (x ∷ bs) (bind x v s) (scope_bind x v bs s w) (r (free a bs) (free b (x ∷ bs)) h) i)
        (value (val.truth (not (decider q))))))
    same_eval (collection p k ts) bs s w h = λ i. begins p (same_all ts bs s w h p k (value (val.of k [])) i)
    same_eval (range p a b) bs s w h =
        λ i.
        begins p
        (strict (same_eval a bs s w (l (free a bs) (free b bs) h) i) λ v.
        strict (same_eval b bs s w (r (free a bs) (free b bs) h) i) λ u. ended (told p (op.range v u)))
    same_eval (comprehension p k e x a c) bs s w h =
        let m = r (free e (x ∷ bs)) (free a bs ++ free_of c (x ∷ bs)) h in
        λ i.
        begins p
        (strict (same_eval a bs s w (l (free a bs) (free_of c (x ∷ bs)) m) i)
        (over p k
        (filtering p k
        (λ v. same_or c (x ∷ bs) (bind x v s) (scope_bind x v bs s w) (r (free a bs) (free_of c (x ∷ bs)) m) (ended (value (val.truth true))) i)
        (λ v. same_eval e (x ∷ bs) (bind x v s) (scope_bind x v bs s w) (l (free e (x ∷ bs)) (free a bs ++ free_of c (x ∷ bs)) h) i))
        (value (val.of k []))))
    same_eval (selection p a n) bs s w h = λ i. begins p (strict (same_eval a bs s w h i) λ v. ended (told p (op.select n v)))

    same_all : (ts : Trees) (bs : List Name) (s : Sight) → Scope bs s → On (free_all ts bs) → (p : Place) (k : Collection) (a : Outcome) → eval_all ts f s p k a ≡ eval_all ts g s p k a
    same_all Trees.none bs s w h p k a = refl
    same_all (Trees.more t ts) bs s w h p k a =
        λ i.
        adding p k (same_eval t bs s w (l (free t bs) (free_all ts bs) h) i)
        (λ o. same_all ts bs s w (r (free t bs) (free_all ts bs) h) p k o i) a

    same_cases : (cs : Alternatives) (bs : List Name) (s : Sight) → Scope bs s → On (free_in cs bs) → (v : Value) {c d : Course} → c ≡ d → eval_cases cs f s v c ≡ eval_cases cs g s v d
    same_cases no_more bs s w h v e = e
    same_cases (alternative pat a cs) bs s w h v e =
        same_matched (names pat) _ _ _ _
        (λ found k. same_eval a (names pat ++ bs) (bind_all found s) (subst (λ ns. Scope (ns ++ bs) (bind_all found s)) k (scope_all found bs s w)) (l (free a (names pat ++ bs)) (free_in cs bs) h))
        (same_cases cs bs s w (r (free a (names pat ++ bs)) (free_in cs bs) h) v e)
        (match pat v) (match_names pat v)

    same_or : (o : Optional) (bs : List Name) (s : Sight) → Scope bs s → On (free_of o bs) → (c : Course) → eval_or o f s c ≡ eval_or o g s c
    same_or absent bs s w h c = refl
    same_or (present t) bs s w h c = same_eval t bs s w h

abbrev there : Option Value → Bool
there none = false
there (some v) = true

-- what a map says, and elsewhere a truth value
abbrev pub facts_of : Map → Facts
facts_of m n = known (val.truth true) (lookup m n)

facts_agree : (m : Map) (n : Name) (v : Value) → lookup m n ≡ some v → lookup m n ≡ some (facts_of m n)
facts_agree m n v e = e ∙ ap some (sym (ap (known (val.truth true)) e))

-- the map has each of these names
abbrev pub has_all : Map → List Occurrence → Bool
has_all m [] = true
has_all m (o ∷ os) = there (lookup m o.name) && has_all m os

pub agree_all : (m : Map) (os : List Occurrence) → has_all m os ≡ true → (o : Occurrence) → In o os → lookup m o.name ≡ some (facts_of m o.name)
agree_all m [] h o i = absurd i
agree_all m (x ∷ os) h o (inl e) = go (lookup m o.name) refl (ap (λ y. there (lookup m y.name)) e ∙ (and_parts (there (lookup m x.name)) (has_all m os) h).0)
  where
    go : (w : Option Value) → lookup m o.name ≡ w → there w ≡ true → lookup m o.name ≡ some (facts_of m o.name)
    go none q j = absurd (true≢false (sym j))
    go (some v) q j = facts_agree m o.name v q
agree_all m (x ∷ os) h o (inr i) = agree_all m os (and_parts (there (lookup m x.name)) (has_all m os) h).1 o i

pub naming : Naming
naming =
    record {
      depends = λ t f g h. same_eval f g t [] nothing (scope_none nothing) h;
      covered = λ m t h. (facts_of m, λ o i. facts_agree m o.name (h o i).0 (h o i).1);
      settled = λ m t f g a b. same_eval f g t [] nothing (scope_none nothing) (λ o i. some-injective (f o.name) (g o.name) (sym (a o i) ∙ b o i));
    }
