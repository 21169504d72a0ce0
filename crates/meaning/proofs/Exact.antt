-- An assignment by place and names in sight alone does what one does that is told the candidates too.
use Rattle.std.proofs.Common.{◌≡◌, Bool, true, false, cond, not, ◌&&◌, ◌||◌, eqb, ◌⊎◌, List, [], ◌∷◌, ◌++◌, sym, refl, ap, ◌∙◌, subst, inl, inr}
use mathlib.Core.Option.{Option, none, some}
use Rattle.std.proofs.lemmas.Bool.{eqb-true, eq-eqb, or_cases, true≢false}
use Rattle.std.specs.Ordering.{is_eq}
use Rattle.syntax.specs.declared.Collection.{Collection}
use Rattle.syntax.specs.declared.Collection.TheVariants.{Set}
use Rattle.syntax.specs.Tree.{Place, Tree, numeral, name, connective, if_else, let_in, let_be, cases, quantifier, collection, comprehension, selection, Trees, Alternatives, no_more, alternative, Optional, absent, present}
use Rattle.values.specs.declared.Fault.TheVariants.{WrongKind, NoCase}
use Rattle.values.specs.declared.Operand.TheVariants.{Many}
use Rattle.values.specs.Value.{Value, truth, of, compare}
use Rattle.values.specs.Sets.{equal, member}
use Rattle.values.specs.Operators.{is, members}
use Rattle.sets.proofs.Order.{equal_of, itself}
use Rattle.sets.proofs.Order as order
use Rattle.syntax.specs.Names.{In}
use Rattle.meaning.specs.Names.{Binding, Sight, nothing, bind, bind_all, Facts}
use Rattle.meaning.specs.Parts.{Site, sites, sites_all, sites_in, sites_of, Apart}
use Rattle.meaning.specs.Course.{Outcome, value, fault, Course, ended, begins, chooses, ◌>>=◌}
use Rattle.meaning.specs.Eval.{given, strict, Truth, holds, fails, truth_of, decides, branch, deciding, left, joined, connect, Body, looped, fit, over, decider, kept, searching, added, adding, filtering, candidate, testing, choice, match, matched, eval, eval_all, eval_cases, eval_or}
use Rattle.meaning.specs.Play.{Picker, outcome, Assigns, Allowed}
use Rattle.meaning.specs.Laws.{Leads, Assigning}
use Rattle.meaning.proofs.Apart.{apart}
use Rattle.syntax.proofs.Names.{in_left, in_right}

-- each choice on a picker's way is as P says
abbrev Way : Picker → (Place → Sight → Value → List Value → Type 0) → Course → Type 0
Way a P (ended o) = Unit {0}
Way a P (begins p m) = Way a P m
Way a P (chooses p s c cs f) = P p s c cs × Way a P (f (a p s c cs))

module _ (a : Picker) (P : Place → Sight → Value → List Value → Type 0) where
  then : (k : Outcome → Course) (m : Course) → Way a P m → Way a P (k (outcome a m)) → Way a P (m >>= k)
  then k (ended o) h g = g
  then k (begins p m) h g = then k m h g
  then k (chooses p s c cs f) h g = (h.0, then k (f (a p s c cs)) h.1 g)

  strictly : (m : Course) (f : Value → Course) → Way a P m → ((v : Value) → outcome a m ≡ value v → Way a P (f v)) → Way a P (strict m f)
  strictly m f h g = then (given f) m h (go (outcome a m) refl)
    where
      go : (o : Outcome) → outcome a m ≡ o → Way a P (given f o)
      go (value v) e = g v e
      go (fault k q) e = tt

  either : (b : Bool) (m n : Course) → Way a P m → Way a P n → Way a P (cond b m n)
  either true m n h g = h
  either false m n h g = g

  branches : (m n : Course) (t : Truth) → Way a P m → Way a P n → Way a P (branch m n t)
  branches m n (holds true) h g = h
  branches m n (holds false) h g = g
  branches m n (fails k q) h g = tt

  abbrev Onward : (Outcome → Course) → Type 0
  Onward go = (b : Outcome) → Way a P (go b)

  abbrev Steady : Body → Type 0
  Steady f = (v : Value) (b : Outcome) (go : Outcome → Course) → Onward go → Way a P (f v b go)

  loops : (f : Body) → Steady f → (vs : List Value) (b : Outcome) → Way a P (looped f vs b)
  loops f st [] b = tt
  loops f st (v ∷ vs) b = st v b (looped f vs) (loops f st vs)

  overs : (p : Place) (k : Collection) (f : Body) → Steady f → (b : Outcome) (v : Value) → Way a P (over p k f b v)
  overs p k f st b v = either (is (Many Set) v && fit k (members v)) (looped f (members v) b) (ended (fault WrongKind p)) (loops f st (members v) b) tt

  abbrev Each : (Value → Course) → Type 0
  Each f = (v : Value) → Way a P (f v)

  searches : (p : Place) (d : Bool) (f : Value → Course) → Each f → Steady (searching p d f)
  searches p d f h v b go g =
      then (λ o. cond (decides d (truth_of p o)) (ended (value (truth d))) (go (kept b (truth_of p o)))) (f v) (h v)
      (either (decides d (truth_of p (outcome a (f v)))) (ended (value (truth d))) (go (kept b (truth_of p (outcome a (f v))))) tt (g (kept b (truth_of p (outcome a (f v))))))

  tests : (p : Place) (f : Value → Course) → Each f → Steady (testing p f)
  tests p f h v b go g = then (λ o. go (cond (decides true (truth_of p o)) (candidate v b) b)) (f v) (h v) (g _)

  addings : (p : Place) (k : Collection) (m : Course) (go : Outcome → Course) (b : Outcome) → Way a P m → Onward go → Way a P (adding p k m go b)
  addings p k m go b h g = strictly m (λ x. given (λ c. go (value c)) (added p k b x)) h (λ x e. on (added p k b x))
    where
      on : (o : Outcome) → Way a P (given (λ c. go (value c)) o)
      on (value c) = g (value c)
      on (fault j q) = tt

  filters : (p : Place) (k : Collection) (c r : Value → Course) → Each c → Each r → Steady (filtering p k c r)
  filters p k c r hc hr v b go g =
      then (λ o. branch (adding p k (r v) go b) (go b) (truth_of p o)) (c v) (hc v)
      (branches (adding p k (r v) go b) (go b) (truth_of p (outcome a (c v))) (addings p k (r v) go b (hr v) g) (g b))

  choices : (p : Place) (s : Sight) (f : Value → Course) (cs : List Value) → ((c : Value) (ds : List Value) → cs ≡ c ∷ ds → P p s c ds) → Each f → Way a P (choice p s f cs)
  choices p s f [] k h = tt
  choices p s f (c ∷ cs) k h = (k c cs refl, h (a p s c cs))

  matcheds : (r : List Binding → Course) (m : Course) (o : Option (List Binding)) → ((bs : List Binding) → Way a P (r bs)) → Way a P m → Way a P (matched r m o)
  matcheds r m none h g = g
  matcheds r m (some bs) h g = h bs

-- the candidates of a `let be`, with the picker's choices inside it
abbrev candidates : Outcome → List Value
candidates (value v) = members v
candidates (fault k q) = []

module _ (a : Picker) (f : Facts) where
  abbrev gathering : Site → Sight → Course
  gathering σ s = strict (eval σ.set f s) (over σ.at Set (testing σ.at λ v. eval σ.condition f (bind σ.bound v s)) (value (of Set [])))

  abbrev gathered : Site → Sight → List Value
  gathered σ s = candidates (outcome a (gathering σ s))

  module _ (P : Place → Sight → Value → List Value → Type 0) where
    -- P holds of these sites
    abbrev Of : List Site → Type 0
    Of xs = (σ : Site) → In σ xs → (s : Sight) (c : Value) (cs : List Value) → gathered σ s ≡ c ∷ cs → P σ.at s c cs

    l : (xs ys : List Site) → Of (xs ++ ys) → Of xs
    l xs ys h σ i = h σ (in_left σ xs ys i)

    r : (xs ys : List Site) → Of (xs ++ ys) → Of ys
    r xs ys h σ i = h σ (in_right σ xs ys i)

    abbrev W : Course → Type 0
    W m = Way a P m

    mutual
      unfolding eval sites

      way : (t : Tree) → Of (sites t) → (s : Sight) → Way a P (eval t f s)
      way (numeral p n) h s = tt
      way (Tree.truth p b) h s = tt
      way (name p n) h s = tt
      way (Tree.unary p o x) h s = strictly a P (eval x f s) _ (way x h s) (λ v e. tt)
      way (Tree.binary p o x y) h s = strictly a P (eval x f s) _ (way x (l (sites x) (sites y) h) s) (λ v e. strictly a P (eval y f s) _ (way y (r (sites x) (sites y) h) s) (λ w j. tt))
      way (connective p o x y) h s =
          then a P (λ q. connect p (deciding o) (eval y f s) (left o (truth_of p q))) (eval x f s) (way x (l (sites x) (sites y) h) s)
          (either a P (decides (deciding o) (left o (truth_of p (outcome a (eval x f s))))) _ _ tt
          (then a P (λ q. ended (joined (deciding o) (left o (truth_of p (outcome a (eval x f s)))) (truth_of p q))) (eval y f s) (way y (r (sites x) (sites y) h) s) tt))
      way (if_else p x y z) h s =
          let k = r (sites x) (sites y ++ sites z) h in
          then a P (λ q. branch (eval y f s) (eval z f s) (truth_of p q)) (eval x f s) (way x (l (sites x) (sites y ++ sites z) h) s)
          (branches a P (eval y f s) (eval z f s) (truth_of p (outcome a (eval x f s))) (way y (l (sites y) (sites z) k) s) (way z (r (sites y) (sites z) k) s))
      way (let_in p n x y) h s = strictly a P (eval x f s) (λ v. eval y f (bind n v s)) (way x (l (sites x) (sites y) h) s) (λ v e. way y (r (sites x) (sites y) h) (bind n v s))
      way (let_be p n x c b) h s =
          let σ : Site = record { at = p; bound = n; set = x; condition = c } in
          let m = r (σ ∷ []) (sites x ++ (sites c ++ sites b)) h in
          let k = r (sites x) (sites c ++ sites b) m in
          let C : Value → Course = λ v. eval c f (bind n v s) in
          let B : Value → Course = λ v. eval b f (bind n v s) in
          strictly a P (gathering σ s) (λ cs. choice p s B (members cs))
          (strictly a P (eval x f s) (over p Set (testing p C) (value (of Set []))) (way x (l (sites x) (sites c ++ sites b) m) s)
          (λ v e. overs a P p Set (testing p C) (tests a P p C (λ w. way c (l (sites c) (sites b) k) (bind n w s))) (value (of Set [])) v))
          (λ cs e. choices a P p s B (members cs) (λ d ds j. h σ (inl refl) s d ds (ap candidates e ∙ j)) (λ w. way b (r (sites c) (sites b) k) (bind n w s)))
      way (cases p x cs o) h s =
          let k = r (sites x) (sites_in cs ++ sites_of o) h in
          strictly a P (eval x f s) (λ v. eval_cases cs f s v (eval_or o f s (ended (fault NoCase p)))) (way x (l (sites x) (sites_in cs ++ sites_of o) h) s)
          (λ v e. way_cases cs (l (sites_in cs) (sites_of o) k) s v (eval_or o f s (ended (fault NoCase p))) (way_or o (r (sites_in cs) (sites_of o) k) s (ended (fault NoCase p)) tt))
      way (quantifier p q n x y) h s =
          let B : Value → Course = λ v. eval y f (bind n v s) in
          let O : Value → Course = over p Set (searching p (decider q) B) (value (truth (not (decider q)))) in
          strictly a P (eval x f s) O (way x (l (sites x) (sites y) h) s)
          (λ v e. overs a P p Set (searching p (decider q) B) (searches a P p (decider q) B (λ w. way y (r (sites x) (sites y) h) (bind n w s))) (value (truth (not (decider q)))) v)
      way (collection p k ts) h s = way_all ts h s p k (value (of k []))
      way (Tree.range p x y) h s = strictly a P (eval x f s) _ (way x (l (sites x) (sites y) h) s) (λ v e. strictly a P (eval y f s) _ (way y (r (sites x) (sites y) h) s) (λ w j. tt))
      way (comprehension p k x n y c) h s =
          let m = r (sites x) (sites y ++ sites_of c) h in
          let C : Value → Course = λ v. eval_or c f (bind n v s) (ended (value (truth true))) in
          let E : Value → Course = λ v. eval x f (bind n v s) in
          strictly a P (eval y f s) (over p k (filtering p k C E) (value (of k []))) (way y (l (sites y) (sites_of c) m) s)
          (λ v e.
          overs a P p k (filtering p k C E)
          (filters a P p k C E
          (λ w. way_or c (r (sites y) (sites_of c) m) (bind n w s) (ended (value (truth true))) tt)
          (λ w. way x (l (sites x) (sites y ++ sites_of c) h) (bind n w s)))
          (value (of k [])) v)
      way (selection p x n) h s = strictly a P (eval x f s) _ (way x h s) (λ v e. tt)

      way_all : (ts : Trees) → Of (sites_all ts) → (s : Sight) (p : Place) (k : Collection) (b : Outcome) → Way a P (eval_all ts f s p k b)
      way_all Trees.none h s p k b = tt
      way_all (Trees.more t ts) h s p k b = addings a P p k (eval t f s) (eval_all ts f s p k) b (way t (l (sites t) (sites_all ts) h) s) (λ c. way_all ts (r (sites t) (sites_all ts) h) s p k c)

      way_cases : (cs : Alternatives) → Of (sites_in cs) → (s : Sight) (v : Value) (m : Course) → Way a P m → Way a P (eval_cases cs f s v m)
      way_cases no_more h s v m g = g
      way_cases (alternative pat x cs) h s v m g =
          matcheds a P (λ bs. eval x f (bind_all bs s)) (eval_cases cs f s v m) (match pat v) (λ bs. way x (l (sites x) (sites_in cs) h) (bind_all bs s))
          (way_cases cs (r (sites x) (sites_in cs) h) s v m g)

      way_or : (o : Optional) → Of (sites_of o) → (s : Sight) (m : Course) → Way a P m → Way a P (eval_or o f s m)
      way_or absent h s m g = g
      way_or (present t) h s m g = way t h s

-- ---- the assignment

find : Place → List Site → Option Site
find p [] = none
find p (x ∷ xs) = cond (eqb p x.at) (some x) (find p xs)

found : (σ : Site) (xs : List Site) → Apart xs → In σ xs → find σ.at xs ≡ some σ
unfolding find
found σ [] h i = absurd i
found σ (x ∷ xs) h (inl e) = ap (λ c. cond c (some x) (find σ.at xs)) (eq-eqb σ.at x.at (ap (λ y. y.at) e)) ∙ ap some (sym e)
found σ (x ∷ xs) h (inr i) = go (eqb σ.at x.at) refl (found σ xs h.1 i)
  where
    go : (b : Bool) → eqb σ.at x.at ≡ b → find σ.at xs ≡ some σ → cond b (some x) (find σ.at xs) ≡ some σ
    go true e again = absurd (h.0 σ i (sym (eqb-true σ.at x.at e)))
    go false e again = again

module _ (a : Picker) (f : Facts) where
  abbrev picks : Place → Sight → List Value → Value
  picks p s [] = truth true
  picks p s (c ∷ cs) = a p s c cs

  abbrev at_site : Place → Sight → Option Site → Value
  at_site p s none = truth true
  at_site p s (some σ) = picks p s (gathered a f σ s)

  abbrev assigned : List Site → Place → Sight → Value
  assigned xs p s = at_site p s (find p xs)

  leads : (α : Place → Sight → Value) → Assigns a → (m : Course) → Way a (λ p s c cs. α p s ≡ a p s c cs) m → Leads α m (outcome a m)
  leads α h (ended o) w = refl
  leads α h (begins p m) w = leads α h m w
  leads α h (chooses p s c cs g) w = (subst (λ v. In v (c ∷ cs)) (sym w.0) (h p s c cs), subst (λ v. Leads α (g v) (outcome a (g (a p s c cs)))) (sym w.0) (leads α h (g (a p s c cs)) w.1))

assigned_to : (t : Tree) (f : Facts) (o : Outcome) → Apart (sites t) → Allowed t f o → (α : Place → Sight → Value) × Leads α (eval t f nothing) o
assigned_to t f o h w =
    let a = w.assignment in
    let α : Place → Sight → Value = assigned a f (sites t) in (
      α,
      subst (Leads α (eval t f nothing)) w.leads
          (leads a f α w.assigns (eval t f nothing)
          (way a f (λ p s c cs. α p s ≡ a p s c cs) t
          (λ σ i s c cs e. ap (at_site a f σ.at s) (found σ (sites t) h i) ∙ ap (picks a f σ.at s) e) nothing)),
    )

-- ---- and back

in_member : (v : Value) (ws : List Value) → In v ws → member v ws ≡ true
in_member v [] i = absurd i
in_member v (w ∷ ws) (inl e) = ap (λ b. b || member v ws) (ap (equal v) (sym e) ∙ ap is_eq (itself v))
in_member v (w ∷ ws) (inr i) = ap (λ b. equal v w || b) (in_member v ws i) ∙ or_true (equal v w)
  where
    or_true : (b : Bool) → (b || true) ≡ true
    or_true true = refl
    or_true false = refl

member_in : (v : Value) (ws : List Value) → member v ws ≡ true → In v ws
member_in v [] e = absurd (true≢false (sym e))
member_in v (w ∷ ws) e = go (or_cases (equal v w) (member v ws) e) (member_in v ws)
  where
    go : (equal v w ≡ true) ⊎ (member v ws ≡ true) → (member v ws ≡ true → In v ws) → In v (w ∷ ws)
    go (inl h) again = inl (order.same v w (equal_of (compare v w) h))
    go (inr h) again = inr (again h)

module _ (α : Place → Sight → Value) where
  -- the first candidate where the assignment gives none of them
  abbrev told_of : Picker
  told_of p s c cs = cond (member (α p s) (c ∷ cs)) (α p s) c

  told_assigns : Assigns told_of
  told_assigns p s c cs = go (member (α p s) (c ∷ cs)) refl
    where
      go : (b : Bool) → member (α p s) (c ∷ cs) ≡ b → In (cond b (α p s) c) (c ∷ cs)
      go true e = member_in (α p s) (c ∷ cs) e
      go false e = inl refl

  led : (m : Course) (o : Outcome) → Leads α m o → outcome told_of m ≡ o
  led (ended r) o h = h
  led (begins p m) o h = led m o h
  led (chooses p s c cs f) o h = ap (λ b. outcome told_of (f (cond b (α p s) c))) (in_member (α p s) (c ∷ cs) h.0) ∙ led (f (α p s)) o h.1

pub assigning : Assigning
assigning =
    record {
      no_more = assigned_to;
      of_texts = λ text ts t c d. apart text ts t c d;
      no_fewer = λ t f o α h. record { assignment = told_of α; assigns = told_assigns α; leads = led α (eval t f nothing) o h };
    }
