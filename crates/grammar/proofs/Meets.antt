-- What a program reads is what a grammar has, and what it has read at a refusal can be completed: by the program's shape alone, for every run.
use Rattle.std.proofs.Common.{◌≡◌, ℕ, suc, ◌≤◌, Bool, true, false, not, ◌&&◌, List, [], ◌∷◌, ◌++◌, Some, None, Option, sym, refl, ap, ◌∙◌, subst, true≢false, append_assoc, append-nil, arith, lit≤}
use mathlib.Core.Bool.{false≢true}
use Rattle.tokens.specs.declared.Mark.TheVariants as sign
use Rattle.tokens.specs.Lexeme.{Symbol, Lexeme}
use Rattle.syntax.specs.Tree.{Pattern, Tree, Alternatives, Optional}
use Rattle.grammar.specs.Grammar.{◌at◌, ◌name_at◌, Left, Lead, Sort, Derives, DerivesBind, DerivesItems, DerivesCases, DerivesPattern, DerivesPatterns, count, count_patterns, d_connected, d_else, d_link, d_premise, d_bare, d_side, d_atom, d_name, d_bind, d_last, d_more, d_only, p_any, p_last, p_more}
use Rattle.grammar.specs.Steps.{Test, is, Limit, any, most, several, Job, parse, more, applied, bind, items, arms, pattern, patterns, Result, Prog, ret, on, want, ahead, call, out, first, Hits, Misses, body, Run, r_ret, r_on, r_off, r_want, r_refuse, r_both, r_only, r_none, r_call, r_fails}
use Rattle.grammar.proofs.Tokens.{same_mark}

abbrev pub Within : Limit → ℕ → Type 0
Within any n = Unit {0}
Within (most m) n = n ≤ suc m
Within several n = (2 ≤ n) × (n ≤ 8)

-- what a job reads
abbrev pub Derived : (j : Job) → List Lexeme → Result j → Type 0
Derived (parse s f) us t = Derives s us t
Derived (more l f a) us t = (before : List Lexeme) → Derives (Sort.left l) before a → Derives (Sort.left l) (before ++ us) t
Derived (applied a) us t = (before : List Lexeme) → Derives Sort.postfix before a → Derives Sort.postfix (before ++ us) t
Derived bind us b = DerivesBind us b.name b.set
Derived (items l) us ts = DerivesItems us ts × Within l (count ts)
Derived arms us r = DerivesCases us r.arms r.others
Derived pattern us t = DerivesPattern us t
Derived (patterns l) us ts = DerivesPatterns us ts × Within l (count_patterns ts)

-- may `in` follow a job, and may it be entered with the token behind `in` looked at
abbrev pub flag : Job → Bool
flag (parse s f) = f
flag (more l f a) = f
flag (applied a) = false
flag bind = false
flag (items l) = false
flag arms = false
flag pattern = false
flag (patterns l) = false

abbrev pub enters : Job → Bool
enters (parse s f) = false
enters (more l f a) = f
enters (applied a) = false
enters bind = false
enters (items l) = false
enters arms = false
enters pattern = false
enters (patterns l) = false

-- the flag once the test has failed
abbrev pub missed : Test → Bool → Bool
missed t m = m && not (t (Symbol.mark sign.In))

-- Every result of p, read behind what it has taken, is as D has it. The flag m: the token behind the next may have been looked at, at an `in`.
pub data Meets : (i : Job) → Bool → Prog (Result i) → (List Lexeme → Result i → Type 0) → Type 1 where
  m_ret : {i : Job} {m : Bool} {a : Result i} {D : List Lexeme → Result i → Type 0} → (m ≡ true → flag i ≡ true) → D [] a → Meets i m (ret a) D
  m_on : {i : Job} {m : Bool} {t : Test} {q : Prog (Result i)} {k : Lexeme → Prog (Result i)} {D : List Lexeme → Result i → Type 0} → Meets i (missed t m) q D → ((x : Lexeme) → t x.symbol ≡ true → Meets i false (k x) (λ us a. D (x ∷ us) a)) → Meets i m (on t q k) D
  m_want : {i : Job} {m : Bool} {t : Test} {k : Lexeme → Prog (Result i)} {D : List Lexeme → Result i → Type 0} → missed t m ≡ false → (x : Lexeme) → t x.symbol ≡ true → ((x : Lexeme) → t x.symbol ≡ true → Meets i false (k x) (λ us a. D (x ∷ us) a)) → Meets i m (want t k) D
  m_ahead : {i : Job} {m : Bool} {t u : Test} {r q : Prog (Result i)} {k : Lexeme → Prog (Result i)} {D : List Lexeme → Result i → Type 0} → Meets i (missed t m) r D → Meets i true q D → ((s : Symbol) → t s ≡ true → is sign.In s ≡ true) → ((x y : Lexeme) → t x.symbol ≡ true → u y.symbol ≡ true → Meets i false (k x) (λ us a. D (x ∷ y ∷ us) a)) → Meets i m (ahead t u r q k) D
  m_call : {i j : Job} {m : Bool} {k : Result j → Prog (Result i)} {D : List Lexeme → Result i → Type 0} → (m ≡ true → enters j ≡ true) → ((us : List Lexeme) (b : Result j) → Derived j us b → Meets i (flag j) (k b) (λ vs a. D (us ++ vs) a)) → Meets i m (call j k) D

-- the token behind the next was looked at only at an `in`, and only where the flag is set
abbrev pub Near : Bool → Bool → List Lexeme → Type 0
Near m far ts = far ≡ true → (m ≡ true) × Hits (is sign.In) (first ts)

abbrev pub NearBy : (i : Job) → Option (Result i) → Bool → List Lexeme → Type 0
NearBy i (Some a) then rest = Near (flag i) then rest
NearBy i None then rest = then ≡ false

-- us is a D, or begins one
abbrev pub Open : (i : Job) → (List Lexeme → Result i → Type 0) → List Lexeme → Option (Result i) → Type 0
Open i D us (Some a) = D us a
Open i D us None = (onward : List Lexeme) × ((a : Result i) × D (us ++ onward) a)

pub record Sound (i : Job) (D : List Lexeme → Result i → Type 0) (ts : List Lexeme) (v : Option (Result i)) (rest : List Lexeme) (then : Bool) : Type 0 where
  pub used : List Lexeme
  pub split : ts ≡ used ++ rest
  pub ends : Open i D used v
  pub near : NearBy i v then rest

vacuous : {A : Type 0} → false ≡ true → A
vacuous e = absurd (false≢true e)

near_none : (m far : Bool) (ts : List Lexeme) → m ≡ false → Near m far ts → far ≡ false
near_none m true ts e n = absurd (true≢false (sym (n refl).0 ∙ e))
near_none m false ts e n = refl

in_symbol : (s : Symbol) → is sign.In s ≡ true → s ≡ Symbol.mark sign.In
in_symbol (Symbol.mark m) e = ap {B = Symbol} Symbol.mark (sym (same_mark sign.In m e))
in_symbol (Symbol.name n) e = vacuous e
in_symbol (Symbol.numeral n) e = vacuous e

and_in : {a b : Bool} → a ≡ true → b ≡ false → (a && not b) ≡ true
and_in {a} {b} p q = subst (λ x. (x && not b) ≡ true) (sym p) (subst (λ x. not x ≡ true) (sym q) refl)

-- behind a test that failed
near_miss : (t : Test) (m far : Bool) (ts : List Lexeme) → Misses t (first ts) → Near m far ts → Near (missed t m) far ts
near_miss t m far [] n near e = absurd (near e).1
near_miss t m far (x ∷ ts) n near e = (and_in (near e).0 (subst (λ s. t s ≡ false) (in_symbol x.symbol (near e).1) n), (near e).1)

near_false : (m : Bool) (ts : List Lexeme) → Near m false ts
near_false m ts e = vacuous e

wider : (m n far : Bool) (ts : List Lexeme) → (m ≡ true → n ≡ true) → Near m far ts → Near n far ts
wider m n far ts h near e = (h (near e).0, (near e).1)

hits_in : (t : Test) → ((s : Symbol) → t s ≡ true → is sign.In s ≡ true) → (ts : List Lexeme) → Hits t (first ts) → Hits (is sign.In) (first ts)
hits_in t h [] e = e
hits_in t h (x ∷ ts) e = h x.symbol e

-- Something of each job, to complete what was begun

abbrev a_lexeme : Lexeme
a_lexeme = [] name_at 0

abbrev a_tree : Tree
a_tree = Tree.name 0 []

abbrev one : List Lexeme
one = a_lexeme ∷ []

a_postfix : Derives Sort.postfix one a_tree
a_postfix = d_atom (d_name 0)

a_sum : Derives (Sort.left Left.sum) one a_tree
a_sum = d_link (d_link (d_bare a_postfix))

a_conjunction : Derives (Sort.left Left.and) one a_tree
a_conjunction = d_link (d_bare (d_side a_sum))

a_disjunction : Derives (Sort.left Left.or) one a_tree
a_disjunction = d_link a_conjunction

a_connected : Derives (Sort.left Left.iff) one a_tree
a_connected = d_link (d_premise a_disjunction)

an_expr : Derives Sort.expr one a_tree
an_expr = d_connected a_connected

abbrev SomeOf : Job → Type 0
SomeOf j = (us : List Lexeme) × ((b : Result j) × Derived j us b)

some_left : (l : Left) → Derives (Sort.left l) one a_tree
some_left Left.iff = a_connected
some_left Left.or = a_disjunction
some_left Left.and = a_conjunction
some_left Left.sum = a_sum
some_left Left.product = d_link (d_bare a_postfix)

some_lead : (l : Lead) → Derives (Sort.lead l) one a_tree
some_lead Lead.not = d_bare (d_side a_sum)
some_lead Lead.minus = d_bare a_postfix

some_sort : (s : Sort) → (us : List Lexeme) × ((t : Tree) × Derives s us t)
some_sort Sort.expr = (one, (a_tree, an_expr))
some_sort (Sort.choice p) = (_, (_, d_else p 0 0 an_expr an_expr an_expr))
some_sort (Sort.left l) = (one, (a_tree, some_left l))
some_sort Sort.implication = (one, (a_tree, d_premise a_disjunction))
some_sort (Sort.lead l) = (one, (a_tree, some_lead l))
some_sort Sort.relation = (one, (a_tree, d_side a_sum))
some_sort Sort.postfix = (one, (a_tree, a_postfix))
some_sort Sort.atom = (one, (a_tree, d_name 0))

some_items : (l : Limit) → SomeOf (items l)
some_items any = (one, (_, (d_last an_expr, tt)))
some_items (most n) = (one, (_, (d_last an_expr, omega arith)))
some_items several = (_, (_, (d_more 0 an_expr (d_last an_expr), (lit≤ tt, lit≤ tt))))

a_pattern : DerivesPattern (sign.Minus at 0 ∷ []) (Pattern.any 0)
a_pattern = p_any 0

some_patterns : (l : Limit) → SomeOf (patterns l)
some_patterns any = (_, (_, (p_last a_pattern, tt)))
some_patterns (most n) = (_, (_, (p_last a_pattern, omega arith)))
some_patterns several = (_, (_, (p_more 0 a_pattern (p_last a_pattern), (lit≤ tt, lit≤ tt))))

some : (j : Job) → SomeOf j
some (parse s f) = some_sort s
some (more l f a) = ([], (a, λ before d. subst (λ us. Derives (Sort.left l) us a) (sym (append-nil before)) d))
some (applied a) = ([], (a, λ before d. subst (λ us. Derives Sort.postfix us a) (sym (append-nil before)) d))
some bind = (_, (record { name = []; set = a_tree }, d_bind 0 0 0 a_connected))
some (items l) = some_items l
some arms = (_, (record { arms = Alternatives.alternative (Pattern.any 0) a_tree Alternatives.no_more; others = Optional.absent }, d_only 0 a_pattern an_expr))
some pattern = (_, (_, a_pattern))
some (patterns l) = some_patterns l

-- a program has a way to its end
completes : {i : Job} {m : Bool} {p : Prog (Result i)} {D : List Lexeme → Result i → Type 0} → Meets i m p D → (onward : List Lexeme) × ((a : Result i) × D onward a)
completes (m_ret {a = a} h d) = ([], (a, d))
completes (m_on q k) = completes q
completes (m_want e x h k) = let r = completes (k x h) in (x ∷ r.0, r.1)
completes (m_ahead r q h k) = completes r
completes (m_call {j = j} e k) = let s = some j in let r = completes (k s.0 s.1.0 s.1.1) in (s.0 ++ r.0, r.1)

-- one token taken
taken : {i : Job} {D : List Lexeme → Result i → Type 0} {ts : List Lexeme} {v : Option (Result i)} {rest : List Lexeme} {then : Bool} (x : Lexeme) → Sound i (λ us a. D (x ∷ us) a) ts v rest then → Sound i D (x ∷ ts) v rest then
taken {v = Some a} x s = record { used = x ∷ s.used; split = ap {B = List Lexeme} (λ us. x ∷ us) s.split; ends = s.ends; near = s.near }
taken {v = None} x s = record { used = x ∷ s.used; split = ap {B = List Lexeme} (λ us. x ∷ us) s.split; ends = s.ends; near = s.near }

-- what a call took, then the rest
joined : {i : Job} {D : List Lexeme → Result i → Type 0} {ts mid : List Lexeme} {v : Option (Result i)} {rest : List Lexeme} {then : Bool} (us : List Lexeme) → ts ≡ us ++ mid → Sound i (λ vs a. D (us ++ vs) a) mid v rest then → Sound i D ts v rest then
joined {v = Some a} {rest} us e s = record { used = us ++ s.used; split = e ∙ ap (λ l. us ++ l) s.split ∙ sym (append_assoc us s.used rest); ends = s.ends; near = s.near }
joined {D = D} {v = None} {rest} us e s = record {
  used = us ++ s.used;
  split = e ∙ ap (λ l. us ++ l) s.split ∙ sym (append_assoc us s.used rest);
  ends = let (onward, p) = s.ends in (onward, (p.0, subst (λ l. D l p.0) (sym (append_assoc us s.used onward)) p.1));
  near = s.near;
}

module _ (table : (j : Job) → Meets j (enters j) (body j) (Derived j)) where
  pub sound : {i : Job} {p : Prog (Result i)} {ts : List Lexeme} {far : Bool} {v : Option (Result i)} {rest : List Lexeme} {then : Bool} → Run i p ts far (out v rest then) → (m : Bool) (D : List Lexeme → Result i → Type 0) → Meets i m p D → Near m far ts → Sound i D ts v rest then
  sound {far = far} {rest} r_ret m D (m_ret h d) n = record { used = []; split = refl; ends = d; near = wider m _ far rest h n }
  sound (r_on {x = x} e r) m D (m_on q k) n = taken x (sound r false _ (k x e) (near_false false _))
  sound {far = far} (r_off {t = t} {ts = ts} e r) m D (m_on q k) n = sound r (missed t m) D q (near_miss t m far ts e n)
  sound (r_want {x = x} e r) m D (m_want w y h k) n = taken x (sound r false _ (k x e) (near_false false _))
  sound {far = far} (r_refuse {t = t} {ts = ts} e) m D (m_want w y h k) n =
      record { used = []; split = refl; ends = completes (m_want w y h k); near = near_none (missed t m) far ts w (near_miss t m far ts e n) }
  sound (r_both {x = x} {y = y} e f r) m D (m_ahead a b h k) n = taken x (taken y (sound r false _ (k x y e f) (near_false false _)))
  sound (r_only {t = t} {ts = ts} e f r) m D (m_ahead a b h k) n = sound r true D b (λ e'. (refl, hits_in t h ts e))
  sound {far = far} (r_none {t = t} {ts = ts} e r) m D (m_ahead a b h k) n = sound r (missed t m) D a (near_miss t m far ts e n)
  sound {far = far} (r_call {j = j} {a = b} {ts = ts} r s) m D (m_call e k) n =
      let g = sound r (enters j) (Derived j) (table j) (wider m (enters j) far ts e n) in
      joined g.used g.split (sound s (flag j) _ (k g.used b g.ends) g.near)
  sound {far = far} {rest} (r_fails {j = j} {ts = ts} r) m D (m_call e k) n =
      let g = sound r (enters j) (Derived j) (table j) (wider m (enters j) far ts e n) in
      let (onward, p) = g.ends in
      let (later, q) = completes (k (g.used ++ onward) p.0 p.1) in
      record { used = g.used; split = g.split; ends = (onward ++ later, (q.0, subst (λ l. D l q.0) (append_assoc g.used onward later) q.1)); near = g.near }
