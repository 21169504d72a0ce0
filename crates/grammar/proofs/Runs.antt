-- What holds of every run, whatever the program: it has one outcome, and does not see past the token that it stops at.
use Rattle.std.proofs.Common.{◌≡◌, Bool, true, false, List, [], ◌∷◌, ◌++◌, Some, None, Option, sym, refl, ap, ◌∙◌, subst, true≢false, append_assoc}
use mathlib.Core.Bool.{false≢true}
use Rattle.tokens.specs.Lexeme.{Lexeme}
use Rattle.grammar.specs.Steps.{Test, Job, Result, Prog, call, Out, out, first, second, Hits, Misses, Run, r_ret, r_on, r_off, r_want, r_refuse, r_both, r_only, r_none, r_call, r_fails}

-- k goes on from what a run came to, which is no refusal
abbrev After : (i j : Job) → (Result j → Prog (Result i)) → Out (Result j) → Out (Result i) → Type 0
After i j k (out (Some a) rest far) o = Run i (k a) rest far o
After i j k (out None rest far) o = ⊥

-- a refusal is passed on
abbrev lost : (i j : Job) → Out (Result j) → Out (Result i)
lost i j (out v rest then) = out None rest then

-- a test has one answer
pub not_both : {b : Bool} → b ≡ true → b ≡ false → ⊥
not_both p q = true≢false (sym p ∙ q)

pub hits_misses : (t : Test) (x : Option Lexeme) → Hits t x → Misses t x → ⊥
hits_misses t None h m = h
hits_misses t (Some x) h m = not_both h m

pub det : {i : Job} {p : Prog (Result i)} {ts : List Lexeme} {far : Bool} {o₁ o₂ : Out (Result i)} → Run i p ts far o₁ → Run i p ts far o₂ → o₁ ≡ o₂
det r_ret r_ret = refl
det (r_on e a) (r_on e' b) = det a b
det (r_on e a) (r_off n b) = absurd (not_both e n)
det (r_off n a) (r_on e b) = absurd (not_both e n)
det (r_off n a) (r_off m b) = det a b
det (r_want e a) (r_want e' b) = det a b
det (r_want e a) (r_refuse n) = absurd (not_both e n)
det (r_refuse n) (r_want e b) = absurd (not_both e n)
det (r_refuse n) (r_refuse m) = refl
det (r_both e f a) (r_both e' f' b) = det a b
det (r_both e f a) (r_only m n b) = absurd (not_both f n)
det (r_both e f a) (r_none n b) = absurd (not_both e n)
det (r_only m n a) (r_both e f b) = absurd (not_both f n)
det (r_only m n a) (r_only m' n' b) = det a b
det (r_only {t = t} {ts = ts} m n a) (r_none n' b) = absurd (hits_misses t (first ts) m n')
det (r_none n a) (r_both e f b) = absurd (not_both e n)
det (r_none {t = t} {ts = ts} n a) (r_only m n' b) = absurd (hits_misses t (first ts) m n)
det (r_none n a) (r_none n' b) = det a b
det {i} {o₂ = o} (r_call {j = j} {k = f} a k) (r_call a' k') = det k (subst (λ x. After i j f x o) (sym (det a a')) k')
det {i} (r_call {j = j} {k = f} {o = o} a k) (r_fails b) = absurd (subst (λ x. After i j f x o) (det a b) k)
det {i} {o₂ = o} (r_fails a) (r_call {j = j} {k = f} b k) = absurd (subst (λ x. After i j f x o) (sym (det a b)) k)
det {i} (r_fails {j = j} a) (r_fails b) = ap (lost i j) (det a b)

-- What a run can see of the tokens left: the first, and the second where it has looked at that.
abbrev pub Agree : Bool → List Lexeme → List Lexeme → Type 0
Agree true xs ys = (first xs ≡ first ys) × (second xs ≡ second ys)
Agree false xs ys = first xs ≡ first ys

-- A run that takes nothing has still looked at the second token if it was looked at before.
abbrev pub Keep : Bool → List Lexeme → Bool → Type 0
Keep far used then = far ≡ true → used ≡ [] → then ≡ true

abbrev IsNil : List Lexeme → Type 0
IsNil [] = Unit {0}
IsNil (x ∷ xs) = ⊥

pub cons_not_nil : {x : Lexeme} {xs : List Lexeme} → x ∷ xs ≡ [] → ⊥
cons_not_nil e = subst IsNil (sym e) tt

first_same : (then : Bool) (u rest rest' : List Lexeme) → Agree then rest rest' → first (u ++ rest) ≡ first (u ++ rest')
first_same true [] r s g = g.0
first_same false [] r s g = g
first_same then (x ∷ u) r s g = refl

second_same : (then : Bool) (u rest rest' : List Lexeme) → Keep true u then → Agree then rest rest' → second (u ++ rest) ≡ second (u ++ rest')
second_same true [] r s k g = g.1
second_same false [] r s k g = absurd (false≢true (k refl refl))
second_same then (x ∷ []) r s k g = first_same then [] r s g
second_same then (x ∷ y ∷ u) r s k g = refl

agree_more : (far then : Bool) (u : List Lexeme) {ts : List Lexeme} (rest rest' : List Lexeme) → ts ≡ u ++ rest → Keep far u then → Agree then rest rest' → Agree far ts (u ++ rest')
agree_more true then u r s e k g = (ap first e ∙ first_same then u r s g, ap second e ∙ second_same then u r s k g)
agree_more false then u r s e k g = ap first e ∙ first_same then u r s g

-- the first token is still there
agree_first : {ts : List Lexeme} (then : Bool) (u rest rest' : List Lexeme) → ts ≡ u ++ rest → Agree then rest rest' → first ts ≡ first (u ++ rest')
agree_first then u r s e g = ap first e ∙ first_same then u r s g

nil_left : (xs ys : List Lexeme) → xs ++ ys ≡ [] → xs ≡ []
nil_left [] ys e = refl
nil_left (x ∷ xs) ys e = absurd (cons_not_nil e)

nil_right : (xs ys : List Lexeme) → xs ++ ys ≡ [] → ys ≡ []
nil_right [] ys e = e
nil_right (x ∷ xs) ys e = absurd (cons_not_nil e)

pub record Local (i : Job) (p : Prog (Result i)) (ts : List Lexeme) (far : Bool) (v : Option (Result i)) (rest : List Lexeme) (then : Bool) : Type 0 where
  pub used : List Lexeme
  pub split : ts ≡ used ++ rest
  pub keep : Keep far used then
  pub again : (rest' : List Lexeme) → Agree then rest rest' → Run i p (used ++ rest') far (out v rest' then)

took : {i : Job} {p q : Prog (Result i)} {ts rest : List Lexeme} {far then : Bool} {v : Option (Result i)} (x : Lexeme) → ((us : List Lexeme) (o : Out (Result i)) → Run i p us false o → Run i q (x ∷ us) far o) → Local i p ts false v rest then → Local i q (x ∷ ts) far v rest then
took x step l = record {
  used = x ∷ l.used;
  split = ap {B = List Lexeme} (λ us. x ∷ us) l.split;
  keep = λ f e. absurd (cons_not_nil e);
  again = λ rest' g. step _ _ (l.again rest' g);
}

-- a run does not change where the tokens change that it has not looked at
pub local : {i : Job} {p : Prog (Result i)} {ts : List Lexeme} {far : Bool} {v : Option (Result i)} {rest : List Lexeme} {then : Bool} → Run i p ts far (out v rest then) → Local i p ts far v rest then
local r_ret = record { used = []; split = refl; keep = λ f e. f; again = λ rest' g. r_ret }
local (r_on {x = x} e a) = took x (λ us o r. r_on e r) (local a)
local {rest} {then = then} (r_off {t = t} n a) =
    let l = local a in
    record { used = l.used; split = l.split; keep = l.keep; again = λ rest' g. r_off (subst (Misses t) (agree_first then l.used rest rest' l.split g) n) (l.again rest' g) }
local (r_want {x = x} e a) = took x (λ us o r. r_want e r) (local a)
local {rest} {then = then} (r_refuse {t = t} n) =
    record { used = []; split = refl; keep = λ f e. f; again = λ rest' g. r_refuse (subst (Misses t) (agree_first then [] rest rest' refl g) n) }
local (r_both {x = x} {y = y} e f a) =
    let l = local a in
    record {
      used = x ∷ y ∷ l.used;
      split = ap {B = List Lexeme} (λ us. x ∷ y ∷ us) l.split;
      keep = λ f e. absurd (cons_not_nil e);
      again = λ rest' g. r_both e f (l.again rest' g);
    }
local {rest} {then = then} (r_only {t = t} {u = u} m n a) =
    let l = local a in
    record {
      used = l.used;
      split = l.split;
      keep = λ f e. l.keep refl e;
      again = λ rest' g.
          let both = agree_more true then l.used rest rest' l.split l.keep g in
          r_only (subst (Hits t) both.0 m) (subst (Misses u) both.1 n) (l.again rest' g);
    }
local {rest} {then = then} (r_none {t = t} n a) =
    let l = local a in
    record { used = l.used; split = l.split; keep = l.keep; again = λ rest' g. r_none (subst (Misses t) (agree_first then l.used rest rest' l.split g) n) (l.again rest' g) }
local {i} {far = far} {v = v} {rest} {then = end} (r_call {j = j} {k = f} {then = then} a k) =
    let l = local a in
    let m = local k in
    record {
      used = l.used ++ m.used;
      split = l.split ∙ ap (λ us. l.used ++ us) m.split ∙ sym (append_assoc l.used m.used _);
      keep = λ on e. m.keep (l.keep on (nil_left _ _ e)) (nil_right l.used _ e);
      again = λ rest' g.
          subst (λ us. Run i (call j f) us far (out v rest' end)) (sym (append_assoc l.used m.used rest'))
          (r_call (l.again (m.used ++ rest') (agree_more then end m.used rest rest' m.split m.keep g)) (m.again rest' g));
    }
local (r_fails a) =
    let l = local a in
    record { used = l.used; split = l.split; keep = l.keep; again = λ rest' g. r_fails (l.again rest' g) }
