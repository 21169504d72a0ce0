-- The program computed, with so much fuel: for examples.
use Rattle.std.proofs.Common.{◌≡◌, ℕ, zero, suc, Bool, true, false, List, [], ◌∷◌, Some, None, Option, sym, refl, ap, subst}
use mathlib.Core.Bool.{false≢true}
use Rattle.tokens.specs.Lexeme.{Symbol, Lexeme}
use Rattle.grammar.specs.Steps.{Test, Job, Result, Prog, ret, on, want, ahead, call, Out, out, first, Hits, Misses, body, Run, r_ret, r_on, r_off, r_want, r_refuse, r_both, r_only, r_none, r_call, r_fails}

abbrev hit : Test → List Lexeme → Bool
hit t [] = false
hit t (x ∷ ts) = t x.symbol

abbrev head : List Lexeme → Lexeme
head [] = record { place = 0; symbol = Symbol.numeral 0 }
head (x ∷ ts) = x

abbrev tail : List Lexeme → List Lexeme
tail [] = []
tail (x ∷ ts) = ts

abbrev pub exec : ℕ → (i : Job) → Prog (Result i) → List Lexeme → Bool → Option (Out (Result i))
exec zero i p ts far = None
exec (suc n) i (ret a) ts far = Some (out (Some a) ts far)
exec (suc n) i (on t q k) ts far = elim (hit t ts) [ true ↦ exec n i (k (head ts)) (tail ts) false | false ↦ exec n i q ts far ]
exec (suc n) i (want t k) ts far = elim (hit t ts) [ true ↦ exec n i (k (head ts)) (tail ts) false | false ↦ Some (out None ts far) ]
exec (suc n) i (ahead t u r q k) ts far =
    elim (hit t ts) [
      | true ↦ elim (hit u (tail ts)) [ true ↦ exec n i (k (head ts)) (tail (tail ts)) false | false ↦ exec n i q ts true ]
      | false ↦ exec n i r ts far
    ]
exec (suc n) i (call j k) ts far =
    elim (exec n j (body j) ts far) [
      | Some o ↦ elim o [ out v rest then ↦ elim v [ Some a ↦ exec n i (k a) rest then | None ↦ Some (out None rest then) ] ]
      | None ↦ None
    ]

module _ {A : Type 0} where
  abbrev IsSome : Option A → Type 0
  IsSome (Some a) = Unit {0}
  IsSome None = ⊥

  none_some : {a : A} → None ≡ Some a → ⊥
  none_some e = subst IsSome (sym e) tt

  abbrev given : A → Option A → A
  given d (Some a) = a
  given d None = d

  some_same : {a b : A} → Some a ≡ Some b → a ≡ b
  some_same {a} e = ap (given a) e

missed : (t : Test) (ts : List Lexeme) → hit t ts ≡ false → Misses t (first ts)
missed t [] e = tt
missed t (x ∷ ts) e = e

hits : (t : Test) (ts : List Lexeme) → hit t ts ≡ true → Hits t (first ts)
hits t [] e = absurd (false≢true e)
hits t (x ∷ ts) e = e

pub exec_run : (n : ℕ) (i : Job) (p : Prog (Result i)) (ts : List Lexeme) (far : Bool) (o : Out (Result i)) → exec n i p ts far ≡ Some o → Run i p ts far o
exec_run zero i p ts far o e = absurd (none_some e)
exec_run (suc n) i (ret a) ts far o e = subst (λ x. Run i (ret a) ts far x) (some_same e) r_ret
exec_run (suc n) i (on t q k) ts far o e = go (exec_run n i) ts (hit t ts) refl e
  where
    go : ((p : Prog (Result i)) (ts : List Lexeme) (far : Bool) (o : Out (Result i)) → exec n i p ts far ≡ Some o → Run i p ts far o) → (us : List Lexeme) (b : Bool) → hit t us ≡ b → elim b [ true ↦ exec n i (k (head us)) (tail us) false | false ↦ exec n i q us far ] ≡ Some o → Run i (on t q k) us far o
    go ih us false h f = r_off (missed t us h) (ih q us far o f)
    go ih [] true h f = absurd (hits t [] h)
    go ih (x ∷ us) true h f = r_on h (ih (k x) us false o f)
exec_run (suc n) i (want t k) ts far o e = go (exec_run n i) ts (hit t ts) refl e
  where
    go : ((p : Prog (Result i)) (ts : List Lexeme) (far : Bool) (o : Out (Result i)) → exec n i p ts far ≡ Some o → Run i p ts far o) → (us : List Lexeme) (b : Bool) → hit t us ≡ b → elim b [ true ↦ exec n i (k (head us)) (tail us) false | false ↦ Some (out None us far) ] ≡ Some o → Run i (want t k) us far o
    go ih us false h f = subst (λ x. Run i (want t k) us far x) (some_same f) (r_refuse (missed t us h))
    go ih [] true h f = absurd (hits t [] h)
    go ih (x ∷ us) true h f = r_want h (ih (k x) us false o f)
exec_run (suc n) i (ahead t u r q k) ts far o e = go (exec_run n i) ts (hit t ts) (hit u (tail ts)) refl refl e
  where
    go : ((p : Prog (Result i)) (ts : List Lexeme) (far : Bool) (o : Out (Result i)) → exec n i p ts far ≡ Some o → Run i p ts far o) → (us : List Lexeme) (b c : Bool) → hit t us ≡ b → hit u (tail us) ≡ c → elim b [ true ↦ elim c [ true ↦ exec n i (k (head us)) (tail (tail us)) false | false ↦ exec n i q us true ] | false ↦ exec n i r us far ] ≡ Some o → Run i (ahead t u r q k) us far o
    go ih us false c h g f = r_none (missed t us h) (ih r us far o f)
    go ih [] true c h g f = absurd (hits t [] h)
    go ih (x ∷ us) true false h g f = r_only h (missed u us g) (ih q (x ∷ us) true o f)
    go ih (x ∷ []) true true h g f = absurd (hits u [] g)
    go ih (x ∷ y ∷ us) true true h g f = r_both h g (ih (k x) us false o f)
exec_run (suc n) i (call j k) ts far o e = go (exec_run n i) (exec n j (body j) ts far) (λ w f. exec_run n j (body j) ts far w f) e
  where
    go : ((p : Prog (Result i)) (ts : List Lexeme) (far : Bool) (o : Out (Result i)) → exec n i p ts far ≡ Some o → Run i p ts far o) → (v : Option (Out (Result j))) → ((w : Out (Result j)) → v ≡ Some w → Run j (body j) ts far w) → elim v [ Some w ↦ elim w [ out v rest then ↦ elim v [ Some a ↦ exec n i (k a) rest then | None ↦ Some (out None rest then) ] ] | None ↦ None ] ≡ Some o → Run i (call j k) ts far o
    go ih None h f = absurd (none_some f)
    go ih (Some (out (Some a) rest then)) h f = r_call (h (out (Some a) rest then) refl) (ih (k a) rest then o f)
    go ih (Some (out None rest then)) h f = subst (λ x. Run i (call j k) ts far x) (some_same f) (r_fails (h (out None rest then) refl))
