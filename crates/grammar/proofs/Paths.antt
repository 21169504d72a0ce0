-- The steps of a run, for a reader that knows its tokens by their numbers: what is left is equal to a token and the rest.
use Rattle.std.proofs.Common.{◌≡◌, Bool, true, false, cond, ◌||◌, List, ◌∷◌, Some, None, Option, sym, refl, ap, ◌∙◌, subst}
use Rattle.tokens.specs.declared.Mark.TheVariants as sign
use Rattle.tokens.specs.Lexeme.{Symbol, Lexeme}
use Rattle.syntax.specs.declared.Quantifier.TheVariants as quant
use Rattle.syntax.specs.Tree.{Tree}
use Rattle.grammar.specs.Grammar.{Left, Sort}
use Rattle.grammar.specs.Steps.{Test, is, quantifier_of, Job, parse, more, applied, Result, Prog, ret, on, want, ahead, call, Out, out, Misses, body, Run, r_ret, r_on, r_want, r_both, r_call, r_fails}

module _ {i : Job} {far : Bool} {o : Out (Result i)} {ts us : List Lexeme} (x : Lexeme) where
  pub on_at : {t : Test} {q : Prog (Result i)} {k : Lexeme → Prog (Result i)} → ts ≡ x ∷ us → t x.symbol ≡ true → Run i (k x) us false o → Run i (on t q k) ts far o
  on_at {t} {q} {k} e h r = subst (λ l. Run i (on t q k) l far o) (sym e) (r_on h r)

  pub want_at : {t : Test} {k : Lexeme → Prog (Result i)} → ts ≡ x ∷ us → t x.symbol ≡ true → Run i (k x) us false o → Run i (want t k) ts far o
  want_at {t} {k} e h r = subst (λ l. Run i (want t k) l far o) (sym e) (r_want h r)

  pub both_at : {t u : Test} {r q : Prog (Result i)} {k : Lexeme → Prog (Result i)} {vs : List Lexeme} (y : Lexeme) → ts ≡ x ∷ us → us ≡ y ∷ vs → t x.symbol ≡ true → u y.symbol ≡ true → Run i (k x) vs false o → Run i (ahead t u r q k) ts far o
  both_at {t} {u} {r} {q} {k} {vs} y e f h g s = subst (λ l. Run i (ahead t u r q k) l far o) (sym e) (subst (λ l. Run i (ahead t u r q k) (x ∷ l) far o) (sym f) (r_both h g s))

-- a last call comes to what is called comes to
pub last_parse : {s s' : Sort} {f f' : Bool} {ts : List Lexeme} {far : Bool} {o : Out Tree} → Run (parse s f) (body (parse s f)) ts far o → Run (parse s' f') (call (parse s f) ret) ts far o
last_parse {o = out (Some a) rest then} r = r_call r r_ret
last_parse {o = out None rest then} r = r_fails r

pub last_more : {s : Sort} {f g : Bool} {l : Left} {a : Tree} {ts : List Lexeme} {far : Bool} {o : Out Tree} → Run (more l f a) (body (more l f a)) ts far o → Run (parse s g) (call (more l f a) ret) ts far o
last_more {o = out (Some a) rest then} r = r_call r r_ret
last_more {o = out None rest then} r = r_fails r

pub more_more : {f g : Bool} {l k : Left} {a b : Tree} {ts : List Lexeme} {far : Bool} {o : Out Tree} → Run (more l f a) (body (more l f a)) ts far o → Run (more k g b) (call (more l f a) ret) ts far o
more_more {o = out (Some a) rest then} r = r_call r r_ret
more_more {o = out None rest then} r = r_fails r

pub last_applied : {s : Sort} {g : Bool} {a : Tree} {ts : List Lexeme} {far : Bool} {o : Out Tree} → Run (applied a) (body (applied a)) ts far o → Run (parse s g) (call (applied a) ret) ts far o
last_applied {o = out (Some a) rest then} r = r_call r r_ret
last_applied {o = out None rest then} r = r_fails r

pub applied_applied : {a b : Tree} {ts : List Lexeme} {far : Bool} {o : Out Tree} → Run (applied a) (body (applied a)) ts far o → Run (applied b) (call (applied a) ret) ts far o
applied_applied {o = out (Some a) rest then} r = r_call r r_ret
applied_applied {o = out None rest then} r = r_fails r

-- a test for one of two marks, by a test for each

pub first_hits : (a b : Bool) → a ≡ true → (a || b) ≡ true
first_hits a b e = ap (λ x. x || b) e

pub second_hits : (a b : Bool) → b ≡ true → (a || b) ≡ true
second_hits true b e = refl
second_hits false b e = e

pub neither_hits : (t u : Test) (x : Option Lexeme) → Misses t x → Misses u x → Misses (λ s. t s || u s) x
neither_hits t u None e f = tt
neither_hits t u (Some x) e f = ap (λ b. b || u x.symbol) e ∙ f

pub is_forall : (s : Symbol) → is sign.Forall s ≡ true → quantifier_of s ≡ quant.Forall
is_forall s e = ap (λ b. cond b quant.Forall quant.Exists) e

pub is_exists : (s : Symbol) → is sign.Forall s ≡ false → quantifier_of s ≡ quant.Exists
is_exists s e = ap (λ b. cond b quant.Forall quant.Exists) e
