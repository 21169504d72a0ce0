-- What one turn of the tokeniser keeps.
use Rattle.std.proofs.Common.{◌≡◌, ℕ, ◌+◌, ◌<◌, ◌≤◌, Bool, true, nat_lt, List, [], ◌∷◌, ◌++◌, length, get_or, drop, Some, None, Option, Result, sym, refl, ap, ◌∙◌, subst, inl, inr, append_assoc, append-nil, arith, length-append, length-drop}
use Rattle.std.proofs.lemmas.List.{drop_more, drop-drop, drop_all, length-take}
use Rattle.std.proofs.lemmas.Bool.{lt-ltb}
use Rattle.tables.specs.declared.Table.{Table}
use Rattle.tables.specs.Items.{items, spare, room}
use Rattle.tokens.specs.declared.Kind.{Kind}
use Rattle.tokens.specs.declared.Token.{Token}
use Rattle.tokens.specs.Pieces.{separates, token, Begins, Bad, Cut, at_end, at_separator, at_comment, at_token, at_bad}
use Rattle.tokens.specs.declared.Refusal.{Refusal}
use Rattle.tokens.specs.Cutting.{Skipped, Answers, Tokenised}
use Rattle.tokens.proofs.Forms.{longest_some}
use Rattle.tokens.proofs.Unique.{one_cutting}

-- the tokens before the place n, whatever follows: t was the table, and t' is
pub record Turn (text : List ℕ) (t t' : Table Token) (n : ℕ) : Type 0 where
  pub tokens : List Token
  pub added : items t' ≡ items t ++ tokens
  pub rest : spare t' ≡ drop (length tokens) (spare t)
  pub sofar : (more : List Token) (bad : Option ℕ) → Cut n (drop n text) more bad → Cut 0 text (tokens ++ more) bad
  pub inside : n ≤ length text
  pub few : length tokens ≤ n

pub begun : (text : List ℕ) (t : Table Token) → Turn text t t 0
begun text t = record { tokens = []; added = sym (append-nil (items t)); rest = refl; sofar = λ more bad c. c; inside = omega arith; few = omega arith }

module _ {text : List ℕ} {t t' : Table Token} {n : ℕ} (now : Turn text t t' n) (lt : n < length text) where
  on_from : (k : ℕ) (ts : List Token) (bad : Option ℕ) → Cut (n + k) (drop (n + k) text) ts bad → Cut (n + k) (drop k (drop n text)) ts bad
  on_from k ts bad c = subst (λ bs. Cut (n + k) bs ts bad) (sym (drop-drop k n text)) c

  skip_step : (k : ℕ) → Skipped (drop n text) k → (ts : List Token) (bad : Option ℕ) → Cut (n + k) (drop (n + k) text) ts bad → Cut n (drop n text) ts bad
  skip_step k (inl (one, some, s)) ts bad c =
      let here = drop_more text n 0 lt in
      let step = subst (λ i. Cut (n + i) (drop (n + i) text) ts bad) one c in
      subst (λ bs. Cut n bs ts bad) (sym here) (at_separator (subst (λ bs. separates (get_or bs 0 0) ≡ true) here s) step)
  skip_step k (inr h) ts bad c = at_comment h (on_from k ts bad c)

  skip_within : (k : ℕ) → Skipped (drop n text) k → n + k ≤ length text
  skip_within k (inl (one, some, s)) = omega arith
  skip_within k (inr h) = omega (arith, h.within, length-drop n text)

  pub skipped : (k : ℕ) → Skipped (drop n text) k → Turn text t t' (n + k)
  skipped k s = record {
    tokens = now.tokens;
    added = now.added;
    rest = now.rest;
    sofar = λ more bad c. now.sofar more bad (skip_step k s more bad c);
    inside = skip_within k s;
    few = omega (arith, now.few);
  }

  -- there is a slot left
  pub slot : length text ≤ length (spare t) → 0 < length (spare t')
  slot fits = subst (λ us. 0 < length us) (sym now.rest) (omega (arith, length-drop (length now.tokens) (spare t), now.few))

  -- so a push is accepted
  pub fits : length text ≤ length (spare t) → (r : Bool) → r ≡ nat_lt (length (items t')) (room t') → r ≡ true
  fits h r e = e ∙ lt-ltb _ _ (omega (arith, slot h, length-take t'.len t'.slots.now, length-drop t'.len t'.slots.now))

  pub taken : {t'' : Table Token} (kind : Kind) (k : ℕ) → Begins kind (drop n text) k → items t'' ≡ items t' ++ token kind n k ∷ [] → spare t'' ≡ drop 1 (spare t') → Turn text t t'' (n + k)
  taken {t''} kind k b added rest =
      let some = longest_some b.longest in
      let long = length-append now.tokens (token kind n k ∷ []) in
      record {
        tokens = now.tokens ++ token kind n k ∷ [];
        added = added ∙ ap (λ us. us ++ token kind n k ∷ []) now.added ∙ append_assoc (items t) now.tokens (token kind n k ∷ []);
        rest = rest ∙ ap (drop 1) now.rest ∙ drop-drop 1 (length now.tokens) (spare t) ∙ ap (λ i. drop i (spare t)) (sym long);
        sofar = λ more bad c. subst (λ us. Cut 0 text us bad) (sym (append_assoc now.tokens (token kind n k ∷ []) more)) (now.sofar (token kind n k ∷ more) bad (at_token b (on_from k more bad c)));
        inside = omega (arith, b.longest.within, length-drop n text);
        few = omega (arith, now.few);
      }

  pub stopped : Bad (drop n text) → Cut 0 text now.tokens (Some n)
  stopped b = subst (λ us. Cut 0 text us (Some n)) (append-nil now.tokens) (now.sofar [] (Some n) (at_bad b))

pub finished : {text : List ℕ} {t t' : Table Token} {n : ℕ} (now : Turn text t t' n) → length text ≤ n → Cut 0 text now.tokens None
finished {text} {n = n} now le =
    subst (λ us. Cut 0 text us None) (append-nil now.tokens) (now.sofar [] None (subst (λ bs. Cut n bs [] None) (sym (drop_all n text le)) at_end))

-- what the tokeniser ends with, at a bad place or at the end
pub ends : {text : List ℕ} {t t' : Table Token} {n : ℕ} (now : Turn text t t' n) (bad : Option ℕ) (r : Result (Unit {0}) Refusal) → Cut 0 text now.tokens bad → Answers bad r → length text ≤ length (spare t) → Tokenised text t t' r
ends now bad r cut answer fits = record {
  long = λ lt. absurd (omega arith);
  short = λ _. record {
    tokens = now.tokens;
    bad = bad;
    cut = cut;
    only = λ us b c. one_cutting cut c;
    few = omega (arith, now.few, now.inside);
    added = now.added;
    rest = now.rest;
    answer = answer;
  };
}
