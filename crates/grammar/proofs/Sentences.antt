-- From a run to what it says of sentences.
use Rattle.std.proofs.Common.{◌≡◌, ℕ, ◌+◌, ◌<◌, ◌≤◌, Bool, true, false, List, [], ◌∷◌, ◌++◌, length, get_or, take, drop, Some, None, Option, sym, refl, ap, ◌∙◌, subst, append_assoc, append-nil, add-one, arith, lit<, length-drop, take-append-drop, drop-cons, take-suc}
use mathlib.Core.Bool.{false≢true}
use mathlib.Core.List.{append_cancel_right}
use Rattle.tokens.specs.Lexeme.{Lexeme}
use Rattle.syntax.specs.Tree.{Tree}
use Rattle.grammar.specs.Grammar.{◌name_at◌, Lead, Sort, Derives}
use Rattle.grammar.specs.Steps.{parse, Out, out, body, Run}
use Rattle.grammar.specs.Sentences.{Begins, OneTree, OneOutcome, Complete, Sound, FirstBad}
use Rattle.grammar.proofs.Runs.{det, local, cons_not_nil}
use Rattle.grammar.proofs.Meets as meets
use Rattle.grammar.proofs.Table.{table}
use Rattle.grammar.proofs.Follow.{depth, level_some}
use Rattle.grammar.proofs.Complete.{complete, finish}

depth_some : (s : Sort) → 0 < depth s
depth_some Sort.expr = lit< tt
depth_some (Sort.choice p) = lit< tt
depth_some (Sort.left l) = level_some l
depth_some Sort.implication = lit< tt
depth_some (Sort.lead Lead.not) = lit< tt
depth_some (Sort.lead Lead.minus) = lit< tt
depth_some Sort.relation = lit< tt
depth_some Sort.postfix = lit< tt
depth_some Sort.atom = lit< tt

pub read_whole : Complete
read_whole s ts t d =
    let r = finish s ts t (complete d) false [] (record { ranks = depth_some s; ins = λ _. tt }) in
    (r.0, subst (λ us. Run (parse s false) (body (parse s false)) us false (out (Some t) [] r.0)) (append-nil ts) r.1)

abbrev left_of : Out Tree → List Lexeme
left_of (out v rest then) = rest

abbrev tree_of : Tree → Out Tree → Tree
tree_of d (out (Some t) rest then) = t
tree_of d (out None rest then) = d

abbrev IsSome : Out Tree → Type 0
IsSome (out (Some t) rest then) = Unit {0}
IsSome (out None rest then) = ⊥

pub one_outcome : OneOutcome
one_outcome s ts o₁ o₂ a b = det a b

pub one_tree : OneTree
one_tree s ts t u d e = ap (tree_of t) (det (read_whole s ts t d).1 (read_whole s ts u e).1)

-- what a run says of the tokens that it took
found : (s : Sort) {ts : List Lexeme} {v : Option Tree} {rest : List Lexeme} {then : Bool} → Run (parse s false) (body (parse s false)) ts false (out v rest then) → meets.Sound (parse s false) (Derives s) ts v rest then
found s r = meets.sound table r false (Derives s) (table (parse s false)) (λ e. absurd (false≢true e))

-- nothing behind the next token was looked at
settled : (s : Sort) {ts : List Lexeme} (v : Option Tree) {rest : List Lexeme} (then : Bool) → Run (parse s false) (body (parse s false)) ts false (out v rest then) → then ≡ false
settled s (Some t) true r = absurd (false≢true ((found s r).near refl).0)
settled s (Some t) false r = refl
settled s None then r = (found s r).near

pub sound : Sound
sound s ts t (then, r) =
    let g = found s r in
    let d = subst (λ us. Derives s us t) (sym (g.split ∙ append-nil g.used)) g.ends in
    record { derived = d; only = λ u e. one_tree s ts u t e d }

-- a run that leaves tokens leaves them whatever follows the first of them
beyond : (s : Sort) {ts rest : List Lexeme} {x : Lexeme} {v : Option Tree} → Run (parse s false) (body (parse s false)) ts false (out v (x ∷ rest) false) → (us : List Lexeme) → ts ≡ us ++ x ∷ rest → (onward : List Lexeme) (t : Tree) → Derives s (us ++ x ∷ onward) t → ⊥
beyond s {rest = rest} {x = x} {v = v} r us e onward t d =
    let l = local r in
    let same : l.used ≡ us = append_cancel_right l.used us (x ∷ rest) (sym l.split ∙ e) in
    let again = subst (λ ys. Run (parse s false) (body (parse s false)) (ys ++ x ∷ onward) false (out v (x ∷ onward) false)) same (l.again (x ∷ onward) refl) in
    cons_not_nil (ap left_of (det again (read_whole s (us ++ x ∷ onward) t d).1))

-- The reader stopped before token k: at a refusal there, or after an s that is not the whole.
module _ (s : Sort) (ts : List Lexeme) (k : ℕ) (in_text : k ≤ length ts) (v : Option Tree) (then : Bool) (r : Run (parse s false) (body (parse s false)) ts false (out v (drop k ts) then)) where
  front : (found s r).used ≡ take k ts
  front = append_cancel_right (found s r).used (take k ts) (drop k ts) (sym (found s r).split ∙ sym (take-append-drop k ts))

  not_on : k < length ts → Begins s (take (k + 1) ts) → ⊥
  not_on lt (onward, b) =
      let x : Lexeme = [] name_at 0 in
      let next = drop-cons ts k x lt in
      let r' = subst (λ f. Run (parse s false) (body (parse s false)) ts false (out v (drop k ts) f)) (settled s v then r) r in
      let r'' = subst (λ us. Run (parse s false) (body (parse s false)) ts false (out v us false)) next r' in
      let here : take (k + 1) ts ++ onward ≡ take k ts ++ (get_or ts k x ∷ onward) = ap (λ n. take n ts ++ onward) (add-one k) ∙ ap (λ us. us ++ onward) (take-suc ts k x lt) ∙ append_assoc (take k ts) (get_or ts k x ∷ []) onward in
      beyond s r'' (take k ts) (sym (take-append-drop k ts) ∙ ap (λ us. take k ts ++ us) next) onward b.0 (subst (λ us. Derives s us b.0) here b.1)

pub first_bad : FirstBad
first_bad = record {
  refused = λ s ts k le (then, r). record {
    within = le;
    begins = let (onward, b) = (found s r).ends in (onward, (b.0, subst (λ us. Derives s (us ++ onward) b.0) (front s ts k le None then r) b.1));
    stops = not_on s ts k le None then r;
    none = λ t d. subst IsSome (sym (det r (read_whole s ts t d).1)) tt;
  };
  left = λ s ts k t lt (then, r).
      let le : k ≤ length ts = omega arith in
      record {
        within = le;
        begins = ([], (t, subst (λ us. Derives s us t) (front s ts k le (Some t) then r ∙ sym (append-nil (take k ts))) (found s r).ends));
        stops = not_on s ts k le (Some t) then r;
        none = λ u d. let none_left = ap length (ap left_of (det r (read_whole s ts u d).1)) in omega (arith, length-drop k ts);
      };
}
