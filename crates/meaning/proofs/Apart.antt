-- In the tree of a text no two `let be` stand at one place: each has the place of a token of its own, and the places of tokens rise.
use Rattle.std.proofs.Common.{◌≡◌, ℕ, suc, ◌+◌, ◌≤◌, List, [], ◌∷◌, ◌++◌, map, None, Option, sym, refl, ap, ◌∙◌, subst, inl, inr, arith, append_assoc}
use Rattle.tokens.specs.declared.Token.{Token}
use Rattle.tokens.specs.Lexeme.{Lexeme, lexeme}
use Rattle.tokens.specs.Pieces.{Cut, at_end, at_separator, at_comment, at_token, at_bad}
use Rattle.tokens.proofs.Forms.{longest_some}
use Rattle.grammar.specs.Grammar.{Operation, strict, deciding, join, Sort, expr, Derives, DerivesBind, DerivesItems, DerivesCases, d_let, d_let_be, d_if, d_cases, d_quantifier, d_connected, d_else, d_elseif, d_chain, d_link, d_implies, d_premise, d_prefix, d_bare, d_relation, d_in_set, d_not_in_set, d_side, d_apply, d_select, d_atom, d_numeral, d_truth, d_name, d_paren, d_empty, d_members, d_comprehension, d_filter, d_range, d_tuple, d_bind, d_last, d_more, d_only, d_others, d_next}
use Rattle.syntax.specs.Tree.{Place, Name, Tree, Trees, Alternatives, Optional}
use Rattle.syntax.specs.Names.{In}
use Rattle.meaning.specs.Parts.{Site, sites, sites_all, sites_in, sites_of, Apart}

-- the sites stand at the places of some of the lexemes, in their order
data Sub : List Site → List Lexeme → Type 0 where
  stop : Sub [] []
  skip : (u : Lexeme) {xs : List Site} {us : List Lexeme} → Sub xs us → Sub xs (u ∷ us)
  keep : (x : Site) (u : Lexeme) {xs : List Site} {us : List Lexeme} → x.at ≡ u.place → Sub xs us → Sub (x ∷ xs) (u ∷ us)

append : {xs ys : List Site} {us vs : List Lexeme} → Sub xs us → Sub ys vs → Sub (xs ++ ys) (us ++ vs)
append stop b = b
append (skip u a) b = skip u (append a b)
append (keep x u e a) b = keep x u e (append a b)

before : (ws : List Lexeme) {xs : List Site} {us : List Lexeme} → Sub xs us → Sub xs (ws ++ us)
before [] a = a
before (w ∷ ws) a = skip w (before ws a)

none_in : (us : List Lexeme) → Sub [] us
none_in [] = stop
none_in (u ∷ us) = skip u (none_in us)

behind : {xs : List Site} {us : List Lexeme} → Sub xs us → (vs : List Lexeme) → Sub xs (us ++ vs)
behind stop vs = none_in vs
behind (skip u a) vs = skip u (behind a vs)
behind (keep x u e a) vs = keep x u e (behind a vs)

plus_none : {xs : List Site} {us : List Lexeme} → Sub xs us → Sub (xs ++ []) us
plus_none stop = stop
plus_none (skip u a) = skip u (plus_none a)
plus_none (keep x u e a) = keep x u e (plus_none a)

moved : {xs ys : List Site} {us : List Lexeme} → xs ≡ ys → Sub xs us → Sub ys us
moved {us = us} e a = subst (λ l. Sub l us) e a

joined : (o : Operation) (p : Place) (a b : Tree) → sites (join o p a b) ≡ sites a ++ sites b
unfolding sites
joined (strict o) p a b = refl
joined (deciding o) p a b = refl

mutual
  unfolding sites

  sub : {s : Sort} {us : List Lexeme} {t : Tree} → Derives s us t → Sub (sites t) us
  sub (d_let p q r s a b) = skip _ (skip _ (skip _ (append (sub a) (skip _ (sub b)))))
  sub (d_let_be p q r s a c b) = keep _ _ refl (append (sub_bind a) (skip _ (skip _ (append (sub c) (skip _ (sub b))))))
  sub (d_if p d) = skip _ (sub d)
  sub (d_cases p q r a c) = skip _ (append (sub a) (skip _ (behind (sub_cases c) _)))
  sub (d_quantifier p q a b) = skip _ (append (sub_bind a) (skip _ (sub b)))
  sub (d_connected d) = sub d
  sub (d_else p q r a b c) = append (sub a) (skip _ (append (sub b) (skip _ (sub c))))
  sub (d_elseif p q r a b c) = append (sub a) (skip _ (append (sub b) (skip _ (sub c))))
  sub (d_chain p m {o = o} {a = x} {b = y} e a b) = moved (sym (joined o p x y)) (append (sub a) (skip _ (sub b)))
  sub (d_link d) = sub d
  sub (d_implies p a b) = append (sub a) (skip _ (sub b))
  sub (d_premise d) = sub d
  sub (d_prefix p m e d) = skip _ (sub d)
  sub (d_bare d) = sub d
  sub (d_relation p m e a b) = append (sub a) (skip _ (sub b))
  sub (d_in_set p q a b) = append (sub a) (skip _ (skip _ (sub b)))
  sub (d_not_in_set p q r a b) = append (sub a) (skip _ (skip _ (skip _ (sub b))))
  sub (d_side d) = sub d
  sub (d_apply p q a b) = append (sub a) (skip _ (behind (sub b) _))
  sub (d_select p q a) = behind (sub a) _
  sub (d_atom d) = sub d
  sub (d_numeral p) = skip _ stop
  sub (d_truth p) = skip _ stop
  sub (d_name p) = skip _ stop
  sub (d_paren p q d) = skip _ (behind (sub d) _)
  sub (d_empty p q k) = skip _ (skip _ stop)
  sub (d_members p q k d) = skip _ (behind (sub_items d) _)
  sub (d_comprehension p q r k a b) = skip _ (append (sub a) (skip _ (append (sub_bind b) (skip _ stop))))
  sub (d_filter p q r s k a b c) = skip _ (append (sub a) (skip _ (append (sub_bind b) (skip _ (behind (sub c) _)))))
  sub (d_range p q r s t a b) = skip _ (append (sub a) (skip _ (skip _ (skip _ (behind (sub b) _)))))
  sub (d_tuple p q r d l h) = skip _ (skip _ (behind (sub_items d) _))

  sub_bind : {us : List Lexeme} {n : Name} {t : Tree} → DerivesBind us n t → Sub (sites t) us
  sub_bind (d_bind p q r d) = skip _ (skip _ (skip _ (sub d)))

  sub_items : {us : List Lexeme} {ts : Trees} → DerivesItems us ts → Sub (sites_all ts) us
  sub_items (d_last d) = plus_none (sub d)
  sub_items (d_more p d ds) = append (sub d) (skip _ (sub_items ds))

  sub_cases : {us : List Lexeme} {cs : Alternatives} {o : Optional} → DerivesCases us cs o → Sub (sites_in cs ++ sites_of o) us
  sub_cases (d_only p {xs = xs} t a) = before xs (skip _ (plus_none (plus_none (sub a))))
  sub_cases (d_others p q r s {xs = xs} t a b) = before xs (skip _ (append (plus_none (sub a)) (skip _ (skip _ (skip _ (sub b))))))
  sub_cases (d_next p q {xs = xs} {a = x} {cs = cs} {o = o} t a c) = before xs (skip _ (moved (sym (append_assoc (sites x) (sites_in cs) (sites_of o))) (append (sub a) (skip _ (sub_cases c)))))

-- ---- places rise

abbrev Rising : ℕ → List Lexeme → Type 0
Rising n [] = Unit {0}
Rising n (u ∷ us) = (n ≤ u.place) × Rising (suc u.place) us

lower : (m n : ℕ) (us : List Lexeme) → m ≤ n → Rising n us → Rising m us
lower m n [] l h = tt
lower m n (u ∷ us) l h = (omega (arith, h.0), h.1)

rises : (text : List ℕ) {n : ℕ} {bs : List ℕ} {ts : List Token} {bad : Option ℕ} → Cut n bs ts bad → Rising n (map (lexeme text) ts)
rises text at_end = tt
rises text (at_separator {n = n} {ts = ts} e c) = lower n (n + 1) (map (lexeme text) ts) (omega arith) (rises text c)
rises text (at_comment {n = n} {k = k} {ts = ts} e c) = lower n (n + k) (map (lexeme text) ts) (omega arith) (rises text c)
rises text (at_token {n = n} {k = k} {ts = ts} b c) = (omega arith, lower (suc n) (n + k) (map (lexeme text) ts) (omega (arith, longest_some b.longest)) (rises text c))
rises text (at_bad b) = tt

above : (n : ℕ) (w : Lexeme) (us : List Lexeme) → Rising n us → In w us → n ≤ w.place
above n w [] h i = absurd i
above n w (u ∷ us) h (inl e) = subst (λ x. n ≤ x.place) (sym e) h.0
above n w (u ∷ us) h (inr i) = omega (arith, h.0, above (suc u.place) w us h.1 i)

where_is : (y : Site) {xs : List Site} {us : List Lexeme} → Sub xs us → In y xs → (w : Lexeme) × In w us × (y.at ≡ w.place)
where_is y stop i = absurd i
where_is y (skip u a) i = let h = where_is y a i in (h.0, inr h.1, h.2)
where_is y (keep x u e a) (inl j) = (u, inl refl, ap (λ z. z.at) j ∙ e)
where_is y (keep x u e a) (inr i) = let h = where_is y a i in (h.0, inr h.1, h.2)

told_apart : (n : ℕ) {xs : List Site} {us : List Lexeme} → Sub xs us → Rising n us → Apart xs
told_apart n stop h = tt
told_apart n (skip u a) h = told_apart (suc u.place) a h.1
told_apart n (keep x u {us = us} e a) h =
    (λ y i j. let w = where_is y a i in omega (arith, e, j, w.2, above (suc u.place) w.0 us h.1 w.1), told_apart (suc u.place) a h.1)

pub apart : (text : List ℕ) (ts : List Token) (t : Tree) → Cut 0 text ts None → Derives expr (map (lexeme text) ts) t → Apart (sites t)
apart text ts t c d = told_apart 0 (sub d) (rises text c)
