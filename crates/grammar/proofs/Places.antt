-- Each expression and each pattern has a token of its own.
use Rattle.std.proofs.Common.{◌≡◌, ℕ, suc, ◌+◌, ◌<◌, ◌≤◌, Bool, true, false, cond, eqb, List, [], ◌∷◌, ◌++◌, length, sym, refl, ap, arith, true-eqb}
use Rattle.tokens.specs.declared.Mark.TheVariants as sign
use Rattle.tokens.specs.Lexeme.{Lexeme}
use Rattle.syntax.specs.Tree.{Place, Name, Pattern, Patterns, Tree, Trees, Alternatives, Optional}
use Rattle.grammar.specs.Grammar.{◌at◌, ◌numeral_at◌, Left, Lead, under, under_lead, Operation, join, closing, Sort, Derives, DerivesBind, DerivesItems, DerivesCases, DerivesPattern, DerivesPatterns}
use Rattle.grammar.specs.Grammar.{p_any, p_name, p_numeral, p_truth, p_empty, p_sequence, p_tuple, p_last, p_more, d_let, d_let_be, d_if, d_cases, d_quantifier, d_connected, d_else, d_elseif, d_chain, d_link, d_implies, d_premise, d_prefix, d_bare, d_relation, d_in_set, d_not_in_set, d_side, d_apply, d_select, d_atom, d_numeral, d_truth, d_name, d_paren, d_empty, d_members, d_comprehension, d_filter, d_range, d_tuple, d_bind, d_last, d_more, d_only, d_others, d_next}
use Rattle.grammar.specs.Places.{pattern_places, patterns_places, places, trees_places, alternatives_places, optional_places, times, Ascend, spots, before, above, OwnPlaces}

-- places weighed, whatever they weigh
module _ (μ : ℕ → ℕ) where
  abbrev weigh : List ℕ → ℕ
  weigh [] = 0
  weigh (x ∷ xs) = μ x + weigh xs

  abbrev heft : List Lexeme → ℕ
  heft [] = 0
  heft (x ∷ xs) = μ x.place + heft xs

  weigh-append : (xs ys : List ℕ) → weigh (xs ++ ys) ≡ weigh xs + weigh ys
  weigh-append [] ys = omega arith
  weigh-append (x ∷ xs) ys = let h = weigh-append xs ys in omega arith

  heft-append : (xs ys : List Lexeme) → heft (xs ++ ys) ≡ heft xs + heft ys
  heft-append [] ys = omega arith
  heft-append (x ∷ xs) ys = let h = heft-append xs ys in omega arith

  mutual
    own_pattern : {us : List Lexeme} {t : Pattern} → DerivesPattern us t → weigh (pattern_places t) ≤ heft us
    own_pattern (p_any p) = omega arith
    own_pattern (p_name p) = omega arith
    own_pattern (p_numeral p) = omega arith
    own_pattern (p_truth p {b = b}) = omega arith
    own_pattern (p_empty p q) = omega arith
    own_pattern (p_sequence p q {us = us} d) = omega (arith, own_patterns d, heft-append us (sign.CloseBracket at q ∷ []))
    own_pattern (p_tuple p q r {us = us} d ge le) = omega (arith, own_patterns d, heft-append us (sign.CloseParen at r ∷ []))

    own_patterns : {us : List Lexeme} {ts : Patterns} → DerivesPatterns us ts → weigh (patterns_places ts) ≤ heft us
    own_patterns (p_last {t = t} d) = omega (arith, own_pattern d, weigh-append (pattern_places t) [])
    own_patterns (p_more p {us = us} {vs = vs} {t = t} {ts = ts} d e) = omega (arith, own_pattern d, own_patterns e, weigh-append (pattern_places t) (patterns_places ts), heft-append us (sign.Comma at p ∷ vs))

  join_weigh : (o : Operation) (p : Place) (a b : Tree) → weigh (places (join o p a b)) ≡ μ p + (weigh (places a) + weigh (places b))
  join_weigh (Operation.strict o) p a b = omega (arith, weigh-append (places a) (places b))
  join_weigh (Operation.deciding o) p a b = omega (arith, weigh-append (places a) (places b))

  under_before : (l : Left) → weigh (before (under l)) ≡ 0
  under_before Left.iff = refl
  under_before Left.or = refl
  under_before Left.and = refl
  under_before Left.sum = refl
  under_before Left.product = refl

  lead_before : (l : Lead) → weigh (before (under_lead l)) ≡ 0
  lead_before Lead.not = refl
  lead_before Lead.minus = refl

  mutual
    pub own_place : {s : Sort} {us : List Lexeme} {t : Tree} → Derives s us t → weigh (places t) ≤ weigh (before s) + heft us
    own_place (d_let p q r s {xs = xs} {ys = ys} {a = a} {b = b} d e) = omega (arith, own_place d, own_place e, weigh-append (places a) (places b), heft-append xs (sign.In at s ∷ ys))
    own_place (d_let_be p q r s {xs = xs} {ys = ys} {zs = zs} {a = a} {b = b} {c = c} d e g) =
        omega (arith, own_bind d, own_place e, own_place g, weigh-append (places a) (places b ++ places c), weigh-append (places b) (places c), heft-append xs (sign.Be at q ∷ sign.St at r ∷ (ys ++ sign.In at s ∷ zs)), heft-append ys (sign.In at s ∷ zs))
    own_place (d_if p d) = omega (arith, own_place d)
    own_place (d_cases p q r {xs = xs} {ys = ys} {a = a} {cs = cs} {o = o} d c) =
        omega (arith, own_place d, own_cases c, weigh-append (places a) (alternatives_places cs ++ optional_places o), weigh-append (alternatives_places cs) (optional_places o), heft-append xs (sign.Colon at q ∷ (ys ++ sign.End at r ∷ [])), heft-append ys (sign.End at r ∷ []))
    own_place (d_quantifier p q {xs = xs} {ys = ys} {a = a} {b = b} d e) = omega (arith, own_bind d, own_place e, weigh-append (places a) (places b), heft-append xs (sign.Ampersand at q ∷ ys))
    own_place (d_connected d) = own_place d
    own_place (d_else p q r {xs = xs} {ys = ys} {zs = zs} {a = a} {b = b} {c = c} d e g) =
        omega (arith, own_place d, own_place e, own_place g, weigh-append (places a) (places b ++ places c), weigh-append (places b) (places c), heft-append xs (sign.Then at q ∷ (ys ++ sign.Else at r ∷ zs)), heft-append ys (sign.Else at r ∷ zs))
    own_place (d_elseif p q r {xs = xs} {ys = ys} {zs = zs} {a = a} {b = b} {c = c} d e g) =
        omega (arith, own_place d, own_place e, own_place g, weigh-append (places a) (places b ++ places c), weigh-append (places b) (places c), heft-append xs (sign.Then at q ∷ (ys ++ sign.Elseif at r ∷ zs)), heft-append ys (sign.Elseif at r ∷ zs))
    own_place (d_chain p m {l = l} {o = o} {xs = xs} {ys = ys} {a = a} {b = b} e d g) = omega (arith, own_place d, own_place g, under_before l, join_weigh o p a b, heft-append xs (m at p ∷ ys))
    own_place (d_link {l = l} d) = omega (arith, own_place d, under_before l)
    own_place (d_implies p {xs = xs} {ys = ys} {a = a} {b = b} d e) = omega (arith, own_place d, own_place e, weigh-append (places a) (places b), heft-append xs (sign.Implies at p ∷ ys))
    own_place (d_premise d) = own_place d
    own_place (d_prefix p m e d) = omega (arith, own_place d)
    own_place (d_bare {l = l} d) = omega (arith, own_place d, lead_before l)
    own_place (d_relation p m {xs = xs} {ys = ys} {a = a} {b = b} e d g) = omega (arith, own_place d, own_place g, weigh-append (places a) (places b), heft-append xs (m at p ∷ ys))
    own_place (d_in_set p q {xs = xs} {ys = ys} {a = a} {b = b} d e) = omega (arith, own_place d, own_place e, weigh-append (places a) (places b), heft-append xs (sign.In at p ∷ sign.Set at q ∷ ys))
    own_place (d_not_in_set p q r {xs = xs} {ys = ys} {a = a} {b = b} d e) = omega (arith, own_place d, own_place e, weigh-append (places a) (places b), heft-append xs (sign.Not at p ∷ sign.In at q ∷ sign.Set at r ∷ ys))
    own_place (d_side d) = own_place d
    own_place (d_apply p q {xs = xs} {ys = ys} {a = a} {b = b} d e) = omega (arith, own_place d, own_place e, weigh-append (places a) (places b), heft-append xs (sign.OpenParen at p ∷ (ys ++ sign.CloseParen at q ∷ [])), heft-append ys (sign.CloseParen at q ∷ []))
    own_place (d_select p q {n = n} {xs = xs} d) = omega (arith, own_place d, heft-append xs (sign.Select at p ∷ n numeral_at q ∷ []))
    own_place (d_atom d) = own_place d
    own_place (d_numeral p) = omega arith
    own_place (d_truth p {b = b}) = omega arith
    own_place (d_name p) = omega arith
    own_place (d_paren p q {us = us} d) = omega (arith, own_place d, heft-append us (sign.CloseParen at q ∷ []))
    own_place (d_empty p q k) = omega arith
    own_place (d_members p q k {us = us} d) = omega (arith, own_items d, heft-append us (closing k at q ∷ []))
    own_place (d_comprehension p q r k {xs = xs} {ys = ys} {a = a} {b = b} d e) =
        omega (arith, own_place d, own_bind e, weigh-append (places a) (places b ++ []), weigh-append (places b) [], heft-append xs (sign.Bar at q ∷ (ys ++ closing k at r ∷ [])), heft-append ys (closing k at r ∷ []))
    own_place (d_filter p q r s k {xs = xs} {ys = ys} {zs = zs} {a = a} {b = b} {c = c} d e g) =
        omega (arith, own_place d, own_bind e, own_place g, weigh-append (places a) (places b ++ places c), weigh-append (places b) (places c), heft-append xs (sign.Bar at q ∷ (ys ++ sign.Ampersand at r ∷ (zs ++ closing k at s ∷ []))), heft-append ys (sign.Ampersand at r ∷ (zs ++ closing k at s ∷ [])), heft-append zs (closing k at s ∷ []))
    own_place (d_range p q r s t {xs = xs} {ys = ys} {a = a} {b = b} d e) = omega (arith, own_place d, own_place e, weigh-append (places a) (places b), heft-append xs (sign.Comma at q ∷ sign.Ellipsis at r ∷ sign.Comma at s ∷ (ys ++ sign.CloseBrace at t ∷ [])), heft-append ys (sign.CloseBrace at t ∷ []))
    own_place (d_tuple p q r {us = us} d ge le) = omega (arith, own_items d, heft-append us (sign.CloseParen at r ∷ []))

    own_bind : {us : List Lexeme} {n : Name} {t : Tree} → DerivesBind us n t → weigh (places t) ≤ heft us
    own_bind (d_bind p q r d) = omega (arith, own_place d)

    own_items : {us : List Lexeme} {ts : Trees} → DerivesItems us ts → weigh (trees_places ts) ≤ heft us
    own_items (d_last {t = t} d) = omega (arith, own_place d, weigh-append (places t) [])
    own_items (d_more p {us = us} {vs = vs} {t = t} {ts = ts} d e) = omega (arith, own_place d, own_items e, weigh-append (places t) (trees_places ts), heft-append us (sign.Comma at p ∷ vs))

    own_cases : {us : List Lexeme} {cs : Alternatives} {o : Optional} → DerivesCases us cs o → weigh (alternatives_places cs) + weigh (optional_places o) ≤ heft us
    own_cases (d_only p {xs = xs} {ys = ys} {t = t} {a = a} w d) = omega (arith, own_pattern w, own_place d, weigh-append (pattern_places t) (places a ++ []), weigh-append (places a) [], heft-append xs (sign.Arrow at p ∷ ys))
    own_cases (d_others p q r s {xs = xs} {ys = ys} {zs = zs} {t = t} {a = a} {b = b} w d e) =
        omega (arith, own_pattern w, own_place d, own_place e, weigh-append (pattern_places t) (places a ++ []), weigh-append (places a) [], heft-append xs (sign.Arrow at p ∷ (ys ++ sign.Comma at q ∷ sign.Others at r ∷ sign.Arrow at s ∷ zs)), heft-append ys (sign.Comma at q ∷ sign.Others at r ∷ sign.Arrow at s ∷ zs))
    own_cases (d_next p q {xs = xs} {ys = ys} {zs = zs} {t = t} {a = a} {cs = cs} w d e) =
        omega (arith, own_pattern w, own_place d, own_cases e, weigh-append (pattern_places t) (places a ++ alternatives_places cs), weigh-append (places a) (alternatives_places cs), heft-append xs (sign.Arrow at p ∷ (ys ++ sign.Comma at q ∷ zs)), heft-append ys (sign.Comma at q ∷ zs))

-- once: the weight is 1 at x and 0 elsewhere, or 1 everywhere

abbrev mark_at : ℕ → ℕ → ℕ
mark_at x y = cond (eqb x y) 1 0

times_weigh : (x : ℕ) (ps : List ℕ) → times x ps ≡ weigh (mark_at x) ps
times_weigh x [] = refl
times_weigh x (p ∷ ps) = ap (λ n. cond (eqb x p) 1 0 + n) (times_weigh x ps)

heft-spots : (μ : ℕ → ℕ) (ts : List Lexeme) → heft μ ts ≡ weigh μ (spots ts)
heft-spots μ [] = refl
heft-spots μ (x ∷ ts) = ap (λ n. μ x.place + n) (heft-spots μ ts)

abbrev one : ℕ → ℕ
one x = 1

length-weigh : (ps : List ℕ) → length ps ≡ weigh one ps
length-weigh [] = refl
length-weigh (p ∷ ps) = let h = length-weigh ps in omega arith

owned : (μ : ℕ → ℕ) {s : Sort} {ts : List Lexeme} {t : Tree} → Derives s ts t → weigh μ (places t) ≤ weigh μ (before s ++ spots ts)
owned μ {s} {ts} {t} d = omega (arith, own_place μ d, weigh-append μ (before s) (spots ts), heft-spots μ ts)

-- a place in front of places in which x stands at most once, and not at all where it is this place
in_front : (x p k : ℕ) → k ≤ 1 → (x ≡ p → k ≡ 0) → cond (eqb x p) 1 0 + k ≤ 1
in_front x p k le h = go (eqb x p) refl
  where
    go : (b : Bool) → eqb x p ≡ b → cond b 1 0 + k ≤ 1
    go true e = let z = h (true-eqb x p (sym e)) in omega arith
    go false e = omega arith

-- a place below all of them is none of them
absent : (n x : ℕ) (ts : List Lexeme) → Ascend n ts → x < n → times x (spots ts) ≡ 0
absent n x [] a lt = refl
absent n x (y ∷ ts) a lt = go (absent (suc y.place) x ts a.1 (omega (arith, a.0))) (eqb x y.place) refl
  where
    go : times x (spots ts) ≡ 0 → (b : Bool) → eqb x y.place ≡ b → cond b 1 0 + times x (spots ts) ≡ 0
    go later true e = let same = true-eqb x y.place (sym e) in absurd (omega (arith, a.0))
    go later false e = omega arith

once : (n x : ℕ) (ts : List Lexeme) → Ascend n ts → times x (spots ts) ≤ 1
once n x [] a = omega arith
once n x (y ∷ ts) a = in_front x y.place (times x (spots ts)) (once (suc y.place) x ts a.1) (λ e. absent (suc y.place) x ts a.1 (omega arith))

all_once : (s : Sort) (x : ℕ) (ts : List Lexeme) → Ascend (above (before s)) ts → times x (before s ++ spots ts) ≤ 1
all_once Sort.expr x ts a = once 0 x ts a
all_once (Sort.choice p) x ts a = in_front x p (times x (spots ts)) (once (suc p) x ts a) (λ e. absent (suc p) x ts a (omega arith))
all_once (Sort.left l) x ts a = once 0 x ts a
all_once Sort.implication x ts a = once 0 x ts a
all_once (Sort.lead l) x ts a = once 0 x ts a
all_once Sort.relation x ts a = once 0 x ts a
all_once Sort.postfix x ts a = once 0 x ts a
all_once Sort.atom x ts a = once 0 x ts a

own_times : (s : Sort) (ts : List Lexeme) (t : Tree) → Derives s ts t → (x : ℕ) → times x (places t) ≤ times x (before s ++ spots ts)
own_times s ts t d x = omega (arith, owned (mark_at x) d, times_weigh x (places t), times_weigh x (before s ++ spots ts))

pub own_places : OwnPlaces
own_places = record {
  own = own_times;
  few = λ s ts t d. omega (arith, owned one d, length-weigh (places t), length-weigh (before s ++ spots ts));
  distinct = λ s ts t d a x. omega (arith, own_times s ts t d x, all_once s x ts a);
}
