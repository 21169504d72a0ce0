-- Each job's program reads what the grammar has under that name.
use Rattle.std.proofs.Common.{◌≡◌, ℕ, zero, suc, ◌≤◌, Bool, true, false, ◌&&◌, ◌||◌, List, [], ◌∷◌, ◌++◌, sym, refl, ap, ◌∙◌, subst, append_assoc, append-nil, arith, lit≤, eq-eqb}
use mathlib.Core.Bool.{false≢true}
use Rattle.tokens.specs.declared.Mark.{Mark}
use Rattle.tokens.specs.declared.Mark.TheVariants as sign
use Rattle.tokens.specs.Spelling.{number}
use Rattle.tokens.specs.Lexeme.{Lexeme}
use Rattle.syntax.specs.declared.Binary.TheVariants as bin
use Rattle.syntax.specs.declared.Quantifier.{Quantifier}
use Rattle.syntax.specs.declared.Quantifier.TheVariants as quant
use Rattle.syntax.specs.Tree.{Place, Name, Pattern, Patterns, Tree, Trees}
use Rattle.grammar.specs.Grammar.{◌at◌, ◌name_at◌, ◌numeral_at◌, Left, Lead, Infix, infix_of_mark, Prefix, prefix_of_mark, Sort, Bracket, opening, closing, kind, word, Derives, DerivesItems, DerivesPattern, DerivesPatterns, count, count_patterns}
use Rattle.grammar.specs.Grammar.{p_any, p_name, p_numeral, p_truth, p_empty, p_sequence, p_tuple, p_last, p_more, d_let, d_let_be, d_if, d_cases, d_quantifier, d_connected, d_else, d_elseif, d_chain, d_link, d_implies, d_premise, d_prefix, d_bare, d_relation, d_in_set, d_not_in_set, d_side, d_apply, d_select, d_atom, d_numeral, d_truth, d_name, d_paren, d_empty, d_members, d_comprehension, d_filter, d_range, d_tuple, d_bind, d_last, d_more, d_only, d_others, d_next}
use Rattle.grammar.specs.Steps.{same, is, is_name, is_numeral, joins, relates, leads, operation, relation_of, unary_of, Limit, any, most, several, next, Job, parse, more, applied, bind, items, arms, pattern, patterns, Result, Prog, ret, on, want, call, body, such_that, let_tail, cases_tail, quantifier_tail, members, after_comma, after_bar, collected, right_side, member, after_item, after_pattern}
use Rattle.grammar.proofs.Tokens.{at_mark, at_either, at_name, at_numeral, at_chain, at_relation, at_lead}
use Rattle.grammar.proofs.Meets.{Within, Derived, flag, enters, missed, Meets, m_ret, m_on, m_want, m_ahead, m_call}

vac : {A : Type 0} → false ≡ true → A
vac e = absurd (false≢true e)

pub same_refl : (m : Mark) → same m m ≡ true
same_refl m = eq-eqb (number m) (number m) refl

and_left : (a b : Bool) → (a && b) ≡ true → a ≡ true
and_left true b e = refl
and_left false b e = vac e

-- Steps of a program, by what the token is

module _ {i : Job} {m : Bool} where
  want_mark : {k : Lexeme → Prog (Result i)} {D : List Lexeme → Result i → Type 0} (n : Mark) → missed (is n) m ≡ false → ((p : Place) → Meets i false (k (n at p)) (λ us a. D (n at p ∷ us) a)) → Meets i m (want (is n) k) D
  want_mark {k} {D} n e h = m_want e (n at 0) (same_refl n) (at_mark (λ x. Meets i false (k x) (λ us a. D (x ∷ us) a)) n h)

  on_mark : {q : Prog (Result i)} {k : Lexeme → Prog (Result i)} {D : List Lexeme → Result i → Type 0} (n : Mark) → Meets i (missed (is n) m) q D → ((p : Place) → Meets i false (k (n at p)) (λ us a. D (n at p ∷ us) a)) → Meets i m (on (is n) q k) D
  on_mark {k = k} {D = D} n g h = m_on g (at_mark (λ x. Meets i false (k x) (λ us a. D (x ∷ us) a)) n h)

  on_either : {q : Prog (Result i)} {k : Lexeme → Prog (Result i)} {D : List Lexeme → Result i → Type 0} (n o : Mark) → Meets i (missed (λ s. is n s || is o s) m) q D → ((p : Place) → Meets i false (k (n at p)) (λ us a. D (n at p ∷ us) a)) → ((p : Place) → Meets i false (k (o at p)) (λ us a. D (o at p ∷ us) a)) → Meets i m (on (λ s. is n s || is o s) q k) D
  on_either {k = k} {D = D} n o g h l = m_on g (at_either (λ x. Meets i false (k x) (λ us a. D (x ∷ us) a)) n o h l)

  want_name : {k : Lexeme → Prog (Result i)} {D : List Lexeme → Result i → Type 0} → missed is_name m ≡ false → ((p : Place) (n : Name) → Meets i false (k (n name_at p)) (λ us a. D (n name_at p ∷ us) a)) → Meets i m (want is_name k) D
  want_name {k} {D} e h = m_want e ([] name_at 0) refl (at_name (λ x. Meets i false (k x) (λ us a. D (x ∷ us) a)) h)

  on_name : {q : Prog (Result i)} {k : Lexeme → Prog (Result i)} {D : List Lexeme → Result i → Type 0} → Meets i (missed is_name m) q D → ((p : Place) (n : Name) → Meets i false (k (n name_at p)) (λ us a. D (n name_at p ∷ us) a)) → Meets i m (on is_name q k) D
  on_name {k = k} {D = D} g h = m_on g (at_name (λ x. Meets i false (k x) (λ us a. D (x ∷ us) a)) h)

  want_numeral : {k : Lexeme → Prog (Result i)} {D : List Lexeme → Result i → Type 0} → missed is_numeral m ≡ false → ((p : Place) (n : ℕ) → Meets i false (k (n numeral_at p)) (λ us a. D (n numeral_at p ∷ us) a)) → Meets i m (want is_numeral k) D
  want_numeral {k} {D} e h = m_want e (0 numeral_at 0) refl (at_numeral (λ x. Meets i false (k x) (λ us a. D (x ∷ us) a)) h)

  on_numeral : {q : Prog (Result i)} {k : Lexeme → Prog (Result i)} {D : List Lexeme → Result i → Type 0} → Meets i (missed is_numeral m) q D → ((p : Place) (n : ℕ) → Meets i false (k (n numeral_at p)) (λ us a. D (n numeral_at p ∷ us) a)) → Meets i m (on is_numeral q k) D
  on_numeral {k = k} {D = D} g h = m_on g (at_numeral (λ x. Meets i false (k x) (λ us a. D (x ∷ us) a)) h)

  on_chain : {q : Prog (Result i)} {k : Lexeme → Prog (Result i)} {D : List Lexeme → Result i → Type 0} (l : Left) → Meets i (missed (joins l) m) q D → ((p : Place) (n : Mark) → infix_of_mark n ≡ Infix.chains l (operation (infix_of_mark n)) → Meets i false (k (n at p)) (λ us a. D (n at p ∷ us) a)) → Meets i m (on (joins l) q k) D
  on_chain {k = k} {D = D} l g h = m_on g (at_chain (λ x. Meets i false (k x) (λ us a. D (x ∷ us) a)) l h)

  on_relation : {q : Prog (Result i)} {k : Lexeme → Prog (Result i)} {D : List Lexeme → Result i → Type 0} → Meets i (missed relates m) q D → ((p : Place) (n : Mark) → infix_of_mark n ≡ Infix.relates (relation_of (infix_of_mark n)) → Meets i false (k (n at p)) (λ us a. D (n at p ∷ us) a)) → Meets i m (on relates q k) D
  on_relation {k = k} {D = D} g h = m_on g (at_relation (λ x. Meets i false (k x) (λ us a. D (x ∷ us) a)) h)

  on_lead : {q : Prog (Result i)} {k : Lexeme → Prog (Result i)} {D : List Lexeme → Result i → Type 0} (l : Lead) → Meets i (missed (leads l) m) q D → ((p : Place) (n : Mark) → prefix_of_mark n ≡ Prefix.leads l (unary_of (prefix_of_mark n)) → Meets i false (k (n at p)) (λ us a. D (n at p ∷ us) a)) → Meets i m (on (leads l) q k) D
  on_lead {k = k} {D = D} l g h = m_on g (at_lead (λ x. Meets i false (k x) (λ us a. D (x ∷ us) a)) l h)

  -- the last call
  ends_in : {j : Job} {g : Result j → Result i} {D : List Lexeme → Result i → Type 0} → (m ≡ true → enters j ≡ true) → (flag j ≡ true → flag i ≡ true) → ((us : List Lexeme) (b : Result j) → Derived j us b → D us (g b)) → Meets i m (call j λ b. ret (g b)) D
  ends_in {g = g} {D = D} e f h = m_call e (λ us b d. m_ret f (subst (λ l. D l (g b)) (sym (append-nil us)) (h us b d)))

-- nothing more was taken
nil : {s : Sort} {us : List Lexeme} {t : Tree} → Derives s us t → Derives s (us ++ []) t
nil {s} {us} {t} d = subst (λ l. Derives s l t) (sym (append-nil us)) d

same_flag : {b : Bool} → b ≡ true → b ≡ true
same_flag e = e

-- E

such : (f : Bool) (p q : Place) (n : Name) → Meets (parse Sort.expr f) false (such_that f p n) (λ us t. Derives Sort.expr (sign.Let at p ∷ n name_at q ∷ us) t)
such f p q n =
    want_mark sign.In refl λ r. want_mark sign.Set refl λ s. m_call vac λ us a d.
    want_mark sign.Be refl λ t. want_mark sign.St refl λ u. m_call vac λ vs b e.
    want_mark sign.In refl λ v. ends_in vac same_flag λ ws c g. d_let_be p t u v (d_bind q r s d) e g

let_read : (f : Bool) (p : Place) → Meets (parse Sort.expr f) false (let_tail f p) (λ us t. Derives Sort.expr (sign.Let at p ∷ us) t)
let_read f p =
    want_name refl λ q n. on_mark sign.Equal (such f p q n)
    λ r. m_call vac λ us a d. want_mark sign.In refl λ s. ends_in vac same_flag λ vs b e. d_let p q r s d e

cases_read : (f : Bool) (p : Place) → Meets (parse Sort.expr f) false (cases_tail p) (λ us t. Derives Sort.expr (sign.Cases at p ∷ us) t)
cases_read f p = m_call vac λ us a d. want_mark sign.Colon refl λ q. m_call vac λ vs r e. want_mark sign.End refl λ s. m_ret vac (d_cases p q s d e)

quantifier_read : (f : Bool) (p : Place) (o : Quantifier) → Meets (parse Sort.expr f) false (quantifier_tail f p o) (λ us t. Derives Sort.expr (word o at p ∷ us) t)
quantifier_read f p o = m_call vac λ us b d. want_mark sign.Ampersand refl λ q. ends_in vac same_flag λ vs t e. d_quantifier p q d e

expr_read : (f : Bool) → Meets (parse Sort.expr f) false (body (parse Sort.expr f)) (Derives Sort.expr)
expr_read f =
    on_mark sign.Let
    (on_mark sign.If
    (on_mark sign.Cases
    (on_either sign.Forall sign.Exists
    (ends_in vac same_flag λ us t d. d_connected d)
    (λ p. quantifier_read f p quant.Forall)
    (λ p. quantifier_read f p quant.Exists))
    (cases_read f))
    (λ p. ends_in vac same_flag λ us t d. d_if p d))
    (let_read f)

choice_read : (f : Bool) (p : Place) → Meets (parse (Sort.choice p) f) false (body (parse (Sort.choice p) f)) (Derives (Sort.choice p))
choice_read f p =
    m_call vac λ us a d. want_mark sign.Then refl λ q. m_call vac λ vs b e. on_mark sign.Elseif
    (want_mark sign.Else refl λ r. ends_in vac same_flag λ ws c g. d_else p q r d e g)
    λ r. ends_in vac same_flag λ ws c g. d_elseif p q r d e g

-- The levels of C

more_read : (l : Left) (f : Bool) (a : Tree) → Meets (more l f a) f (body (more l f a)) (Derived (more l f a))
more_read l f a =
    on_chain l (m_ret (and_left f true) (λ before d. nil d))
    λ p m e. m_call vac λ us b d. ends_in same_flag same_flag λ vs t h before g.
    subst (λ l'. Derives (Sort.left l) l' t) (append_assoc before (m at p ∷ us) vs) (h (before ++ m at p ∷ us) (d_chain p m e g d))

implication_read : (f : Bool) → Meets (parse Sort.implication f) false (body (parse Sort.implication f)) (Derives Sort.implication)
implication_read f =
    m_call vac λ us a d. on_mark sign.Implies
    (m_ret (and_left f true) (nil (d_premise d)))
    λ p. ends_in vac same_flag λ vs b e. d_implies p d e

member_read : (f : Bool) {us : List Lexeme} {a : Tree} → Derives (Sort.left Left.sum) us a → Meets (parse Sort.relation f) false (member f a) (λ vs t. Derives Sort.relation (us ++ vs) t)
member_read true {us} {a} d =
    m_ahead (m_ret vac (nil (d_side d))) (m_ret same_flag (nil (d_side d))) (λ s e. e)
    λ x y e g.
    at_mark (λ z. Meets (parse Sort.relation true) false (right_side z.place bin.InSet a) (λ vs t. Derives Sort.relation (us ++ z ∷ y ∷ vs) t)) sign.In
    (λ p. at_mark (λ z. Meets (parse Sort.relation true) false (right_side p bin.InSet a) (λ vs t. Derives Sort.relation (us ++ sign.In at p ∷ z ∷ vs) t)) sign.Set
    (λ q. ends_in vac vac λ vs b h. d_in_set p q d h) y g) x e
member_read false d =
    on_mark sign.In (m_ret vac (nil (d_side d)))
    λ p. want_mark sign.Set refl λ q. ends_in vac vac λ vs b h. d_in_set p q d h

relation_read : (f : Bool) → Meets (parse Sort.relation f) false (body (parse Sort.relation f)) (Derives Sort.relation)
relation_read f =
    m_call vac λ us a d. on_relation
    (on_mark sign.Not
    (member_read f d)
    λ p. want_mark sign.In refl λ q. want_mark sign.Set refl λ r. ends_in vac vac λ vs b e. d_not_in_set p q r d e)
    λ p m e. ends_in vac vac λ vs b g. d_relation p m e d g

applied_read : (a : Tree) → Meets (applied a) false (body (applied a)) (Derived (applied a))
applied_read a =
    on_mark sign.OpenParen
    (on_mark sign.Select
    (m_ret vac λ before d. nil d)
    λ p. want_numeral refl λ q n. ends_in vac vac λ vs t h before g.
    subst (λ l. Derives Sort.postfix l t) (append_assoc before (sign.Select at p ∷ n numeral_at q ∷ []) vs) (h (before ++ sign.Select at p ∷ n numeral_at q ∷ []) (d_select p q g)))
    λ p. m_call vac λ us b d. want_mark sign.CloseParen refl λ q. ends_in vac vac λ vs t h before g.
    subst (λ l. Derives Sort.postfix l t) (append_assoc before (sign.OpenParen at p ∷ (us ++ sign.CloseParen at q ∷ [])) vs ∙ ap (λ l. before ++ sign.OpenParen at p ∷ l) (append_assoc us (sign.CloseParen at q ∷ []) vs)) (h (before ++ sign.OpenParen at p ∷ (us ++ sign.CloseParen at q ∷ [])) (d_apply p q g d))

-- Atoms

members_read : (f : Bool) (k : Bracket) (p q : Place) {us : List Lexeme} {a : Tree} → Derives Sort.expr us a → Meets (parse Sort.atom f) false (members k p a) (λ vs t. Derives Sort.atom (opening k at p ∷ (us ++ sign.Comma at q ∷ vs)) t)
members_read f k p q {us} {a} d =
    m_call vac λ vs ts e. want_mark (closing k) refl λ r.
    m_ret vac (subst (λ l. Derives Sort.atom (opening k at p ∷ l) (Tree.collection p (kind k) (Trees.more a ts))) (append_assoc us (sign.Comma at q ∷ vs) (closing k at r ∷ [])) (d_members p r k (d_more q d e.0)))

after_comma_read : (f : Bool) (k : Bracket) (p q : Place) {us : List Lexeme} {a : Tree} → Derives Sort.expr us a → Meets (parse Sort.atom f) false (after_comma k p a) (λ vs t. Derives Sort.atom (opening k at p ∷ (us ++ sign.Comma at q ∷ vs)) t)
after_comma_read f Bracket.brace p q d =
    on_mark sign.Ellipsis (members_read f Bracket.brace p q d)
    λ r. want_mark sign.Comma refl λ s. m_call vac λ vs b e. want_mark sign.CloseBrace refl λ t. m_ret vac (d_range p q r s t d e)
after_comma_read f Bracket.bracket p q d = members_read f Bracket.bracket p q d

after_bar_read : (f : Bool) (k : Bracket) (p q : Place) {us : List Lexeme} {a : Tree} → Derives Sort.expr us a → Meets (parse Sort.atom f) false (after_bar k p a) (λ vs t. Derives Sort.atom (opening k at p ∷ (us ++ sign.Bar at q ∷ vs)) t)
after_bar_read f k p q d =
    m_call vac λ vs b e. on_mark sign.Ampersand
    (want_mark (closing k) refl λ r. m_ret vac (d_comprehension p q r k d e))
    λ r. m_call vac λ ws c g. want_mark (closing k) refl λ s. m_ret vac (d_filter p q r s k d e g)

collected_read : (f : Bool) (k : Bracket) (p : Place) → Meets (parse Sort.atom f) false (collected k p) (λ us t. Derives Sort.atom (opening k at p ∷ us) t)
collected_read f k p =
    on_mark (closing k)
    (m_call vac λ us a d. on_mark sign.Bar
    (on_mark sign.Comma
    (want_mark (closing k) refl λ q. m_ret vac (d_members p q k (d_last d)))
    λ q. after_comma_read f k p q d)
    λ q. after_bar_read f k p q d)
    λ q. m_ret vac (d_empty p q k)

atom_read : (f : Bool) → Meets (parse Sort.atom f) false (body (parse Sort.atom f)) (Derives Sort.atom)
atom_read f =
    on_numeral
    (on_name
    (on_either sign.True sign.False
    (on_mark sign.OpenParen
    (on_mark sign.OpenBrace
    (on_mark sign.OpenBracket
    (want_mark sign.Mk refl λ p. want_mark sign.OpenParen refl λ q. m_call vac λ us ts d. want_mark sign.CloseParen refl λ r. m_ret vac (d_tuple p q r d.0 d.1.0 d.1.1))
    (collected_read f Bracket.bracket))
    (collected_read f Bracket.brace))
    λ p. m_call vac λ us a d. want_mark sign.CloseParen refl λ q. m_ret vac (d_paren p q d))
    (λ p. m_ret vac (d_truth p {b = true}))
    (λ p. m_ret vac (d_truth p {b = false})))
    λ p n. m_ret vac (d_name p))
    λ p n. m_ret vac (d_numeral p)

-- Lists of parts

pub items_some : {us : List Lexeme} {ts : Trees} → DerivesItems us ts → 1 ≤ count ts
items_some (d_last d) = lit≤ tt
items_some (d_more p d e) = omega arith

items_end : (l : Limit) {us : List Lexeme} {a : Tree} → Derives Sort.expr us a → Within l 1 → Derived (items l) (us ++ []) (Trees.more a Trees.none)
items_end l d w = (d_last (nil d), w)

items_read : (l : Limit) {us : List Lexeme} {a : Tree} → Derives Sort.expr us a → Meets (items l) false (after_item (next l) a) (λ vs ts. Derived (items l) (us ++ vs) ts)
items_read any d = on_mark sign.Comma (m_ret vac (items_end any d tt)) λ p. ends_in vac vac λ vs ts e. (d_more p d e.0, tt)
items_read (most zero) d = m_ret vac (items_end (most zero) d (lit≤ tt))
items_read (most (suc n)) d = on_mark sign.Comma (m_ret vac (items_end (most (suc n)) d (omega arith))) λ p. ends_in vac vac λ vs ts e. (d_more p d e.0, omega (arith, e.1))
items_read several d = want_mark sign.Comma refl λ p. ends_in vac vac λ vs ts e. (d_more p d e.0, (omega (arith, items_some e.0), omega (arith, e.1)))

arms_read : Meets arms false (body arms) (Derived arms)
arms_read =
    m_call vac λ us t d. want_mark sign.Arrow refl λ p. m_call vac λ vs a e. on_mark sign.Comma
    (m_ret vac (d_only p d (nil e)))
    λ q. on_mark sign.Others
    (ends_in vac vac λ ws r g. d_next p q d e g)
    λ r. want_mark sign.Arrow refl λ s. ends_in vac vac λ ws b g. d_others p q r s d e g

-- Patterns

pub patterns_some : {us : List Lexeme} {ts : Patterns} → DerivesPatterns us ts → 1 ≤ count_patterns ts
patterns_some (p_last d) = lit≤ tt
patterns_some (p_more p d e) = omega arith

patterns_end : (l : Limit) {us : List Lexeme} {a : Pattern} → DerivesPattern us a → Within l 1 → Derived (patterns l) (us ++ []) (Patterns.more a Patterns.none)
patterns_end l {us} {a} d w = (p_last (subst (λ l'. DerivesPattern l' a) (sym (append-nil us)) d), w)

patterns_read : (l : Limit) {us : List Lexeme} {a : Pattern} → DerivesPattern us a → Meets (patterns l) false (after_pattern (next l) a) (λ vs ts. Derived (patterns l) (us ++ vs) ts)
patterns_read any d = on_mark sign.Comma (m_ret vac (patterns_end any d tt)) λ p. ends_in vac vac λ vs ts e. (p_more p d e.0, tt)
patterns_read (most zero) d = m_ret vac (patterns_end (most zero) d (lit≤ tt))
patterns_read (most (suc n)) d = on_mark sign.Comma (m_ret vac (patterns_end (most (suc n)) d (omega arith))) λ p. ends_in vac vac λ vs ts e. (p_more p d e.0, omega (arith, e.1))
patterns_read several d = want_mark sign.Comma refl λ p. ends_in vac vac λ vs ts e. (p_more p d e.0, (omega (arith, patterns_some e.0), omega (arith, e.1)))

pattern_read : Meets pattern false (body pattern) DerivesPattern
pattern_read =
    on_mark sign.Minus
    (on_name
    (on_numeral
    (on_either sign.True sign.False
    (on_mark sign.OpenBracket
    (want_mark sign.Mk refl λ p. want_mark sign.OpenParen refl λ q. m_call vac λ us ts d. want_mark sign.CloseParen refl λ r. m_ret vac (p_tuple p q r d.0 d.1.0 d.1.1))
    λ p. on_mark sign.CloseBracket
    (m_call vac λ us ts d. want_mark sign.CloseBracket refl λ q. m_ret vac (p_sequence p q d.0))
    λ q. m_ret vac (p_empty p q))
    (λ p. m_ret vac (p_truth p {b = true}))
    (λ p. m_ret vac (p_truth p {b = false})))
    λ p n. m_ret vac (p_numeral p))
    λ p n. m_ret vac (p_name p))
    λ p. m_ret vac (p_any p)

parse_read : (s : Sort) (f : Bool) → Meets (parse s f) false (body (parse s f)) (Derives s)
parse_read Sort.expr f = expr_read f
parse_read (Sort.choice p) f = choice_read f p
parse_read (Sort.left l) f = m_call vac λ us a d. ends_in same_flag same_flag λ vs t e. e us (d_link d)
parse_read Sort.implication f = implication_read f
parse_read (Sort.lead l) f = on_lead l (ends_in vac same_flag λ us t d. d_bare d) λ p m e. ends_in vac same_flag λ us t d. d_prefix p m e d
parse_read Sort.relation f = relation_read f
parse_read Sort.postfix f = m_call vac λ us a d. ends_in vac vac λ vs t e. e us (d_atom d)
parse_read Sort.atom f = atom_read f

pub table : (j : Job) → Meets j (enters j) (body j) (Derived j)
table (parse s f) = parse_read s f
table (more l f a) = more_read l f a
table (applied a) = applied_read a
table bind = want_name refl λ p n. want_mark sign.In refl λ q. want_mark sign.Set refl λ r. ends_in vac vac λ us a d. d_bind p q r d
table (items l) = m_call vac λ us a d. items_read l d
table arms = arms_read
table pattern = pattern_read
table (patterns l) = m_call vac λ us a d. patterns_read l d
