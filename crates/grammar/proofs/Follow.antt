-- Which tokens go on behind an operand, and which begin one.
use Rattle.std.proofs.Common.{◌≡◌, ℕ, ◌<◌, ◌≤◌, Bool, true, false, cond, ◌||◌, ◌⊎◌, List, [], ◌∷◌, ◌++◌, Some, None, Option, sym, refl, ap, ◌∙◌, subst, inl, inr, arith, lit<, lit≤}
use mathlib.Core.Bool.{false≢true}
use Rattle.tokens.specs.declared.Mark.{Mark}
use Rattle.tokens.specs.declared.Mark.TheVariants as sign
use Rattle.tokens.specs.Lexeme.{Symbol, Lexeme}
use Rattle.syntax.specs.declared.Binary.{Binary}
use Rattle.syntax.specs.declared.Quantifier.TheVariants as quant
use Rattle.syntax.specs.Tree.{Place, Pattern, Patterns, Tree, Trees}
use Rattle.grammar.specs.Grammar.{◌at◌, Left, Lead, Infix, Prefix, Sort, under, under_lead, Bracket, opening, closing, truth, word, Derives, DerivesItems, DerivesPattern, DerivesPatterns}
use Rattle.grammar.specs.Grammar.{p_any, p_name, p_numeral, p_truth, p_empty, p_sequence, p_tuple, p_last, p_more, d_let, d_let_be, d_if, d_cases, d_quantifier, d_connected, d_else, d_elseif, d_chain, d_link, d_implies, d_premise, d_prefix, d_bare, d_relation, d_in_set, d_not_in_set, d_side, d_apply, d_select, d_atom, d_numeral, d_truth, d_name, d_paren, d_empty, d_members, d_comprehension, d_filter, d_range, d_tuple, d_last, d_more}
use Rattle.grammar.specs.Steps.{same, Test, is, is_quantifier, infix_at, prefix_at, joins, relates, leads, operation, first, second, Hits, Misses}
use Rattle.grammar.proofs.Runs.{not_both}
use Rattle.grammar.proofs.Tokens.{same_mark, chain_of, relates_of, leads_of, or_true, bool_cases}

vac : {A : Type 0} → false ≡ true → A
vac e = absurd (false≢true e)

-- Behind an operand

-- the levels of C are numbered from 1; the sign of a level has its number, and any other token 0
abbrev pub level : Left → ℕ
level Left.iff = 1
level Left.or = 3
level Left.and = 4
level Left.sum = 7
level Left.product = 8

abbrev pub depth : Sort → ℕ
depth Sort.expr = 1
depth (Sort.choice p) = 1
depth (Sort.left l) = level l
depth Sort.implication = 2
depth (Sort.lead Lead.not) = 5
depth (Sort.lead Lead.minus) = 9
depth Sort.relation = 6
depth Sort.postfix = 10
depth Sort.atom = 11

abbrev rank_by : Infix → Symbol → ℕ
rank_by (Infix.chains l o) s = level l
rank_by Infix.implies s = 2
rank_by (Infix.relates o) s = 6
rank_by Infix.nothing s = cond (is sign.Not s) 6 (cond (is sign.OpenParen s) 10 (cond (is sign.Select s) 10 0))

abbrev pub rank : Symbol → ℕ
rank s = rank_by (infix_at s) s

abbrev pub rank_o : Option Lexeme → ℕ
rank_o None = 0
rank_o (Some x) = rank x.symbol

-- where the flag is set `in` may follow, unless `set` is behind it
abbrev pub StopIn : Bool → List Lexeme → Type 0
StopIn true rest = Hits (is sign.In) (first rest) → Misses (is sign.Set) (second rest)
StopIn false rest = Misses (is sign.In) (first rest)

-- what follows a sort of this depth does not go on with it
pub record Stops (n : ℕ) (f : Bool) (rest : List Lexeme) : Type 0 where
  pub ranks : rank_o (first rest) < n
  pub ins : n ≤ 6 → StopIn f rest

pub tighter : {n m : ℕ} {f : Bool} {rest : List Lexeme} → n ≤ m → Stops n f rest → Stops m f rest
tighter le s = record { ranks = omega (arith, s.ranks); ins = λ h. s.ins (omega arith) }

pub level_under : (l : Left) → level l < depth (under l)
level_under Left.iff = lit< tt
level_under Left.or = lit< tt
level_under Left.and = lit< tt
level_under Left.sum = lit< tt
level_under Left.product = lit< tt

pub level_some : (l : Left) → 0 < level l
level_some Left.iff = lit< tt
level_some Left.or = lit< tt
level_some Left.and = lit< tt
level_some Left.sum = lit< tt
level_some Left.product = lit< tt

pub depth_lead : (l : Lead) → depth (Sort.lead l) ≤ depth (under_lead l)
depth_lead Lead.not = lit≤ tt
depth_lead Lead.minus = lit≤ tt

mark_symbol : (m : Mark) (s : Symbol) → is m s ≡ true → s ≡ Symbol.mark m
mark_symbol m (Symbol.mark n) e = ap {B = Symbol} Symbol.mark (sym (same_mark m n e))
mark_symbol m (Symbol.name n) e = vac e
mark_symbol m (Symbol.numeral n) e = vac e

-- a test that fails
fails : (b : Bool) → (b ≡ true → ⊥) → b ≡ false
fails true h = absurd (h refl)
fails false h = refl

pub rank_chain : (l : Left) (i : Infix) (s : Symbol) → i ≡ Infix.chains l (operation i) → rank_by i s ≡ level l
rank_chain l i s e = ap (λ x. rank_by x s) e

pub rank_relates : (i : Infix) (s : Symbol) {o : Binary} → i ≡ Infix.relates o → rank_by i s ≡ 6
rank_relates i s e = ap (λ x. rank_by x s) e

pub miss_chain : (l : Left) (o : Option Lexeme) → rank_o o < level l → Misses (joins l) o
miss_chain l None h = tt
miss_chain l (Some x) h = fails _ λ e. let r = rank_chain l (infix_at x.symbol) x.symbol (chain_of l _ e) in omega arith

pub miss_relates : (o : Option Lexeme) → rank_o o < 6 → Misses relates o
miss_relates None h = tt
miss_relates (Some x) h = fails _ λ e. let r = ap (λ y. rank_by y x.symbol) (relates_of _ e) in omega arith

pub miss_mark : (m : Mark) (o : Option Lexeme) → (rank_o o ≡ rank (Symbol.mark m) → ⊥) → Misses (is m) o
miss_mark m None h = tt
miss_mark m (Some x) h = fails _ λ e. h (ap rank (mark_symbol m x.symbol e))

not_in : (f : Bool) (x : Lexeme) (rest : List Lexeme) → is sign.In x.symbol ≡ false → StopIn f (x ∷ rest)
not_in true x rest e = λ h. absurd (not_both h e)
not_in false x rest e = e

ranked_not_in : (s : Symbol) → 0 < rank s → is sign.In s ≡ false
ranked_not_in s h = fails _ λ e. let r = ap rank (mark_symbol sign.In s e) in omega arith

-- a sign of a looser level
pub sign_stops : (n : ℕ) (f : Bool) (x : Lexeme) (rest : List Lexeme) → 0 < rank x.symbol → rank x.symbol < n → Stops n f (x ∷ rest)
sign_stops n f x rest h l = record { ranks = l; ins = λ _. not_in f x rest (ranked_not_in x.symbol h) }

-- a token that goes on with nothing
pub closes : (m : Mark) {f : Bool} {p : Place} {rest : List Lexeme} → rank (Symbol.mark m) ≡ 0 → is sign.In (Symbol.mark m) ≡ false → Stops 1 f (m at p ∷ rest)
closes m {f} {p} {rest} r i = record { ranks = omega arith; ins = λ _. not_in f (m at p) rest i }

pub in_stops : {p : Place} {rest : List Lexeme} → Misses (is sign.Set) (first rest) → Stops 1 true (sign.In at p ∷ rest)
in_stops n = record { ranks = lit< tt; ins = λ _ _. n }

pub end_stops : Stops 1 false []
end_stops = record { ranks = lit< tt; ins = λ _. tt }

pub bracket_stops : (k : Bracket) {p : Place} {rest : List Lexeme} → Stops 1 false (closing k at p ∷ rest)
bracket_stops Bracket.brace = closes sign.CloseBrace refl refl
bracket_stops Bracket.bracket = closes sign.CloseBracket refl refl

pub hit_or_miss : (t : Test) (o : Option Lexeme) → Hits t o ⊎ Misses t o
hit_or_miss t None = inr tt
hit_or_miss t (Some x) = bool_cases (t x.symbol) (λ e. inl e) (λ e. inr e)

-- In front

-- which sorts a token begins: 1 all, 2 prefix signs and looser, 3 `not` and looser, 4 expressions alone, 0 none
abbrev among : Mark → List Mark → Bool
among m [] = false
among m (n ∷ ns) = same n m || among m ns

abbrev opens_plain : Symbol → ℕ
opens_plain (Symbol.name n) = 1
opens_plain (Symbol.numeral n) = 1
opens_plain (Symbol.mark m) =
    cond (among m (sign.True ∷ sign.False ∷ sign.OpenParen ∷ sign.OpenBrace ∷ sign.OpenBracket ∷ sign.Mk ∷ [])) 1
    (cond (among m (sign.Let ∷ sign.If ∷ sign.Cases ∷ sign.Forall ∷ sign.Exists ∷ [])) 4 0)

abbrev pub height_lead : Lead → ℕ
height_lead Lead.not = 3
height_lead Lead.minus = 2

abbrev opens_by : Prefix → Symbol → ℕ
opens_by (Prefix.leads l o) s = height_lead l
opens_by Prefix.nothing s = opens_plain s

abbrev pub opens : Symbol → ℕ
opens s = opens_by (prefix_at s) s

abbrev pub opens_o : Option Lexeme → ℕ
opens_o None = 0
opens_o (Some x) = opens x.symbol

abbrev pub height : Sort → ℕ
height Sort.expr = 4
height (Sort.choice p) = 4
height (Sort.left Left.iff) = 3
height (Sort.left Left.or) = 3
height (Sort.left Left.and) = 3
height (Sort.left Left.sum) = 2
height (Sort.left Left.product) = 2
height Sort.implication = 3
height (Sort.lead l) = height_lead l
height Sort.relation = 2
height Sort.postfix = 1
height Sort.atom = 1

pub record Starts (n : ℕ) (us : List Lexeme) : Type 0 where
  pub some : 0 < opens_o (first us)
  pub low : opens_o (first us) ≤ n

-- what follows does not change the beginning
pub first_of : {n : ℕ} {us : List Lexeme} → Starts n us → (rest : List Lexeme) → first (us ++ rest) ≡ first us
first_of {us} h rest = go us h.some
  where
    go : (vs : List Lexeme) → 0 < opens_o (first vs) → first (vs ++ rest) ≡ first vs
    go [] h = absurd (omega arith)
    go (v ∷ vs) h = refl

joined : {n : ℕ} {us : List Lexeme} → Starts n us → (rest : List Lexeme) → Starts n (us ++ rest)
joined h rest = let e = ap opens_o (first_of h rest) in record { some = omega (arith, h.some); low = omega (arith, h.low) }

higher : {n m : ℕ} {us : List Lexeme} → n ≤ m → Starts n us → Starts m us
higher le h = record { some = h.some; low = omega (arith, h.low) }

height_under : (l : Left) → height (under l) ≤ height (Sort.left l)
height_under Left.iff = lit≤ tt
height_under Left.or = lit≤ tt
height_under Left.and = lit≤ tt
height_under Left.sum = lit≤ tt
height_under Left.product = lit≤ tt

pub lead_under : (l : Lead) → height (under_lead l) < height_lead l
lead_under Lead.not = lit< tt
lead_under Lead.minus = lit< tt

lead_some : (l : Lead) → 0 < height_lead l
lead_some Lead.not = lit< tt
lead_some Lead.minus = lit< tt

begins : {x : Lexeme} {us : List Lexeme} (n m : ℕ) → opens x.symbol ≡ n → 0 < n → n ≤ m → Starts m (x ∷ us)
begins n m e h l = record { some = omega arith; low = omega arith }

word_starts : (o : Rattle.syntax.specs.declared.Quantifier.Quantifier) {p : Place} {us : List Lexeme} → Starts 4 (word o at p ∷ us)
word_starts quant.Forall = begins 4 4 refl (lit< tt) (lit≤ tt)
word_starts quant.Exists = begins 4 4 refl (lit< tt) (lit≤ tt)

truth_starts : (b : Bool) {p : Place} {us : List Lexeme} → Starts 1 (truth b at p ∷ us)
truth_starts true = begins 1 1 refl (lit< tt) (lit≤ tt)
truth_starts false = begins 1 1 refl (lit< tt) (lit≤ tt)

bracket_starts : (k : Bracket) {p : Place} {us : List Lexeme} → Starts 1 (opening k at p ∷ us)
bracket_starts Bracket.brace = begins 1 1 refl (lit< tt) (lit≤ tt)
bracket_starts Bracket.bracket = begins 1 1 refl (lit< tt) (lit≤ tt)

pub starts : {s : Sort} {us : List Lexeme} {t : Tree} → Derives s us t → Starts (height s) us
starts (d_let p q r s d e) = begins 4 4 refl (lit< tt) (lit≤ tt)
starts (d_let_be p q r s b d e) = begins 4 4 refl (lit< tt) (lit≤ tt)
starts (d_if p d) = begins 4 4 refl (lit< tt) (lit≤ tt)
starts (d_cases p q r d c) = begins 4 4 refl (lit< tt) (lit≤ tt)
starts (d_quantifier p q {o = o} b d) = word_starts o
starts (d_connected d) = higher (lit≤ tt) (starts d)
starts (d_else p q r d e g) = joined (starts d) _
starts (d_elseif p q r d e g) = joined (starts d) _
starts (d_chain p m e d g) = joined (starts d) _
starts (d_link {l = l} d) = higher (height_under l) (starts d)
starts (d_implies p d e) = joined (starts d) _
starts (d_premise d) = starts d
starts (d_prefix p m {l = l} e d) = begins (height_lead l) (height_lead l) (ap (λ i. opens_by i (Symbol.mark m)) e) (lead_some l) (omega arith)
starts (d_bare {l = l} d) = higher (let h = lead_under l in omega arith) (starts d)
starts (d_relation p m e d g) = joined (starts d) _
starts (d_in_set p q d e) = joined (starts d) _
starts (d_not_in_set p q r d e) = joined (starts d) _
starts (d_side d) = starts d
starts (d_apply p q d e) = joined (starts d) _
starts (d_select p q d) = joined (starts d) _
starts (d_atom d) = starts d
starts (d_numeral p) = begins 1 1 refl (lit< tt) (lit≤ tt)
starts (d_truth p {b = b}) = truth_starts b
starts (d_name p) = begins 1 1 refl (lit< tt) (lit≤ tt)
starts (d_paren p q d) = begins 1 1 refl (lit< tt) (lit≤ tt)
starts (d_empty p q k) = bracket_starts k
starts (d_members p q k d) = bracket_starts k
starts (d_comprehension p q r k d b) = bracket_starts k
starts (d_filter p q r s k d b e) = bracket_starts k
starts (d_range p q r s t d e) = begins 1 1 refl (lit< tt) (lit≤ tt)
starts (d_tuple p q r d ge le) = begins 1 1 refl (lit< tt) (lit≤ tt)

pub starts_items : {us : List Lexeme} {ts : Trees} → DerivesItems us ts → Starts 4 us
starts_items (d_last d) = starts d
starts_items (d_more p d e) = joined (starts d) _

miss_opens : (m : Mark) (o : Option Lexeme) → (opens_o o ≡ opens (Symbol.mark m) → ⊥) → Misses (is m) o
miss_opens m None h = tt
miss_opens m (Some x) h = fails _ λ e. h (ap opens (mark_symbol m x.symbol e))

-- a token that begins nothing, or nothing so tight, does not come first
pub not_first : {n : ℕ} {us : List Lexeme} → Starts n us → (m : Mark) (k : ℕ) → opens (Symbol.mark m) ≡ k → (k ≤ 0) ⊎ (n < k) → (rest : List Lexeme) → Misses (is m) (first (us ++ rest))
not_first {n} {us} h m k e c rest = subst (Misses (is m)) (sym (first_of h rest)) (miss_opens m (first us) (λ q. go c (q ∙ e)))
  where
    go : (k ≤ 0) ⊎ (n < k) → opens_o (first us) ≡ k → ⊥
    go (inl le) q = omega (arith, h.some)
    go (inr lt) q = omega (arith, h.low)

miss_lead : (l : Lead) (o : Option Lexeme) → opens_o o < height_lead l → Misses (leads l) o
miss_lead l None h = tt
miss_lead l (Some x) h = fails _ λ e. let r = ap (λ i. opens_by i x.symbol) (leads_of l (prefix_at x.symbol) e) in omega arith

pub no_lead : (l : Lead) {us : List Lexeme} → Starts (height (under_lead l)) us → (rest : List Lexeme) → Misses (leads l) (first (us ++ rest))
no_lead l {us} h rest = subst (Misses (leads l)) (sym (first_of h rest)) (miss_lead l (first us) (let k = lead_under l in omega (arith, h.low)))

miss_quantifier : (o : Option Lexeme) → opens_o o < 4 → Misses is_quantifier o
miss_quantifier None h = tt
miss_quantifier (Some x) h = fails _ λ e. bool_cases (is sign.Forall x.symbol) (λ t. let r = ap opens (mark_symbol sign.Forall x.symbol t) in omega arith) (λ f. let r = ap opens (mark_symbol sign.Exists x.symbol (or_true _ _ e f)) in omega arith)

pub no_quantifier : {us : List Lexeme} → Starts 3 us → (rest : List Lexeme) → Misses is_quantifier (first (us ++ rest))
no_quantifier {us} h rest = subst (Misses is_quantifier) (sym (first_of h rest)) (miss_quantifier (first us) (omega (arith, h.low)))

-- Patterns

abbrev popens : Symbol → ℕ
popens (Symbol.name n) = 1
popens (Symbol.numeral n) = 1
popens (Symbol.mark m) = cond (among m (sign.Minus ∷ sign.True ∷ sign.False ∷ sign.OpenBracket ∷ sign.Mk ∷ [])) 1 0

abbrev popens_o : Option Lexeme → ℕ
popens_o None = 0
popens_o (Some x) = popens x.symbol

abbrev pub Begins : List Lexeme → Type 0
Begins us = popens_o (first us) ≡ 1

begins_first : (us : List Lexeme) → Begins us → (rest : List Lexeme) → first (us ++ rest) ≡ first us
begins_first [] h rest = absurd (omega arith)
begins_first (u ∷ us) h rest = refl

truth_begins : (b : Bool) (p : Place) → Begins (truth b at p ∷ [])
truth_begins true p = refl
truth_begins false p = refl

pub pattern_begins : {us : List Lexeme} {t : Pattern} → DerivesPattern us t → Begins us
pattern_begins (p_any p) = refl
pattern_begins (p_name p) = refl
pattern_begins (p_numeral p) = refl
pattern_begins (p_truth p {b = b}) = truth_begins b p
pattern_begins (p_empty p q) = refl
pattern_begins (p_sequence p q d) = refl
pattern_begins (p_tuple p q r d ge le) = refl

pub patterns_begin : {us : List Lexeme} {ts : Patterns} → DerivesPatterns us ts → Begins us
patterns_begin (p_last d) = pattern_begins d
patterns_begin (p_more p {us = us} d e) = ap popens_o (begins_first us (pattern_begins d) _) ∙ pattern_begins d

pub begins_on : (us rest : List Lexeme) → Begins us → Begins (us ++ rest)
begins_on us rest h = ap popens_o (begins_first us h rest) ∙ h

pub no_pattern : (m : Mark) → popens (Symbol.mark m) ≡ 0 → (us : List Lexeme) → Begins us → (rest : List Lexeme) → Misses (is m) (first (us ++ rest))
no_pattern m e us h rest = subst (Misses (is m)) (sym (begins_first us h rest)) (go (first us) h)
  where
    go : (o : Option Lexeme) → popens_o o ≡ 1 → Misses (is m) o
    go None q = tt
    go (Some x) q = fails _ λ t. let r = ap popens (mark_symbol m x.symbol t) in omega arith
