-- Whatever the grammar derives is read.
use Rattle.std.proofs.Common.{◌≡◌, zero, suc, ◌≤◌, Bool, true, false, ◌⊎◌, List, [], ◌∷◌, ◌++◌, Some, sym, refl, ap, ◌∙◌, subst, inl, inr, append_assoc, arith, lit<, lit≤}
use Rattle.tokens.specs.declared.Mark.{Mark}
use Rattle.tokens.specs.declared.Mark.TheVariants as sign
use Rattle.tokens.specs.Lexeme.{Symbol, Lexeme}
use Rattle.syntax.specs.declared.Binary.TheVariants as bin
use Rattle.syntax.specs.declared.Quantifier.{Quantifier}
use Rattle.syntax.specs.declared.Quantifier.TheVariants as quant
use Rattle.syntax.specs.Tree.{Place, Name, Pattern, Patterns, Tree, Trees, Alternatives, Optional}
use Rattle.grammar.specs.Grammar.{◌at◌, ◌name_at◌, ◌numeral_at◌, Left, Lead, Operation, join, Infix, infix_of_mark, Sort, under, under_lead, Bracket, opening, closing, kind, truth, word, Derives, DerivesBind, DerivesItems, DerivesCases, DerivesPattern, DerivesPatterns, count, count_patterns}
use Rattle.grammar.specs.Grammar.{p_any, p_name, p_numeral, p_truth, p_empty, p_sequence, p_tuple, p_last, p_more, d_let, d_let_be, d_if, d_cases, d_quantifier, d_connected, d_else, d_elseif, d_chain, d_link, d_implies, d_premise, d_prefix, d_bare, d_relation, d_in_set, d_not_in_set, d_side, d_apply, d_select, d_atom, d_numeral, d_truth, d_name, d_paren, d_empty, d_members, d_comprehension, d_filter, d_range, d_tuple, d_bind, d_last, d_more, d_only, d_others, d_next}
use Rattle.grammar.specs.Steps.{is, same_left, same_lead, is_chain, is_lead, is_relation, joins, operation, relation_of, unary_of, Limit, any, most, several, next, Job, parse, more, applied, bind, items, arms, pattern, patterns, Result, Prog, quantifier_tail, members, after_comma, collected, right_side, member, after_item, after_pattern, Out, out, first, Hits, Misses, body, Run, r_ret, r_on, r_off, r_want, r_both, r_only, r_none, r_call}
use Rattle.grammar.proofs.Meets.{Within}
use Rattle.grammar.proofs.Table.{same_refl, items_some, patterns_some}
use Rattle.grammar.proofs.Follow.{level, depth, rank, StopIn, Stops, tighter, level_under, level_some, depth_lead, rank_chain, miss_chain, miss_relates, miss_mark, sign_stops, closes, in_stops, bracket_stops, hit_or_miss, Starts, starts, starts_items, not_first, no_lead, no_quantifier, Begins, pattern_begins, patterns_begin, begins_on, no_pattern, rank_relates}

abbrev pub Reads : (j : Job) → List Lexeme → List Lexeme → Result j → Type 0
Reads j us rest a = (then : Bool) × Run j (body j) (us ++ rest) false (out (Some a) rest then)

-- tokens grouped the other way
moved : {i : Job} {p : Prog (Result i)} {far : Bool} {o : Out (Result i)} (us mid rest : List Lexeme) → Run i p (us ++ (mid ++ rest)) far o → Run i p ((us ++ mid) ++ rest) far o
moved {i} {p} {far} {o} us mid rest r = subst (λ l. Run i p l far o) (sym (append_assoc us mid rest)) r

-- Patterns

abbrev CompletePattern : List Lexeme → Pattern → Type 0
CompletePattern us t = (rest : List Lexeme) → Reads pattern us rest t

abbrev CompletePatterns : List Lexeme → Patterns → Type 0
CompletePatterns us ts = (l : Limit) (rest : List Lexeme) → Within l (count_patterns ts) → Misses (is sign.Comma) (first rest) → Reads (patterns l) us rest ts

truth_pattern : (b : Bool) (p : Place) (rest : List Lexeme) → Run pattern (body pattern) (truth b at p ∷ rest) false (out (Some (Pattern.truth p b)) rest false)
truth_pattern true p rest = r_off refl (r_off refl (r_off refl (r_on refl r_ret)))
truth_pattern false p rest = r_off refl (r_off refl (r_off refl (r_on refl r_ret)))

last_pattern : (l : Limit) (a : Pattern) {rest : List Lexeme} {far : Bool} → Within l 1 → Misses (is sign.Comma) (first rest) → Run (patterns l) (after_pattern (next l) a) rest far (out (Some (Patterns.more a Patterns.none)) rest far)
last_pattern any a w n = r_off n r_ret
last_pattern (most zero) a w n = r_ret
last_pattern (most (suc m)) a w n = r_off n r_ret
last_pattern several a w n = absurd (omega arith)

more_patterns : (l : Limit) (a : Pattern) (ts : Patterns) (p : Place) (vs : List Lexeme) {rest : List Lexeme} {far : Bool} → Within l (suc (count_patterns ts)) → 1 ≤ count_patterns ts → ((k : Limit) → Within k (count_patterns ts) → Reads (patterns k) vs rest ts) → (then : Bool) × Run (patterns l) (after_pattern (next l) a) (sign.Comma at p ∷ (vs ++ rest)) far (out (Some (Patterns.more a ts)) rest then)
more_patterns any a ts p vs w h r = let y = r any tt in (y.0, r_on refl (r_call y.1 r_ret))
more_patterns (most zero) a ts p vs w h r = absurd (omega arith)
more_patterns (most (suc m)) a ts p vs w h r = let y = r (most m) (omega arith) in (y.0, r_on refl (r_call y.1 r_ret))
more_patterns several a ts p vs w h r = let y = r (most 6) (omega arith) in (y.0, r_want refl (r_call y.1 r_ret))

mutual
  pub complete_pattern : {us : List Lexeme} {t : Pattern} → DerivesPattern us t → CompletePattern us t
  complete_pattern (p_any p) = λ rest. (false, r_on refl r_ret)
  complete_pattern (p_name p) = λ rest. (false, r_off refl (r_on refl r_ret))
  complete_pattern (p_numeral p) = λ rest. (false, r_off refl (r_off refl (r_on refl r_ret)))
  complete_pattern (p_truth p {b = b}) = λ rest. (false, truth_pattern b p rest)
  complete_pattern (p_empty p q) = λ rest. (false, r_off refl (r_off refl (r_off refl (r_off refl (r_on refl (r_on refl r_ret))))))
  complete_pattern (p_sequence p q {us = us} d) = λ rest.
      let x = complete_patterns d any (sign.CloseBracket at q ∷ rest) tt refl in (
        false,
        r_off refl (r_off refl (r_off refl (r_off refl (r_on refl
            (moved us (sign.CloseBracket at q ∷ []) rest (r_off (no_pattern sign.CloseBracket refl us (patterns_begin d) _) (r_call x.1 (r_want refl r_ret)))))))),
      )
  complete_pattern (p_tuple p q r {us = us} d ge le) = λ rest.
      let x = complete_patterns d several (sign.CloseParen at r ∷ rest) (ge, le) refl in (
        false,
        r_off refl (r_off refl (r_off refl (r_off refl (r_off refl (r_want refl (r_want refl
            (moved us (sign.CloseParen at r ∷ []) rest (r_call x.1 (r_want refl r_ret))))))))),
      )

  pub complete_patterns : {us : List Lexeme} {ts : Patterns} → DerivesPatterns us ts → CompletePatterns us ts
  complete_patterns (p_last {t = t} d) = λ l rest w n. let x = complete_pattern d rest in (x.0, r_call x.1 (last_pattern l t w n))
  complete_patterns (p_more p {us = us} {vs = vs} {t = t} {ts = ts} d e) = λ l rest w n.
      let x = complete_pattern d (sign.Comma at p ∷ (vs ++ rest)) in
      let y = more_patterns l t ts p vs w (patterns_some e) (λ k v. complete_patterns e k rest v n) in
      (y.0, moved us (sign.Comma at p ∷ vs) rest (r_call x.1 y.1))

-- Expressions

abbrev pub Complete : Sort → List Lexeme → Tree → Type 0
Complete s us t = (f : Bool) (rest : List Lexeme) → Stops (depth s) f rest → Reads (parse s f) us rest t

-- a level that groups to the left: behind us, whose tree is t, the reader goes on with more
abbrev Chain : Left → List Lexeme → Tree → Type 0
Chain l us t =
    (f : Bool) (rest : List Lexeme) → Stops (depth (under l)) f rest
    → (then : Bool) × ((w : Tree) (later : List Lexeme) (end : Bool) → Run (more l f t) (body (more l f t)) rest then (out (Some w) later end) → Run (parse (Sort.left l) f) (body (parse (Sort.left l) f)) (us ++ rest) false (out (Some w) later end))

abbrev Applies : List Lexeme → Tree → Type 0
Applies us t =
    (f : Bool) (rest : List Lexeme)
    → (then : Bool) × ((w : Tree) (later : List Lexeme) (end : Bool) → Run (applied t) (body (applied t)) rest then (out (Some w) later end) → Run (parse Sort.postfix f) (body (parse Sort.postfix f)) (us ++ rest) false (out (Some w) later end))

abbrev Held : Sort → List Lexeme → Tree → Type 0
Held Sort.expr us t = Complete Sort.expr us t
Held (Sort.choice p) us t = Complete (Sort.choice p) us t
Held (Sort.left l) us t = Chain l us t
Held Sort.implication us t = Complete Sort.implication us t
Held (Sort.lead l) us t = Complete (Sort.lead l) us t
Held Sort.relation us t = Complete Sort.relation us t
Held Sort.postfix us t = Applies us t
Held Sort.atom us t = (f : Bool) (rest : List Lexeme) → Reads (parse Sort.atom f) us rest t

pub finish : (s : Sort) (us : List Lexeme) (t : Tree) → Held s us t → Complete s us t
finish Sort.expr us t h = h
finish (Sort.choice p) us t h = h
finish (Sort.left l) us t h = λ f rest st.
    let c = h f rest (tighter (let k = level_under l in omega arith) st) in
    (c.0, c.1 _ _ _ (r_off (miss_chain l (first rest) st.ranks) r_ret))
finish Sort.implication us t h = h
finish (Sort.lead l) us t h = h
finish Sort.relation us t h = h
finish Sort.postfix us t h = λ f rest st.
    let c = h f rest in
    (c.0, c.1 _ _ _ (r_off (miss_mark sign.OpenParen (first rest) (λ e. omega (arith, st.ranks))) (r_off (miss_mark sign.Select (first rest) (λ e. omega (arith, st.ranks))) r_ret)))
finish Sort.atom us t h = λ f rest st. h f rest

-- what is made of the parts that are not expressions

data BindRead : List Lexeme → Name → Tree → Type 0 where
  bind_read : (p q r : Place) {n : Name} {us : List Lexeme} {t : Tree} → Complete (Sort.left Left.iff) us t → BindRead (n name_at p ∷ sign.In at q ∷ sign.Set at r ∷ us) n t

bind_run : {us : List Lexeme} {n : Name} {t : Tree} → BindRead us n t → (rest : List Lexeme) → Stops 1 false rest → Reads bind us rest (record { name = n; set = t })
bind_run (bind_read p q r h) rest st = let x = h false rest st in (x.0, r_want refl (r_want refl (r_want refl (r_call x.1 r_ret))))

abbrev CompleteItems : List Lexeme → Trees → Type 0
CompleteItems us ts = (l : Limit) (rest : List Lexeme) → Within l (count ts) → Misses (is sign.Comma) (first rest) → Stops 1 false rest → Reads (items l) us rest ts

data ItemsRead : List Lexeme → Trees → Type 0 where
  last_read : {us : List Lexeme} {t : Tree} → Starts 4 us → Complete Sort.expr us t → ItemsRead us (Trees.more t Trees.none)
  more_read : (p : Place) {us vs : List Lexeme} {t : Tree} {ts : Trees} → Starts 4 us → Complete Sort.expr us t → Starts 4 vs → 1 ≤ count ts → CompleteItems vs ts → ItemsRead (us ++ sign.Comma at p ∷ vs) (Trees.more t ts)

last_item : (l : Limit) (a : Tree) {rest : List Lexeme} {far : Bool} → Within l 1 → Misses (is sign.Comma) (first rest) → Run (items l) (after_item (next l) a) rest far (out (Some (Trees.more a Trees.none)) rest far)
last_item any a w n = r_off n r_ret
last_item (most zero) a w n = r_ret
last_item (most (suc m)) a w n = r_off n r_ret
last_item several a w n = absurd (omega arith)

more_items : (l : Limit) (a : Tree) (ts : Trees) (p : Place) (vs : List Lexeme) {rest : List Lexeme} {far : Bool} → Within l (suc (count ts)) → 1 ≤ count ts → ((k : Limit) → Within k (count ts) → Reads (items k) vs rest ts) → (then : Bool) × Run (items l) (after_item (next l) a) (sign.Comma at p ∷ (vs ++ rest)) far (out (Some (Trees.more a ts)) rest then)
more_items any a ts p vs w h r = let y = r any tt in (y.0, r_on refl (r_call y.1 r_ret))
more_items (most zero) a ts p vs w h r = absurd (omega arith)
more_items (most (suc m)) a ts p vs w h r = let y = r (most m) (omega arith) in (y.0, r_on refl (r_call y.1 r_ret))
more_items several a ts p vs w h r = let y = r (most 6) (omega arith) in (y.0, r_want refl (r_call y.1 r_ret))

items_run : {us : List Lexeme} {ts : Trees} → ItemsRead us ts → CompleteItems us ts
items_run (last_read {t = t} s h) = λ l rest w n st. let x = h false rest st in (x.0, r_call x.1 (last_item l t w n))
items_run (more_read p {us = us} {vs = vs} {t = t} {ts = ts} s h s' c g) = λ l rest w n st.
    let x = h false (sign.Comma at p ∷ (vs ++ rest)) (closes sign.Comma refl refl) in
    let y = more_items l t ts p vs w c (λ k v. g k rest v n st) in
    (y.0, moved us (sign.Comma at p ∷ vs) rest (r_call x.1 y.1))

abbrev CompleteCases : List Lexeme → Alternatives → Optional → Type 0
CompleteCases us cs o = (rest : List Lexeme) → Misses (is sign.Comma) (first rest) → Stops 1 false rest → Reads arms us rest (record { arms = cs; others = o })

cases_begin : {us : List Lexeme} {cs : Alternatives} {o : Optional} → DerivesCases us cs o → Begins us
cases_begin (d_only p {xs = xs} w d) = begins_on xs _ (pattern_begins w)
cases_begin (d_others p q r s {xs = xs} w d e) = begins_on xs _ (pattern_begins w)
cases_begin (d_next p q {xs = xs} w d e) = begins_on xs _ (pattern_begins w)

-- where a sum ends, and the first sum of a relation
sum_stops : {f : Bool} {rest : List Lexeme} → Stops 6 f rest → Stops 7 false rest
sum_stops st = record { ranks = omega (arith, st.ranks); ins = λ h. absurd (omega arith) }

in_ends_sum : {p : Place} {rest : List Lexeme} → Stops 7 false (sign.In at p ∷ rest)
in_ends_sum = record { ranks = lit< tt; ins = λ h. absurd (omega arith) }

-- E

let_be_run : (p q r s : Place) {xs : List Lexeme} (ys : List Lexeme) {zs : List Lexeme} {n : Name} {a b c : Tree} → BindRead xs n a → Complete Sort.expr ys b → Starts 4 zs → Complete Sort.expr zs c → Complete Sort.expr (sign.Let at p ∷ (xs ++ sign.Be at q ∷ sign.St at r ∷ (ys ++ sign.In at s ∷ zs))) (Tree.let_be p n a b c)
let_be_run p q r s ys {zs = zs} (bind_read p' q' r' {us = us} h) g z k = λ f rest st.
    let x = h false (sign.Be at q ∷ sign.St at r ∷ ((ys ++ sign.In at s ∷ zs) ++ rest)) (closes sign.Be refl refl) in
    let y = g true (sign.In at s ∷ (zs ++ rest)) (in_stops (not_first z sign.Set 0 refl (inl (lit≤ tt)) rest)) in
    let w = k f rest st in (
      w.0,
      r_on refl (r_want refl (r_off refl (r_want refl (r_want refl (moved us (sign.Be at q ∷ sign.St at r ∷ (ys ++ sign.In at s ∷ zs)) rest
          (r_call x.1 (r_want refl (r_want refl (moved ys (sign.In at s ∷ zs) rest (r_call y.1 (r_want refl (r_call w.1 r_ret)))))))))))),
    )

at_quantifier : (o : Quantifier) (f : Bool) (p : Place) {ts : List Lexeme} {v : Out Tree} → Run (parse Sort.expr f) (quantifier_tail f p o) ts false v → Run (parse Sort.expr f) (body (parse Sort.expr f)) (word o at p ∷ ts) false v
at_quantifier quant.Forall f p r = r_off refl (r_off refl (r_off refl (r_on refl r)))
at_quantifier quant.Exists f p r = r_off refl (r_off refl (r_off refl (r_on refl r)))

-- The levels of C

same_left_refl : (l : Left) → same_left l l ≡ true
same_left_refl Left.iff = refl
same_left_refl Left.or = refl
same_left_refl Left.and = refl
same_left_refl Left.sum = refl
same_left_refl Left.product = refl

same_lead_refl : (l : Lead) → same_lead l l ≡ true
same_lead_refl Lead.not = refl
same_lead_refl Lead.minus = refl

chain_hit : (l : Left) (m : Mark) {o : Operation} → infix_of_mark m ≡ Infix.chains l o → joins l (Symbol.mark m) ≡ true
chain_hit l m e = ap (is_chain l) e ∙ same_left_refl l

chain_stops : (l : Left) (m : Mark) {o : Operation} (f : Bool) (p : Place) (rest : List Lexeme) → infix_of_mark m ≡ Infix.chains l o → Stops (depth (under l)) f (m at p ∷ rest)
chain_stops l m f p rest e =
    let r : rank (Symbol.mark m) ≡ level l = rank_chain l (infix_of_mark m) (Symbol.mark m) (e ∙ ap {B = Infix} (Infix.chains l) (sym (ap operation e))) in
    let g = level_some l in
    let h = level_under l in
    sign_stops (depth (under l)) f (m at p) rest (omega arith) (omega arith)

in_run : (f : Bool) (p q : Place) {a : Tree} {ts : List Lexeme} {far : Bool} {v : Out Tree} → Run (parse Sort.relation f) (right_side p bin.InSet a) ts false v → Run (parse Sort.relation f) (member f a) (sign.In at p ∷ sign.Set at q ∷ ts) far v
in_run true p q r = r_both refl refl r
in_run false p q r = r_on refl (r_want refl r)

stay : (f : Bool) (a : Tree) (rest : List Lexeme) (far : Bool) → StopIn f rest → (then : Bool) × Run (parse Sort.relation f) (member f a) rest far (out (Some a) rest then)
stay false a rest far s = (far, r_off s r_ret)
stay true a rest far s = go (hit_or_miss (is sign.In) (first rest))
  where
    go : Hits (is sign.In) (first rest) ⊎ Misses (is sign.In) (first rest) → (then : Bool) × Run (parse Sort.relation true) (member true a) rest far (out (Some a) rest then)
    go (inl h) = (true, r_only h (s h) r_ret)
    go (inr n) = (far, r_none n r_ret)

-- Atoms

at_truth : (b f : Bool) (p : Place) (rest : List Lexeme) → Run (parse Sort.atom f) (body (parse Sort.atom f)) (truth b at p ∷ rest) false (out (Some (Tree.truth p b)) rest false)
at_truth true f p rest = r_off refl (r_off refl (r_on refl r_ret))
at_truth false f p rest = r_off refl (r_off refl (r_on refl r_ret))

at_opening : (k : Bracket) (f : Bool) (p : Place) {ts : List Lexeme} {v : Out Tree} → Run (parse Sort.atom f) (collected k p) ts false v → Run (parse Sort.atom f) (body (parse Sort.atom f)) (opening k at p ∷ ts) false v
at_opening Bracket.brace f p r = r_off refl (r_off refl (r_off refl (r_off refl (r_on refl r))))
at_opening Bracket.bracket f p r = r_off refl (r_off refl (r_off refl (r_off refl (r_off refl (r_on refl r)))))

not_closing : (k : Bracket) {us : List Lexeme} → Starts 4 us → (rest : List Lexeme) → Misses (is (closing k)) (first (us ++ rest))
not_closing Bracket.brace s rest = not_first s sign.CloseBrace 0 refl (inl (lit≤ tt)) rest
not_closing Bracket.bracket s rest = not_first s sign.CloseBracket 0 refl (inl (lit≤ tt)) rest

closing_is_no_bar : (k : Bracket) → is sign.Bar (Symbol.mark (closing k)) ≡ false
closing_is_no_bar Bracket.brace = refl
closing_is_no_bar Bracket.bracket = refl

closing_is_no_comma : (k : Bracket) → is sign.Comma (Symbol.mark (closing k)) ≡ false
closing_is_no_comma Bracket.brace = refl
closing_is_no_comma Bracket.bracket = refl

closing_is_no_ampersand : (k : Bracket) → is sign.Ampersand (Symbol.mark (closing k)) ≡ false
closing_is_no_ampersand Bracket.brace = refl
closing_is_no_ampersand Bracket.bracket = refl

at_items : (k : Bracket) (f : Bool) (p : Place) {a : Tree} {vs : List Lexeme} → Starts 4 vs → (rest : List Lexeme) {v : Out Tree} → Run (parse Sort.atom f) (members k p a) (vs ++ rest) false v → Run (parse Sort.atom f) (after_comma k p a) (vs ++ rest) false v
at_items Bracket.brace f p s rest r = r_off (not_first s sign.Ellipsis 0 refl (inl (lit≤ tt)) rest) r
at_items Bracket.bracket f p s rest r = r

members_run : (p q : Place) (k : Bracket) {us : List Lexeme} {ts : Trees} → ItemsRead us ts → (f : Bool) (rest : List Lexeme) → Reads (parse Sort.atom f) (opening k at p ∷ (us ++ closing k at q ∷ [])) rest (Tree.collection p (kind k) ts)
members_run p q k (last_read {us = us} s h) f rest =
    let x = h false (closing k at q ∷ rest) (bracket_stops k) in
    (false, at_opening k f p (moved us (closing k at q ∷ []) rest (r_off (not_closing k s _) (r_call x.1 (r_off (closing_is_no_bar k) (r_off (closing_is_no_comma k) (r_want (same_refl (closing k)) r_ret)))))))
members_run p q k (more_read c {us = us} {vs = vs} {t = t} {ts = ts} s h z n g) f rest =
    let x = h false (sign.Comma at c ∷ ((vs ++ closing k at q ∷ []) ++ rest)) (closes sign.Comma refl refl) in
    let y = g any (closing k at q ∷ rest) tt (closing_is_no_comma k) (bracket_stops k) in (
      false,
      at_opening k f p (subst (λ l. Run (parse Sort.atom f) (collected k p) (l ++ rest) false (out (Some (Tree.collection p (kind k) (Trees.more t ts))) rest false)) (sym (append_assoc us (sign.Comma at c ∷ vs) (closing k at q ∷ [])))
          (moved us (sign.Comma at c ∷ (vs ++ closing k at q ∷ [])) rest
          (r_off (not_closing k s _) (r_call x.1 (r_off refl (r_on refl (moved vs (closing k at q ∷ []) rest (at_items k f p z _ (r_call y.1 (r_want (same_refl (closing k)) r_ret)))))))))),
    )

mutual
  pub complete : {s : Sort} {us : List Lexeme} {t : Tree} → Derives s us t → Held s us t
  complete (d_let p q r s {xs = xs} {ys = ys} d e) = λ f rest st.
      let x = complete d true (sign.In at s ∷ (ys ++ rest)) (in_stops (not_first (starts e) sign.Set 0 refl (inl (lit≤ tt)) rest)) in
      let y = complete e f rest st in
      (y.0, r_on refl (r_want refl (r_on refl (moved xs (sign.In at s ∷ ys) rest (r_call x.1 (r_want refl (r_call y.1 r_ret)))))))
  complete (d_let_be p q r s {ys = ys} b d e) = let_be_run p q r s ys (complete_bind b) (complete d) (starts e) (complete e)
  complete (d_if p d) = λ f rest st. let x = complete d f rest st in (x.0, r_off refl (r_on refl (r_call x.1 r_ret)))
  complete (d_cases p q r {xs = xs} {ys = ys} d c) = λ f rest st.
      let x = complete d false (sign.Colon at q ∷ ((ys ++ sign.End at r ∷ []) ++ rest)) (closes sign.Colon refl refl) in
      let y = complete_cases c (sign.End at r ∷ rest) refl (closes sign.End refl refl) in (
        false,
        r_off refl (r_off refl (r_on refl (moved xs (sign.Colon at q ∷ (ys ++ sign.End at r ∷ [])) rest (r_call x.1 (r_want refl
            (moved ys (sign.End at r ∷ []) rest (r_call y.1 (r_want refl r_ret)))))))),
      )
  complete (d_quantifier p q {o = o} {xs = xs} {ys = ys} b d) = λ f rest st.
      let x = bind_run (complete_bind b) (sign.Ampersand at q ∷ (ys ++ rest)) (closes sign.Ampersand refl refl) in
      let y = complete d f rest st in
      (y.0, at_quantifier o f p (moved xs (sign.Ampersand at q ∷ ys) rest (r_call x.1 (r_want refl (r_call y.1 r_ret)))))
  complete (d_connected {us = us} {t = t} d) = λ f rest st.
      let x = finish (Sort.left Left.iff) us t (complete d) f rest st in
      let s = starts d in
      (x.0, r_off (not_first s sign.Let 4 refl (inr (lit< tt)) rest) (r_off (not_first s sign.If 4 refl (inr (lit< tt)) rest) (r_off (not_first s sign.Cases 4 refl (inr (lit< tt)) rest) (r_off (no_quantifier s rest) (r_call x.1 r_ret)))))
  complete (d_else p q r {xs = xs} {ys = ys} {zs = zs} d e g) = λ f rest st.
      let x = complete d false (sign.Then at q ∷ ((ys ++ sign.Else at r ∷ zs) ++ rest)) (closes sign.Then refl refl) in
      let y = complete e false (sign.Else at r ∷ (zs ++ rest)) (closes sign.Else refl refl) in
      let z = complete g f rest st in
      (z.0, moved xs (sign.Then at q ∷ (ys ++ sign.Else at r ∷ zs)) rest (r_call x.1 (r_want refl (moved ys (sign.Else at r ∷ zs) rest (r_call y.1 (r_off refl (r_want refl (r_call z.1 r_ret))))))))
  complete (d_elseif p q r {xs = xs} {ys = ys} {zs = zs} d e g) = λ f rest st.
      let x = complete d false (sign.Then at q ∷ ((ys ++ sign.Elseif at r ∷ zs) ++ rest)) (closes sign.Then refl refl) in
      let y = complete e false (sign.Elseif at r ∷ (zs ++ rest)) (closes sign.Elseif refl refl) in
      let z = complete g f rest st in
      (z.0, moved xs (sign.Then at q ∷ (ys ++ sign.Elseif at r ∷ zs)) rest (r_call x.1 (r_want refl (moved ys (sign.Elseif at r ∷ zs) rest (r_call y.1 (r_on refl (r_call z.1 r_ret)))))))
  complete (d_chain p m {l = l} {o = o} {xs = xs} {ys = ys} {a = a} {b = b} e d g) = λ f rest st.
      let c = complete d f (m at p ∷ (ys ++ rest)) (chain_stops l m f p (ys ++ rest) e) in
      let y = finish (under l) ys b (complete g) f rest st in (
        y.0,
        λ w later end r. moved xs (m at p ∷ ys) rest (c.1 w later end (r_on (chain_hit l m e) (r_call y.1
            (r_call (subst (λ x. Run (more l f (join x p a b)) (body (more l f (join x p a b))) rest y.0 (out (Some w) later end)) (sym (ap operation e)) r) r_ret)))),
      )
  complete (d_link {l = l} {us = us} {t = t} d) = λ f rest st.
      let y = finish (under l) us t (complete d) f rest st in
      (y.0, λ w later end r. r_call y.1 (r_call r r_ret))
  complete (d_implies p {xs = xs} {ys = ys} {a = a} d e) = λ f rest st.
      let x = finish (Sort.left Left.or) xs a (complete d) f (sign.Implies at p ∷ (ys ++ rest)) (sign_stops 3 f (sign.Implies at p) (ys ++ rest) (lit< tt) (lit< tt)) in
      let y = complete e f rest st in
      (y.0, moved xs (sign.Implies at p ∷ ys) rest (r_call x.1 (r_on refl (r_call y.1 r_ret))))
  complete (d_premise {us = us} {t = t} d) = λ f rest st.
      let x = finish (Sort.left Left.or) us t (complete d) f rest (tighter (lit≤ tt) st) in
      (x.0, r_call x.1 (r_off (miss_mark sign.Implies (first rest) (λ e. omega (arith, st.ranks))) r_ret))
  complete (d_prefix p m {l = l} {us = us} {t = t} e d) = λ f rest st.
      let x = complete d f rest st in
      (x.0, subst (λ u. Run (parse (Sort.lead l) f) (body (parse (Sort.lead l) f)) (m at p ∷ (us ++ rest)) false (out (Some (Tree.unary p u t)) rest x.0)) (ap unary_of e) (r_on (ap (is_lead l) e ∙ same_lead_refl l) (r_call x.1 r_ret)))
  complete (d_bare {l = l} {us = us} {t = t} d) = λ f rest st.
      let x = finish (under_lead l) us t (complete d) f rest (tighter (depth_lead l) st) in
      (x.0, r_off (no_lead l (starts d) rest) (r_call x.1 r_ret))
  complete (d_relation p m {o = o} {xs = xs} {ys = ys} {a = a} {b = b} e d g) = λ f rest st.
      let rk : rank (Symbol.mark m) ≡ 6 = rank_relates (infix_of_mark m) (Symbol.mark m) e in
      let x = finish (Sort.left Left.sum) xs a (complete d) false (m at p ∷ (ys ++ rest)) (sign_stops 7 false (m at p) (ys ++ rest) (omega arith) (omega arith)) in
      let y = finish (Sort.left Left.sum) ys b (complete g) false rest (sum_stops st) in
      (y.0, moved xs (m at p ∷ ys) rest (subst (λ u. Run (parse Sort.relation f) (body (parse Sort.relation f)) (xs ++ m at p ∷ (ys ++ rest)) false (out (Some (Tree.binary p u a b)) rest y.0)) (ap relation_of e) (r_call x.1 (r_on (ap is_relation e) (r_call y.1 r_ret)))))
  complete (d_in_set p q {xs = xs} {ys = ys} {a = a} {b = b} d e) = λ f rest st.
      let x = finish (Sort.left Left.sum) xs a (complete d) false (sign.In at p ∷ sign.Set at q ∷ (ys ++ rest)) in_ends_sum in
      let y = finish (Sort.left Left.sum) ys b (complete e) false rest (sum_stops st) in
      (y.0, moved xs (sign.In at p ∷ sign.Set at q ∷ ys) rest (r_call x.1 (r_off refl (r_off refl (in_run f p q (r_call y.1 r_ret))))))
  complete (d_not_in_set p q r {xs = xs} {ys = ys} {a = a} {b = b} d e) = λ f rest st.
      let x = finish (Sort.left Left.sum) xs a (complete d) false (sign.Not at p ∷ sign.In at q ∷ sign.Set at r ∷ (ys ++ rest)) (sign_stops 7 false (sign.Not at p) _ (lit< tt) (lit< tt)) in
      let y = finish (Sort.left Left.sum) ys b (complete e) false rest (sum_stops st) in
      (y.0, moved xs (sign.Not at p ∷ sign.In at q ∷ sign.Set at r ∷ ys) rest (r_call x.1 (r_off refl (r_on refl (r_want refl (r_want refl (r_call y.1 r_ret)))))))
  complete (d_side {us = us} {t = t} d) = λ f rest st.
      let x = finish (Sort.left Left.sum) us t (complete d) false rest (sum_stops st) in
      let y = stay f t rest x.0 (st.ins (lit≤ tt)) in
      (y.0, r_call x.1 (r_off (miss_relates (first rest) st.ranks) (r_off (miss_mark sign.Not (first rest) (λ e. omega (arith, st.ranks))) y.1)))
  complete (d_apply p q {xs = xs} {ys = ys} d e) = λ f rest.
      let c = complete d f (sign.OpenParen at p ∷ ((ys ++ sign.CloseParen at q ∷ []) ++ rest)) in
      let y = complete e false (sign.CloseParen at q ∷ rest) (closes sign.CloseParen refl refl) in
      (false, λ w later end r. moved xs (sign.OpenParen at p ∷ (ys ++ sign.CloseParen at q ∷ [])) rest (c.1 w later end (r_on refl (moved ys (sign.CloseParen at q ∷ []) rest (r_call y.1 (r_want refl (r_call r r_ret)))))))
  complete (d_select p q {n = n} {xs = xs} d) = λ f rest.
      let c = complete d f (sign.Select at p ∷ n numeral_at q ∷ rest) in
      (false, λ w later end r. moved xs (sign.Select at p ∷ n numeral_at q ∷ []) rest (c.1 w later end (r_off refl (r_on refl (r_want refl (r_call r r_ret))))))
  complete (d_atom d) = λ f rest. let x = complete d false rest in (x.0, λ w later end r. r_call x.1 (r_call r r_ret))
  complete (d_numeral p) = λ f rest. (false, r_on refl r_ret)
  complete (d_truth p {b = b}) = λ f rest. (false, at_truth b f p rest)
  complete (d_name p) = λ f rest. (false, r_off refl (r_on refl r_ret))
  complete (d_paren p q {us = us} d) = λ f rest.
      let x = complete d false (sign.CloseParen at q ∷ rest) (closes sign.CloseParen refl refl) in
      (false, r_off refl (r_off refl (r_off refl (r_on refl (moved us (sign.CloseParen at q ∷ []) rest (r_call x.1 (r_want refl r_ret)))))))
  complete (d_empty p q k) = λ f rest. (false, at_opening k f p (r_on (same_refl (closing k)) r_ret))
  complete (d_members p q k d) = members_run p q k (complete_items d)
  complete (d_comprehension p q r k {xs = xs} {ys = ys} d b) = λ f rest.
      let x = complete d false (sign.Bar at q ∷ ((ys ++ closing k at r ∷ []) ++ rest)) (closes sign.Bar refl refl) in
      let y = bind_run (complete_bind b) (closing k at r ∷ rest) (bracket_stops k) in (
        false,
        at_opening k f p (moved xs (sign.Bar at q ∷ (ys ++ closing k at r ∷ [])) rest (r_off (not_closing k (starts d) _) (r_call x.1 (r_on refl
            (moved ys (closing k at r ∷ []) rest (r_call y.1 (r_off (closing_is_no_ampersand k) (r_want (same_refl (closing k)) r_ret)))))))),
      )
  complete (d_filter p q r s k {xs = xs} {ys = ys} {zs = zs} d b e) = λ f rest.
      let x = complete d false (sign.Bar at q ∷ ((ys ++ sign.Ampersand at r ∷ (zs ++ closing k at s ∷ [])) ++ rest)) (closes sign.Bar refl refl) in
      let y = bind_run (complete_bind b) (sign.Ampersand at r ∷ ((zs ++ closing k at s ∷ []) ++ rest)) (closes sign.Ampersand refl refl) in
      let z = complete e false (closing k at s ∷ rest) (bracket_stops k) in (
        false,
        at_opening k f p (moved xs (sign.Bar at q ∷ (ys ++ sign.Ampersand at r ∷ (zs ++ closing k at s ∷ []))) rest (r_off (not_closing k (starts d) _) (r_call x.1 (r_on refl
            (moved ys (sign.Ampersand at r ∷ (zs ++ closing k at s ∷ [])) rest (r_call y.1 (r_on refl
            (moved zs (closing k at s ∷ []) rest (r_call z.1 (r_want (same_refl (closing k)) r_ret)))))))))),
      )
  complete (d_range p q r s t {xs = xs} {ys = ys} d e) = λ f rest.
      let x = complete d false (sign.Comma at q ∷ sign.Ellipsis at r ∷ sign.Comma at s ∷ ((ys ++ sign.CloseBrace at t ∷ []) ++ rest)) (closes sign.Comma refl refl) in
      let y = complete e false (sign.CloseBrace at t ∷ rest) (closes sign.CloseBrace refl refl) in (
        false,
        at_opening Bracket.brace f p (moved xs (sign.Comma at q ∷ sign.Ellipsis at r ∷ sign.Comma at s ∷ (ys ++ sign.CloseBrace at t ∷ [])) rest (r_off (not_closing Bracket.brace (starts d) _) (r_call x.1 (r_off refl (r_on refl (r_on refl (r_want refl
            (moved ys (sign.CloseBrace at t ∷ []) rest (r_call y.1 (r_want refl r_ret)))))))))),
      )
  complete (d_tuple p q r {us = us} d ge le) = λ f rest.
      let x = items_run (complete_items d) several (sign.CloseParen at r ∷ rest) (ge, le) refl (closes sign.CloseParen refl refl) in
      (false, r_off refl (r_off refl (r_off refl (r_off refl (r_off refl (r_off refl (r_want refl (r_want refl (moved us (sign.CloseParen at r ∷ []) rest (r_call x.1 (r_want refl r_ret)))))))))))

  complete_bind : {us : List Lexeme} {n : Name} {t : Tree} → DerivesBind us n t → BindRead us n t
  complete_bind (d_bind p q r {us = us} {t = t} d) = bind_read p q r (finish (Sort.left Left.iff) us t (complete d))

  complete_items : {us : List Lexeme} {ts : Trees} → DerivesItems us ts → ItemsRead us ts
  complete_items (d_last d) = last_read (starts d) (complete d)
  complete_items (d_more p d e) = more_read p (starts d) (complete d) (starts_items e) (items_some e) (items_run (complete_items e))

  complete_cases : {us : List Lexeme} {cs : Alternatives} {o : Optional} → DerivesCases us cs o → CompleteCases us cs o
  complete_cases (d_only p {xs = xs} {ys = ys} w d) = λ rest n st.
      let v = complete_pattern w (sign.Arrow at p ∷ (ys ++ rest)) in
      let x = complete d false rest st in
      (x.0, moved xs (sign.Arrow at p ∷ ys) rest (r_call v.1 (r_want refl (r_call x.1 (r_off n r_ret)))))
  complete_cases (d_others p q r s {xs = xs} {ys = ys} {zs = zs} w d e) = λ rest n st.
      let v = complete_pattern w (sign.Arrow at p ∷ ((ys ++ sign.Comma at q ∷ sign.Others at r ∷ sign.Arrow at s ∷ zs) ++ rest)) in
      let x = complete d false (sign.Comma at q ∷ sign.Others at r ∷ sign.Arrow at s ∷ (zs ++ rest)) (closes sign.Comma refl refl) in
      let y = complete e false rest st in (
        y.0,
        moved xs (sign.Arrow at p ∷ (ys ++ sign.Comma at q ∷ sign.Others at r ∷ sign.Arrow at s ∷ zs)) rest (r_call v.1 (r_want refl
            (moved ys (sign.Comma at q ∷ sign.Others at r ∷ sign.Arrow at s ∷ zs) rest (r_call x.1 (r_on refl (r_on refl (r_want refl (r_call y.1 r_ret)))))))),
      )
  complete_cases (d_next p q {xs = xs} {ys = ys} {zs = zs} w d e) = λ rest n st.
      let v = complete_pattern w (sign.Arrow at p ∷ ((ys ++ sign.Comma at q ∷ zs) ++ rest)) in
      let x = complete d false (sign.Comma at q ∷ (zs ++ rest)) (closes sign.Comma refl refl) in
      let y = complete_cases e rest n st in (
        y.0,
        moved xs (sign.Arrow at p ∷ (ys ++ sign.Comma at q ∷ zs)) rest (r_call v.1 (r_want refl
            (moved ys (sign.Comma at q ∷ zs) rest (r_call x.1 (r_on refl (r_off (no_pattern sign.Others refl zs (cases_begin e) rest) (r_call y.1 r_ret))))))),
      )
