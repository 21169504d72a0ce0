-- A text has one cutting only.
use Rattle.std.proofs.Common.{◌≡◌, ℕ, ◌+◌, ◌<◌, true, not, eqb, List, [], ◌∷◌, length, get_or, take, drop, Option, sym, refl, ap, ◌∙◌, subst, inl, inr, ⊎_elim, not-suc-le-zero, arith}
use Rattle.std.proofs.lemmas.List.{get_or-take, length-take-le}
use Rattle.std.proofs.lemmas.List.Sums.{AllPass-from_list_all}
use Rattle.std.proofs.lemmas.Bool.{both_ways, cases_order}
use Rattle.tokens.specs.declared.Kind.{Kind}
use Rattle.tokens.specs.declared.Kind.TheVariants as kind
use Rattle.tokens.specs.declared.Token.{Token}
use Rattle.tokens.specs.Pieces.{separates, digit, Spells, Formed, Longest, OpensComment, Comment, Begins, token, Cut, at_end, at_separator, at_comment, at_token, at_bad}
use Rattle.tokens.proofs.Listed.{first, no_digit, no_separator, same_spelling}
use Rattle.tokens.proofs.Forms.{word_first, digits_first, letter_no_digit, letter_no_separator, digit_no_separator, longest_some, same_longest, opens_first}

-- one spelling, one kind
same_kind : (k l : Kind) (w : List ℕ) → Spells k w → Spells l w → k ≡ l
same_kind (kind.Mark m) (kind.Mark n) w p q = ap kind.Mark (same_spelling m n (p ∙ sym q))
same_kind (kind.Mark m) kind.Name w p q = absurd (q.free m p)
same_kind (kind.Mark m) kind.Numeral w p q = absurd (both_ways _ (no_digit m) (subst (λ v. digit (first v) ≡ true) (sym p) (digits_first w q)))
same_kind kind.Name (kind.Mark n) w p q = absurd (p.free n q)
same_kind kind.Name kind.Name w p q = refl
same_kind kind.Name kind.Numeral w p q = absurd (letter_no_digit (first w) (word_first w p.is_word) (digits_first w q))
same_kind kind.Numeral (kind.Mark n) w p q = absurd (both_ways _ (no_digit n) (subst (λ v. digit (first v) ≡ true) (sym q) (digits_first w p)))
same_kind kind.Numeral kind.Name w p q = absurd (letter_no_digit (first w) (word_first w q.is_word) (digits_first w p))
same_kind kind.Numeral kind.Numeral w p q = refl

-- no token begins with a separator
no_form : (w : List ℕ) → Formed w → separates (first w) ≡ true → ⊥
no_form w (inl (m, e)) s = both_ways _ (no_separator m) (subst (λ v. separates (first v) ≡ true) (sym e) s)
no_form w (inr (inl h)) s = letter_no_separator (first w) (word_first w h) s
no_form w (inr (inr h)) s = digit_no_separator (first w) (digits_first w h) s

no_token : {k : Kind} {bs : List ℕ} {n : ℕ} → Begins k bs n → separates (get_or bs 0 0) ≡ true → ⊥
no_token {bs = bs} {n = n} b s =
    let l = b.longest in
    no_form (take n bs) l.formed (subst (λ x. separates x ≡ true) (sym (get_or-take n bs 0 0 (longest_some l))) s)

comment_le : {bs : List ℕ} {m n : ℕ} → Comment bs m → Comment bs n → m < n → ⊥
comment_le {bs} {m} {n} c d lt =
    let within = d.within in
    let long = length-take-le n bs within in
    let feed = c.ends (omega arith) in
    let inside : m < length (take n bs) = omega arith in
    let ok = AllPass-from_list_all (λ b. not (eqb b 10)) (take n bs) d.inside m 0 inside in
    both_ways _ (ap (λ b. not (eqb b 10)) (get_or-take n bs m 0 lt ∙ feed)) ok

same_comment : {bs : List ℕ} {m n : ℕ} → Comment bs m → Comment bs n → m ≡ n
same_comment {bs} {m} {n} c d = ⊎_elim (λ e. e) (⊎_elim (λ lt. absurd (comment_le c d lt)) (λ gt. absurd (comment_le d c gt))) (cases_order m n)

no_comment : (b : ℕ) (bs : List ℕ) → separates b ≡ true → OpensComment (b ∷ bs) → ⊥
no_comment b bs s o = both_ways _ refl (subst (λ x. separates x ≡ true) (opens_first (b ∷ bs) o) s)

nothing : OpensComment [] → ⊥
nothing o = omega (arith, ap length o)

no_longest : {n : ℕ} → Longest [] n → ⊥
no_longest l = omega (arith, longest_some l, l.within)

pub one_cutting : {n : ℕ} {bs : List ℕ} {ts us : List Token} {a b : Option ℕ} → Cut n bs ts a → Cut n bs us b → (us ≡ ts) × (b ≡ a)
one_cutting at_end at_end = (refl, refl)
one_cutting at_end (at_comment d y) = absurd (nothing d.opens)
one_cutting at_end (at_token d y) = absurd (no_longest d.longest)
one_cutting at_end (at_bad d) = absurd (not-suc-le-zero d.some)
one_cutting (at_separator s x) (at_separator s' y) = one_cutting x y
one_cutting (at_separator {b = c} {bs = bs} s x) (at_comment d y) = absurd (no_comment c bs s d.opens)
one_cutting (at_separator s x) (at_token d y) = absurd (no_token d s)
one_cutting (at_separator s x) (at_bad d) = absurd (d.no_separator s)
one_cutting (at_comment c x) at_end = absurd (nothing c.opens)
one_cutting (at_comment c x) (at_separator {b = d} {bs = bs} s y) = absurd (no_comment d bs s c.opens)
one_cutting {n} {bs} {us = us} {b = b} (at_comment c x) (at_comment d y) = one_cutting x (subst (λ k. Cut (n + k) (drop k bs) us b) (same_comment d c) y)
one_cutting (at_comment c x) (at_token d y) = absurd (d.no_comment c.opens)
one_cutting (at_comment c x) (at_bad d) = absurd (d.no_comment c.opens)
one_cutting (at_token c x) at_end = absurd (no_longest c.longest)
one_cutting (at_token c x) (at_separator s y) = absurd (no_token c s)
one_cutting (at_token c x) (at_comment d y) = absurd (c.no_comment d.opens)
one_cutting {n} {bs} {b = b} (at_token {k = k} {kind = κ} c x) (at_token {k = l} {ts = vs} {kind = κ'} d y) =
    let same = same_longest d.longest c.longest in
    let more = one_cutting x (subst (λ i. Cut (n + i) (drop i bs) vs b) same y) in
    let kinds = same_kind κ' κ (take k bs) (subst (λ i. Spells κ' (take i bs)) same d.spells) c.spells in
    (ap (λ i. token κ' n i ∷ vs) same ∙ ap (λ j. token j n k ∷ vs) kinds ∙ ap (λ ws. token κ n k ∷ ws) more.0, more.1)
one_cutting (at_token c x) (at_bad d) = absurd (d.no_token _ _ c)
one_cutting (at_bad c) at_end = absurd (not-suc-le-zero c.some)
one_cutting (at_bad c) (at_separator s y) = absurd (c.no_separator s)
one_cutting (at_bad c) (at_comment d y) = absurd (c.no_comment d.opens)
one_cutting (at_bad c) (at_token d y) = absurd (c.no_token _ _ d)
one_cutting (at_bad c) (at_bad d) = (refl, refl)
