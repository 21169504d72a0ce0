-- The longest form in front of a text, by the text's first byte.
use Rattle.std.proofs.Common.{◌≡◌, ℕ, ◌<◌, ◌≤◌, Bool, true, false, not, eqb, List, [], ◌∷◌, length, get_or, take, sym, Bor, Iter, refl, ap, ◌∙◌, subst, inl, inr, ⊎_elim, not-suc-le-zero, arith}
use Rattle.std.proofs.lemmas.List.{get_or-take, length-take, length-take-le, get_or_past}
use denote.Param.Members.{Mut}
use Rattle.std.proofs.iter.Yields.{fronts}
use Rattle.std.specs.declared.iter.TakeWhile.{TakeWhile}
use Rattle.std.specs.Fn.{CalledAt}
use Rattle.std.specs.Iterator.{Drains}
use Rattle.std.specs.Iterator.Adapters.{take_while_source, take_while_done, take_while_callee, take_while_steps}
use Rattle.std.specs.List.{prefix_len, list_all}
use Rattle.std.specs.Slice.Iter.{iter_rest}
use Rattle.std.proofs.lemmas.Iterator.{YieldsList-from_slice}
use Rattle.std.proofs.lemmas.Iterator.Consumers.{count_from_yields_List}
use Rattle.std.proofs.lemmas.Iterator.Search.{YieldsList-from_take_while}
use Rattle.std.proofs.lemmas.List.Folds.{length-prefix_len}
use Rattle.std.proofs.lemmas.List.Sums.{prefix_len-le-length, prefix_len_passes, prefix_len_stops, AllPass-from_list_all, list_all-from_AllPass}
use Rattle.std.proofs.lemmas.List.Elements.{All-from_get_or}
use Rattle.std.proofs.lemmas.Bool.{and_parts, and_from, or_left, or_right, both_ways, cases_lt, cases_order, cases_Bool, eqb-true, not-false}
use Rattle.std.proofs.lemmas.Bool.Decides.{nat_tests}
use Rattle.tokens.specs.declared.Mark.{Mark}
use Rattle.tokens.specs.declared.Kind.{Kind}
use Rattle.tokens.specs.declared.Kind.TheVariants as kind
use Rattle.tokens.specs.Spelling.{spelling}
use Rattle.tokens.specs.Pieces.{separates, letter, digit, word_byte, word, digits, Spells, Formed, Longest, OpensComment, Begins, Bad}
use Rattle.tokens.specs.Lookup.{Sign, Front, NoSign, LongestSign}
use Rattle.tokens.specs.Cutting.{NameRule, NoRun, Skipped}
use Rattle.tokens.proofs.Listed.{first, some, no_digit, is_word}

-- which first bytes exclude each other
letter_word : (b : ℕ) → letter b ≡ true → word_byte b ≡ true
letter_word b h = or_left _ _ (or_right (digit b) (letter b) h)

pub letter_no_digit : (b : ℕ) → letter b ≡ true → digit b ≡ true → ⊥
letter_no_digit b h d = grind (arith, nat_tests)

pub letter_no_separator : (b : ℕ) → letter b ≡ true → separates b ≡ true → ⊥
letter_no_separator b h s = grind (arith, nat_tests)

pub digit_no_separator : (b : ℕ) → digit b ≡ true → separates b ≡ true → ⊥
digit_no_separator b h s = grind (arith, nat_tests)

every_from : (p : ℕ → Bool) (w : List ℕ) → ((i : ℕ) → i < length w → p (get_or w i 0) ≡ true) → list_all p w ≡ true
every_from p w h = list_all-from_AllPass p w (All-from_get_or (λ b. p b ≡ true) w 0 h)

-- a word begins with a letter, a numeral with a digit
pub word_first : (w : List ℕ) → word w ≡ true → letter (first w) ≡ true
word_first [] h = h
word_first (b ∷ bs) h = (and_parts _ _ h).0

pub digits_first : (w : List ℕ) → digits w ≡ true → digit (first w) ≡ true
digits_first [] h = h
digits_first (b ∷ bs) h = (and_parts _ _ h).0

word_every : (w : List ℕ) → word w ≡ true → list_all word_byte w ≡ true
word_every [] h = refl
word_every (b ∷ bs) h = let p = and_parts (letter b) _ h in and_from (word_byte b) _ (letter_word b p.0) p.1

digits_every : (w : List ℕ) → digits w ≡ true → list_all digit w ≡ true
digits_every [] h = refl
digits_every (b ∷ bs) h = h

every_word : (w : List ℕ) → letter (first w) ≡ true → list_all word_byte w ≡ true → word w ≡ true
every_word [] h e = h
every_word (b ∷ bs) h e = and_from (letter b) _ h (and_parts (word_byte b) _ e).1

every_digits : (w : List ℕ) → digit (first w) ≡ true → list_all digit w ≡ true → digits w ≡ true
every_digits [] h e = h
every_digits (b ∷ bs) h e = e

-- what is formed, by its first byte
pub word_form : (w : List ℕ) → letter (first w) ≡ true → Formed w → word w ≡ true
word_form w l (inl (m, e)) = subst (λ v. word v ≡ true) e (is_word m (subst (λ v. letter (first v) ≡ true) (sym e) l))
word_form w l (inr (inl h)) = h
word_form w l (inr (inr h)) = absurd (letter_no_digit (first w) l (digits_first w h))

pub digits_form : (w : List ℕ) → digit (first w) ≡ true → Formed w → digits w ≡ true
digits_form w d (inl (m, e)) = absurd (both_ways _ (no_digit m) (subst (λ v. digit (first v) ≡ true) (sym e) d))
digits_form w d (inr (inl h)) = absurd (letter_no_digit (first w) (word_first w h) d)
digits_form w d (inr (inr h)) = h

pub sign_form : (w : List ℕ) → letter (first w) ≡ false → digit (first w) ≡ false → Formed w → (m : Mark) × ((spelling m ≡ w) × Sign m)
sign_form w l d (inl (m, e)) = (m, (e, ⊎_elim (λ t. absurd (both_ways _ l (subst (λ v. letter (first v) ≡ true) e (word_first (spelling m) t)))) (λ f. f) (cases_Bool (word (spelling m)))))
sign_form w l d (inr (inl h)) = absurd (both_ways _ l (word_first w h))
sign_form w l d (inr (inr h)) = absurd (both_ways _ d (digits_first w h))

pub formed_some : (w : List ℕ) → Formed w → 0 < length w
formed_some (b ∷ bs) f = omega arith
formed_some [] (inl (m, e)) = subst (λ v. 0 < length v) e (some m)
formed_some [] (inr (inl h)) = absurd (both_ways false refl h)
formed_some [] (inr (inr h)) = absurd (both_ways false refl h)

pub same_longest : {bs : List ℕ} {m n : ℕ} → Longest bs m → Longest bs n → m ≡ n
same_longest {bs} {m} {n} a b =
    ⊎_elim (λ e. e)
    (⊎_elim (λ lt. absurd (a.longest n lt b.within b.formed)) (λ gt. absurd (b.longest m gt a.within a.formed)))
    (cases_order m n)

-- the longest form has a byte
pub longest_some : {bs : List ℕ} {n : ℕ} → Longest bs n → 0 < n
longest_some {bs} {n} l = omega (arith, formed_some (take n bs) l.formed, length-take-le n bs l.within)

-- the first n bytes pass, and the next does not
pub record Run (p : ℕ → Bool) (bs : List ℕ) (n : ℕ) : Type 0 where
  pub within : n ≤ length bs
  pub all : (i : ℕ) → i < n → p (get_or bs i 0) ≡ true
  pub stops : n < length bs → p (get_or bs n 0) ≡ false

pub run_is : (p : ℕ → Bool) (bs : List ℕ) → Run p bs (prefix_len p bs)
run_is p bs = record { within = prefix_len-le-length p bs; all = λ i h. prefix_len_passes p bs i 0 h; stops = prefix_len_stops p bs 0 }

-- so many bytes as `take_while` gives
pub counted : {F : Type 0} {g : Mut F (Bor (Bor ℕ) × Unit {0}) Bool} {s : TakeWhile (Iter ℕ) F} {f : F} {bs : List ℕ} {n : ℕ} (p : ℕ → Bool)
    → (xs : List (Bor ℕ)) × Drains (take_while_steps fronts g) s xs × (n ≡ length xs)
    → iter_rest (take_while_source s) ≡ bs → take_while_callee s ≡ f → take_while_done s ≡ false
    → ((x : Bor ℕ) (b : Bool) (q : F) → CalledAt g f x b q → (q ≡ f) × (b ≡ p x.now))
    → Run p bs n
counted {g = g} {s = s} {bs = bs} {n = n} p ran source callee done calls =
    let e = count_from_yields_List s n ran (YieldsList-from_take_while g p (YieldsList-from_slice bs source) callee done calls) in
    subst (Run p bs) (sym (e ∙ length-prefix_len p bs)) (run_is p bs)

-- a run whose first byte passes, of a class that takes in every form with that first byte
module _ (p : ℕ → Bool) (bs : List ℕ) (n : ℕ) (none : p 0 ≡ false) (starts : p (get_or bs 0 0) ≡ true) (r : Run p bs n) where
  text_some : 0 < length bs
  text_some = ⊎_elim (λ h. h) (λ z. absurd (both_ways _ none (subst (λ b. p b ≡ true) (get_or_past bs 0 0 z) starts))) (cases_lt 0 (length bs))

  pub run_some : 0 < n
  run_some = ⊎_elim (λ h. h) (λ z. let e : n ≡ 0 = omega arith in absurd (both_ways _ (subst (λ i. i < length bs → p (get_or bs i 0) ≡ false) e r.stops text_some) starts)) (cases_lt 0 n)

  front_first : (m : ℕ) → 0 < m → first (take m bs) ≡ get_or bs 0 0
  front_first m h = get_or-take m bs 0 0 h

  pub run_every : list_all p (take n bs) ≡ true
  run_every = every_from p (take n bs) (λ i h. let lt : i < n = omega (arith, length-take-le n bs r.within) in subst (λ b. p b ≡ true) (sym (get_or-take n bs i 0 lt)) (r.all i lt))

  pub run_longest : Formed (take n bs) → ((w : List ℕ) → first w ≡ get_or bs 0 0 → Formed w → list_all p w ≡ true) → Longest bs n
  run_longest f h = record {
    within = r.within;
    formed = f;
    longest = λ m lt le g.
        let e = h (take m bs) (front_first m (omega arith)) g in
        let long = length-take-le m bs le in
        let inside : n < length (take m bs) = omega arith in
        both_ways _ (r.stops (omega arith)) (subst (λ b. p b ≡ true) (get_or-take m bs n 0 lt) (AllPass-from_list_all p (take m bs) e n 0 inside));
  }

-- no comment opens with another byte than `-`
pub opens_first : (bs : List ℕ) → OpensComment bs → get_or bs 0 0 ≡ 45
opens_first bs h = sym (get_or-take 2 bs 0 0 (omega arith)) ∙ ap first h

pub no_opening : (q : ℕ → Bool) (bs : List ℕ) → q (get_or bs 0 0) ≡ true → q 45 ≡ false → OpensComment bs → ⊥
no_opening q bs h n o = both_ways _ n (subst (λ b. q b ≡ true) (opens_first bs o) h)

-- a text that begins with a letter
module _ (bs : List ℕ) (n : ℕ) (l : letter (get_or bs 0 0) ≡ true) (r : Run word_byte bs n) where
  starts_word : word_byte (get_or bs 0 0) ≡ true
  starts_word = letter_word (get_or bs 0 0) l

  some_word : 0 < n
  some_word = run_some word_byte bs n refl starts_word r

  first_word : first (take n bs) ≡ get_or bs 0 0
  first_word = get_or-take n bs 0 0 some_word

  letter_word_first : letter (first (take n bs)) ≡ true
  letter_word_first = subst (λ b. letter b ≡ true) (sym first_word) l

  pub front_word : word (take n bs) ≡ true
  front_word = every_word (take n bs) letter_word_first (run_every word_byte bs n refl starts_word r)

  word_longest : Longest bs n
  word_longest = run_longest word_byte bs n refl starts_word r (inr (inl front_word)) (λ w e f. word_every w (word_form w (subst (λ b. letter b ≡ true) (sym e) l) f))

  pub word_begins : (k : Kind) → Spells k (take n bs) → Begins k bs n
  word_begins k s = record { no_comment = no_opening letter bs l refl; longest = word_longest; spells = s }

  pub name_begins : ((m : Mark) → word (spelling m) ≡ true → spelling m ≡ take n bs → ⊥) → NameRule (take n bs) → Begins kind.Name bs n
  name_begins free rule = word_begins kind.Name (record {
    is_word = front_word;
    short = rule.short;
    free = λ m e. free m (subst (λ v. word v ≡ true) (sym e) front_word) e;
    no_mk = rule.no_mk;
  })

  pub word_bad : ((m : Mark) → word (spelling m) ≡ true → spelling m ≡ take n bs → ⊥) → (NameRule (take n bs) → ⊥) → Bad bs
  word_bad free breaks = record {
    some = text_some word_byte bs n refl starts_word r;
    no_separator = letter_no_separator (get_or bs 0 0) l;
    no_comment = no_opening letter bs l refl;
    no_token = λ k m b. no_kind k (subst (λ i. Spells k (take i bs)) (same_longest b.longest word_longest) b.spells);
  }
    where
      no_kind : (k : Kind) → Spells k (take n bs) → ⊥
      no_kind (kind.Mark m) e = free m (subst (λ v. word v ≡ true) (sym e) front_word) e
      no_kind kind.Name s = breaks (record { short = s.short; no_mk = s.no_mk })
      no_kind kind.Numeral s = letter_no_digit (first (take n bs)) letter_word_first (digits_first (take n bs) s)

-- a text that begins with a digit
pub numeral_begins : (bs : List ℕ) (n : ℕ) → digit (get_or bs 0 0) ≡ true → Run digit bs n → Begins kind.Numeral bs n
numeral_begins bs n d r =
    let all = run_every digit bs n refl d r in
    let one = get_or-take n bs 0 0 (run_some digit bs n refl d r) in
    let ds = every_digits (take n bs) (subst (λ b. digit b ≡ true) (sym one) d) all in
    record {
      no_comment = no_opening digit bs d refl;
      longest = run_longest digit bs n refl d r (inr (inr ds)) (λ w e f. digits_every w (digits_form w (subst (λ b. digit b ≡ true) (sym e) d) f));
      spells = ds;
    }

-- a text that begins with neither
module _ (bs : List ℕ) (some_byte : 0 < length bs) (h : NoRun (get_or bs 0 0)) (no_comment : OpensComment bs → ⊥) where
  sign_of : (m : ℕ) → Formed (take m bs) → (n : Mark) × ((spelling n ≡ take m bs) × Sign n)
  sign_of m f =
      let long = formed_some (take m bs) f in
      let pos : 0 < m = ⊎_elim (λ p. p) (λ z. let e : m ≡ 0 = omega arith in absurd (not-suc-le-zero (subst (λ i. 0 < length (take i bs)) e long))) (cases_lt 0 m) in
      let e = get_or-take m bs 0 0 pos in
      sign_form (take m bs) (subst (λ b. letter b ≡ false) (sym e) h.no_letter) (subst (λ b. digit b ≡ false) (sym e) h.no_digit) f

  -- such a sign stands in front
  in_front : (n : Mark) (m : ℕ) → m ≤ length bs → spelling n ≡ take m bs → Front n bs
  in_front n m le e = let l : length (spelling n) ≡ m = ap length e ∙ length-take-le m bs le in subst (λ i. take i bs ≡ spelling n) (sym l) (sym e)

  pub sign_begins : (m : Mark) → LongestSign bs m → length (spelling m) ≤ length bs → Begins (kind.Mark m) bs (length (spelling m))
  sign_begins m l le = record {
    no_comment = no_comment;
    longest = record {
      within = le;
      formed = inl (m, sym l.front);
      longest = λ k lt inside f.
          let s = sign_of k f in
          let long = l.longest s.0 s.1.1 (in_front s.0 k inside s.1.0) in
          let same = ap length s.1.0 ∙ length-take-le k bs inside in
          omega arith;
    };
    spells = sym l.front;
  }

  pub sign_bad : NoSign bs → Bad bs
  sign_bad none = record {
    some = some_byte;
    no_separator = λ s. both_ways _ h.no_separator s;
    no_comment = no_comment;
    no_token = λ k m b. let l = b.longest in let s = sign_of m l.formed in none s.0 s.1.1 (in_front s.0 m l.within s.1.0);
  }

-- a mark in front lies within
pub front_within : (m : Mark) (bs : List ℕ) → Front m bs → length (spelling m) ≤ length bs
front_within m bs f = ⊎_elim (λ lt. absurd (short lt)) (λ le. le) (cases_lt (length bs) (length (spelling m)))
  where
    short : length bs < length (spelling m) → ⊥
    short lt = let l = length-take (length (spelling m)) bs in let e = ap length f in omega arith

-- a comment runs to the end of its line
pub comment_skipped : (bs : List ℕ) (n : ℕ) → OpensComment bs → Run (λ b. not (eqb b 10)) bs n → Skipped bs n
comment_skipped bs n o r = inr (record {
  opens = o;
  within = r.within;
  inside = every_from (λ b. not (eqb b 10)) (take n bs) (λ i h. let lt : i < n = omega (arith, length-take-le n bs r.within) in subst (λ b. not (eqb b 10) ≡ true) (sym (get_or-take n bs i 0 lt)) (r.all i lt));
  ends = λ lt. line_feed _ (r.stops lt);
})
  where
    line_feed : (b : ℕ) → not (eqb b 10) ≡ false → b ≡ 10
    line_feed b h = eqb-true b 10 (not-false _ h)
