-- What looking through the reserved words of a length, or the signs of a first byte, finds.
use Rattle.std.proofs.Common.{◌≡◌, ℕ, ◌<◌, ◌≤◌, Bool, true, false, List, length, get_or, take, Some, None, Option, MatchOption, sym, ap, ◌∙◌, subst, ⊎_elim, arith}
use Rattle.std.specs.List.{find, position_or_len}
use Rattle.std.specs.Str.{bytes_eq}
use Rattle.std.proofs.lemmas.Bool.{both_ways, cases_lt}
use Rattle.std.proofs.lemmas.List.{get_or-take}
use Rattle.std.proofs.lemmas.List.Folds.{find_at}
use Rattle.std.proofs.lemmas.List.Sums.{fails_before_first, passes_at_first}
use Rattle.std.proofs.lemmas.Option.{none-some, slice_get_within, slice_get-get_or, get_or_from_slice_get}
use Rattle.std.proofs.lemmas.Slice.Eq.{bytes_eq-Decides}
use Rattle.tokens.specs.declared.Mark.{Mark}
use Rattle.tokens.specs.declared.Mark.TheVariants as mark
use Rattle.tokens.specs.Spelling.{spelling}
use Rattle.tokens.specs.Lookup.{of_length, of_first, Sign, Front, NoSign, LongestSign}
use Rattle.tokens.specs.Pieces.{word}
use Rattle.tokens.proofs.Listed.{first, some, word_listed, sign_listed, descends, signs_descend, descends_at, At}

module _ (f : Mark → Bool) (ms : List Mark) where
  found : (m : Mark) → Some m ≡ find f ms → (get_or ms (position_or_len f ms) mark.Abs ≡ m) × (f m ≡ true)
  found m e =
      let i = position_or_len f ms in
      let here = sym (e ∙ find_at f ms) in
      let is = get_or_from_slice_get ms i m mark.Abs here in
      (is, subst (λ n. f n ≡ true) is (passes_at_first f ms mark.Abs (slice_get_within ms i m here)))

  missed : None ≡ find f ms → (i : ℕ) → i < length ms → f (get_or ms i mark.Abs) ≡ false
  missed e i l =
      let n = position_or_len f ms in
      ⊎_elim (λ lt. absurd (none-some _ (e ∙ find_at f ms ∙ slice_get-get_or ms n mark.Abs lt)))
      (λ le. fails_before_first f ms i mark.Abs (omega arith))
      (cases_lt n (length ms))

-- no reserved word is spelled so
abbrev pub Free : List ℕ → Type 0
Free w = (m : Mark) → word (spelling m) ≡ true → spelling m ≡ w → ⊥

-- the reserved word that is spelled so
abbrev pub reserved : List ℕ → Option Mark
reserved w = find (λ m. bytes_eq w (spelling m)) (of_length (length w))

pub reserved_is : (w : List ℕ) (o : Option Mark) → o ≡ reserved w → MatchOption o (Free w) (λ m. spelling m ≡ w)
reserved_is w None e =
    λ m t s.
    let a = subst (λ v. At (of_length (length v)) m) s (word_listed m t) in
    both_ways _ (missed (λ n. bytes_eq w (spelling n)) (of_length (length w)) e a.index a.inside) ((bytes_eq-Decides w _).1 (sym (ap spelling a.is ∙ s)))
reserved_is w (Some m) e = sym ((bytes_eq-Decides w _).0 (found (λ n. bytes_eq w (spelling n)) (of_length (length w)) m e).1)

-- whether the mark stands in front
abbrev pub stands : List ℕ → Mark → Bool
stands bs m = bytes_eq (spelling m) (take (length (spelling m)) bs)

-- the longest sign in front
abbrev pub sign : List ℕ → Option Mark
sign bs = find (stands bs) (of_first (get_or bs 0 0))

module _ (bs : List ℕ) where
  abbrev signs : List Mark
  signs = of_first (get_or bs 0 0)

  -- a sign in front is among those of the first byte, and no longer than one before it
  record Among (m : Mark) : Type 0 where
    at : At signs m
    longer : (i : ℕ) → i ≤ at.index → length (spelling m) ≤ length (spelling (get_or signs i mark.Abs))

  among : (m : Mark) → Sign m → Front m bs → Among m
  among m s f =
      let e = ap first (sym f) ∙ get_or-take (length (spelling m)) bs 0 0 (some m) in
      let a = subst (λ b. At (of_first b) m) e (sign_listed m s) in
      record {
        at = a;
        longer = λ i le. subst (λ n. length (spelling n) ≤ length (spelling (get_or signs i mark.Abs))) a.is (descends_at _ i a.index (subst (λ b. descends (of_first b) ≡ true) e (signs_descend m)) le a.inside);
      }

  passes : (m : Mark) → Front m bs → (a : At signs m) → stands bs (get_or signs a.index mark.Abs) ≡ true
  passes m f a = (bytes_eq-Decides _ _).1 (sym (subst (λ n. Front n bs) (sym a.is) f))

  pub sign_is : (o : Option Mark) → o ≡ sign bs → MatchOption o (NoSign bs) (LongestSign bs)
  sign_is None e = λ m s f. let a = (among m s f).at in both_ways _ (missed (stands bs) signs e a.index a.inside) (passes m f a)
  sign_is (Some m) e =
      let h = found (stands bs) signs m e in
      record {
        front = sym ((bytes_eq-Decides _ _).0 h.1);
        longest = λ n s f.
            let a = among n s f in
            ⊎_elim (λ lt. absurd (both_ways _ (fails_before_first (stands bs) signs a.at.index mark.Abs lt) (passes n f a.at)))
            (λ le. subst (λ k. length (spelling n) ≤ length (spelling k)) h.0 (a.longer (position_or_len (stands bs) signs) le))
            (cases_lt a.at.index (position_or_len (stands bs) signs));
      }
