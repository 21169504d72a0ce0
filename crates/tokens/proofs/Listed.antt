-- What holds of every reserved word and sign is shown once, by a test over their list.
use Rattle.std.proofs.Common.{◌≡◌, ℕ, zero, suc, ◌<◌, ◌≤◌, Bool, true, false, not, ◌&&◌, ◌||◌, eqb, ltb, leb, List, [], ◌∷◌, length, get_or, sym, refl, ap, ◌∙◌, subst, le_refl, le_of_suc-le-suc, not-suc-le-zero}
use Rattle.std.specs.List.{list_all, position_or_len}
use Rattle.std.specs.Str.{bytes_eq}
use Rattle.std.proofs.lemmas.List.Sums.{AllPass-from_list_all, passes_at_first}
use Rattle.std.proofs.lemmas.Bool.{and_parts, not-true, eqb-true, leb-true, ltb-true, both_ways}
use Rattle.tokens.specs.declared.Mark.{Mark}
use Rattle.tokens.specs.declared.Mark.TheVariants as mark
use Rattle.tokens.specs.Spelling.{spelling, number}
use Rattle.tokens.specs.Lookup.{of_length, of_first}
use Rattle.tokens.specs.Pieces.{letter, digit, separates, word}

abbrev pub marks : List Mark
marks =
    mark.Abs ∷ mark.And ∷ mark.Be ∷ mark.Card ∷ mark.Cases ∷ mark.Div ∷ mark.Elems ∷ mark.Else ∷ mark.Elseif ∷ mark.End ∷ mark.Exists ∷ mark.False ∷ mark.Forall ∷ mark.Hd ∷ mark.If ∷ mark.In ∷ mark.Inds ∷ mark.Inter ∷ mark.Len ∷ mark.Let ∷ mark.Mk ∷ mark.Mod ∷ mark.Not ∷ mark.Or ∷ mark.Others ∷ mark.Psubset ∷ mark.Rem ∷ mark.Set ∷ mark.St ∷ mark.Subset ∷ mark.Then ∷ mark.Tl ∷ mark.True ∷ mark.Union ∷ mark.Iff ∷ mark.Implies ∷ mark.Equal ∷ mark.NotEqual ∷ mark.Less ∷ mark.LessEqual ∷ mark.Greater ∷ mark.GreaterEqual ∷ mark.Plus ∷ mark.Minus ∷ mark.Backslash ∷ mark.Caret ∷ mark.Star ∷ mark.OpenParen ∷ mark.CloseParen ∷ mark.OpenBracket ∷ mark.CloseBracket ∷ mark.OpenBrace ∷ mark.CloseBrace ∷ mark.Comma ∷ mark.Colon ∷ mark.Arrow ∷ mark.Ampersand ∷ mark.Bar ∷ mark.Ellipsis ∷ mark.Select ∷ []

listed : (m : Mark) → get_or marks (number m) mark.Abs ≡ m
listed mark.Abs = refl
listed mark.And = refl
listed mark.Be = refl
listed mark.Card = refl
listed mark.Cases = refl
listed mark.Div = refl
listed mark.Elems = refl
listed mark.Else = refl
listed mark.Elseif = refl
listed mark.End = refl
listed mark.Exists = refl
listed mark.False = refl
listed mark.Forall = refl
listed mark.Hd = refl
listed mark.If = refl
listed mark.In = refl
listed mark.Inds = refl
listed mark.Inter = refl
listed mark.Len = refl
listed mark.Let = refl
listed mark.Mk = refl
listed mark.Mod = refl
listed mark.Not = refl
listed mark.Or = refl
listed mark.Others = refl
listed mark.Psubset = refl
listed mark.Rem = refl
listed mark.Set = refl
listed mark.St = refl
listed mark.Subset = refl
listed mark.Then = refl
listed mark.Tl = refl
listed mark.True = refl
listed mark.Union = refl
listed mark.Iff = refl
listed mark.Implies = refl
listed mark.Equal = refl
listed mark.NotEqual = refl
listed mark.Less = refl
listed mark.LessEqual = refl
listed mark.Greater = refl
listed mark.GreaterEqual = refl
listed mark.Plus = refl
listed mark.Minus = refl
listed mark.Backslash = refl
listed mark.Caret = refl
listed mark.Star = refl
listed mark.OpenParen = refl
listed mark.CloseParen = refl
listed mark.OpenBracket = refl
listed mark.CloseBracket = refl
listed mark.OpenBrace = refl
listed mark.CloseBrace = refl
listed mark.Comma = refl
listed mark.Colon = refl
listed mark.Arrow = refl
listed mark.Ampersand = refl
listed mark.Bar = refl
listed mark.Ellipsis = refl
listed mark.Select = refl

-- the number tells a mark
pub same_number : (m n : Mark) → number m ≡ number n → m ≡ n
same_number m n e = sym (listed m) ∙ ap (λ i. get_or marks i mark.Abs) e ∙ listed n

all_at : (f : Mark → Bool) (ms : List Mark) (i : ℕ) → f mark.Abs ≡ true → list_all f ms ≡ true → f (get_or ms i mark.Abs) ≡ true
all_at f [] i d h = d
all_at f (m ∷ ms) zero d h = (and_parts (f m) (list_all f ms) h).0
all_at f (m ∷ ms) (suc i) d h = all_at f ms i d (and_parts (f m) (list_all f ms) h).1

each : (f : Mark → Bool) → list_all f marks ≡ true → (m : Mark) → f m ≡ true
each f h m = subst (λ x. f x ≡ true) (listed m) (all_at f marks (number m) (and_parts _ _ h).0 h)

-- where a test must follow from another
either : (f g : Bool) → not f || g ≡ true → f ≡ true → g ≡ true
either true g h e = h
either false g h e = absurd (both_ways false refl e)

otherwise : (f g : Bool) → f || g ≡ true → f ≡ false → g ≡ true
otherwise true g h e = absurd (both_ways true e refl)
otherwise false g h e = h

abbrev pub first : List ℕ → ℕ
first w = get_or w 0 0

pub some : (m : Mark) → 0 < length (spelling m)
some m = ltb-true 0 _ (each (λ m. ltb 0 (length (spelling m))) refl m)

pub no_digit : (m : Mark) → digit (first (spelling m)) ≡ false
no_digit m = not-true _ (each (λ m. not (digit (first (spelling m)))) refl m)

pub no_separator : (m : Mark) → separates (first (spelling m)) ≡ false
no_separator m = not-true _ (each (λ m. not (separates (first (spelling m)))) refl m)

pub is_word : (m : Mark) → letter (first (spelling m)) ≡ true → word (spelling m) ≡ true
is_word m = either _ _ (each (λ m. not (letter (first (spelling m))) || word (spelling m)) refl m)

-- the place of the first mark that is spelled so
abbrev spelled : List ℕ → ℕ
spelled w = position_or_len (λ m. bytes_eq (spelling m) w) marks

found : (m : Mark) → spelled (spelling m) ≡ number m
found m = eqb-true _ _ (each (λ m. eqb (spelled (spelling m)) (number m)) refl m)

-- no two are spelled alike
pub same_spelling : (m n : Mark) → spelling m ≡ spelling n → m ≡ n
same_spelling m n e = same_number m n (sym (found m) ∙ ap spelled e ∙ found n)

-- where the mark of this number stands
abbrev place : ℕ → List Mark → ℕ
place n ms = position_or_len (λ m. eqb (number m) n) ms

abbrev stands : List Mark → Mark → Bool
stands ms m = ltb (place (number m) ms) (length ms)

pub record At (ms : List Mark) (m : Mark) : Type 0 where
  pub index : ℕ
  pub inside : index < length ms
  pub is : get_or ms index mark.Abs ≡ m

stands_at : (ms : List Mark) (m : Mark) → stands ms m ≡ true → At ms m
stands_at ms m h =
    let lt = ltb-true _ _ h in
    record { index = place (number m) ms; inside = lt; is = same_number _ _ (eqb-true _ _ (passes_at_first (λ n. eqb (number n) (number m)) ms mark.Abs lt)) }

-- a reserved word stands among those of its length
pub word_listed : (m : Mark) → word (spelling m) ≡ true → At (of_length (length (spelling m))) m
word_listed m w = stands_at _ m (either _ _ (each (λ m. not (word (spelling m)) || stands (of_length (length (spelling m))) m) refl m) w)

-- a sign stands among those of its first byte
pub sign_listed : (m : Mark) → word (spelling m) ≡ false → At (of_first (first (spelling m))) m
sign_listed m w = stands_at _ m (otherwise _ _ (each (λ m. word (spelling m) || stands (of_first (first (spelling m))) m) refl m) w)

-- none is longer than one before it
abbrev pub descends : List Mark → Bool
descends [] = true
descends (m ∷ ms) = list_all (λ n. leb (length (spelling n)) (length (spelling m))) ms && descends ms

pub signs_descend : (m : Mark) → descends (of_first (first (spelling m))) ≡ true
signs_descend m = each (λ m. descends (of_first (first (spelling m)))) refl m

pub descends_at : (ms : List Mark) (i j : ℕ) → descends ms ≡ true → i ≤ j → j < length ms → length (spelling (get_or ms j mark.Abs)) ≤ length (spelling (get_or ms i mark.Abs))
descends_at [] i j d h l = absurd (not-suc-le-zero l)
descends_at (m ∷ ms) zero zero d h l = le_refl _
descends_at (m ∷ ms) zero (suc j) d h l = leb-true _ _ (AllPass-from_list_all (λ n. leb (length (spelling n)) (length (spelling m))) ms (and_parts (list_all (λ n. leb (length (spelling n)) (length (spelling m))) ms) _ d).0 j mark.Abs (le_of_suc-le-suc l))
descends_at (m ∷ ms) (suc i) zero d h l = absurd (not-suc-le-zero h)
descends_at (m ∷ ms) (suc i) (suc j) d h l = descends_at ms i j (and_parts (list_all (λ n. leb (length (spelling n)) (length (spelling m))) ms) _ d).1 (le_of_suc-le-suc h) (le_of_suc-le-suc l)
