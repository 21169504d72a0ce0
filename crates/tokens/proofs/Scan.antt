-- A tokeniser that computes: into which tokens a given text is cut holds by `refl`.
use Rattle.std.proofs.Common.{◌≡◌, ℕ, zero, suc, ◌+◌, ◌<◌, Bool, true, false, cond, not, ◌&&◌, eqb, leb, List, [], ◌∷◌, map, length, get_or, take, drop, Some, None, codes, Option, MatchOption, refl, subst, inl, inr, ⊎_elim, arith}
use Rattle.std.specs.List.{prefix_len}
use Rattle.std.specs.Option.{option_map}
use Rattle.std.specs.Str.{bytes_eq}
use Rattle.std.proofs.lemmas.Slice.Eq.{bytes_eq-Decides}
use Rattle.std.proofs.lemmas.Option.{none-some}
use Rattle.std.proofs.lemmas.Bool.{and_parts, and_from, both_ways, cond_both, leb-true, le-leb, not-true, not_from_false, cases_Bool}
use Rattle.tokens.specs.declared.Mark.{Mark}
use Rattle.tokens.specs.declared.Mark.TheVariants as mark
use Rattle.tokens.specs.declared.Kind.TheVariants as kind
use Rattle.tokens.specs.declared.Token.{Token}
use Rattle.tokens.specs.declared.cut.Piece.{Piece}
use Rattle.tokens.specs.declared.cut.Piece.TheVariants as piece
use Rattle.tokens.specs.Spelling.{spelling}
use Rattle.tokens.specs.Lookup.{NoSign, LongestSign}
use Rattle.tokens.specs.Pieces.{separates, letter, digit, word_byte, OpensComment, token, Cut, at_end, at_separator, at_comment, at_token}
use Rattle.tokens.specs.Cutting.{NameRule, NoRun, IsPiece}
use Rattle.tokens.specs.Lexeme.{Lexeme, Symbol, mark as sign, name, numeral, lexeme}
use Rattle.tokens.proofs.Forms.{Run, run_is, word_begins, name_begins, word_bad, numeral_begins, sign_begins, sign_bad, front_within, comment_skipped}
use Rattle.tokens.proofs.Lookups.{Free, reserved, reserved_is, sign as front_sign, sign_is}

-- a text that begins with a letter
abbrev obeys : List ℕ → Bool
obeys w = leb (length w) 32 && not (bytes_eq (take 3 w) (codes "mk_"))

abbrev name_or : List ℕ → ℕ → Option Mark → Option Piece
name_or w n None = cond (obeys w) (Some (piece.Token kind.Name n)) None
name_or w n (Some m) = Some (piece.Token (kind.Mark m) n)

abbrev word_of : List ℕ → ℕ → Option Piece
word_of bs n = name_or (take n bs) n (reserved (take n bs))

obeys_rule : (w : List ℕ) → obeys w ≡ true → NameRule w
obeys_rule w h =
    let p = and_parts (leb (length w) 32) _ h in
    record { short = leb-true _ _ p.0; no_mk = λ e. both_ways _ (not-true _ p.1) ((bytes_eq-Decides (take 3 w) (codes "mk_")).1 e) }

breaks_rule : (w : List ℕ) → obeys w ≡ false → NameRule w → ⊥
breaks_rule w h r = both_ways _ h (and_from (leb (length w) 32) _ (le-leb _ _ r.short) (not_from_false _ (⊎_elim (λ t. absurd (r.no_mk ((bytes_eq-Decides (take 3 w) (codes "mk_")).0 t))) (λ f. f) (cases_Bool (bytes_eq (take 3 w) (codes "mk_"))))))

word_is : (bs : List ℕ) → letter (get_or bs 0 0) ≡ true → IsPiece bs (word_of bs (prefix_len word_byte bs))
word_is bs l = by_mark (reserved w) (reserved_is w (reserved w) refl)
  where
    n : ℕ
    n = prefix_len word_byte bs

    w : List ℕ
    w = take n bs

    r : Run word_byte bs n
    r = run_is word_byte bs

    by_mark : (o : Option Mark) → MatchOption o (Free w) (λ m. spelling m ≡ w) → IsPiece bs (name_or w n o)
    by_mark None h =
        cond_both (obeys w) (Some (piece.Token kind.Name n)) None (IsPiece bs) (λ e. name_begins bs n l r h (obeys_rule w e)) (λ e. word_bad bs n l r h (breaks_rule w e))
    by_mark (Some m) h = word_begins bs n l r (kind.Mark m) h

-- a text that begins with neither a letter nor a digit nor a separator
abbrev mark_or : Option Mark → Option Piece
mark_or None = None
mark_or (Some m) = Some (piece.Token (kind.Mark m) (length (spelling m)))

abbrev sign_of : List ℕ → Option Piece
sign_of bs = cond (bytes_eq (take 2 bs) (codes "--")) (Some (piece.Skip (prefix_len (λ b. not (eqb b 10)) bs))) (mark_or (front_sign bs))

sign_piece : (bs : List ℕ) → 0 < length bs → NoRun (get_or bs 0 0) → IsPiece bs (sign_of bs)
sign_piece bs some_byte none =
    cond_both (bytes_eq (take 2 bs) (codes "--")) (Some (piece.Skip (prefix_len (λ b. not (eqb b 10)) bs))) (mark_or (front_sign bs)) (IsPiece bs)
    (λ e. comment_skipped bs _ ((bytes_eq-Decides (take 2 bs) (codes "--")).0 e) (run_is (λ b. not (eqb b 10)) bs))
    (λ e. by_mark (λ o. both_ways _ e ((bytes_eq-Decides (take 2 bs) (codes "--")).1 o)) (front_sign bs) (sign_is bs (front_sign bs) refl))
  where
    by_mark : (OpensComment bs → ⊥) → (o : Option Mark) → MatchOption o (NoSign bs) (LongestSign bs) → IsPiece bs (mark_or o)
    by_mark c None h = sign_bad bs some_byte none c h
    by_mark c (Some m) h = sign_begins bs some_byte none c m h (front_within m bs h.front)

-- what stands in front of a text that is not empty
abbrev front : ℕ → List ℕ → Option Piece
front b bs =
    cond (separates b) (Some (piece.Skip 1))
    (cond (letter b) (word_of bs (prefix_len word_byte bs))
    (cond (digit b) (Some (piece.Token kind.Numeral (prefix_len digit bs)))
    (sign_of bs)))

front_is : (b : ℕ) (bs : List ℕ) → IsPiece (b ∷ bs) (front b (b ∷ bs))
front_is b bs =
    cond_both (separates b) _ _ (IsPiece (b ∷ bs)) (λ s. inl (refl, omega arith, s))
    (λ s. cond_both (letter b) _ _ (IsPiece (b ∷ bs)) (λ l. word_is (b ∷ bs) l)
    (λ l. cond_both (digit b) _ _ (IsPiece (b ∷ bs)) (λ d. numeral_begins (b ∷ bs) _ d (run_is digit (b ∷ bs)))
    (λ d. sign_piece (b ∷ bs) (omega arith) (record { no_separator = s; no_letter = l; no_digit = d }))))

-- a piece at the place n, and the tokens of what follows it
abbrev join : ℕ → (ℕ → Option (List Token)) → Option Piece → Option (List Token)
join n rest (Some (piece.Skip k)) = rest k
join n rest (Some (piece.Token κ k)) = option_map (λ ts. token κ n k ∷ ts) (rest k)
join n rest None = None

-- the tokens of the bytes that stand at the place n and after it, which are cut into so many pieces at most
abbrev scan_from : ℕ → ℕ → List ℕ → Option (List Token)
scan_from zero n bs = None
scan_from (suc f) n [] = Some []
scan_from (suc f) n (b ∷ bs) = join n (λ k. scan_from f (n + k) (drop k (b ∷ bs))) (front b (b ∷ bs))

-- the tokens of a text that is cut to its end
abbrev pub scan : List ℕ → Option (List Token)
scan text = scan_from (suc (length text)) 0 text

-- a symbol at its place
infixl 80 ◌at◌
abbrev pub ◌at◌ : Symbol → ℕ → Lexeme
s at n = record { place = n; symbol = s }

-- its tokens, spelled out
abbrev pub lexemes_of : List ℕ → Option (List Lexeme)
lexemes_of text = option_map (map (lexeme text)) (scan text)

mapped_some : {A B : Type 0} (f : A → B) (o : Option A) (y : B) → option_map f o ≡ Some y → (x : A) × ((o ≡ Some x) × (f x ≡ y))
mapped_some f None y e = absurd (none-some _ e)
mapped_some f (Some x) y e = (x, (refl, cc))

join_cuts : (n b : ℕ) (bs : List ℕ) (rest : ℕ → Option (List Token)) → ((k : ℕ) (us : List Token) → rest k ≡ Some us → Cut (n + k) (drop k (b ∷ bs)) us None)
    → (p : Option Piece) → IsPiece (b ∷ bs) p → (ts : List Token) → join n rest p ≡ Some ts → Cut n (b ∷ bs) ts None
join_cuts n b bs rest h (Some (piece.Skip k)) (inl (one, some, s)) ts e = at_separator s (subst (λ i. Cut (n + i) (drop i (b ∷ bs)) ts None) one (h k ts e))
join_cuts n b bs rest h (Some (piece.Skip k)) (inr c) ts e = at_comment c (h k ts e)
join_cuts n b bs rest h (Some (piece.Token κ k)) p ts e =
    let m = mapped_some (λ us. token κ n k ∷ us) (rest k) ts e in
    subst (λ us. Cut n (b ∷ bs) us None) m.1.1 (at_token p (h k m.0 m.1.0))
join_cuts n b bs rest h None p ts e = absurd (none-some _ e)

from_cuts : (f n : ℕ) (bs : List ℕ) (ts : List Token) → scan_from f n bs ≡ Some ts → Cut n bs ts None
from_cuts zero n bs ts e = absurd (none-some _ e)
from_cuts (suc f) n [] ts e = let same : [] ≡ ts = cc in subst (λ us. Cut n [] us None) same at_end
from_cuts (suc f) n (b ∷ bs) ts e =
    join_cuts n b bs (λ k. scan_from f (n + k) (drop k (b ∷ bs))) (λ k us. from_cuts f (n + k) (drop k (b ∷ bs)) us) (front b (b ∷ bs)) (front_is b bs) ts e

-- what is scanned is the text's cutting
pub scan_cuts : (text : List ℕ) (ts : List Token) → scan text ≡ Some ts → Cut 0 text ts None
scan_cuts text ts e = from_cuts (suc (length text)) 0 text ts e

pub lexemes_cut : (text : List ℕ) (ls : List Lexeme) → lexemes_of text ≡ Some ls → (ts : List Token) × (Cut 0 text ts None × (map (lexeme text) ts ≡ ls))
lexemes_cut text ls e = let m = mapped_some (map (lexeme text)) (scan text) ls e in (m.0, (scan_cuts text m.0 m.1.0, m.1.1))

-- examples
example_tokens : scan (codes "-7 mod 3") ≡ Some (token (kind.Mark mark.Minus) 0 1 ∷ token kind.Numeral 1 1 ∷ token (kind.Mark mark.Mod) 3 3 ∷ token kind.Numeral 7 1 ∷ [])
example_tokens = refl

example_lexemes : lexemes_of (codes "forall x in set {0, 2} & 4 div x = 2")
    ≡ Some (sign mark.Forall at 0 ∷ name (codes "x") at 7 ∷ sign mark.In at 9 ∷ sign mark.Set at 12 ∷ sign mark.OpenBrace at 16 ∷ numeral 0 at 17 ∷ sign mark.Comma at 18 ∷ numeral 2 at 20 ∷ sign mark.CloseBrace at 21 ∷ sign mark.Ampersand at 23 ∷ numeral 4 at 25 ∷ sign mark.Div at 27 ∷ name (codes "x") at 31 ∷ sign mark.Equal at 33 ∷ numeral 2 at 35 ∷ [])
example_lexemes = refl

example_longest : lexemes_of (codes "a<=>b2 -- the rest\n->3.#10 --")
    ≡ Some (name (codes "a") at 0 ∷ sign mark.Iff at 1 ∷ name (codes "b2") at 4 ∷ sign mark.Arrow at 19 ∷ numeral 3 at 21 ∷ sign mark.Select at 22 ∷ numeral 10 at 24 ∷ [])
example_longest = refl

example_bad : scan (codes "mk_a") ≡ None
example_bad = refl
