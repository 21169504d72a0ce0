-- The reserved words by their length, and the signs by their first byte.
use Rattle.std.specs.Prelude.{◌≡◌, ℕ, ◌≤◌, false, cond, List, [], ◌∷◌, length, take, ◌==◌}
use Rattle.tokens.specs.declared.Mark.{Mark}
use Rattle.tokens.specs.declared.Mark.TheVariants as mark
use Rattle.tokens.specs.Spelling.{spelling}
use Rattle.tokens.specs.Pieces.{word}

-- the reserved words of this length
abbrev pub of_length : ℕ → List Mark
of_length n =
    cond (n == 2) (mark.Be ∷ mark.Hd ∷ mark.If ∷ mark.In ∷ mark.Or ∷ mark.St ∷ mark.Tl ∷ [])
    (cond (n == 3) (mark.Abs ∷ mark.And ∷ mark.Div ∷ mark.End ∷ mark.Len ∷ mark.Let ∷ mark.Mk ∷ mark.Mod ∷ mark.Not ∷ mark.Rem ∷ mark.Set ∷ [])
    (cond (n == 4) (mark.Card ∷ mark.Else ∷ mark.Inds ∷ mark.Then ∷ mark.True ∷ [])
    (cond (n == 5) (mark.Cases ∷ mark.Elems ∷ mark.False ∷ mark.Inter ∷ mark.Union ∷ [])
    (cond (n == 6) (mark.Elseif ∷ mark.Exists ∷ mark.Forall ∷ mark.Others ∷ mark.Subset ∷ [])
    (cond (n == 7) (mark.Psubset ∷ [])
    [])))))

-- the signs whose first byte is this
abbrev pub of_first : ℕ → List Mark
of_first b =
    cond (b == 40) (mark.OpenParen ∷ [])
    (cond (b == 41) (mark.CloseParen ∷ [])
    (cond (b == 44) (mark.Comma ∷ [])
    (cond (b == 61) (mark.Implies ∷ mark.Equal ∷ [])
    (cond (b == 60) (mark.Iff ∷ mark.LessEqual ∷ mark.NotEqual ∷ mark.Less ∷ [])
    (cond (b == 62) (mark.GreaterEqual ∷ mark.Greater ∷ [])
    (cond (b == 43) (mark.Plus ∷ [])
    (cond (b == 45) (mark.Arrow ∷ mark.Minus ∷ [])
    (cond (b == 42) (mark.Star ∷ [])
    (cond (b == 46) (mark.Ellipsis ∷ mark.Select ∷ [])
    (cond (b == 91) (mark.OpenBracket ∷ [])
    (cond (b == 93) (mark.CloseBracket ∷ [])
    (cond (b == 123) (mark.OpenBrace ∷ [])
    (cond (b == 125) (mark.CloseBrace ∷ [])
    (cond (b == 38) (mark.Ampersand ∷ [])
    (cond (b == 124) (mark.Bar ∷ [])
    (cond (b == 58) (mark.Colon ∷ [])
    (cond (b == 92) (mark.Backslash ∷ [])
    (cond (b == 94) (mark.Caret ∷ [])
    []))))))))))))))))))

-- a sign: no word
abbrev pub Sign : Mark → Type 0
Sign m = word (spelling m) ≡ false

-- the mark stands in front of the text
abbrev pub Front : Mark → List ℕ → Type 0
Front m bs = take (length (spelling m)) bs ≡ spelling m

abbrev pub NoSign : List ℕ → Type 0
NoSign bs = (n : Mark) → Sign n → Front n bs → ⊥

pub record LongestSign (bs : List ℕ) (m : Mark) : Type 0 where
  pub front : Front m bs
  pub longest : (n : Mark) → Sign n → Front n bs → length (spelling n) ≤ length (spelling m)
