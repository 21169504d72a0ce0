-- Which tokens a text is cut into, and where it is bad.
use Rattle.std.specs.Prelude.{◌≡◌, ℕ, ◌+◌, ◌<◌, ◌≤◌, Bool, true, false, not, ◌&&◌, ◌||◌, ◌⊎◌, List, [], ◌∷◌, length, take, drop, Some, None, codes, Option, ◌==◌, ◌≢◌, nat_le, slice_index}
use Rattle.std.specs.List.{list_all}
use Rattle.tokens.specs.declared.Mark.{Mark}
use Rattle.tokens.specs.declared.Kind.{Kind}
use Rattle.tokens.specs.declared.Kind.TheVariants as kind
use Rattle.tokens.specs.declared.Token.{Token}
use Rattle.tokens.specs.Spelling.{spelling}

-- a blank, a tab, a line feed or a carriage return
abbrev pub separates : ℕ → Bool
separates b = b == 32 || b == 9 || b == 10 || b == 13

abbrev pub letter : ℕ → Bool
letter b = (nat_le 65 b && nat_le b 90) || (nat_le 97 b && nat_le b 122)

abbrev pub digit : ℕ → Bool
digit b = nat_le 48 b && nat_le b 57

-- a letter, a digit or an underscore
abbrev pub word_byte : ℕ → Bool
word_byte b = digit b || letter b || b == 95

-- a letter, then letters, digits and underscores
abbrev pub word : List ℕ → Bool
word [] = false
word (b ∷ bs) = letter b && list_all word_byte bs

-- one or more digits
abbrev pub digits : List ℕ → Bool
digits [] = false
digits (b ∷ bs) = digit b && list_all digit bs

-- a name is a word of at most 32 bytes that is not reserved and does not begin with `mk_`
pub record Name (w : List ℕ) : Type 0 where
  pub is_word : word w ≡ true
  pub short : length w ≤ 32
  pub free : (m : Mark) → spelling m ≢ w
  pub no_mk : take 3 w ≡ codes "mk_" → ⊥

-- the bytes w spell a token of this kind
abbrev pub Spells : Kind → List ℕ → Type 0
Spells (kind.Mark m) w = spelling m ≡ w
Spells kind.Name w = Name w
Spells kind.Numeral w = digits w ≡ true

-- the bytes w are formed as a token: a sign, a word (be it a name or not) or a numeral
abbrev pub Formed : List ℕ → Type 0
Formed w = ((m : Mark) × (spelling m ≡ w)) ⊎ (word w ≡ true) ⊎ (digits w ≡ true)

-- the first n bytes are formed as a token, and no more of them are
pub record Longest (bs : List ℕ) (n : ℕ) : Type 0 where
  pub within : n ≤ length bs
  pub formed : Formed (take n bs)
  pub longest : (m : ℕ) → n < m → m ≤ length bs → Formed (take m bs) → ⊥

abbrev pub OpensComment : List ℕ → Type 0
OpensComment bs = take 2 bs ≡ codes "--"

-- the first n bytes are a comment: from `--` up to a line feed, or to the end
pub record Comment (bs : List ℕ) (n : ℕ) : Type 0 where
  pub opens : OpensComment bs
  pub within : n ≤ length bs
  pub inside : list_all (λ b. not (b == 10)) (take n bs) ≡ true
  pub ends : n < length bs → slice_index bs n ≡ 10

-- the first n bytes are a token of this kind
pub record Begins (k : Kind) (bs : List ℕ) (n : ℕ) : Type 0 where
  pub no_comment : OpensComment bs → ⊥
  pub longest : Longest bs n
  pub spells : Spells k (take n bs)

-- here is a byte, and neither a separator nor a comment nor a token begins
pub record Bad (bs : List ℕ) : Type 0 where
  pub some : 0 < length bs
  pub no_separator : separates (slice_index bs 0) ≡ true → ⊥
  pub no_comment : OpensComment bs → ⊥
  pub no_token : (k : Kind) (n : ℕ) → Begins k bs n → ⊥

abbrev pub token : Kind → ℕ → ℕ → Token
token k place len = record { kind = k; place = place; len = len }

-- Cut n bs ts bad: the bytes bs, which stand at the place n and after it, are cut into the tokens ts, up to their end, or up to a bad place.
pub data Cut : ℕ → List ℕ → List Token → Option ℕ → Type 0 where
  at_end : {n : ℕ} → Cut n [] [] None
  at_separator : {n b : ℕ} {bs : List ℕ} {ts : List Token} {bad : Option ℕ} → separates b ≡ true → Cut (n + 1) bs ts bad → Cut n (b ∷ bs) ts bad
  at_comment : {n k : ℕ} {bs : List ℕ} {ts : List Token} {bad : Option ℕ} → Comment bs k → Cut (n + k) (drop k bs) ts bad → Cut n bs ts bad
  at_token : {n k : ℕ} {bs : List ℕ} {ts : List Token} {bad : Option ℕ} {kind : Kind} → Begins kind bs k → Cut (n + k) (drop k bs) ts bad → Cut n bs (token kind n k ∷ ts) bad
  at_bad : {n : ℕ} {bs : List ℕ} → Bad bs → Cut n bs [] (Some n)
