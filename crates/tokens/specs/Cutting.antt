-- What the tokeniser's functions promise.
use Rattle.std.specs.Prelude.{◌≡◌, ℕ, ◌<◌, ◌≤◌, true, false, ◌⊎◌, List, ◌++◌, length, take, drop, Some, None, Ok, Err, codes, Option, Result, slice_index}
use Rattle.tables.specs.declared.Table.{Table}
use Rattle.tables.specs.Items.{items, spare}
use Rattle.tokens.specs.declared.Token.{Token}
use Rattle.tokens.specs.declared.Refusal.{Refusal}
use Rattle.tokens.specs.declared.cut.Piece.{Piece}
use Rattle.tokens.specs.declared.cut.Piece.TheVariants as piece
use Rattle.tokens.specs.Refusals.{told}
use Rattle.tokens.specs.Pieces.{letter, digit, separates, Comment, Begins, Bad, Cut}

-- what is asked of a name beyond being a word that is not reserved
pub record NameRule (w : List ℕ) : Type 0 where
  pub short : length w ≤ 32
  pub no_mk : take 3 w ≡ codes "mk_" → ⊥

-- neither a separator nor a word nor a numeral begins with this byte
pub record NoRun (b : ℕ) : Type 0 where
  pub no_separator : separates b ≡ false
  pub no_letter : letter b ≡ false
  pub no_digit : digit b ≡ false

-- the first n bytes are skipped: a separator, or a comment
abbrev pub Skipped : List ℕ → ℕ → Type 0
Skipped bs n = ((n ≡ 1) × (0 < length bs) × (separates (slice_index bs 0) ≡ true)) ⊎ Comment bs n

abbrev pub IsPiece : List ℕ → Option Piece → Type 0
IsPiece bs (Some (piece.Skip n)) = Skipped bs n
IsPiece bs (Some (piece.Token k n)) = Begins k bs n
IsPiece bs None = Bad bs

-- refused with this number and place
abbrev pub Says : Result (Unit {0}) Refusal → ℕ → Option ℕ → Type 0
Says (Ok u) number place = ⊥
Says (Err e) number place = told e ≡ record { number = number; place = place }

-- accepted, or refused 2 at the bad place
abbrev pub Answers : Option ℕ → Result (Unit {0}) Refusal → Type 0
Answers None r = r ≡ Ok tt
Answers (Some place) r = Says r 2 (Some place)

-- the text has this cutting and no other; its tokens were added to the table, and no other slot changed
pub record CutInto (text : List ℕ) (t t' : Table Token) (r : Result (Unit {0}) Refusal) : Type 0 where
  pub tokens : List Token
  pub bad : Option ℕ
  pub cut : Cut 0 text tokens bad
  pub only : (us : List Token) (b : Option ℕ) → Cut 0 text us b → (us ≡ tokens) × (b ≡ bad)
  pub few : length tokens ≤ length text
  pub added : items t' ≡ items t ++ tokens
  pub rest : spare t' ≡ drop (length tokens) (spare t)
  pub answer : Answers bad r

pub record Tokenised (text : List ℕ) (t t' : Table Token) (r : Result (Unit {0}) Refusal) : Type 0 where
  pub long : length (spare t) < length text → Says r 1 None × (t' ≡ t)
  pub short : length text ≤ length (spare t) → CutInto text t t' r
