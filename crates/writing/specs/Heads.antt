-- What a pair of cells begins.
use Rattle.std.specs.Prelude.{◌≡◌, ℕ, zero, suc, ◌+◌, ◌≤◌, true, false, List, length, ℤ, pos, negsuc}
use Rattle.syntax.specs.declared.Collection.TheVariants.{Set, Sequence, Tuple}
use Rattle.values.specs.Value.{Value, Values, count, onto, ontos}
use Rattle.writing.specs.declared.Head.{Head}
use Rattle.writing.specs.declared.Head.TheVariants.{Number, Truth, Many}
use Rattle.writing.specs.Written.{written, members}
use Rattle.writing.specs.Lines.{most}

abbrev pub size : ℤ → ℕ
size (pos n) = n
size (negsuc n) = 0

-- a kind that is none is taken for a number
abbrev pub head : ℤ → ℤ → Head
head (pos zero) c = Number c
head (pos (suc zero)) (pos zero) = Truth false
head (pos (suc zero)) (pos (suc n)) = Truth true
head (pos (suc zero)) (negsuc n) = Truth true
head (pos (suc (suc zero))) c = Many Set (size c)
head (pos (suc (suc (suc zero)))) c = Many Sequence (size c)
head (pos (suc (suc (suc (suc zero))))) c = Many Tuple (size c)
head (pos (suc (suc (suc (suc (suc k)))))) c = Number c
head (negsuc k) c = Number c

-- a value begins the cells, and a line of so many bytes has room for it
pub record Begins (cells : List ℤ) (len : ℕ) : Type 0 where
  pub first : Value
  pub rest : List ℤ
  pub cells_are : cells ≡ onto first rest
  pub room : len + length (written first) ≤ most

-- so many values begin the cells, and a line of so many bytes has room for them as members
pub record Follow (many : ℕ) (cells : List ℤ) (len : ℕ) : Type 0 where
  pub those : Values
  pub rest : List ℤ
  pub many_are : many ≡ count those
  pub cells_are : cells ≡ ontos those rest
  pub room : len + length (members those) ≤ most
