-- What a value is, and how it lies in cells.
use Rattle.std.specs.Prelude.{ℕ, zero, suc, ◌+◌, ◌-◌, Bool, true, false, List, [], ◌∷◌, length, take, ℤ, pos, negsuc}
use Rattle.std.specs.declared.cmp.Ordering.{Ordering}
use Rattle.std.specs.Cmp.Lexicographic.{slice_cmp}
use Rattle.syntax.specs.declared.Collection.{Collection}
use Rattle.syntax.specs.declared.Collection.TheVariants.{Set, Sequence, Tuple}
use Rattle.std.specs.Ordering.{int_cmp}

mutual
  pub data Value : Type 0 where
    number : ℤ → Value
    truth : Bool → Value
    many : Collection → Values → Value

  pub data Values : Type 0 where
    none : Values
    more : Value → Values → Values

abbrev pub code : Collection → ℤ
code Set = pos 2
code Sequence = pos 3
code Tuple = pos 4

abbrev pub bit : Bool → ℤ
bit false = pos 0
bit true = pos 1

abbrev pub count : Values → ℕ
count none = 0
count (more v vs) = suc (count vs)

-- the cells of a value, and of members one after another, before what follows them
abbrev mutual
  pub onto : Value → List ℤ → List ℤ
  onto (number z) xs = pos 0 ∷ z ∷ xs
  onto (truth b) xs = pos 1 ∷ bit b ∷ xs
  onto (many k vs) xs = code k ∷ pos (count vs) ∷ ontos vs xs

  pub ontos : Values → List ℤ → List ℤ
  ontos none xs = xs
  ontos (more v vs) xs = onto v (ontos vs xs)

abbrev pub cells : Value → List ℤ
cells v = onto v []

-- members as a list, and a list as members
abbrev pub list : Values → List Value
list none = []
list (more v vs) = v ∷ list vs

abbrev pub pack : List Value → Values
pack [] = none
pack (v ∷ vs) = more v (pack vs)

-- the cells of values one after another
abbrev pub row : List Value → List ℤ
row [] = []
row (v ∷ vs) = onto v (row vs)

-- a set, a sequence or a tuple of these members
abbrev pub of : Collection → List Value → Value
of k vs = many k (pack vs)

-- how many members follow a pair of cells
abbrev pub within : ℤ → ℤ → ℕ
within (pos zero) c = 0
within (pos (suc zero)) c = 0
within (pos (suc (suc k))) (pos n) = n
within (pos (suc (suc k))) (negsuc n) = 0
within (negsuc k) c = 0

-- what is left of the cells past n values: one pass, with a count of the values still to come
abbrev pub past : ℕ → List ℤ → List ℤ
past zero xs = xs
past (suc n) [] = []
past (suc n) (k ∷ []) = []
past (suc n) (k ∷ c ∷ xs) = past (within k c + n) xs

-- the order: the first differing cell decides
abbrev pub by_cells : List ℤ → List ℤ → Ordering
by_cells xs ys = slice_cmp int_cmp xs ys

abbrev pub compare : Value → Value → Ordering
compare v w = by_cells (cells v) (cells w)

-- the cells of the first value
abbrev pub front : List ℤ → List ℤ
front xs = take (length xs - length (past 1 xs)) xs
