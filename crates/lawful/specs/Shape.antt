-- Which cells are a lawful value.
use Rattle.std.specs.Prelude.{ℕ, zero, suc, ◌+◌, Bool, true, false, ◌&&◌, List, [], ◌∷◌, ℤ, pos, negsuc, nat_lt}
use Rattle.std.specs.Ordering.{is_lt}
use Rattle.values.specs.Value.{within, past, front, by_cells}
use Rattle.values.specs.Lawful.{in_range}

-- a pair that can begin a value
abbrev pub valid : ℤ → ℤ → Bool
valid (pos zero) c = in_range c
valid (pos (suc zero)) (pos zero) = true
valid (pos (suc zero)) (pos (suc zero)) = true
valid (pos (suc zero)) (pos (suc (suc n))) = false
valid (pos (suc zero)) (negsuc n) = false
valid (pos (suc (suc k))) (pos n) = nat_lt k 3
valid (pos (suc (suc k))) (negsuc n) = false
valid (negsuc k) c = false

-- the cells are n values, and no more
abbrev pub shape : ℕ → List ℤ → Bool
shape zero [] = true
shape zero (k ∷ xs) = false
shape (suc n) [] = false
shape (suc n) (k ∷ []) = false
shape (suc n) (k ∷ c ∷ xs) = valid k c && shape (within k c + n) xs

-- the first n values ascend
abbrev pub ascends : ℕ → List ℤ → Bool
ascends zero xs = true
ascends (suc zero) xs = true
ascends (suc (suc n)) xs = is_lt (by_cells (front xs) (front (past 1 xs))) && ascends (suc n) (past 1 xs)

abbrev pub members : ℤ → ℤ → List ℤ → Bool
members (pos zero) c xs = true
members (pos (suc zero)) c xs = true
members (pos (suc (suc zero))) c xs = ascends (within (pos 2) c) xs
members (pos (suc (suc (suc k)))) c xs = true
members (negsuc k) c xs = true

-- behind each pair that begins a set, its members ascend
abbrev pub sorted : List ℤ → Bool
sorted [] = true
sorted (k ∷ []) = true
sorted (k ∷ c ∷ xs) = members k c xs && sorted xs
