-- The count that the second cell holds.
use Rattle.std.specs.Prelude.{ℕ, List, [], ◌∷◌, ℤ, pos, ◌+ℤ◌, ◌-ℤ◌}
use Rattle.values.specs.Numbers.{size}

abbrev pub counted : List ℤ → ℕ
counted [] = 0
counted (k ∷ []) = 0
counted (k ∷ c ∷ xs) = size c

-- how many numbers there are from a to b
abbrev pub width : ℤ → ℤ → ℕ
width a b = size (b -ℤ a +ℤ pos 1)
