-- Quotients and remainders.
use Rattle.std.specs.Prelude.{ℕ, zero, suc, ◌/◌, List, [], ◌∷◌, ℤ, pos, negsuc, ◌+ℤ◌, ◌-ℤ◌, ◌*ℤ◌, int_div}
use Rattle.values.specs.Value.{Value, number}

-- a ÷ b, cut toward zero
abbrev pub quotient : ℤ → ℤ → ℤ
quotient a b = int_div a b

-- a ÷ b, rounded down
abbrev pub floor : ℤ → ℤ → ℤ
floor (pos a) (pos b) = pos (a / b)
floor (pos zero) (negsuc b) = pos 0
floor (pos (suc a)) (negsuc b) = negsuc (a / suc b)
floor (negsuc a) (pos b) = negsuc (a / b)
floor (negsuc a) (negsuc b) = pos (suc a / suc b)

abbrev pub remainder : ℤ → ℤ → ℤ
remainder a b = a -ℤ b *ℤ quotient a b

abbrev pub modulus : ℤ → ℤ → ℤ
modulus a b = a -ℤ b *ℤ floor a b

-- n numbers from a on
abbrev pub span : ℤ → ℕ → List Value
span a zero = []
span a (suc n) = number a ∷ span (a +ℤ pos 1) n

abbrev pub size : ℤ → ℕ
size (pos n) = n
size (negsuc n) = 0

-- the numbers from a to b: none where b is below a
abbrev pub between : ℤ → ℤ → List Value
between a b = span a (size (b -ℤ a +ℤ pos 1))
