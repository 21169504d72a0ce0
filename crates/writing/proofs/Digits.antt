-- How a number is written: how many bytes it has, and which.
use Rattle.std.proofs.Common.{◌≡◌, ℕ, suc, ◌+◌, ◌^◌, ◌<◌, ◌≤◌, true, length, ℤ, pos, negsuc, decimal, arith}
use lib.Signed.{mag}
use Rattle.std.specs.List.{AllByRecursion}
use Rattle.std.specs.Fmt.{signed_decimal}
use Rattle.std.proofs.ByRecursion.{All-append}
use Rattle.std.proofs.lemmas.Fmt.{length-decimal-le, decimal_by_steps}
use Rattle.std.proofs.lemmas.Bool.{ltb-true}
use Rattle.values.specs.Lawful.{in_range}

-- no number of the machine has more
pub twenty_at_most : (n : ℕ) → n < 2 ^ 64 → length (decimal n) ≤ 20
twenty_at_most n h = length-decimal-le 20 n (omega arith) (omega arith) h

pub small : (z : ℤ) → in_range z ≡ true → mag z + 1 ≤ 2 ^ 31
small (pos n) h = omega (arith, ltb-true n (2 ^ 31) h)
small (negsuc n) h = omega (arith, ltb-true (suc n) (2 ^ 31) h)

-- what holds of each digit, and of the sign
module _ (P : ℕ → Type 0) (digit : (c : ℕ) → 48 ≤ c → c ≤ 57 → P c) where
  each_digit : (n : ℕ) → n < 2 ^ 64 → AllByRecursion P (decimal n)
  each_digit =
      decimal_by_steps (λ n ds. AllByRecursion P ds) (λ n h. (digit (48 + n) (omega arith) (omega arith), tt))
      (λ n ds h a. All-append P ds _ a (digit _ (omega arith) (omega arith), tt))

  pub each_byte : P 45 → (z : ℤ) → in_range z ≡ true → AllByRecursion P (signed_decimal z)
  each_byte sign (pos n) h = each_digit n (omega (arith, small (pos n) h))
  each_byte sign (negsuc n) h = (sign, each_digit (suc n) (omega (arith, small (negsuc n) h)))
