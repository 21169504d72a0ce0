-- Quotient and remainder, with their signs.
use Rattle.std.proofs.Common.{◌≡◌, ◌≢◌, true, false, Bool, ℕ, zero, suc, ◌*◌, ◌/◌, ◌%◌, ◌<◌, ◌⊎◌, ℤ, pos, negsuc, ◌+ℤ◌, ◌-ℤ◌, ◌*ℤ◌, neg_ℤ, ◌≤ℤ◌, ◌<ℤ◌, sym, refl, ap, ◌∙◌, inl, inr, mod-lt, mod-eq_of_lt, mul-zero, mul-suc, arith, w32, SFits, true≢false}
use native.Mathlib.Nat.{div-add-mod, suc-mod, mod_self, zero-mod, zero-div}
use native.Mathlib.Decide.{dec_lt}
use mathlib.Core.Bool.{not, beq}
use lib.IntN.{pos-*ℤ-pos, pos-*ℤ-negsuc, negsuc-*ℤ-pos, negsuc-*ℤ-negsuc, *ℤ-zero}
use lib.Signed.{quot_z, rem_z, lt_z, mag_rem}
use Rattle.std.proofs.lemmas.Bool.{le-ltb}
use Rattle.std.proofs.lemmas.Int.{ints}
use Rattle.values.specs.Numbers.{remainder as rem, modulus as modulo, floor as floor_z}

-- a product with a number given by its size
neg_times_neg : (b q : ℕ) → negsuc b *ℤ neg_ℤ (pos q) ≡ pos (suc b * q)
neg_times_neg b zero = *ℤ-zero (negsuc b) ∙ ap pos (sym (mul-zero (suc b)))
neg_times_neg b (suc q) = negsuc-*ℤ-negsuc b q

pos_times_neg : (b q : ℕ) → pos b *ℤ neg_ℤ (pos q) ≡ neg_ℤ (pos (b * q))
pos_times_neg b zero = *ℤ-zero (pos b) ∙ ap (λ n. neg_ℤ (pos n)) (sym (mul-zero b))
pos_times_neg b (suc q) = pos-*ℤ-negsuc b q

pub rem_is : (a b : ℤ) → rem_z a b ≡ rem a b
rem_is (pos a) (pos b) = omega (arith, ints, pos-*ℤ-pos b (a / b), div-add-mod a b)
rem_is (pos a) (negsuc b) = omega (arith, ints, neg_times_neg b (a / suc b), div-add-mod a (suc b))
rem_is (negsuc a) (pos b) = omega (arith, ints, pos_times_neg b (suc a / b), div-add-mod (suc a) b)
rem_is (negsuc a) (negsuc b) = omega (arith, ints, negsuc-*ℤ-pos b (suc a / suc b), div-add-mod (suc a) (suc b))

pub rem_fits : (a b : ℤ) → SFits w32 a → SFits w32 (rem_z a b)
rem_fits a b f = record { sfits = omega (arith, mag_rem a b, f.sfits) }

-- the remainders of two numbers in a row
pub row_of : (a b : ℕ) → (suc a % suc b ≡ suc (a % suc b)) ⊎ ((suc a % suc b ≡ 0) × (a % suc b ≡ b))
row_of a b = go (dec_lt (suc (a % suc b)) (suc b))
  where
    go : Dec (suc (a % suc b) < suc b) → (suc a % suc b ≡ suc (a % suc b)) ⊎ ((suc a % suc b ≡ 0) × (a % suc b ≡ b))
    go (yes h) = inl (suc-mod a (suc b) ∙ mod-eq_of_lt h)
    go (no h) =
        let l : a % suc b < suc b = mod-lt a (omega arith) in
        let e : a % suc b ≡ b = omega arith in
        inr (suc-mod a (suc b) ∙ ap (λ n. suc n % suc b) e ∙ mod_self (suc b), e)

-- where the quotient is cut toward zero and rounded down alike
pub same : (a b : ℤ) → quot_z a b ≡ floor_z a b → rem_z a b ≡ modulo a b
same a b e = rem_is a b ∙ ap (λ q. a -ℤ b *ℤ q) e

pub neg_pos : (a b : ℕ) → modulo (negsuc a) (pos (suc b)) ≡ pos b -ℤ pos (a % suc b)
neg_pos a b =
    let q = a / suc b in
    omega (arith, ints, pos-*ℤ-negsuc (suc b) q, mul-suc (suc b) q, div-add-mod a (suc b))

pub pos_neg : (a b : ℕ) → modulo (pos (suc a)) (negsuc b) ≡ pos (a % suc b) -ℤ pos b
pos_neg a b =
    let q = a / suc b in
    omega (arith, ints, negsuc-*ℤ-negsuc b q, mul-suc (suc b) q, div-add-mod a (suc b))

-- one of the remainder r and b is below 0, and the other not
abbrev pub apart : ℤ → ℤ → Bool
apart r b = not (beq (lt_z r (pos 0)) (lt_z b (pos 0)))

not_below : (n : ℕ) → lt_z (pos n) (pos 0) ≡ false
not_below n = le-ltb n 0 (omega arith)

not_apart : (m n : ℕ) → apart (pos m) (pos n) ≡ false
not_apart m n i = not (beq (not_below m i) (not_below n i))

pub signs : (r b : ℤ) → apart r b ≡ true → ((r <ℤ pos 0) × (pos 0 ≤ℤ b)) ⊎ ((pos 0 ≤ℤ r) × (b <ℤ pos 0))
signs (pos r) (pos b) h = absurd (true≢false (sym h ∙ not_apart r b))
signs (pos r) (negsuc b) h = inr (omega (arith, ints), omega (arith, ints))
signs (negsuc r) (pos b) h = inl (omega (arith, ints), omega (arith, ints))
signs (negsuc r) (negsuc b) h = absurd (true≢false (sym h))

pub raised : (a b : ℤ) → b ≢ pos 0 → rem_z a b ≢ pos 0 → apart (rem_z a b) b ≡ true → rem_z a b +ℤ b ≡ modulo a b
raised (pos a) (pos b) n r h = absurd (true≢false (sym h ∙ not_apart (a % b) b))
raised (pos zero) (negsuc b) n r h = absurd (r (omega (arith, ints, zero-mod (suc b))))
raised (pos (suc a)) (negsuc b) n r h = elim (row_of a b) [ inl e ↦ omega (arith, ints, e, pos_neg a b) | inr e ↦ absurd (r (omega (arith, ints, e.0))) ]
raised (negsuc a) (pos zero) n r h = absurd (n refl)
raised (negsuc a) (pos (suc b)) n r h = elim (row_of a b) [ inl e ↦ omega (arith, ints, e, neg_pos a b) | inr e ↦ absurd (r (omega (arith, ints, e.0))) ]
raised (negsuc a) (negsuc b) n r h = elim (signs (rem_z (negsuc a) (negsuc b)) (negsuc b) h) [ inl e ↦ absurd (omega (arith, ints, e.1)) | inr e ↦ absurd (r (omega (arith, ints, e.0))) ]

pub kept : (a b : ℤ) → b ≢ pos 0 → (rem_z a b ≡ pos 0) ⊎ (apart (rem_z a b) b ≡ false) → rem_z a b ≡ modulo a b
kept (pos a) (pos b) n h = same (pos a) (pos b) refl
kept (pos zero) (negsuc b) n h = same (pos 0) (negsuc b) (ap (λ q. neg_ℤ (pos q)) (zero-div (suc b)))
kept (pos (suc a)) (negsuc b) n h = elim (row_of a b) [ inl e ↦ elim h [ inl z ↦ absurd (omega (arith, ints, e, z)) | inr z ↦ absurd (true≢false (ap (λ x. not (beq x true)) (sym (not_below (suc a % suc b))) ∙ z)) ] | inr e ↦ omega (arith, ints, e.0, e.1, pos_neg a b) ]
kept (negsuc a) (pos zero) n h = absurd (n refl)
kept (negsuc a) (pos (suc b)) n h = elim (row_of a b) [ inl e ↦ elim h [ inl z ↦ absurd (omega (arith, ints, e, z)) | inr z ↦ absurd (true≢false (sym (ap (λ k. apart (neg_ℤ (pos k)) (pos (suc b))) e ∙ ap (λ x. not (beq true x)) (not_below (suc b))) ∙ z)) ] | inr e ↦ omega (arith, ints, e.0, e.1, neg_pos a b) ]
kept (negsuc a) (negsuc b) n h = same (negsuc a) (negsuc b) refl
