-- A lawful value's line has at most 1,290 bytes: thirteen for a pair of cells, less what no separator follows.
use Rattle.std.proofs.Common.{◌≡◌, ◌+◌, ◌*◌, ◌≤◌, Bool, true, false, List, [], length, replicate, ℤ, negsuc, refl, arith, lit≤}
use Rattle.std.specs.Fmt.{signed_decimal, digits}
use Rattle.std.proofs.lemmas.Fmt.{length_signed_le}
use Rattle.std.proofs.lemmas.List.{length-append}
use Rattle.std.proofs.lemmas.Bool.{and_parts}
use Rattle.syntax.specs.declared.Collection.{Collection}
use Rattle.syntax.specs.declared.Collection.TheVariants.{Set, Sequence, Tuple}
use Rattle.values.specs.Value.{Value, number, truth, many, Values, none, more, onto, ontos, of}
use Rattle.values.specs.Lawful.{in_range, ranged, rangeds, Lawful}
use Rattle.writing.proofs.Digits.{small}
use Rattle.writing.proofs.Walk.{length_many}
use Rattle.writing.specs.Written.{written, members, others, word, opening, closing}

-- a number has at most eleven bytes
eleven : (z : ℤ) → in_range z ≡ true → length (signed_decimal z) ≤ 11
eleven z h = length_signed_le 10 z (omega (arith, small z h)) (omega (arith, small z h))

five : (b : Bool) → length (word b) ≤ 5
five true = omega arith
five false = omega arith

brackets : (k : Collection) → length (opening k) + length (closing k) ≤ 5
brackets Set = omega arith
brackets Sequence = omega arith
brackets Tuple = omega arith

members_short : (vs : Values) → length (members vs) ≤ length (others vs)
members_short none = omega arith
members_short (more v vs) = omega arith

mutual
  pairs : (v : Value) (xs : List ℤ) → ranged v ≡ true → 2 * (length (written v) + 2) + 13 * length xs ≤ 13 * length (onto v xs)
  pairs (number z) xs h = omega (arith, eleven z h)
  pairs (truth b) xs h = omega (arith, five b)
  pairs (many k vs) xs h = omega (arith, length_many k vs, brackets k, members_short vs, pairs_others vs xs h)

  pairs_others : (vs : Values) (xs : List ℤ) → rangeds vs ≡ true → 2 * length (others vs) + 13 * length xs ≤ 13 * length (ontos vs xs)
  pairs_others none xs h = omega arith
  pairs_others (more v vs) xs h =
      let p = and_parts (ranged v) (rangeds vs) h in
      omega (arith, length-append (written v) (others vs), pairs v (ontos vs xs) p.0, pairs_others vs xs p.1)

pub bounded : (v : Value) → Lawful v → length (written v) ≤ 1290
bounded (number z) h = omega (arith, eleven z h.numbers)
bounded (truth b) h = omega (arith, five b)
bounded (many k none) h = omega (arith, length_many k none, brackets k)
bounded (many k (more v vs)) h = omega (arith, length_many k (more v vs), brackets k, pairs_others (more v vs) [] h.numbers, h.short)

-- 99 numbers of eleven bytes in a tuple
pub reached : (v : Value) × Lawful v × (length (written v) ≡ 1290)
unfolding digits
reached = (of Tuple (replicate 99 (number (negsuc 2147483646))), record { numbers = refl; sets = refl; short = lit≤ tt }, refl)
