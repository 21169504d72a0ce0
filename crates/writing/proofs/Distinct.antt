-- Different values are written differently: a line tells where each value ends.
use Rattle.std.proofs.Common.{◌≡◌, ℕ, ◌<◌, ◌≤◌, Bool, true, false, cond, ◌&&◌, eqb, leb, List, [], ◌∷◌, ◌++◌, length, get_or, ℤ, pos, negsuc, codes, sym, refl, ap, ◌∙◌, append_assoc, arith}
use Rattle.std.specs.List.{AllByRecursion}
use Rattle.std.specs.Fmt.{signed_decimal}
use Rattle.std.proofs.ByRecursion.{All-get_or}
use Rattle.std.proofs.lemmas.Fmt.{decimal_nonempty, signed_decimal_injective}
use Rattle.std.proofs.lemmas.List.{append_cancel_left, get_or_append_left}
use Rattle.std.proofs.lemmas.Bool.{le-leb, and_parts}
use Rattle.syntax.specs.declared.Collection.{Collection}
use Rattle.syntax.specs.declared.Collection.TheVariants.{Set, Sequence, Tuple}
use Rattle.values.specs.Value.{Value, number, truth, many, Values, none, more}
use Rattle.values.specs.Lawful.{in_range, ranged, rangeds, Lawful}
use Rattle.writing.specs.Written.{written, members, others, word, opening, closing}
use Rattle.writing.proofs.Digits.{small, each_byte}

-- ---- what a byte begins

data Lead : Type 0 where
  a_number a_comma no_value : Lead
  a_word : Bool → Lead
  a_collection : Collection → Lead

abbrev by_byte : ℕ → Lead
by_byte c =
    cond (leb 45 c && leb c 57) a_number
    (cond (eqb c 44) a_comma
    (cond (eqb c 116) (a_word true)
    (cond (eqb c 102) (a_word false)
    (cond (eqb c 123) (a_collection Set)
    (cond (eqb c 91) (a_collection Sequence)
    (cond (eqb c 109) (a_collection Tuple) no_value))))))

abbrev by_line : List ℕ → Lead
by_line bs = by_byte (get_or bs 0 0)

abbrev by_value : Value → Lead
by_value (number z) = a_number
by_value (truth b) = a_word b
by_value (many k vs) = a_collection k

-- ---- numbers

-- a digit, or the sign
abbrev Numeric : ℕ → Type 0
Numeric c = by_byte c ≡ a_number

numeric : (c : ℕ) → 45 ≤ c → c ≤ 57 → Numeric c
numeric c h g = rw (le-leb 45 c h, le-leb c 57 g) refl

all_numeric : (z : ℤ) → in_range z ≡ true → AllByRecursion Numeric (signed_decimal z)
all_numeric = each_byte Numeric (λ c h g. numeric c (omega arith) g) refl

some_bytes : (z : ℤ) → in_range z ≡ true → 0 < length (signed_decimal z)
some_bytes (pos n) h = decimal_nonempty n (omega (arith, small (pos n) h))
some_bytes (negsuc n) h = omega arith

-- a number ends where no digit follows
abbrev Stops : List ℕ → Type 0
Stops xs = by_line xs ≡ a_number → ⊥

numerals : (ds es xs ys : List ℕ) → AllByRecursion Numeric ds → AllByRecursion Numeric es → Stops xs → Stops ys → ds ++ xs ≡ es ++ ys → (ds ≡ es) × (xs ≡ ys)
numerals [] [] xs ys a b s t e = (refl, e)
numerals [] (c ∷ es) xs ys a b s t e = absurd (s (ap by_line e ∙ b.0))
numerals (c ∷ ds) [] xs ys a b s t e = absurd (t (ap by_line (sym e) ∙ a.0))
numerals (c ∷ ds) (d ∷ es) xs ys a b s t e =
    let f : c ≡ d = cc in
    let g : ds ++ xs ≡ es ++ ys = cc in
    let r = numerals ds es xs ys a.1 b.1 s t g in
    ((λ i. f i ∷ r.0 i), r.1)

numbers : (y z : ℤ) (xs ys : List ℕ) → in_range y ≡ true → in_range z ≡ true → Stops xs → Stops ys → signed_decimal y ++ xs ≡ signed_decimal z ++ ys → (y ≡ z) × (xs ≡ ys)
numbers y z xs ys h g s t e =
    let r = numerals (signed_decimal y) (signed_decimal z) xs ys (all_numeric y h) (all_numeric z g) s t e in
    (signed_decimal_injective y z (omega (arith, small y h)) (omega (arith, small z g)) r.0, r.1)

-- ---- the first byte tells what begins

begins : (v : Value) (xs : List ℕ) → ranged v ≡ true → by_line (written v ++ xs) ≡ by_value v
begins (number z) xs h =
    ap by_byte (get_or_append_left (signed_decimal z) xs 0 0 (some_bytes z h)) ∙ All-get_or Numeric (signed_decimal z) 0 0 (some_bytes z h) (all_numeric z h)
begins (truth true) xs h = refl
begins (truth false) xs h = refl
begins (many Set vs) xs h = refl
begins (many Sequence vs) xs h = refl
begins (many Tuple vs) xs h = refl

alike : (v w : Value) (xs ys : List ℕ) → ranged v ≡ true → ranged w ≡ true → written v ++ xs ≡ written w ++ ys → by_value v ≡ by_value w
alike v w xs ys h g e = sym (begins v xs h) ∙ ap by_line e ∙ begins w ys g

closes : (k : Collection) (xs : List ℕ) → by_line (closing k ++ xs) ≡ no_value
closes Set xs = refl
closes Sequence xs = refl
closes Tuple xs = refl

not_closed : (k : Collection) (v : Value) (bs xs ys : List ℕ) → ranged v ≡ true → (written v ++ bs) ++ (closing k ++ xs) ≡ closing k ++ ys → ⊥
not_closed k v bs xs ys h e = go v (sym (begins v (bs ++ (closing k ++ xs)) h) ∙ ap by_line (sym (append_assoc (written v) bs (closing k ++ xs)) ∙ e) ∙ closes k ys)
  where
    go : (v : Value) → by_value v ≡ no_value → ⊥
    go (number z) e = cc
    go (truth b) e = cc
    go (many k vs) e = cc

stops : (k : Collection) (vs : Values) (xs : List ℕ) → Stops (others vs ++ (closing k ++ xs))
stops k none xs e = let f : no_value ≡ a_number = sym (closes k xs) ∙ e in cc
stops k (more v vs) xs e = cc

-- ---- a value's line says which value it is, and where it ends

enclosed : (k : Collection) (vs : Values) (xs : List ℕ) → written (many k vs) ++ xs ≡ opening k ++ (members vs ++ (closing k ++ xs))
enclosed k vs xs = append_assoc (opening k) (members vs ++ closing k) xs ∙ ap (λ bs. opening k ++ bs) (append_assoc (members vs) (closing k) xs)

abbrev Same : Value → Value → Type 0
Same v w = (xs ys : List ℕ) → ranged v ≡ true → ranged w ≡ true → Stops xs → Stops ys → written v ++ xs ≡ written w ++ ys → (v ≡ w) × (xs ≡ ys)

abbrev SameAll : (Values → List ℕ) → Collection → Values → Values → Type 0
SameAll text k vs ws = (xs ys : List ℕ) → rangeds vs ≡ true → rangeds ws ≡ true → text vs ++ (closing k ++ xs) ≡ text ws ++ (closing k ++ ys) → (vs ≡ ws) × (xs ≡ ys)

same_more : (k : Collection) (v w : Value) (vs ws : Values) → Same v w → SameAll others k vs ws → SameAll members k (more v vs) (more w ws)
same_more k v w vs ws one rest xs ys h g e =
    let hv = and_parts (ranged v) (rangeds vs) h in
    let gw = and_parts (ranged w) (rangeds ws) g in
    let f = sym (append_assoc (written v) (others vs) (closing k ++ xs)) ∙ e ∙ append_assoc (written w) (others ws) (closing k ++ ys) in
    let r = one (others vs ++ (closing k ++ xs)) (others ws ++ (closing k ++ ys)) hv.0 gw.0 (stops k vs xs) (stops k ws ys) f in
    let q = rest xs ys hv.1 gw.1 r.1 in
    ((λ i. more (r.0 i) (q.0 i)), q.1)

mutual
  same : (v w : Value) → Same v w
  same (number y) (number z) xs ys h g s t e = let r = numbers y z xs ys h g s t e in (ap number r.0, r.1)
  same (truth a) (truth b) xs ys h g s t e =
      let k = alike (truth a) (truth b) xs ys h g e in
      let f : a ≡ b = cc in
      (ap truth f, append_cancel_left (word b) xs ys (ap (λ c. word c ++ xs) (sym f) ∙ e))
  same (many j vs) (many k ws) xs ys h g s t e =
      let l = alike (many j vs) (many k ws) xs ys h g e in
      let f : j ≡ k = cc in
      let i = sym (enclosed k vs xs) ∙ ap (λ c. written (many c vs) ++ xs) (sym f) ∙ e ∙ enclosed k ws ys in
      let r = same_members k vs ws xs ys h g (append_cancel_left (opening k) (members vs ++ (closing k ++ xs)) (members ws ++ (closing k ++ ys)) i) in
      ((λ i. many (f i) (r.0 i)), r.1)
  same (number y) (truth b) xs ys h g s t e = let k = alike (number y) (truth b) xs ys h g e in absurd cc
  same (number y) (many k ws) xs ys h g s t e = let l = alike (number y) (many k ws) xs ys h g e in absurd cc
  same (truth a) (number z) xs ys h g s t e = let k = alike (truth a) (number z) xs ys h g e in absurd cc
  same (truth a) (many k ws) xs ys h g s t e = let l = alike (truth a) (many k ws) xs ys h g e in absurd cc
  same (many j vs) (number z) xs ys h g s t e = let k = alike (many j vs) (number z) xs ys h g e in absurd cc
  same (many j vs) (truth b) xs ys h g s t e = let k = alike (many j vs) (truth b) xs ys h g e in absurd cc

  same_members : (k : Collection) (vs ws : Values) → SameAll members k vs ws
  same_members k none none xs ys h g e = (refl, append_cancel_left (closing k) xs ys e)
  same_members k none (more w ws) xs ys h g e = absurd (not_closed k w (others ws) ys xs (and_parts (ranged w) (rangeds ws) g).0 (sym e))
  same_members k (more v vs) none xs ys h g e = absurd (not_closed k v (others vs) xs ys (and_parts (ranged v) (rangeds vs) h).0 e)
  same_members k (more v vs) (more w ws) xs ys h g e = same_more k v w vs ws (same v w) (same_others k vs ws) xs ys h g e

  same_others : (k : Collection) (vs ws : Values) → SameAll others k vs ws
  same_others k none none xs ys h g e = (refl, append_cancel_left (closing k) xs ys e)
  same_others k none (more w ws) xs ys h g e = let f : no_value ≡ a_comma = sym (closes k xs) ∙ ap by_line e in absurd cc
  same_others k (more v vs) none xs ys h g e = let f : a_comma ≡ no_value = ap by_line e ∙ closes k ys in absurd cc
  same_others k (more v vs) (more w ws) xs ys h g e =
      same_more k v w vs ws (same v w) (same_others k vs ws) xs ys h g (append_cancel_left (codes ", ") (members (more v vs) ++ (closing k ++ xs)) (members (more w ws) ++ (closing k ++ ys)) e)

pub distinct : (v w : Value) → Lawful v → Lawful w → written v ≡ written w → v ≡ w
distinct v w h g e = (same v w [] [] h.numbers g.numbers (λ e. cc) (λ e. cc) (ap (λ bs. bs ++ []) e)).0
