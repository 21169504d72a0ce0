-- Values and members, from cells to bytes.
use Rattle.std.proofs.Common.{◌≡◌, ℕ, suc, ◌+◌, ◌-◌, ◌<◌, ◌≤◌, true, false, List, ◌++◌, length, get_or, take, drop, ℤ, pos, codes, sym, refl, ap, ◌∙◌, subst, append_assoc, arith, w32, SFits, to_z, of_z}
use Rattle.std.proofs.lemmas.List.{append-nil, length-append, take_rest}
use Rattle.std.proofs.lemmas.Int.{to_z-of_z}
use Rattle.syntax.specs.declared.Collection.{Collection}
use Rattle.syntax.specs.declared.Collection.TheVariants.{Set, Sequence, Tuple}
use Rattle.values.specs.Value.{Value, number, truth, many, Values, none, more, count, onto, ontos}
use Rattle.writing.specs.declared.Head.{Head}
use Rattle.writing.specs.declared.Head.TheVariants.{Number, Truth, Many}
use Rattle.writing.specs.Written.{written, members, others, opening, closing}
use Rattle.writing.specs.Heads.{head, Begins, Follow}
use Rattle.writing.specs.Lines.{most}

-- ---- what a pair of cells begins

abbrev begun : Value → Head
begun (number z) = Number z
begun (truth b) = Truth b
begun (many k vs) = Many k (count vs)

abbrev inside : Value → List ℤ → List ℤ
inside (number z) xs = xs
inside (truth b) xs = xs
inside (many k vs) xs = ontos vs xs

abbrev head_of : List ℤ → Head
head_of s = head (get_or s 0 (pos 0)) (get_or s 1 (pos 0))

head_onto : (v : Value) (xs : List ℤ) → head_of (onto v xs) ≡ begun v
head_onto (number z) xs = refl
head_onto (truth true) xs = refl
head_onto (truth false) xs = refl
head_onto (many Set vs) xs = refl
head_onto (many Sequence vs) xs = refl
head_onto (many Tuple vs) xs = refl

drop-onto : (v : Value) (xs : List ℤ) → drop 2 (onto v xs) ≡ inside v xs
drop-onto (number z) xs = refl
drop-onto (truth b) xs = refl
drop-onto (many k vs) xs = refl

pub record IsMany (v : Value) (xs rest : List ℤ) (k : Collection) (n : ℕ) : Type 0 where
  pub those : Values
  pub is : v ≡ many k those
  pub many_are : n ≡ count those
  pub cells_are : rest ≡ ontos those xs

-- which value it is, with xs behind it, where rest follows the pair
abbrev pub Is : Value → List ℤ → List ℤ → Head → Type 0
Is v xs rest (Number z) = (v ≡ number z) × (rest ≡ xs)
Is v xs rest (Truth b) = (v ≡ truth b) × (rest ≡ xs)
Is v xs rest (Many k n) = IsMany v xs rest k n

is_begun : (v : Value) (xs rest : List ℤ) → rest ≡ inside v xs → Is v xs rest (begun v)
is_begun (number z) xs rest e = (refl, e)
is_begun (truth b) xs rest e = (refl, e)
is_begun (many k vs) xs rest e = record { those = vs; is = refl; many_are = refl; cells_are = e }

module _ (v : Value) (xs s : List ℤ) (h : Head) (e : s ≡ onto v xs) where
  is_by_head : h ≡ head_of s → Is v xs (take (length s - 2) (drop 2 s)) h
  is_by_head g = subst (Is v xs (take (length s - 2) (drop 2 s))) (sym (g ∙ ap head_of e ∙ head_onto v xs)) (is_begun v xs _ (take_rest s 2 ∙ ap (drop 2) e ∙ drop-onto v xs))

  -- where the pair is read off the cells
  pub is : SFits w32 (get_or s 0 (pos 0)) → SFits w32 (get_or s 1 (pos 0)) → h ≡ head (to_z w32 (of_z w32 (get_or s 0 (pos 0)))) (to_z w32 (of_z w32 (get_or s 1 (pos 0)))) → Is v xs (take (length s - 2) (drop 2 s)) h
  is f g k = is_by_head (k ∙ (λ i. head (to_z-of_z w32 (get_or s 0 (pos 0)) f i) (to_z-of_z w32 (get_or s 1 (pos 0)) g i)))

-- ---- how long

mutual
  pub length-onto : (v : Value) (xs : List ℤ) → length xs + 2 ≤ length (onto v xs)
  length-onto (number z) xs = omega arith
  length-onto (truth b) xs = omega arith
  length-onto (many k vs) xs = omega (arith, length-ontos vs xs)

  length-ontos : (vs : Values) (xs : List ℤ) → length xs ≤ length (ontos vs xs)
  length-ontos none xs = omega arith
  length-ontos (more v vs) xs = omega (arith, length-ontos vs xs, length-onto v (ontos vs xs))

pub length_many : (k : Collection) (vs : Values) → length (written (many k vs)) ≡ length (opening k) + length (members vs) + length (closing k)
length_many k vs = omega (arith, length-append (opening k) (members vs ++ closing k), length-append (members vs) (closing k))

-- ---- members, one after another

-- a first one, where there are any
pub record First (many : ℕ) (cells : List ℤ) (len : ℕ) : Type 0 where
  pub one : Value
  pub those : Values
  pub rest : List ℤ
  pub many_are : many ≡ suc (count those)
  pub cells_are : cells ≡ onto one (ontos those rest)
  pub room : len + length (written one) + length (others those) ≤ most

pub first : (n : ℕ) (cells : List ℤ) (len : ℕ) → Follow n cells len → (n ≡ 0 → ⊥) → First n cells len
first n cells len f h = go f.those f.many_are f.cells_are f.room
  where
    go : (vs : Values) → n ≡ count vs → cells ≡ ontos vs f.rest → len + length (members vs) ≤ most → First n cells len
    go none m e r = absurd (h m)
    go (more v vs) m e r = record { one = v; those = vs; rest = f.rest; many_are = m; cells_are = e; room = omega (arith, length-append (written v) (others vs)) }

pub begins : (n : ℕ) (cells : List ℤ) (len : ℕ) → First n cells len → Begins cells len
begins n cells len f = record { first = f.one; rest = ontos f.those f.rest; cells_are = f.cells_are; room = omega (arith, f.room) }

-- what `value` tells of a line and of what is left
abbrev pub Told : List ℤ → List ℤ → List ℕ → List ℕ → Type 0
Told cells rest old new = (v : Value) (xs : List ℤ) → cells ≡ onto v xs → (rest ≡ xs) × (new ≡ old ++ written v)

-- members still to come, of those that stood at the start
pub record Left (start : Values) (xs rest : List ℤ) (old new : List ℕ) (many i : ℕ) : Type 0 where
  pub left : Values
  pub cells_are : rest ≡ ontos left xs
  pub many_are : count left + i ≡ many
  pub line_is : new ++ others left ≡ old ++ others start

-- how far the members are written
pub record Going (cells first rest : List ℤ) (old new : List ℕ) (many i : ℕ) : Type 0 where
  pub goes : (vs : Values) (xs : List ℤ) → many ≡ suc (count vs) → first ≡ ontos vs xs → Left vs xs rest old new many i
  pub shorter : length rest ≤ length cells

pub none_left : (vs : Values) → count vs ≡ 0 → vs ≡ none
none_left none h = refl
none_left (more v vs) h = absurd (omega arith)

module _ {n i : ℕ} {cells start rest : List ℤ} {old new : List ℕ} (before : List ℕ) (p : Follow n cells (length before)) (some : n ≡ 0 → ⊥) (t : Told cells start before old) (g : Going cells start rest old new n i) where
  f : First n cells (length before)
  f = first n cells (length before) p some

  -- the next one, and room for it and for what stands before it
  pub next : i < n → Begins rest (length new + 2)
  next h =
      let a = t f.one (ontos f.those f.rest) f.cells_are in
      let r = g.goes f.those f.rest f.many_are a.0 in
      go r.left r.many_are r.cells_are (ap length r.line_is) (ap length a.1)
    where
      go : (ws : Values) → count ws + i ≡ n → rest ≡ ontos ws f.rest → length (new ++ others ws) ≡ length (old ++ others f.those) → length old ≡ length (before ++ written f.one) → Begins rest (length new + 2)
      go none m e w l = absurd (omega arith)
      go (more v ws) m e w l = record { first = v; rest = ontos ws f.rest; cells_are = e; room = omega (arith, length-append new (others (more v ws)), length-append (written v) (others ws), length-append old (others f.those), length-append before (written f.one), f.room) }

  pub goes_on : (rest' : List ℤ) (new' : List ℕ) → i < n → length rest' ≤ length rest → Told rest rest' (new ++ codes ", ") new' → Going cells start rest' old new' n (i + 1)
  goes_on rest' new' h l q = record { goes = λ vs xs m e. let r = g.goes vs xs m e in go vs xs r.left r.many_are r.cells_are r.line_is; shorter = omega (arith, g.shorter) }
    where
      go : (vs : Values) (xs : List ℤ) (ws : Values) → count ws + i ≡ n → rest ≡ ontos ws xs → new ++ others ws ≡ old ++ others vs → Left vs xs rest' old new' n (i + 1)
      go vs xs none m e w = absurd (omega arith)
      go vs xs (more v ws) m e w =
          let a = q v (ontos ws xs) e in
          record {
            left = ws;
            cells_are = a.0;
            many_are = omega arith;
            line_is = ap (λ bs. bs ++ others ws) a.1 ∙ append_assoc (new ++ codes ", ") (written v) (others ws) ∙ append_assoc new (codes ", ") (written v ++ others ws) ∙ w;
          }

  pub ends : n ≤ i → (vs : Values) (xs : List ℤ) → n ≡ count vs → cells ≡ ontos vs xs → (rest ≡ xs) × (new ≡ before ++ members vs)
  ends h none xs m e = absurd (omega (arith, f.many_are))
  ends h (more v vs) xs m e =
      let a = t v (ontos vs xs) e in
      let r = g.goes vs xs m a.0 in
      let z : r.left ≡ none = none_left r.left (omega (arith, r.many_are)) in (
        r.cells_are ∙ ap (λ ws. ontos ws xs) z,
        sym (append-nil new) ∙ ap (λ ws. new ++ others ws) (sym z) ∙ r.line_is ∙ ap (λ bs. bs ++ others vs) a.1 ∙ append_assoc before (written v) (others vs),
      )
