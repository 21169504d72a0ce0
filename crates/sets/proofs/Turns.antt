-- One turn of the walk through two rows of members.
use Rattle.std.proofs.Common.{◌≡◌, ℕ, zero, suc, ◌+◌, ◌-◌, ◌<◌, ◌≤◌, Bool, true, false, cond, if◌then◌else◌, nat_lt, List, [], ◌∷◌, ◌++◌, length, set as put_at, ℤ, pos, Ordering, Less, Equal, Greater, sym, refl, ap, ◌∙◌, subst₂, arith}
use Rattle.std.proofs.lemmas.List.{append_assoc, length-append, length-take-le}
use Rattle.std.proofs.lemmas.Bool.{lt-ltb}
use Rattle.std.specs.Ordering.{is_le, is_ge}
use Rattle.syntax.specs.declared.Collection.TheVariants.{Set}
use Rattle.sets.specs.declared.Blend.{Blend}
use Rattle.values.specs.Value.{Value, of, cells, row, past, front, within, by_cells, compare}
use Rattle.values.specs.Sets.{by}
use Rattle.sets.specs.Walk.{put, merge, side, keeps, taken}
use Rattle.values.proofs.Laws.{cells_of, onto_is, past_first, front_first, some_cells}

-- a pass never adds cells, and takes one where there is one
past_le : (n : ℕ) (xs : List ℤ) → length (past n xs) ≤ length xs
past_le zero xs = omega arith
past_le (suc n) [] = omega arith
past_le (suc n) (k ∷ []) = omega arith
past_le (suc n) (k ∷ c ∷ xs) = omega (arith, past_le (within k c + n) xs)

pub past_less : (xs : List ℤ) → 0 < length xs → length (past 1 xs) < length xs
past_less [] h = omega arith
past_less (k ∷ []) h = omega arith
past_less (k ∷ c ∷ xs) h = omega (arith, past_le (within k c + 0) xs)

side_both : (x y : List ℤ) → 0 < length x → 0 < length y → side x y ≡ by_cells x y
side_both [] [] h g = absurd (omega arith)
side_both [] (b ∷ y) h g = absurd (omega arith)
side_both (a ∷ x) [] h g = absurd (omega arith)
side_both (a ∷ x) (b ∷ y) h g = refl

side_right : (y : List ℤ) → 0 < length y → side [] y ≡ Greater
side_right [] h = absurd (omega arith)
side_right (b ∷ y) h = refl

-- the first value of some cells has cells
front_some : (x : List ℤ) → 0 < length x → 0 < length (front x)
front_some x h = omega (arith, past_less x h, length-take-le (length x - length (past 1 x)) x (omega arith))

-- which of two rows has the next member
abbrev pub sides : List ℤ → List ℤ → Ordering
sides x y = side (front x) (front y)

sides_right : (y : List ℤ) → 0 < length y → sides [] y ≡ Greater
sides_right y h = side_right (front y) (front_some y h)

-- each turn leaves fewer cells
abbrev pub left_of : List ℤ → List ℤ → Ordering → List ℤ
left_of x y o = cond (is_le o) (past 1 x) x

abbrev pub right_of : List ℤ → List ℤ → Ordering → List ℤ
right_of x y o = cond (is_ge o) (past 1 y) y

fewer : (x y : List ℤ) → 0 < length x → 0 < length y → (o : Ordering) → length (left_of x y o) + length (right_of x y o) < length x + length y
fewer x y h g Less = omega (arith, past_less x h)
fewer x y h g Equal = omega (arith, past_less x h, past_less y g)
fewer x y h g Greater = omega (arith, past_less y g)

pub falls : (x y : List ℤ) → 0 < length x + length y → length (left_of x y (sides x y)) + length (right_of x y (sides x y)) < length x + length y
falls [] [] h = omega arith
falls [] (b ∷ y) h =
    let g : 0 < length (b ∷ y) = omega arith in
    let e = sides_right (b ∷ y) g in
    omega (arith, past_less (b ∷ y) g, ap (λ o. length (left_of [] (b ∷ y) o)) e, ap (λ o. length (right_of [] (b ∷ y) o)) e)
falls (a ∷ x) [] h = let g : 0 < length (a ∷ x) = omega arith in omega (arith, past_less (a ∷ x) g)
falls (a ∷ x) (b ∷ y) h = fewer (a ∷ x) (b ∷ y) (omega arith) (omega arith) (sides (a ∷ x) (b ∷ y))

row_put : (b : Bool) (v : Value) (vs : List Value) → row (put b v vs) ≡ cond b (cells v) [] ++ row vs
row_put true v vs = onto_is v (row vs)
row_put false v vs = refl

length-put : (b : Bool) (v : Value) (vs : List Value) → length (put b v vs) ≡ cond b 1 0 + length vs
length-put true v vs = omega arith
length-put false v vs = omega arith

pub at_most_one : (b : Bool) → cond b 1 0 ≤ 1
at_most_one true = omega arith
at_most_one false = omega arith

-- what a turn does to the members us and ts, whose cells are x and y
pub record Turn (op : Blend) (us ts : List Value) (x y : List ℤ) : Type 0 where
  pub left : List Value
  pub right : List Value
  pub left_is : left_of x y (sides x y) ≡ row left
  pub right_is : right_of x y (sides x y) ≡ row right
  pub cells_are : row (merge (keeps op) us ts) ≡ taken (keeps op (sides x y)) (sides x y) (front x) (front y) ++ row (merge (keeps op) left right)
  pub count_is : length (merge (keeps op) us ts) ≡ cond (keeps op (sides x y)) 1 0 + length (merge (keeps op) left right)
  pub next : Value
  pub members_are : merge (keeps op) us ts ≡ put (keeps op (sides x y)) next (merge (keeps op) left right)

make : (op : Blend) (us ts : List Value) (x y : List ℤ) (o : Ordering) (z : Value) (left right : List Value) → sides x y ≡ o → by o (front x) (front x) (front y) ≡ cells z → left_of x y o ≡ row left → right_of x y o ≡ row right → merge (keeps op) us ts ≡ put (keeps op o) z (merge (keeps op) left right) → Turn op us ts x y
make op us ts x y o z left right s f l r m =
    record {
      left = left;
      right = right;
      left_is = ap (left_of x y) s ∙ l;
      right_is = ap (right_of x y) s ∙ r;
      cells_are = ap row m ∙ row_put (keeps op o) z (merge (keeps op) left right) ∙ ap (λ t. t ++ row (merge (keeps op) left right)) (ap (λ t. cond (keeps op o) t []) (sym f) ∙ ap (λ p. taken (keeps op p) p (front x) (front y)) (sym s));
      next = z;
      members_are = m ∙ ap (λ p. put (keeps op p) z (merge (keeps op) left right)) (sym s);
      count_is = ap length m ∙ length-put (keeps op o) z (merge (keeps op) left right) ∙ ap (λ p. cond (keeps op p) 1 0 + length (merge (keeps op) left right)) (sym s);
    }

both : (op : Blend) (u t : Value) (us ts : List Value) (o : Ordering) → compare u t ≡ o → Turn op (u ∷ us) (t ∷ ts) (row (u ∷ us)) (row (t ∷ ts))
both op u t us ts o e =
    let x = row (u ∷ us) in
    let y = row (t ∷ ts) in
    let fx = front_first u (row us) in
    let fy = front_first t (row ts) in
    let px = past_first u (row us) in
    let py = past_first t (row ts) in
    let s : sides x y ≡ o = side_both (front x) (front y) (front_some x (some_cells u (row us))) (front_some y (some_cells t (row ts))) ∙ (λ i. by_cells (fx i) (fy i)) ∙ e in
    go o e s fx fy px py
  where
    go : (o : Ordering) → compare u t ≡ o → sides (row (u ∷ us)) (row (t ∷ ts)) ≡ o → front (row (u ∷ us)) ≡ cells u → front (row (t ∷ ts)) ≡ cells t → past 1 (row (u ∷ us)) ≡ row us → past 1 (row (t ∷ ts)) ≡ row ts → Turn op (u ∷ us) (t ∷ ts) (row (u ∷ us)) (row (t ∷ ts))
    go Less e s fx fy px py = make op _ _ _ _ Less u us (t ∷ ts) s fx px refl (ap (λ p. by p (put (keeps op Less) u (merge (keeps op) us (t ∷ ts))) (put (keeps op Equal) u (merge (keeps op) us ts)) (put (keeps op Greater) t (merge (keeps op) (u ∷ us) ts))) e)
    go Equal e s fx fy px py = make op _ _ _ _ Equal u us ts s fx px py (ap (λ p. by p (put (keeps op Less) u (merge (keeps op) us (t ∷ ts))) (put (keeps op Equal) u (merge (keeps op) us ts)) (put (keeps op Greater) t (merge (keeps op) (u ∷ us) ts))) e)
    go Greater e s fx fy px py = make op _ _ _ _ Greater t (u ∷ us) ts s fy refl py (ap (λ p. by p (put (keeps op Less) u (merge (keeps op) us (t ∷ ts))) (put (keeps op Equal) u (merge (keeps op) us ts)) (put (keeps op Greater) t (merge (keeps op) (u ∷ us) ts))) e)

at_rows : (op : Blend) (us ts : List Value) → 0 < length (row us) + length (row ts) → Turn op us ts (row us) (row ts)
at_rows op [] [] h = absurd (omega arith)
at_rows op [] (t ∷ ts) h = make op [] (t ∷ ts) _ _ Greater t [] ts (sides_right (row (t ∷ ts)) (some_cells t (row ts))) (front_first t (row ts)) refl (past_first t (row ts)) refl
at_rows op (u ∷ us) [] h = make op (u ∷ us) [] _ _ Less u us [] refl (front_first u (row us)) (past_first u (row us)) refl refl
at_rows op (u ∷ us) (t ∷ ts) h = both op u t us ts (compare u t) refl

pub turn : (op : Blend) (us ts : List Value) (x y : List ℤ) → x ≡ row us → y ≡ row ts → 0 < length x + length y → Turn op us ts x y
turn op us ts x y ex ey h =
    let g : 0 < length (row us) + length (row ts) = omega (arith, ap length ex, ap length ey) in
    subst₂ (Turn op us ts) (sym ex) (sym ey) (at_rows op us ts g)

-- what is written and what is still to come
pub goes_on : (old piece now whole rest goal : List ℤ) → now ≡ old ++ piece → whole ≡ piece ++ rest → old ++ whole ≡ goal → now ++ rest ≡ goal
goes_on old piece now whole rest goal e f g = ap (λ t. t ++ rest) e ∙ append_assoc old piece rest ∙ ap (λ t. old ++ t) (sym f) ∙ g

-- a piece for which there is no room: there is none for the whole
pub no_room : (old now piece whole rest goal : List ℤ) (room : ℕ) → room < length now + length piece → whole ≡ piece ++ rest → now ++ whole ≡ old ++ goal → room < length old + length goal
no_room old now piece whole rest goal room l f e =
    let a = ap length f ∙ length-append piece rest in
    let b : length now + length whole ≡ length old + length goal = sym (length-append now whole) ∙ ap length e ∙ length-append old goal in
    omega arith

-- a pair of cells whose second cell was set to how many members follow
pub headed : (before after : List ℤ) (m : ℕ) (done : Bool) (c : ℤ) (vs : List Value) → after ≡ (if done then put_at before 1 c else before) → done ≡ nat_lt 1 (length before) → before ≡ pos 2 ∷ pos 0 ∷ row vs → m ≡ length vs → c ≡ pos m → after ≡ cells (of Set vs)
headed before after m done c vs g d b k p =
    let h : 1 < length before = omega (arith, ap length b) in
    let t : done ≡ true = d ∙ lt-ltb 1 (length before) h in
    g ∙ (λ i. if t i then put_at (b i) 1 c else b i) ∙ ap (λ z. pos 2 ∷ z ∷ row vs) (p ∙ ap pos k) ∙ sym (cells_of Set vs)
