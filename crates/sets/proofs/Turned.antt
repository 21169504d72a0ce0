-- Members among others, and cells turned.
use Rattle.std.proofs.Common.{◌≡◌, ℕ, ◌+◌, ◌-◌, ◌≤◌, List, [], ◌∷◌, ◌++◌, length, get_or, take, drop, set as put_at, ℤ, pos, Ordering, Less, Equal, Greater, sym, refl, ap, ◌∙◌, arith}
use borrow.Rule.Slice.PartMut.{put_mid}
use Rattle.std.proofs.lemmas.List.{append_assoc, append-nil, length-append, length-drop, take_at, drop_at, take_rest, drop_all}
use Rattle.syntax.specs.declared.Collection.{Collection}
use Rattle.syntax.specs.declared.Collection.TheVariants.{Set}
use Rattle.values.specs.Value.{Value, onto, row, cells, of, code, compare}
use Rattle.values.specs.Sets.{insert}
use Rattle.sets.proofs.Members.{insert_less, insert_equal, insert_greater}
use Rattle.values.proofs.Laws.{onto-append, onto_is, cells_of, some_cells}

pub row-append : (us vs : List Value) → row (us ++ vs) ≡ row us ++ row vs
row-append [] vs = refl
row-append (u ∷ us) vs = ap (onto u) (row-append us vs) ∙ sym (onto-append u (row us) (row vs))

-- the last k cells turned to the place p: s is t ++ w ++ c
pub turned : (s t w c : List ℤ) (p k : ℕ) → s ≡ (t ++ w) ++ c → length t ≡ p → length c ≡ k → take p s ++ (drop (length (drop p s) - k) (drop p s) ++ take (length (drop p s) - k) (drop p s)) ≡ t ++ (c ++ w)
turned s t w c p k e f g =
    let e' : s ≡ t ++ (w ++ c) = e ∙ append_assoc t w c in
    let a : take p s ≡ t = ap (take p) e' ∙ take_at t (w ++ c) p f in
    let b : drop p s ≡ w ++ c = ap (drop p) e' ∙ drop_at t (w ++ c) p f in
    let l : length w ≡ length (w ++ c) - k = omega (arith, length-append w c) in
    let d : drop (length (w ++ c) - k) (w ++ c) ≡ c = drop_at w c _ l in
    let h : take (length (w ++ c) - k) (w ++ c) ≡ w = take_at w c _ l in
    (λ i. a i ++ (drop (length (b i) - k) (b i) ++ take (length (b i) - k) (b i))) ∙ (λ i. t ++ (d i ++ h i))

pub with_row : (ts ws : List Value) (v : Value) → row (ts ++ v ∷ ws) ≡ row ts ++ (cells v ++ row ws)
with_row ts ws v = row-append ts (v ∷ ws) ∙ ap (λ l. row ts ++ l) (onto_is v (row ws))

-- the whole slice after its part from p on was turned
pub settled : (s self t w c : List ℤ) (p k : ℕ) → s ≡ (t ++ w) ++ c → length t ≡ p → length c ≡ k → self ≡ drop (length (take (length s - p) (drop p s)) - k) (take (length s - p) (drop p s)) ++ take (length (take (length s - p) (drop p s)) - k) (take (length s - p) (drop p s)) → put_mid p (length s - p) s self ≡ t ++ (c ++ w)
settled s self t w c p k e f l h =
    let m : self ≡ drop (length (drop p s) - k) (drop p s) ++ take (length (drop p s) - k) (drop p s) = h ∙ ap (λ q. drop (length q - k) q ++ take (length q - k) q) (take_rest s p) in
    let z : drop (length s - p) (drop p s) ≡ [] = drop_all (length s - p) (drop p s) (omega (arith, length-drop p s)) in
    (λ i. take p s ++ (m i ++ z i)) ∙ ap (λ q. take p s ++ q) (append-nil (drop (length (drop p s) - k) (drop p s) ++ take (length (drop p s) - k) (drop p s))) ∙ turned s t w c p k e f l

-- a collection and a value behind it
pub record Pair (k : Collection) (us : List Value) (v : Value) (s : List ℤ) (n : ℕ) : Type 0 where
  pub whole : s ≡ code k ∷ pos (length us) ∷ (row us ++ cells v)
  pub long : n ≡ 2 + length (row us)
  pub first : get_or s 0 (pos 0) ≡ code k
  pub second : get_or s 1 (pos 0) ≡ pos (length us)
  pub members : take (n - 2) (drop 2 s) ≡ row us
  pub behind : take (length s - n) (drop n s) ≡ cells v
  pub all : length s ≡ n + length (cells v)
  pub front : take n s ≡ cells (of k us)

pub pair : (k : Collection) (us : List Value) (v : Value) (s : List ℤ) (n : ℕ) → s ≡ cells (of k us) ++ cells v → length (cells (of k us)) ≡ n → Pair k us v s n
pair k us v s n e f =
    let w : s ≡ code k ∷ pos (length us) ∷ (row us ++ cells v) = e ∙ ap (λ l. l ++ cells v) (cells_of k us) in
    let l : n ≡ 2 + length (row us) = omega (arith, f, ap length (cells_of k us)) in
    let m : length (row us) ≡ n - 2 = omega arith in
    record {
      whole = w;
      long = l;
      first = ap (λ t. get_or t 0 (pos 0)) w;
      second = ap (λ t. get_or t 1 (pos 0)) w;
      members = ap (λ t. take (n - 2) (drop 2 t)) w ∙ take_at (row us) (cells v) (n - 2) m;
      behind = take_rest s n ∙ ap (drop n) e ∙ drop_at (cells (of k us)) (cells v) n f;
      all = omega (arith, ap length e ∙ length-append (cells (of k us)) (cells v), f);
      front = ap (take n) e ∙ take_at (cells (of k us)) (cells v) n f;
    }

-- values take cells
pub fewer : (vs : List Value) → length vs ≤ length (row vs)
fewer [] = omega arith
fewer (v ∷ vs) = omega (arith, fewer vs, ap length (onto_is v (row vs)) ∙ length-append (cells v) (row vs), some_cells v [])

-- one member more, and its cells in their place
pub grown_cells : (k : Collection) (us ts ws with : List Value) (v : Value) → us ≡ ts ++ ws → with ≡ ts ++ v ∷ ws → cells (of k with) ≡ code k ∷ pos (length us + 1) ∷ (row ts ++ (cells v ++ row ws))
grown_cells k us ts ws with v e f =
    let l : length (ts ++ v ∷ ws) ≡ length us + 1 = omega (arith, length-append ts (v ∷ ws), ap length e ∙ length-append ts ws) in
    ap (λ l. cells (of k l)) f ∙ cells_of k (ts ++ v ∷ ws) ∙ (λ i. code k ∷ pos (l i) ∷ with_row ts ws v i)

-- the count is raised before the cells are turned
pub raised : (k : Collection) (us ts ws : List Value) (v : Value) (s : List ℤ) (n : ℕ) (z : ℤ) → Pair k us v s n → us ≡ ts ++ ws → z ≡ pos (length us + 1) → put_at s 1 z ≡ ((code k ∷ pos (length us + 1) ∷ row ts) ++ row ws) ++ cells v
raised k us ts ws v s n z p e f = (λ i. put_at (p.whole i) 1 (f i)) ∙ ap (λ l. code k ∷ pos (length us + 1) ∷ (l ++ cells v)) (ap row e ∙ row-append ts ws)

pub grown_long : (k : Collection) (us ts ws with : List Value) (v : Value) (s : List ℤ) (n : ℕ) → Pair k us v s n → us ≡ ts ++ ws → with ≡ ts ++ v ∷ ws → length (cells (of k with)) ≡ length s
grown_long k us ts ws with v s n p e f =
    let a = ap length (grown_cells k us ts ws with v e f) in
    let b = length-append (row ts) (cells v ++ row ws) in
    let d = length-append (cells v) (row ws) in
    let g = ap length (ap row e ∙ row-append ts ws) ∙ length-append (row ts) (row ws) in
    omega (arith, p.all, p.long)

-- a member more takes no more than its cells
pub row-insert : (v : Value) (us : List Value) → length (row (insert v us)) ≤ length (cells v) + length (row us)
row-insert v [] = omega arith
row-insert v (u ∷ us) = go (compare v u) refl (row-insert v us)
  where
    go : (o : Ordering) → compare v u ≡ o → length (row (insert v us)) ≤ length (cells v) + length (row us) → length (row (insert v (u ∷ us))) ≤ length (cells v) + length (row (u ∷ us))
    go Less e h = omega (arith, ap (λ l. length (row l)) (insert_less v u us e), ap length (onto_is v (row (u ∷ us))) ∙ length-append (cells v) (row (u ∷ us)))
    go Equal e h = omega (arith, ap (λ l. length (row l)) (insert_equal v u us e))
    go Greater e h = omega (arith, ap (λ l. length (row l)) (insert_greater v u us e), ap length (onto_is u (row (insert v us))) ∙ length-append (cells u) (row (insert v us)), ap length (onto_is u (row us)) ∙ length-append (cells u) (row us))

pub cells-insert : (v : Value) (us : List Value) → length (cells (of Set (insert v us))) ≤ length (cells (of Set us)) + length (cells v)
cells-insert v us = omega (arith, row-insert v us, ap length (cells_of Set us), ap length (cells_of Set (insert v us)))
