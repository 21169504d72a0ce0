-- Where nothing stands on level 17, nothing is deeper than level 16.
use Rattle.std.proofs.Common.{◌≡◌, ℕ, ◌+◌, ◌≤◌, List, [], ◌∷◌, ◌++◌, ap, inl, inr, ⊎_elim, arith}
use Rattle.syntax.specs.Tree.{Place, Pattern, Patterns, Tree, Trees, Alternatives, Optional}
use Rattle.syntax.specs.Names.{In}
use Rattle.syntax.proofs.Names.{in_left, in_right, in_either}
use Rattle.checking.specs.Sightings.{Node, node, nodes, nodes_all, nodes_in, nodes_of, pattern_nodes, patterns_nodes}

abbrev Free : List Node → Type 0
Free xs = (p : Place) → In (node p 17) xs → ⊥

abbrev Shallow : List Node → Type 0
Shallow xs = (x : Node) → In x xs → x.level ≤ 16

fst : (xs ys : List Node) → Free (xs ++ ys) → Free xs
fst xs ys h p i = h p (in_left (node p 17) xs ys i)

snd : (xs ys : List Node) → Free (xs ++ ys) → Free ys
snd xs ys h p i = h p (in_right (node p 17) xs ys i)

both : (xs ys : List Node) → Shallow xs → Shallow ys → Shallow (xs ++ ys)
both xs ys f g x i = ⊎_elim (f x) (g x) (in_either x xs ys i)

-- a node on a level that is not 17, with its parts
over : (p : Place) (n : ℕ) (xs : List Node) → n ≤ 17 → Free (node p n ∷ xs) → ((n + 1 ≤ 17) → Free xs → Shallow xs) → Shallow (node p n ∷ xs)
over p n xs le h f =
    let ne : n ≡ 17 → ⊥ = λ e. h p (inl (ap (node p) (e' e))) in
    let lt : n + 1 ≤ 17 = omega arith in
    let below : Shallow xs = f lt (λ q i. h q (inr i)) in
    λ x i. elim i [ inl e ↦ (let w = ap (λ (y : Node). y.level) e in omega arith) | inr j ↦ below x j ]
  where
    e' : n ≡ 17 → 17 ≡ n
    e' e = omega arith

none : Shallow []
none x i = absurd i

mutual
  shallow_pattern : (n : ℕ) (t : Pattern) → n ≤ 17 → Free (pattern_nodes n t) → Shallow (pattern_nodes n t)
  shallow_pattern n (Pattern.any p) le h = over p n [] le h (λ lt g. none)
  shallow_pattern n (Pattern.binds p x) le h = over p n [] le h (λ lt g. none)
  shallow_pattern n (Pattern.number p k) le h = over p n [] le h (λ lt g. none)
  shallow_pattern n (Pattern.truth p b) le h = over p n [] le h (λ lt g. none)
  shallow_pattern n (Pattern.parts p k ps) le h = over p n (patterns_nodes (n + 1) ps) le h (shallow_patterns (n + 1) ps)

  shallow_patterns : (n : ℕ) (ts : Patterns) → n ≤ 17 → Free (patterns_nodes n ts) → Shallow (patterns_nodes n ts)
  shallow_patterns n Patterns.none le h = none
  shallow_patterns n (Patterns.more t ts) le h =
      both (pattern_nodes n t) (patterns_nodes n ts) (shallow_pattern n t le (fst (pattern_nodes n t) (patterns_nodes n ts) h)) (shallow_patterns n ts le (snd (pattern_nodes n t) (patterns_nodes n ts) h))

two : (xs ys : List Node) → (Free xs → Shallow xs) → (Free ys → Shallow ys) → Free (xs ++ ys) → Shallow (xs ++ ys)
two xs ys f g h = both xs ys (f (fst xs ys h)) (g (snd xs ys h))

three : (xs ys zs : List Node) → (Free xs → Shallow xs) → (Free ys → Shallow ys) → (Free zs → Shallow zs) → Free (xs ++ (ys ++ zs)) → Shallow (xs ++ (ys ++ zs))
three xs ys zs f g k = two xs (ys ++ zs) f (two ys zs g k)

mutual
  pub shallow : (n : ℕ) (t : Tree) → n ≤ 17 → Free (nodes n t) → Shallow (nodes n t)
  shallow n (Tree.numeral p k) le h = over p n [] le h (λ lt g. none)
  shallow n (Tree.truth p b) le h = over p n [] le h (λ lt g. none)
  shallow n (Tree.name p x) le h = over p n [] le h (λ lt g. none)
  shallow n (Tree.unary p o a) le h = over p n (nodes (n + 1) a) le h (shallow (n + 1) a)
  shallow n (Tree.binary p o a b) le h = over p n (nodes (n + 1) a ++ nodes (n + 1) b) le h (λ lt. two (nodes (n + 1) a) (nodes (n + 1) b) (shallow (n + 1) a lt) (shallow (n + 1) b lt))
  shallow n (Tree.connective p o a b) le h = over p n (nodes (n + 1) a ++ nodes (n + 1) b) le h (λ lt. two (nodes (n + 1) a) (nodes (n + 1) b) (shallow (n + 1) a lt) (shallow (n + 1) b lt))
  shallow n (Tree.if_else p a b c) le h = over p n (nodes (n + 1) a ++ (nodes (n + 1) b ++ nodes (n + 1) c)) le h (λ lt. three (nodes (n + 1) a) (nodes (n + 1) b) (nodes (n + 1) c) (shallow (n + 1) a lt) (shallow (n + 1) b lt) (shallow (n + 1) c lt))
  shallow n (Tree.let_in p x a b) le h = over p n (nodes (n + 1) a ++ nodes (n + 1) b) le h (λ lt. two (nodes (n + 1) a) (nodes (n + 1) b) (shallow (n + 1) a lt) (shallow (n + 1) b lt))
  shallow n (Tree.let_be p x a b c) le h = over p n (nodes (n + 1) a ++ (nodes (n + 1) b ++ nodes (n + 1) c)) le h (λ lt. three (nodes (n + 1) a) (nodes (n + 1) b) (nodes (n + 1) c) (shallow (n + 1) a lt) (shallow (n + 1) b lt) (shallow (n + 1) c lt))
  shallow n (Tree.cases p a cs o) le h = over p n (nodes (n + 1) a ++ (nodes_in (n + 1) cs ++ nodes_of (n + 1) o)) le h (λ lt. three (nodes (n + 1) a) (nodes_in (n + 1) cs) (nodes_of (n + 1) o) (shallow (n + 1) a lt) (shallow_in (n + 1) cs lt) (shallow_of (n + 1) o lt))
  shallow n (Tree.quantifier p q x a b) le h = over p n (nodes (n + 1) a ++ nodes (n + 1) b) le h (λ lt. two (nodes (n + 1) a) (nodes (n + 1) b) (shallow (n + 1) a lt) (shallow (n + 1) b lt))
  shallow n (Tree.collection p k ts) le h = over p n (nodes_all (n + 1) ts) le h (shallow_all (n + 1) ts)
  shallow n (Tree.range p a b) le h = over p n (nodes (n + 1) a ++ nodes (n + 1) b) le h (λ lt. two (nodes (n + 1) a) (nodes (n + 1) b) (shallow (n + 1) a lt) (shallow (n + 1) b lt))
  shallow n (Tree.comprehension p k a x b o) le h = over p n (nodes (n + 1) a ++ (nodes (n + 1) b ++ nodes_of (n + 1) o)) le h (λ lt. three (nodes (n + 1) a) (nodes (n + 1) b) (nodes_of (n + 1) o) (shallow (n + 1) a lt) (shallow (n + 1) b lt) (shallow_of (n + 1) o lt))
  shallow n (Tree.selection p a k) le h = over p n (nodes (n + 1) a) le h (shallow (n + 1) a)

  shallow_all : (n : ℕ) (ts : Trees) → n ≤ 17 → Free (nodes_all n ts) → Shallow (nodes_all n ts)
  shallow_all n Trees.none le h = none
  shallow_all n (Trees.more t ts) le h = two (nodes n t) (nodes_all n ts) (shallow n t le) (shallow_all n ts le) h

  shallow_in : (n : ℕ) (cs : Alternatives) → n ≤ 17 → Free (nodes_in n cs) → Shallow (nodes_in n cs)
  shallow_in n Alternatives.no_more le h = none
  shallow_in n (Alternatives.alternative q a cs) le h = three (pattern_nodes n q) (nodes n a) (nodes_in n cs) (shallow_pattern n q le) (shallow n a le) (shallow_in n cs le) h

  shallow_of : (n : ℕ) (o : Optional) → n ≤ 17 → Free (nodes_of n o) → Shallow (nodes_of n o)
  shallow_of n Optional.absent le h = none
  shallow_of n (Optional.present a) le h = shallow n a le h
