-- What a tree shows, noted part by part.
use Rattle.std.proofs.Common.{◌≡◌, ℕ, Bool, List, [], ◌∷◌, ◌++◌, Option, sym, refl, ◌∙◌}
use Rattle.syntax.specs.Tree.{Place, Name, Pattern, Patterns, Tree, Trees, Alternatives, Optional}
use Rattle.syntax.specs.Names.{Occurrence, free, free_all, free_in, free_of}
use Rattle.checking.specs.Sightings.{Node, Number, Bound, node, nodes, nodes_all, nodes_in, nodes_of, numbers, numbers_all, numbers_in, numbers_of, bounds, bounds_all, bounds_in, bounds_of, pattern_nodes, patterns_nodes, pattern_numbers, patterns_numbers, pattern_bounds, patterns_bounds}
use Rattle.checking.specs.Walk.{Tally, Seen, lower_if, too_deep, out_of_bounds, stands_earlier, count}

-- the smallest place of those that a test takes
abbrev pub lowers : {A : Type 0} → (A → Bool) → (A → Place) → Option ℕ → List A → Option ℕ
lowers test place o [] = o
lowers test place o (x ∷ xs) = lowers test place (lower_if (test x) o (place x)) xs

pub lowers_append : {A : Type 0} (test : A → Bool) (place : A → Place) (o : Option ℕ) (xs ys : List A) → lowers test place o (xs ++ ys) ≡ lowers test place (lowers test place o xs) ys
lowers_append test place o [] ys = refl
lowers_append test place o (x ∷ xs) ys = lowers_append test place (lower_if (test x) o (place x)) xs ys

abbrev pub counted : Tally → List Occurrence → Tally
counted t [] = t
counted t (o ∷ os) = counted (count o t) os

pub counted_append : (t : Tally) (xs ys : List Occurrence) → counted t (xs ++ ys) ≡ counted (counted t xs) ys
counted_append t [] ys = refl
counted_append t (x ∷ xs) ys = counted_append (count x t) xs ys

-- what check looks at, in one
pub record Survey : Type 0 where
  pub nodes : List Node
  pub numbers : List Number
  pub bounds : List Bound
  pub free : List Occurrence

infixr 60 ◌⊕◌
abbrev pub ◌⊕◌ : Survey → Survey → Survey
v ⊕ w = record { nodes = v.nodes ++ w.nodes; numbers = v.numbers ++ w.numbers; bounds = v.bounds ++ w.bounds; free = v.free ++ w.free }

abbrev pub blank : Survey
blank = record { nodes = []; numbers = []; bounds = []; free = [] }

abbrev pub own : Place → ℕ → Survey
own p l = record { nodes = node p l ∷ []; numbers = []; bounds = []; free = [] }

abbrev pub stated : Number → Survey
stated x = record { nodes = []; numbers = x ∷ []; bounds = []; free = [] }

-- noted behind what was found before
abbrev pub note : Seen → Survey → Seen
note s v =
    record {
      deep = lowers too_deep (λ (x : Node). x.place) s.deep v.nodes;
      outside = lowers out_of_bounds (λ (x : Number). x.place) s.outside v.numbers;
      repeated = lowers stands_earlier (λ (x : Bound). x.place) s.repeated v.bounds;
      names = counted s.names v.free;
    }

pub joins : (s : Seen) (v w : Survey) → note (note s v) w ≡ note s (v ⊕ w)
joins s v w = sym (λ i.
    record {
      deep = lowers_append too_deep (λ (x : Node). x.place) s.deep v.nodes w.nodes i;
      outside = lowers_append out_of_bounds (λ (x : Number). x.place) s.outside v.numbers w.numbers i;
      repeated = lowers_append stands_earlier (λ (x : Bound). x.place) s.repeated v.bounds w.bounds i;
      names = counted_append s.names v.free w.free i;
    })

pub joins_2 : (s : Seen) (v w x : Survey) → note (note (note s v) w) x ≡ note s (v ⊕ (w ⊕ x))
joins_2 s v w x = joins (note s v) w x ∙ joins s v (w ⊕ x)

pub joins_3 : (s : Seen) (v w x y : Survey) → note (note (note (note s v) w) x) y ≡ note s (v ⊕ (w ⊕ (x ⊕ y)))
joins_3 s v w x y = joins_2 (note s v) w x y ∙ joins s v (w ⊕ (x ⊕ y))

-- of a tree on level l under bound names, and of its parts
abbrev pub survey : ℕ → List Name → Tree → Survey
survey l bs t = record { nodes = nodes l t; numbers = numbers t; bounds = bounds t; free = free t bs }

abbrev pub survey_all : ℕ → List Name → Trees → Survey
survey_all l bs ts = record { nodes = nodes_all l ts; numbers = numbers_all ts; bounds = bounds_all ts; free = free_all ts bs }

abbrev pub survey_in : ℕ → List Name → Alternatives → Survey
survey_in l bs cs = record { nodes = nodes_in l cs; numbers = numbers_in cs; bounds = bounds_in cs; free = free_in cs bs }

abbrev pub survey_of : ℕ → List Name → Optional → Survey
survey_of l bs o = record { nodes = nodes_of l o; numbers = numbers_of o; bounds = bounds_of o; free = free_of o bs }

abbrev pub survey_pattern : ℕ → List Name → Pattern → Survey
survey_pattern l earlier p = record { nodes = pattern_nodes l p; numbers = pattern_numbers p; bounds = pattern_bounds p earlier; free = [] }

abbrev pub survey_patterns : ℕ → List Name → Patterns → Survey
survey_patterns l earlier ps = record { nodes = patterns_nodes l ps; numbers = patterns_numbers ps; bounds = patterns_bounds ps earlier; free = [] }
