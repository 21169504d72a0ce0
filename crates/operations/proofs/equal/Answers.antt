use Rattle.std.proofs.Common.{◌≡◌, ◌&&◌, List, [], ◌∷◌, ℤ, Ordering, Less, Equal, Greater, ap, ◌∙◌, refl}
use Rattle.std.specs.Ordering.{is_eq, ordering_then, int_cmp, int_eq}
use Rattle.std.specs.Cmp.Lexicographic.{pointwise}
use Rattle.values.specs.Value.{by_cells}
use Rattle.operations.proofs.equal.Goals as goal

both : (o p : Ordering) → (is_eq o && is_eq p) ≡ is_eq (ordering_then o p)
both Less p = refl
both Equal p = refl
both Greater p = refl

same : (a b : List ℤ) → pointwise int_eq a b ≡ is_eq (by_cells a b)
same [] [] = refl
same [] (y ∷ b) = refl
same (x ∷ a) [] = refl
same (x ∷ a) (y ∷ b) = ap (λ t. int_eq x y && t) (same a b) ∙ both (int_cmp x y) (by_cells a b)

pub returns-in_default : goal.returns-in_default
returns-in_default c = c.eq.ensures ∙ same c.args.a.now c.args.b.now
