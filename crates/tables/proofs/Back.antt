-- The slots that a table hands back.
use Rattle.std.proofs.Common.{◌≡◌, ℕ, List, length, take, ap, ◌∙◌}
use Rattle.std.proofs.lemmas.List.{length-take, take_min}
use Rattle.tables.specs.declared.Table.{Table}
use Rattle.tables.specs.Items.{slots, items}

-- its items stand in front
pub in_front : {X : Type 0} (t : Table X) (out xs : List X) (n : ℕ) → out ≡ slots t → n ≡ length (items t) → items t ≡ xs → take n out ≡ xs
in_front t out xs n e f g = (λ i. take (f i) (e i)) ∙ ap (λ k. take k (slots t)) (length-take t.len (slots t)) ∙ take_min t.len (slots t) ∙ g
