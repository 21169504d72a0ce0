-- Which names are free, by computation.
use Rattle.std.specs.Prelude.{◌≡◌, [], ◌∷◌, codes, refl}
use Rattle.syntax.specs.Tree.{Name, name, let_in}
use Rattle.syntax.specs.Names.{free}

abbrev x : Name
x = codes "x"

-- `let x = x in x`: the x behind `=` stands outside
let_outside : free (let_in 0 x (name 8 x) (name 13 x)) [] ≡ record { place = 8; name = x } ∷ []
unfolding free
let_outside = refl
