-- The names in sight.
use Rattle.std.specs.Prelude.{◌≡◌, ℕ, List, map}
use Rattle.arrayvec.specs.ArrayVec.{ArrayVec, Extends}
use Rattle.syntax.specs.Tree.{Name}
use Rattle.reading.specs.declared.entry.Span.{Span}
use Rattle.reading.specs.Entries.{spelled}

abbrev pub Scope : Type 0
Scope = ArrayVec Span

abbrev pub sighted : List ℕ → Scope → List Name
sighted text s = map (spelled text) s.items

-- the names in sight are those from before
abbrev pub Kept : Scope → Scope → Type 0
Kept s s' = s'.items ≡ s.items

-- those from before are still there, in front
pub record Grew (s s' : Scope) : Type 0 where
  pub more : List Span
  pub grown : Extends s more s'
