use Rattle.std.proofs.Common.{◌≡◌, ◌||◌, List, [], ◌∷◌, map, refl, ap, ◌∙◌, rules, tests}
use Rattle.std.specs.List.{list_any}
use Rattle.std.proofs.lemmas.Iterator.{YieldsList-from_slice}
use Rattle.std.proofs.lemmas.Iterator.Search.{any_from_yields_List}
use Rattle.std.proofs.lemmas.Slice.Eq.{slice_eq-Decides}
use Rattle.std.proofs.lemmas.Bool.Decides.{Decides-eqb}
use Rattle.syntax.specs.Tree.{Name}
use Rattle.syntax.proofs.Names.{same_test}
use Rattle.syntax.specs.Names.{same, among}
use Rattle.reading.specs.declared.entry.Span.{Span}
use Rattle.reading.specs.Entries.{spelled}
use Rattle.checking.proofs.spans.among.Goals as goal

among_any : (n : Name) (f : Span → Name) (us : List Span) → list_any (λ u. same n (f u)) us ≡ among n (map f us)
among_any n f [] = refl
among_any n f (u ∷ us) = ap (λ b. same n (f u) || b) (among_any n f us)

pub returns : goal.returns
returns c =
    let text = c.args.text.now in
    let n = spelled text c.args.name in
    any_from_yields_List (λ (u : Span). same n (spelled text u)) _ _ c.any.result c.any.ensures.ran (YieldsList-from_slice c.args.names.now cc) (λ x b q k. search (rules, tests, same_test, slice_eq-Decides, Decides-eqb)) ∙ among_any n (spelled text) c.args.names.now
