-- What the functions that go through a draft promise.
use Rattle.std.specs.Prelude.{◌≡◌, ℕ, List, length, drop, Option, slice_index_or}
use Rattle.std.specs.Option.{option_map_or}
use Rattle.syntax.specs.Tree.{Name}
use Rattle.reading.specs.declared.entry.Span.{Span}
use Rattle.reading.specs.declared.entry.Entry.{Entry}
use Rattle.reading.specs.declared.entry.Entry.TheVariants as entry
use Rattle.reading.specs.Entries.{spelled, valued}
use Rattle.checking.specs.declared.spans.Bounds.{Bounds}
use Rattle.checking.specs.declared.walk.Source.{Source}
use Rattle.checking.specs.declared.walk.Walk.{Walk}
use Rattle.checking.specs.Sightings.{node, bound}
use Rattle.checking.specs.Walk.{Seen, Trail, Walks, walks, bind, occurrence, see_node, see_number, see_bound, see_name, visit_under, visit_filter, visit_optional, visit_right}
use Rattle.checking.specs.Scopes.{sighted, Kept, Grew}
use Rattle.checking.specs.Found.{number_of, seen}

abbrev pub text_of : Source → List ℕ
text_of src = src.text.now

-- the walks that go at most n entries deep
abbrev pub reach : Source → ℕ → Walks
reach src n = walks src.text.now src.entries.now n

abbrev pub in_sight : Walk → List Name
in_sight w = sighted (text_of w.src) w.scope

abbrev pub noted : Walk → Seen
noted w = seen (text_of w.src) w.found

-- a step through the tree of a draft
abbrev pub Step : Type 0
Step = Source → List Name → Seen → Seen

-- the names in sight are those from before, and what was found is what `go` says
pub record Walked (w w' : Walk) (go : Step) : Type 0 where
  pub source : w'.src ≡ w.src
  pub kept : Kept w.scope w'.scope
  pub found : noted w' ≡ go w.src (in_sight w) (noted w)

abbrev pub trail : Walk → Trail
trail w = record { names = in_sight w; seen = noted w }

-- a step through a pattern
abbrev pub Match : Type 0
Match = Source → Trail → Trail

-- the names of a pattern come into sight, behind those from before
pub record Matched (w w' : Walk) (go : Match) : Type 0 where
  pub source : w'.src ≡ w.src
  pub grew : Grew w.scope w'.scope
  pub found : trail w' ≡ go w.src (trail w)

-- the entry that a link names
abbrev pub entry_at : List Entry → Option ℕ → Entry
entry_at es r = option_map_or (λ i. slice_index_or es i entry.Empty) r entry.Empty

-- ---- steps

abbrev pub node_on : ℕ → ℕ → Step
node_on p l src ns s = see_node (node p l) s

abbrev pub number_within : ℕ → Span → Bounds → Step
number_within p x b src ns s = see_number (number_of p (valued (text_of src) x) b) s

abbrev pub name_at : Span → Step
name_at x src ns s = see_name ns (occurrence (text_of src) x) s

abbrev pub name_bound : Span → Match
name_bound x src t = record { names = bind t.names (spelled (text_of src) x); seen = t.seen }

abbrev pub bound_from : ℕ → Span → Match
bound_from from x src t =
    record {
      names = bind t.names (spelled (text_of src) x);
      seen = see_bound (bound x.place (spelled (text_of src) x) (drop from t.names)) t.seen;
    }

-- what the walks do that go at most n entries deep and start on level l
abbrev pub pattern_at : ℕ → ℕ → ℕ → ℕ → Match
pattern_at from i n l src t = (reach src n).pattern from i l t

abbrev pub patterns_at : ℕ → Option ℕ → ℕ → ℕ → Match
patterns_at from r n l src t = (reach src n).patterns from r l t

abbrev pub tree_at : ℕ → ℕ → ℕ → Step
tree_at i n l src ns s = (reach src n).tree i l ns s

abbrev pub items_at : Option ℕ → ℕ → ℕ → Step
items_at r n l src ns s = (reach src n).items r l ns s

abbrev pub arms_at : Option ℕ → ℕ → ℕ → Step
arms_at r n l src ns s = (reach src n).arms r l ns s

abbrev pub under_at : Span → ℕ → ℕ → ℕ → Step
under_at x i n l src ns s = visit_under (text_of src) (reach src n) x i l ns s

abbrev pub filter_at : Span → Option ℕ → ℕ → ℕ → Step
filter_at x r n l src ns s = visit_filter (text_of src) (reach src n) x r l ns s

abbrev pub optional_at : Option ℕ → ℕ → ℕ → Step
optional_at r n l src ns s = visit_optional (text_of src) (reach src n) r l ns s

-- a pattern, and a right side under its names
abbrev pub side_at : ℕ → ℕ → ℕ → ℕ → Step
side_at i j n l src ns s = visit_right (text_of src) (reach src n) j l ((reach src n).pattern (length ns) i l (record { names = ns; seen = s }))
