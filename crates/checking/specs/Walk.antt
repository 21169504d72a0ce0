-- How check goes through the entries of a draft, and what it notes on the way. On the entries of a tree it notes what the tree shows
-- (proofs `Walking`); any other entries come to an end too.
use Rattle.std.specs.Prelude.{ℕ, zero, suc, ◌+◌, min, Bool, cond, ◌||◌, List, [], ◌∷◌, ◌++◌, length, drop, Some, None, Option, ◌==◌, nat_lt, slice_index_or}
use Rattle.syntax.specs.Tree.{Name}
use Rattle.syntax.specs.Names.{among, Occurrence}
use Rattle.reading.specs.declared.entry.Span.{Span}
use Rattle.reading.specs.declared.entry.Entry.{Entry}
use Rattle.reading.specs.declared.entry.Entry.TheVariants as entry
use Rattle.reading.specs.Entries.{spelled, valued}
use Rattle.checking.specs.Sightings.{Node, Number, Bound, node, numeral, part_number, bound}
use Rattle.checking.specs.Conditions.{named}

-- the smaller of a place and what was found so far
abbrev pub lower : Option ℕ → ℕ → Option ℕ
lower None p = Some p
lower (Some q) p = Some (min q p)

abbrev pub lower_if : Bool → Option ℕ → ℕ → Option ℕ
lower_if b o p = cond b (lower o p) o

-- free names, up to sixteen, and the place of the next
pub record Tally : Type 0 where
  pub free : List Occurrence
  pub next : Option ℕ

-- what was found so far: the smallest places of three conditions, and the free names
pub record Seen : Type 0 where
  pub deep : Option ℕ
  pub outside : Option ℕ
  pub repeated : Option ℕ
  pub names : Tally

abbrev pub unseen : Seen
unseen = record { deep = None; outside = None; repeated = None; names = record { free = []; next = None } }

-- ---- one thing seen

abbrev pub too_deep : Node → Bool
too_deep x = x.level == 17

abbrev pub out_of_bounds : Number → Bool
out_of_bounds x = nat_lt x.value x.least || nat_lt x.most x.value

abbrev pub stands_earlier : Bound → Bool
stands_earlier x = among x.name x.earlier

abbrev pub see_node : Node → Seen → Seen
see_node x s = record { deep = lower_if (too_deep x) s.deep x.place; outside = s.outside; repeated = s.repeated; names = s.names }

abbrev pub see_number : Number → Seen → Seen
see_number x s = record { deep = s.deep; outside = lower_if (out_of_bounds x) s.outside x.place; repeated = s.repeated; names = s.names }

abbrev pub see_bound : Bound → Seen → Seen
see_bound x s = record { deep = s.deep; outside = s.outside; repeated = lower_if (stands_earlier x) s.repeated x.place; names = s.names }

-- a new name: noted, or the first that there is no room for
abbrev pub or_else : Option ℕ → ℕ → Option ℕ
or_else None p = Some p
or_else (Some q) p = Some q

abbrev pub count : Occurrence → Tally → Tally
count o t =
    cond (among o.name (named t.free)) t
    (cond (nat_lt (length t.free) 16) (record { free = t.free ++ o ∷ []; next = t.next }) (record { free = t.free; next = or_else t.next o.place }))

-- a name under the names in sight
abbrev pub see_name : List Name → Occurrence → Seen → Seen
see_name ns o s = record { deep = s.deep; outside = s.outside; repeated = s.repeated; names = cond (among o.name ns) s.names (count o s.names) }

-- one more name in sight, while there is room
abbrev pub bind : List Name → Name → List Name
bind ns n = cond (nat_lt (length ns) 2048) (ns ++ n ∷ []) ns

-- ---- entries

-- the node and the next of a list
pub record Item : Type 0 where
  pub node : ℕ
  pub next : Option ℕ

pub record Arm : Type 0 where
  pub pattern : ℕ
  pub right : ℕ
  pub next : Option ℕ

abbrev pub entry_item : Entry → Option Item
entry_item (entry.Item i r) = Some (record { node = i; next = r })
entry_item entry.Empty = None
entry_item (entry.Numeral w) = None
entry_item (entry.Truth p b) = None
entry_item (entry.Name w) = None
entry_item (entry.Unary p o i) = None
entry_item (entry.Binary p o i j) = None
entry_item (entry.Connective p o i j) = None
entry_item (entry.If p i j k) = None
entry_item (entry.Let p w i j) = None
entry_item (entry.LetBe p w i j k) = None
entry_item (entry.Cases p i j r) = None
entry_item (entry.Quantifier p o w i j) = None
entry_item (entry.Collection p k r) = None
entry_item (entry.Range p i j) = None
entry_item (entry.Comprehension p k i w j r) = None
entry_item (entry.Selection p i w) = None
entry_item (entry.Alternative i j r) = None
entry_item (entry.AnyPattern p) = None
entry_item (entry.NamePattern w) = None
entry_item (entry.NumeralPattern w) = None
entry_item (entry.TruthPattern p b) = None
entry_item (entry.PartsPattern p k r) = None

abbrev pub entry_arm : Entry → Option Arm
entry_arm (entry.Alternative i j r) = Some (record { pattern = i; right = j; next = r })
entry_arm entry.Empty = None
entry_arm (entry.Numeral w) = None
entry_arm (entry.Truth p b) = None
entry_arm (entry.Name w) = None
entry_arm (entry.Unary p o i) = None
entry_arm (entry.Binary p o i j) = None
entry_arm (entry.Connective p o i j) = None
entry_arm (entry.If p i j k) = None
entry_arm (entry.Let p w i j) = None
entry_arm (entry.LetBe p w i j k) = None
entry_arm (entry.Cases p i j r) = None
entry_arm (entry.Quantifier p o w i j) = None
entry_arm (entry.Collection p k r) = None
entry_arm (entry.Range p i j) = None
entry_arm (entry.Comprehension p k i w j r) = None
entry_arm (entry.Selection p i w) = None
entry_arm (entry.Item i r) = None
entry_arm (entry.AnyPattern p) = None
entry_arm (entry.NamePattern w) = None
entry_arm (entry.NumeralPattern w) = None
entry_arm (entry.TruthPattern p b) = None
entry_arm (entry.PartsPattern p k r) = None

-- names in sight, and what was found
pub record Trail : Type 0 where
  pub names : List Name
  pub seen : Seen

-- the walks through the parts of a tree; `from` is the number of names in sight before the pattern
pub record Walks : Type 0 where
  pub tree : ℕ → ℕ → List Name → Seen → Seen
  pub items : Option ℕ → ℕ → List Name → Seen → Seen
  pub arms : Option ℕ → ℕ → List Name → Seen → Seen
  pub pattern : ℕ → ℕ → ℕ → Trail → Trail
  pub patterns : ℕ → Option ℕ → ℕ → Trail → Trail

abbrev pub nowhere : Walks
nowhere = record { tree = λ i l ns s. s; items = λ r l ns s. s; arms = λ r l ns s. s; pattern = λ from i l t. t; patterns = λ from r l t. t }

abbrev pub seeing : Trail → Seen → Trail
seeing t s = record { names = t.names; seen = s }

module _ (text : List ℕ) where
  abbrev pub occurrence : Span → Occurrence
  occurrence w = record { place = w.place; name = spelled text w }

  -- a pattern on level l, by the walks through its parts
  abbrev pub visit_pattern : Walks → ℕ → Entry → ℕ → Trail → Trail
  visit_pattern w from (entry.AnyPattern p) l t = seeing t (see_node (node p l) t.seen)
  visit_pattern w from (entry.NamePattern x) l t =
      record {
        names = bind t.names (spelled text x);
        seen = see_bound (bound x.place (spelled text x) (drop from t.names)) (see_node (node x.place l) t.seen);
      }
  visit_pattern w from (entry.NumeralPattern x) l t = seeing t (see_number (numeral x.place (valued text x)) (see_node (node x.place l) t.seen))
  visit_pattern w from (entry.TruthPattern p b) l t = seeing t (see_node (node p l) t.seen)
  visit_pattern w from (entry.PartsPattern p k r) l t = w.patterns from r (l + 1) (seeing t (see_node (node p l) t.seen))
  visit_pattern w from entry.Empty l t = t
  visit_pattern w from (entry.Numeral x) l t = t
  visit_pattern w from (entry.Truth p b) l t = t
  visit_pattern w from (entry.Name x) l t = t
  visit_pattern w from (entry.Unary p o i) l t = t
  visit_pattern w from (entry.Binary p o i j) l t = t
  visit_pattern w from (entry.Connective p o i j) l t = t
  visit_pattern w from (entry.If p i j k) l t = t
  visit_pattern w from (entry.Let p x i j) l t = t
  visit_pattern w from (entry.LetBe p x i j k) l t = t
  visit_pattern w from (entry.Cases p i j r) l t = t
  visit_pattern w from (entry.Quantifier p o x i j) l t = t
  visit_pattern w from (entry.Collection p k r) l t = t
  visit_pattern w from (entry.Range p i j) l t = t
  visit_pattern w from (entry.Comprehension p k i x j r) l t = t
  visit_pattern w from (entry.Selection p i x) l t = t
  visit_pattern w from (entry.Item i r) l t = t
  visit_pattern w from (entry.Alternative i j r) l t = t

  abbrev pub visit_patterns : Walks → ℕ → Option Item → ℕ → Trail → Trail
  visit_patterns w from None l t = t
  visit_patterns w from (Some x) l t = w.patterns from x.next l (w.pattern from x.node l t)

  -- what may be absent
  abbrev pub visit_optional : Walks → Option ℕ → ℕ → List Name → Seen → Seen
  visit_optional w None l ns s = s
  visit_optional w (Some i) l ns s = w.tree i l ns s

  -- an expression in which one more name is in sight
  abbrev pub visit_under : Walks → Span → ℕ → ℕ → List Name → Seen → Seen
  visit_under w x i l ns s = w.tree i l (bind ns (spelled text x)) s

  -- a condition, in which one more name is in sight
  abbrev pub visit_filter : Walks → Span → Option ℕ → ℕ → List Name → Seen → Seen
  visit_filter w x None l ns s = s
  visit_filter w x (Some i) l ns s = visit_under w x i l ns s

  -- an expression on level l under the names in sight
  abbrev pub visit : Walks → Entry → ℕ → List Name → Seen → Seen
  visit w (entry.Numeral x) l ns s = see_number (numeral x.place (valued text x)) (see_node (node x.place l) s)
  visit w (entry.Truth p b) l ns s = see_node (node p l) s
  visit w (entry.Name x) l ns s = see_name ns (occurrence x) (see_node (node x.place l) s)
  visit w (entry.Unary p o i) l ns s = w.tree i (l + 1) ns (see_node (node p l) s)
  visit w (entry.Binary p o i j) l ns s = w.tree j (l + 1) ns (w.tree i (l + 1) ns (see_node (node p l) s))
  visit w (entry.Connective p o i j) l ns s = w.tree j (l + 1) ns (w.tree i (l + 1) ns (see_node (node p l) s))
  visit w (entry.If p i j k) l ns s = w.tree k (l + 1) ns (w.tree j (l + 1) ns (w.tree i (l + 1) ns (see_node (node p l) s)))
  visit w (entry.Let p x i j) l ns s = visit_under w x j (l + 1) ns (w.tree i (l + 1) ns (see_node (node p l) s))
  visit w (entry.LetBe p x i j k) l ns s = visit_under w x k (l + 1) ns (visit_under w x j (l + 1) ns (w.tree i (l + 1) ns (see_node (node p l) s)))
  visit w (entry.Cases p i j r) l ns s = visit_optional w r (l + 1) ns (w.arms (Some j) (l + 1) ns (w.tree i (l + 1) ns (see_node (node p l) s)))
  visit w (entry.Quantifier p o x i j) l ns s = visit_under w x j (l + 1) ns (w.tree i (l + 1) ns (see_node (node p l) s))
  visit w (entry.Collection p k r) l ns s = w.items r (l + 1) ns (see_node (node p l) s)
  visit w (entry.Range p i j) l ns s = w.tree j (l + 1) ns (w.tree i (l + 1) ns (see_node (node p l) s))
  visit w (entry.Comprehension p k i x j r) l ns s = visit_filter w x r (l + 1) ns (w.tree j (l + 1) ns (visit_under w x i (l + 1) ns (see_node (node p l) s)))
  visit w (entry.Selection p i x) l ns s = w.tree i (l + 1) ns (see_number (part_number p (valued text x)) (see_node (node p l) s))
  visit w entry.Empty l ns s = s
  visit w (entry.Item i r) l ns s = s
  visit w (entry.Alternative i j r) l ns s = s
  visit w (entry.AnyPattern p) l ns s = s
  visit w (entry.NamePattern x) l ns s = s
  visit w (entry.NumeralPattern x) l ns s = s
  visit w (entry.TruthPattern p b) l ns s = s
  visit w (entry.PartsPattern p k r) l ns s = s

  abbrev pub visit_items : Walks → Option Item → ℕ → List Name → Seen → Seen
  visit_items w None l ns s = s
  visit_items w (Some x) l ns s = w.items x.next l ns (w.tree x.node l ns s)

  -- the right side of an alternative, under the names of its pattern
  abbrev pub visit_right : Walks → ℕ → ℕ → Trail → Seen
  visit_right w i l t = w.tree i l t.names t.seen

  abbrev pub visit_arm : Walks → Arm → ℕ → List Name → Seen → Seen
  visit_arm w x l ns s = visit_right w x.right l (w.pattern (length ns) x.pattern l (record { names = ns; seen = s }))

  abbrev pub visit_arms : Walks → Option Arm → ℕ → List Name → Seen → Seen
  visit_arms w None l ns s = s
  visit_arms w (Some x) l ns s = w.arms x.next l ns (visit_arm w x l ns s)

-- the link that an index names, where there is one
abbrev pub linked : {A : Type 0} → List Entry → (Entry → Option A) → Option ℕ → Option A
linked es f None = None
linked es f (Some i) = f (slice_index_or es i entry.Empty)

-- walks that go one entry deeper
abbrev pub further : List ℕ → List Entry → Walks → Walks
further text es w =
    record {
      tree = λ i l ns s. visit text w (slice_index_or es i entry.Empty) l ns s;
      items = λ r l ns s. visit_items text w (linked es entry_item r) l ns s;
      arms = λ r l ns s. visit_arms text w (linked es entry_arm r) l ns s;
      pattern = λ from i l t. visit_pattern text w from (slice_index_or es i entry.Empty) l t;
      patterns = λ from r l t. visit_patterns text w from (linked es entry_item r) l t;
    }

-- The walks that go at most n entries deep.
unfoldable pub walks : List ℕ → List Entry → ℕ → Walks
walks text es zero = nowhere
walks text es (suc n) = further text es (walks text es n)
