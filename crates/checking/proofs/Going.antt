-- Going through a draft, step by step.
use Rattle.std.proofs.Common.{◌≡◌, ℕ, ◌+◌, ◌-◌, List, [], ◌++◌, map, get_or, Some, None, Option, sym, refl, ap, ◌∙◌, subst, append_assoc, append-nil, add-one, arith}
use Rattle.reading.specs.declared.entry.Entry.{Entry}
use Rattle.reading.specs.declared.entry.Entry.TheVariants as entry
use Rattle.reading.specs.Entries.{spelled}
use Rattle.checking.specs.declared.walk.Walk.{Walk}
use Rattle.checking.specs.Walk.{nowhere, seeing, further, walks, linked, entry_item, entry_arm, visit, visit_items, visit_arms, visit_pattern, visit_patterns}
use Rattle.checking.specs.Scopes.{Scope, Grew}
use Rattle.checking.specs.Walked.{text_of, reach, in_sight, noted, trail, Step, Match, Walked, Matched, entry_at, tree_at, items_at, arms_at, pattern_at, patterns_at}

-- ---- fuel

pub walks_none : (text : List ℕ) (es : List Entry) (n : ℕ) → n ≡ 0 → walks text es n ≡ nowhere
unfolding walks
walks_none text es n e = ap (walks text es) e

pub walks_next : (text : List ℕ) (es : List Entry) (n m : ℕ) → n ≡ m + 1 → walks text es n ≡ further text es (walks text es m)
unfolding walks
walks_next text es n m e = ap (walks text es) (e ∙ add-one m)

pub walks_more : (text : List ℕ) (es : List Entry) (n : ℕ) → (n ≡ 0 → ⊥) → walks text es n ≡ further text es (walks text es (n - 1))
walks_more text es n h = walks_next text es n (n - 1) (omega arith)

-- ---- steps

-- where a step does nothing
pub staying : {w : Walk} {go : Step} → go w.src (in_sight w) (noted w) ≡ noted w → Walked w w go
staying e = record { source = refl; kept = refl; found = sym e }

pub resting : {w : Walk} {go : Match} → go w.src (trail w) ≡ trail w → Matched w w go
resting e = record { source = refl; grew = record { more = []; grown = sym (append-nil _) }; found = sym e }

pub then : {w w' w'' : Walk} {go go' : Step} → Walked w w' go → Walked w' w'' go' → Walked w w'' (λ src ns s. go' src ns (go src ns s))
then {go' = go'} a b =
    record {
      source = b.source ∙ a.source;
      kept = b.kept ∙ a.kept;
      found = b.found ∙ (λ i. go' (a.source i) (map (spelled (text_of (a.source i))) (a.kept i)) (a.found i));
    }

grew_then : {s s' s'' : Scope} → Grew s s' → Grew s' s'' → Grew s s''
grew_then {s} a b = record { more = a.more ++ b.more; grown = b.grown ∙ ap (λ us. us ++ b.more) a.grown ∙ append_assoc s.items a.more b.more }

pub matched : {w w' : Walk} {go : Step} → Walked w w' go → Matched w w' (λ src t. seeing t (go src t.names t.seen))
matched a =
    record {
      source = a.source;
      grew = record { more = []; grown = a.kept ∙ sym (append-nil _) };
      found = λ i. record { names = map (spelled (text_of (a.source i))) (a.kept i); seen = a.found i };
    }

pub then_matched : {w w' w'' : Walk} {go go' : Match} → Matched w w' go → Matched w' w'' go' → Matched w w'' (λ src t. go' src (go src t))
then_matched {go' = go'} a b =
    record { source = b.source ∙ a.source; grew = grew_then a.grew b.grew; found = b.found ∙ (λ i. go' (a.source i) (a.found i)) }

-- the same on a level that is the same
pub on : {w w' : Walk} {k l : ℕ} → k ≡ l → (go : ℕ → Step) → Walked w w' (go k) → Walked w w' (go l)
on {w} {w'} e go a = subst (λ j. Walked w w' (go j)) e a

pub on_matched : {w w' : Walk} {k l : ℕ} → k ≡ l → (go : ℕ → Match) → Matched w w' (go k) → Matched w w' (go l)
on_matched {w} {w'} e go a = subst (λ j. Matched w w' (go j)) e a

-- ---- no fuel

module _ {w : Walk} {n : ℕ} (e : n ≡ 0) where
  pub no_pattern_left : (from i l : ℕ) → Matched w w (pattern_at from i n l)
  no_pattern_left from i l = resting (ap (λ x. x.pattern from i l (trail w)) (walks_none (text_of w.src) w.src.entries.now n e))

  pub no_patterns_left : (from : ℕ) (r : Option ℕ) (l : ℕ) → Matched w w (patterns_at from r n l)
  no_patterns_left from r l = resting (ap (λ x. x.patterns from r l (trail w)) (walks_none (text_of w.src) w.src.entries.now n e))

  pub no_tree_left : (i l : ℕ) → Walked w w (tree_at i n l)
  no_tree_left i l = staying (ap (λ x. x.tree i l (in_sight w) (noted w)) (walks_none (text_of w.src) w.src.entries.now n e))

  pub no_items_left : (r : Option ℕ) (l : ℕ) → Walked w w (items_at r n l)
  no_items_left r l = staying (ap (λ x. x.items r l (in_sight w) (noted w)) (walks_none (text_of w.src) w.src.entries.now n e))

  pub no_arms_left : (r : Option ℕ) (l : ℕ) → Walked w w (arms_at r n l)
  no_arms_left r l = staying (ap (λ x. x.arms r l (in_sight w) (noted w)) (walks_none (text_of w.src) w.src.entries.now n e))

-- ---- one entry further

item_linked : (es : List Entry) (r : Option ℕ) → linked es entry_item r ≡ entry_item (entry_at es r)
item_linked es None = refl
item_linked es (Some i) = refl

arm_linked : (es : List Entry) (r : Option ℕ) → linked es entry_arm r ≡ entry_arm (entry_at es r)
arm_linked es None = refl
arm_linked es (Some i) = refl

-- a walk does at its first entry what is done there, and goes on with one less of fuel
instead : {w w' : Walk} {go go' : Step} → go' w.src (in_sight w) (noted w) ≡ go w.src (in_sight w) (noted w) → Walked w w' go → Walked w w' go'
instead e a = record { source = a.source; kept = a.kept; found = a.found ∙ sym e }

instead_matched : {w w' : Walk} {go go' : Match} → go' w.src (trail w) ≡ go w.src (trail w) → Matched w w' go → Matched w w' go'
instead_matched e a = record { source = a.source; grew = a.grew; found = a.found ∙ sym e }

module _ {w w' : Walk} {n : ℕ} {e : Entry} (m l : ℕ) (next : n ≡ m + 1) where
  module _ (i : ℕ) (is : get_or w.src.entries.now i entry.Empty ≡ e) where
    pub into_pattern : (from : ℕ) → Matched w w' (λ src t. visit_pattern (text_of src) (reach src m) from e l t) → Matched w w' (pattern_at from i n l)
    into_pattern from = instead_matched (ap (λ x. x.pattern from i l (trail w)) (walks_next (text_of w.src) w.src.entries.now n m next) ∙ ap (λ x. visit_pattern (text_of w.src) (reach w.src m) from x l (trail w)) is)

    pub into_tree : Walked w w' (λ src ns s. visit (text_of src) (reach src m) e l ns s) → Walked w w' (tree_at i n l)
    into_tree = instead (ap (λ x. x.tree i l (in_sight w) (noted w)) (walks_next (text_of w.src) w.src.entries.now n m next) ∙ ap (λ x. visit (text_of w.src) (reach w.src m) x l (in_sight w) (noted w)) is)

  module _ (r : Option ℕ) (is : entry_at w.src.entries.now r ≡ e) where
    pub into_patterns : (from : ℕ) → Matched w w' (λ src t. visit_patterns (text_of src) (reach src m) from (entry_item e) l t) → Matched w w' (patterns_at from r n l)
    into_patterns from =
        instead_matched
        (ap (λ x. x.patterns from r l (trail w)) (walks_next (text_of w.src) w.src.entries.now n m next) ∙ ap (λ x. visit_patterns (text_of w.src) (reach w.src m) from x l (trail w)) (item_linked w.src.entries.now r ∙ ap entry_item is))

    pub into_items : Walked w w' (λ src ns s. visit_items (text_of src) (reach src m) (entry_item e) l ns s) → Walked w w' (items_at r n l)
    into_items =
        instead
        (ap (λ x. x.items r l (in_sight w) (noted w)) (walks_next (text_of w.src) w.src.entries.now n m next) ∙ ap (λ x. visit_items (text_of w.src) (reach w.src m) x l (in_sight w) (noted w)) (item_linked w.src.entries.now r ∙ ap entry_item is))

    pub into_arms : Walked w w' (λ src ns s. visit_arms (text_of src) (reach src m) (entry_arm e) l ns s) → Walked w w' (arms_at r n l)
    into_arms =
        instead
        (ap (λ x. x.arms r l (in_sight w) (noted w)) (walks_next (text_of w.src) w.src.entries.now n m next) ∙ ap (λ x. visit_arms (text_of w.src) (reach w.src m) x l (in_sight w) (noted w)) (arm_linked w.src.entries.now r ∙ ap entry_arm is))
