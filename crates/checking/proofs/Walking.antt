-- On the entries of a tree, the walk notes what the tree shows.
use Rattle.std.proofs.Common.{◌≡◌, ℕ, zero, suc, ◌+◌, ◌-◌, ◌*◌, ◌<◌, ◌≤◌, Bool, true, false, cond, ◌||◌, List, [], ◌∷◌, ◌++◌, length, drop, Some, None, Option, sym, refl, ap, ◌∙◌, append_assoc, append-nil, arith, length-append, lt-ltb}
use Rattle.syntax.specs.Tree.{Name, Pattern, Patterns, Tree, Trees, Alternatives, Optional}
use Rattle.syntax.specs.Names.{among, Occurrence, names, all_names, free, free_all, free_in, free_of}
use Rattle.syntax.proofs.Names.{among_append}
use Rattle.grammar.specs.Places.{places, trees_places, alternatives_places, optional_places, pattern_places, patterns_places}
use Rattle.reading.specs.declared.entry.Span.{Span}
use Rattle.reading.specs.declared.entry.Entry.{Entry}
use Rattle.reading.specs.declared.entry.Entry.TheVariants as entry
use Rattle.reading.specs.Entries.{spelled, Stands, HoldsPattern, HoldsPatterns, Holds, HoldsItems, HoldsArms, HoldsOptional}
use Rattle.checking.specs.Sightings.{node, numeral, part_number, bound}
use Rattle.checking.specs.Walk.{Tally, Seen, Trail, count, Walks, bind, walks, entry_item, entry_arm, see_node, see_number, see_bound, see_name, visit, visit_items, visit_arms, visit_pattern, visit_patterns, visit_optional, visit_filter, visit_under, visit_right}
use Rattle.checking.proofs.Going.{walks_more}
use Rattle.checking.proofs.Surveys.{counted, Survey, ◌⊕◌, own, stated, note, joins, joins_2, joins_3, survey, survey_all, survey_in, survey_of, survey_pattern, survey_patterns}

-- ---- sizes

pub tree_size : (t : Tree) → 1 ≤ length (places t)
tree_size (Tree.numeral p n) = omega arith
tree_size (Tree.truth p b) = omega arith
tree_size (Tree.name p n) = omega arith
tree_size (Tree.unary p o a) = omega arith
tree_size (Tree.binary p o a b) = omega arith
tree_size (Tree.connective p o a b) = omega arith
tree_size (Tree.if_else p a b c) = omega arith
tree_size (Tree.let_in p n a b) = omega arith
tree_size (Tree.let_be p n a b c) = omega arith
tree_size (Tree.cases p a cs o) = omega arith
tree_size (Tree.quantifier p o n a b) = omega arith
tree_size (Tree.collection p k ts) = omega arith
tree_size (Tree.range p a b) = omega arith
tree_size (Tree.comprehension p k a n b o) = omega arith
tree_size (Tree.selection p a n) = omega arith

pub pattern_size : (p : Pattern) → 1 ≤ length (pattern_places p)
pattern_size (Pattern.any p) = omega arith
pattern_size (Pattern.binds p n) = omega arith
pattern_size (Pattern.number p n) = omega arith
pattern_size (Pattern.truth p b) = omega arith
pattern_size (Pattern.parts p k ps) = omega arith

-- a pattern binds at most as many names as it has nodes
mutual
  pub names_few : (p : Pattern) → length (names p) ≤ length (pattern_places p)
  names_few (Pattern.any p) = omega arith
  names_few (Pattern.binds p n) = omega arith
  names_few (Pattern.number p n) = omega arith
  names_few (Pattern.truth p b) = omega arith
  names_few (Pattern.parts p k ps) = omega (arith, all_names_few ps)

  all_names_few : (ps : Patterns) → length (all_names ps) ≤ length (patterns_places ps)
  all_names_few Patterns.none = omega arith
  all_names_few (Patterns.more p ps) = omega (arith, names_few p, all_names_few ps, length-append (names p) (all_names ps), length-append (pattern_places p) (patterns_places ps))

-- ---- names in sight

-- the same names, in whatever order
abbrev pub Agree : List Name → List Name → Type 0
Agree ns bs = (x : Name) → among x ns ≡ among x bs

or_turn : (a b : Bool) → (a || b) ≡ (b || a)
or_turn true true = refl
or_turn true false = refl
or_turn false true = refl
or_turn false false = refl

agree_more : (ns bs ms : List Name) → Agree ns bs → Agree (ns ++ ms) (ms ++ bs)
agree_more ns bs ms h x = among_append x ns ms ∙ ap (λ b. b || among x ms) (h x) ∙ or_turn (among x bs) (among x ms) ∙ sym (among_append x ms bs)

bound_more : (ns : List Name) (n : Name) → length ns < 2048 → bind ns n ≡ ns ++ n ∷ []
bound_more ns n h = ap (λ b. cond b (ns ++ n ∷ []) ns) (lt-ltb (length ns) 2048 h)

drop_more : (from : ℕ) (ns ms : List Name) → from ≤ length ns → drop from (ns ++ ms) ≡ drop from ns ++ ms
drop_more zero ns ms h = refl
drop_more (suc n) [] ms h = let no : ⊥ = omega arith in absurd no
drop_more (suc n) (x ∷ ns) ms h = drop_more n ns ms (omega arith)

drop_own : (ns : List Name) → drop (length ns) ns ≡ []
drop_own [] = refl
drop_own (x ∷ ns) = drop_own ns

module _ (text : List ℕ) (es : List Entry) where
  abbrev go : ℕ → Walks
  go n = walks text es n

  -- ---- one entry

  at_pattern : (n from i l : ℕ) (t : Trail) (e : Entry) → (n ≡ 0 → ⊥) → Stands es i e → (go n).pattern from i l t ≡ visit_pattern text (go (n - 1)) from e l t
  at_pattern n from i l t e h st = ap (λ w. w.pattern from i l t) (walks_more text es n h) ∙ ap (λ x. visit_pattern text (go (n - 1)) from x l t) st.is

  at_tree : (n i l : ℕ) (ns : List Name) (s : Seen) (e : Entry) → (n ≡ 0 → ⊥) → Stands es i e → (go n).tree i l ns s ≡ visit text (go (n - 1)) e l ns s
  at_tree n i l ns s e h st = ap (λ w. w.tree i l ns s) (walks_more text es n h) ∙ ap (λ x. visit text (go (n - 1)) x l ns s) st.is

  at_patterns : (n from : ℕ) (o : Option ℕ) (l : ℕ) (t : Trail) (i j : ℕ) (r : Option ℕ) → (n ≡ 0 → ⊥) → o ≡ Some i → Stands es i (entry.Item j r) → (go n).patterns from o l t ≡ (go (n - 1)).patterns from r l ((go (n - 1)).pattern from j l t)
  at_patterns n from o l t i j r h e st =
      ap (λ q. (go n).patterns from q l t) e ∙ ap (λ w. w.patterns from (Some i) l t) (walks_more text es n h) ∙ ap (λ x. visit_patterns text (go (n - 1)) from (entry_item x) l t) st.is

  no_patterns : (n from l : ℕ) (t : Trail) → (go n).patterns from None l t ≡ t
  unfolding walks
  no_patterns zero from l t = refl
  no_patterns (suc n) from l t = refl

  at_items : (n : ℕ) (o : Option ℕ) (l : ℕ) (ns : List Name) (s : Seen) (i j : ℕ) (r : Option ℕ) → (n ≡ 0 → ⊥) → o ≡ Some i → Stands es i (entry.Item j r) → (go n).items o l ns s ≡ (go (n - 1)).items r l ns ((go (n - 1)).tree j l ns s)
  at_items n o l ns s i j r h e st =
      ap (λ q. (go n).items q l ns s) e ∙ ap (λ w. w.items (Some i) l ns s) (walks_more text es n h) ∙ ap (λ x. visit_items text (go (n - 1)) (entry_item x) l ns s) st.is

  no_items : (n l : ℕ) (ns : List Name) (s : Seen) → (go n).items None l ns s ≡ s
  unfolding walks
  no_items zero l ns s = refl
  no_items (suc n) l ns s = refl

  at_arms : (n : ℕ) (o : Option ℕ) (l : ℕ) (ns : List Name) (s : Seen) (i j k : ℕ) (r : Option ℕ) → (n ≡ 0 → ⊥) → o ≡ Some i → Stands es i (entry.Alternative j k r) → (go n).arms o l ns s ≡ (go (n - 1)).arms r l ns (visit_right text (go (n - 1)) k l ((go (n - 1)).pattern (length ns) j l (record { names = ns; seen = s })))
  at_arms n o l ns s i j k r h e st =
      ap (λ q. (go n).arms q l ns s) e ∙ ap (λ w. w.arms (Some i) l ns s) (walks_more text es n h) ∙ ap (λ x. visit_arms text (go (n - 1)) (entry_arm x) l ns s) st.is

  no_arms : (n l : ℕ) (ns : List Name) (s : Seen) → (go n).arms None l ns s ≡ s
  unfolding walks
  no_arms zero l ns s = refl
  no_arms (suc n) l ns s = refl

  -- ---- patterns

  abbrev after : Trail → List Name → Survey → Trail
  after t ms v = record { names = t.names ++ ms; seen = note t.seen v }

  mutual
    pattern_walk : (p : Pattern) (i n l from : ℕ) (t : Trail) (earlier : List Name) → HoldsPattern text es i p → 2 * length (pattern_places p) ≤ n + 1 → length t.names + length (pattern_places p) ≤ 2048 → from ≤ length t.names → drop from t.names ≡ earlier → (go n).pattern from i l t ≡ after t (names p) (survey_pattern l earlier p)
    pattern_walk (Pattern.any p) i n l from t earlier h fuel room le e =
        at_pattern n from i l t (entry.AnyPattern p) (λ z. omega arith) h ∙ ap (λ ns. record { names = ns; seen = note t.seen (own p l) }) (sym (append-nil t.names))
    pattern_walk (Pattern.binds p x) i n l from t earlier (w, (st, (pl, sp))) fuel room le e =
        at_pattern n from i l t (entry.NamePattern w) (λ z. omega arith) st ∙
        (λ j. record { names = bind t.names (sp j); seen = see_bound (bound (pl j) (sp j) (e j)) (see_node (node (pl j) l) t.seen) }) ∙
        ap (λ ns. record { names = ns; seen = see_bound (bound p x earlier) (see_node (node p l) t.seen) }) (bound_more t.names x (omega arith))
    pattern_walk (Pattern.number p k) i n l from t earlier (w, (st, (pl, va))) fuel room le e =
        let all = sym (append-nil t.names) in
        at_pattern n from i l t (entry.NumeralPattern w) (λ z. omega arith) st ∙
        (λ j. record { names = all j; seen = see_number (numeral (pl j) (va j)) (see_node (node (pl j) l) t.seen) })
    pattern_walk (Pattern.truth p b) i n l from t earlier h fuel room le e =
        at_pattern n from i l t (entry.TruthPattern p b) (λ z. omega arith) h ∙ ap (λ ns. record { names = ns; seen = note t.seen (own p l) }) (sym (append-nil t.names))
    pattern_walk (Pattern.parts p k ps) i n l from t earlier (o, (st, hs)) fuel room le e =
        let t' : Trail = record { names = t.names; seen = note t.seen (own p l) } in
        at_pattern n from i l t (entry.PartsPattern p k o) (λ z. omega arith) st ∙
        patterns_walk ps o (n - 1) (l + 1) from t' earlier hs (omega arith) (omega arith) le e ∙
        ap (λ s. record { names = t.names ++ all_names ps; seen = s }) (joins t.seen (own p l) (survey_patterns (l + 1) earlier ps))

    patterns_walk : (ps : Patterns) (o : Option ℕ) (n l from : ℕ) (t : Trail) (earlier : List Name) → HoldsPatterns text es o ps → 2 * length (patterns_places ps) ≤ n → length t.names + length (patterns_places ps) ≤ 2048 → from ≤ length t.names → drop from t.names ≡ earlier → (go n).patterns from o l t ≡ after t (all_names ps) (survey_patterns l earlier ps)
    patterns_walk Patterns.none o n l from t earlier h fuel room le e =
        ap (λ r. (go n).patterns from r l t) h ∙ no_patterns n from l t ∙ ap (λ ns. record { names = ns; seen = t.seen }) (sym (append-nil t.names))
    patterns_walk (Patterns.more p ps) o n l from t earlier (i, j, (r, (h, (st, (hp, hs))))) fuel room le e =
        let sizes = length-append (pattern_places p) (patterns_places ps) in
        let size = pattern_size p in
        let few = names_few p in
        let longer = length-append t.names (names p) in
        let t' : Trail = after t (names p) (survey_pattern l earlier p) in
        let fuel_p : 2 * length (pattern_places p) ≤ n - 1 + 1 = omega arith in
        let room_p : length t.names + length (pattern_places p) ≤ 2048 = omega arith in
        let fuel_ps : 2 * length (patterns_places ps) ≤ n - 1 = omega arith in
        let room_ps : length (t.names ++ names p) + length (patterns_places ps) ≤ 2048 = omega arith in
        let le_ps : from ≤ length (t.names ++ names p) = omega arith in
        let earlier_ps = drop_more from t.names (names p) le ∙ ap (λ ns. ns ++ names p) e in
        at_patterns n from o l t i j r (λ z. omega arith) h st ∙
        ap ((go (n - 1)).patterns from r l) (pattern_walk p j (n - 1) l from t earlier hp fuel_p room_p le e) ∙
        patterns_walk ps r (n - 1) l from t' (earlier ++ names p) hs fuel_ps room_ps le_ps earlier_ps ∙
        (λ d. record { names = append_assoc t.names (names p) (all_names ps) d; seen = joins t.seen (survey_pattern l earlier p) (survey_patterns l (earlier ++ names p) ps) d })

  -- ---- expressions

  -- one more name in sight
  abbrev Fits : List Name → ℕ → Type 0
  Fits ns k = length ns + k ≤ 2048

  under_walk : (n : ℕ) (x : Span) (y : Name) (i l : ℕ) (ns : List Name) (s : Seen) (v : Survey) → spelled text x ≡ y → length ns < 2048 → (go n).tree i l (ns ++ y ∷ []) s ≡ note s v → visit_under text (go n) x i l ns s ≡ note s v
  under_walk n x y i l ns s v sp h e = ap (λ z. (go n).tree i l (bind ns z) s) sp ∙ ap (λ ms. (go n).tree i l ms s) (bound_more ns y h) ∙ e

  -- a name, free or not
  counted_if : (b : Bool) (o : Occurrence) (t : Tally) → cond b t (count o t) ≡ counted t (cond b [] (o ∷ []))
  counted_if true o t = refl
  counted_if false o t = refl

  name_walk : (l : ℕ) (ns bs : List Name) (s : Seen) (o : Occurrence) → Agree ns bs → see_name ns o (note s (own o.place l)) ≡ note s (record { nodes = node o.place l ∷ []; numbers = []; bounds = []; free = cond (among o.name bs) [] (o ∷ []) })
  name_walk l ns bs s o ag =
      ap (λ t. record { deep = (note s (own o.place l)).deep; outside = s.outside; repeated = s.repeated; names = t })
      (ap (λ b. cond b s.names (count o s.names)) (ag o.name) ∙ counted_if (among o.name bs) o s.names)

  -- parts one after another
  then_1 : (f : Seen → Seen) (s : Seen) (u v : Survey) → ((x : Seen) → f x ≡ note x v) → f (note s u) ≡ note s (u ⊕ v)
  then_1 f s u v F = F (note s u) ∙ joins s u v

  then_2 : (f g : Seen → Seen) (s : Seen) (u v w : Survey) → ((x : Seen) → f x ≡ note x v) → ((x : Seen) → g x ≡ note x w) → g (f (note s u)) ≡ note s (u ⊕ (v ⊕ w))
  then_2 f g s u v w F G = ap g (F (note s u)) ∙ G (note (note s u) v) ∙ joins_2 s u v w

  then_3 : (f g h : Seen → Seen) (s : Seen) (u v w x : Survey) → ((y : Seen) → f y ≡ note y v) → ((y : Seen) → g y ≡ note y w) → ((y : Seen) → h y ≡ note y x) → h (g (f (note s u))) ≡ note s (u ⊕ (v ⊕ (w ⊕ x)))
  then_3 f g h s u v w x F G H = ap (λ y. h (g y)) (F (note s u)) ∙ ap h (G (note (note s u) v)) ∙ H (note (note (note s u) v) w) ∙ joins_3 s u v w x

  mutual
    unfolding free free_all free_in free_of

    pub tree_walk : (t : Tree) (i n l : ℕ) (ns bs : List Name) (s : Seen) → Holds text es i t → 2 * length (places t) ≤ n + 1 → Fits ns (length (places t)) → Agree ns bs → (go n).tree i l ns s ≡ note s (survey l bs t)
    tree_walk (Tree.numeral p k) i n l ns bs s (w, (st, (pl, va))) fuel room ag =
        at_tree n i l ns s (entry.Numeral w) (λ z. omega arith) st ∙ (λ j. see_number (numeral (pl j) (va j)) (see_node (node (pl j) l) s))
    tree_walk (Tree.truth p b) i n l ns bs s h fuel room ag = at_tree n i l ns s (entry.Truth p b) (λ z. omega arith) h
    tree_walk (Tree.name p x) i n l ns bs s (w, (st, (pl, sp))) fuel room ag =
        at_tree n i l ns s (entry.Name w) (λ z. omega arith) st ∙ (λ j. see_name ns (record { place = pl j; name = sp j }) (see_node (node (pl j) l) s)) ∙ name_walk l ns bs s (record { place = p; name = x }) ag
    tree_walk (Tree.unary p o a) i n l ns bs s (j, (st, h)) fuel room ag =
        at_tree n i l ns s (entry.Unary p o j) (λ z. omega arith) st ∙
        then_1 ((go (n - 1)).tree j (l + 1) ns) s (own p l) (survey (l + 1) bs a)
        (λ x. tree_walk a j (n - 1) (l + 1) ns bs x h (omega arith) (omega arith) ag)
    tree_walk (Tree.binary p o a b) i n l ns bs s (j, k, (st, (ha, hb))) fuel room ag =
        let sizes = length-append (places a) (places b) in
        at_tree n i l ns s (entry.Binary p o j k) (λ z. omega arith) st ∙
        then_2 ((go (n - 1)).tree j (l + 1) ns) ((go (n - 1)).tree k (l + 1) ns) s (own p l) (survey (l + 1) bs a) (survey (l + 1) bs b)
        (λ x. tree_walk a j (n - 1) (l + 1) ns bs x ha (omega arith) (omega arith) ag)
        (λ x. tree_walk b k (n - 1) (l + 1) ns bs x hb (omega arith) (omega arith) ag)
    tree_walk (Tree.connective p o a b) i n l ns bs s (j, k, (st, (ha, hb))) fuel room ag =
        let sizes = length-append (places a) (places b) in
        at_tree n i l ns s (entry.Connective p o j k) (λ z. omega arith) st ∙
        then_2 ((go (n - 1)).tree j (l + 1) ns) ((go (n - 1)).tree k (l + 1) ns) s (own p l) (survey (l + 1) bs a) (survey (l + 1) bs b)
        (λ x. tree_walk a j (n - 1) (l + 1) ns bs x ha (omega arith) (omega arith) ag)
        (λ x. tree_walk b k (n - 1) (l + 1) ns bs x hb (omega arith) (omega arith) ag)
    tree_walk (Tree.if_else p a b c) i n l ns bs s (j, k, m, (st, (ha, (hb, hc)))) fuel room ag =
        let sizes = length-append (places a) (places b ++ places c) in
        let sizes' = length-append (places b) (places c) in
        at_tree n i l ns s (entry.If p j k m) (λ z. omega arith) st ∙
        then_3 ((go (n - 1)).tree j (l + 1) ns) ((go (n - 1)).tree k (l + 1) ns) ((go (n - 1)).tree m (l + 1) ns) s (own p l) (survey (l + 1) bs a) (survey (l + 1) bs b) (survey (l + 1) bs c)
        (λ x. tree_walk a j (n - 1) (l + 1) ns bs x ha (omega arith) (omega arith) ag)
        (λ x. tree_walk b k (n - 1) (l + 1) ns bs x hb (omega arith) (omega arith) ag)
        (λ x. tree_walk c m (n - 1) (l + 1) ns bs x hc (omega arith) (omega arith) ag)
    tree_walk (Tree.let_in p y a b) i n l ns bs s (w, (j, k, (st, (sp, (ha, hb))))) fuel room ag =
        let sizes = length-append (places a) (places b) in
        let longer = length-append ns (y ∷ []) in
        at_tree n i l ns s (entry.Let p w j k) (λ z. omega arith) st ∙
        then_2 ((go (n - 1)).tree j (l + 1) ns) (visit_under text (go (n - 1)) w k (l + 1) ns) s (own p l) (survey (l + 1) bs a) (survey (l + 1) (y ∷ bs) b)
        (λ x. tree_walk a j (n - 1) (l + 1) ns bs x ha (omega arith) (omega arith) ag)
        (λ x. under_walk (n - 1) w y k (l + 1) ns x (survey (l + 1) (y ∷ bs) b) sp (omega arith) (tree_walk b k (n - 1) (l + 1) (ns ++ y ∷ []) (y ∷ bs) x hb (omega arith) (omega arith) (agree_more ns bs (y ∷ []) ag)))
    tree_walk (Tree.let_be p y a b c) i n l ns bs s (w, (j, k, m, (st, (sp, (ha, (hb, hc)))))) fuel room ag =
        let sizes = length-append (places a) (places b ++ places c) in
        let sizes' = length-append (places b) (places c) in
        let longer = length-append ns (y ∷ []) in
        at_tree n i l ns s (entry.LetBe p w j k m) (λ z. omega arith) st ∙
        then_3 ((go (n - 1)).tree j (l + 1) ns) (visit_under text (go (n - 1)) w k (l + 1) ns) (visit_under text (go (n - 1)) w m (l + 1) ns) s (own p l) (survey (l + 1) bs a) (survey (l + 1) (y ∷ bs) b) (survey (l + 1) (y ∷ bs) c)
        (λ x. tree_walk a j (n - 1) (l + 1) ns bs x ha (omega arith) (omega arith) ag)
        (λ x. under_walk (n - 1) w y k (l + 1) ns x (survey (l + 1) (y ∷ bs) b) sp (omega arith) (tree_walk b k (n - 1) (l + 1) (ns ++ y ∷ []) (y ∷ bs) x hb (omega arith) (omega arith) (agree_more ns bs (y ∷ []) ag)))
        (λ x. under_walk (n - 1) w y m (l + 1) ns x (survey (l + 1) (y ∷ bs) c) sp (omega arith) (tree_walk c m (n - 1) (l + 1) (ns ++ y ∷ []) (y ∷ bs) x hc (omega arith) (omega arith) (agree_more ns bs (y ∷ []) ag)))
    tree_walk (Tree.cases p a cs o) i n l ns bs s (j, k, (r, (st, (ha, (hcs, ho))))) fuel room ag =
        let sizes = length-append (places a) (alternatives_places cs ++ optional_places o) in
        let sizes' = length-append (alternatives_places cs) (optional_places o) in
        at_tree n i l ns s (entry.Cases p j k r) (λ z. omega arith) st ∙
        then_3 ((go (n - 1)).tree j (l + 1) ns) ((go (n - 1)).arms (Some k) (l + 1) ns) (visit_optional text (go (n - 1)) r (l + 1) ns) s (own p l) (survey (l + 1) bs a) (survey_in (l + 1) bs cs) (survey_of (l + 1) bs o)
        (λ x. tree_walk a j (n - 1) (l + 1) ns bs x ha (omega arith) (omega arith) ag)
        (λ x. arms_walk cs (Some k) (n - 1) (l + 1) ns bs x hcs (omega arith) (omega arith) ag)
        (λ x. optional_walk o r (n - 1) (l + 1) ns bs x ho (omega arith) (omega arith) ag)
    tree_walk (Tree.quantifier p o y a b) i n l ns bs s (w, (j, k, (st, (sp, (ha, hb))))) fuel room ag =
        let sizes = length-append (places a) (places b) in
        let longer = length-append ns (y ∷ []) in
        at_tree n i l ns s (entry.Quantifier p o w j k) (λ z. omega arith) st ∙
        then_2 ((go (n - 1)).tree j (l + 1) ns) (visit_under text (go (n - 1)) w k (l + 1) ns) s (own p l) (survey (l + 1) bs a) (survey (l + 1) (y ∷ bs) b)
        (λ x. tree_walk a j (n - 1) (l + 1) ns bs x ha (omega arith) (omega arith) ag)
        (λ x. under_walk (n - 1) w y k (l + 1) ns x (survey (l + 1) (y ∷ bs) b) sp (omega arith) (tree_walk b k (n - 1) (l + 1) (ns ++ y ∷ []) (y ∷ bs) x hb (omega arith) (omega arith) (agree_more ns bs (y ∷ []) ag)))
    tree_walk (Tree.collection p k ts) i n l ns bs s (o, (st, hs)) fuel room ag =
        at_tree n i l ns s (entry.Collection p k o) (λ z. omega arith) st ∙
        then_1 ((go (n - 1)).items o (l + 1) ns) s (own p l) (survey_all (l + 1) bs ts)
        (λ x. items_walk ts o (n - 1) (l + 1) ns bs x hs (omega arith) (omega arith) ag)
    tree_walk (Tree.range p a b) i n l ns bs s (j, k, (st, (ha, hb))) fuel room ag =
        let sizes = length-append (places a) (places b) in
        at_tree n i l ns s (entry.Range p j k) (λ z. omega arith) st ∙
        then_2 ((go (n - 1)).tree j (l + 1) ns) ((go (n - 1)).tree k (l + 1) ns) s (own p l) (survey (l + 1) bs a) (survey (l + 1) bs b)
        (λ x. tree_walk a j (n - 1) (l + 1) ns bs x ha (omega arith) (omega arith) ag)
        (λ x. tree_walk b k (n - 1) (l + 1) ns bs x hb (omega arith) (omega arith) ag)
    tree_walk (Tree.comprehension p c a y b o) i n l ns bs s (j, (w, (k, (r, (st, (sp, (ha, (hb, ho)))))))) fuel room ag =
        let sizes = length-append (places a) (places b ++ optional_places o) in
        let sizes' = length-append (places b) (optional_places o) in
        let longer = length-append ns (y ∷ []) in
        at_tree n i l ns s (entry.Comprehension p c j w k r) (λ z. omega arith) st ∙
        then_3 (visit_under text (go (n - 1)) w j (l + 1) ns) ((go (n - 1)).tree k (l + 1) ns) (visit_filter text (go (n - 1)) w r (l + 1) ns) s (own p l) (survey (l + 1) (y ∷ bs) a) (survey (l + 1) bs b) (survey_of (l + 1) (y ∷ bs) o)
        (λ x. under_walk (n - 1) w y j (l + 1) ns x (survey (l + 1) (y ∷ bs) a) sp (omega arith) (tree_walk a j (n - 1) (l + 1) (ns ++ y ∷ []) (y ∷ bs) x ha (omega arith) (omega arith) (agree_more ns bs (y ∷ []) ag)))
        (λ x. tree_walk b k (n - 1) (l + 1) ns bs x hb (omega arith) (omega arith) ag)
        (λ x. filter_walk o w y r (n - 1) (l + 1) ns bs x sp ho (omega arith) (omega arith) (omega arith) ag)
    tree_walk (Tree.selection p a k) i n l ns bs s (j, (w, (st, (va, h)))) fuel room ag =
        at_tree n i l ns s (entry.Selection p j w) (λ z. omega arith) st ∙
        ap (λ v. (go (n - 1)).tree j (l + 1) ns (see_number (part_number p v) (see_node (node p l) s))) va ∙
        then_1 ((go (n - 1)).tree j (l + 1) ns) s (own p l ⊕ stated (part_number p k)) (survey (l + 1) bs a)
        (λ x. tree_walk a j (n - 1) (l + 1) ns bs x h (omega arith) (omega arith) ag)

    items_walk : (ts : Trees) (o : Option ℕ) (n l : ℕ) (ns bs : List Name) (s : Seen) → HoldsItems text es o ts → 2 * length (trees_places ts) ≤ n → Fits ns (length (trees_places ts)) → Agree ns bs → (go n).items o l ns s ≡ note s (survey_all l bs ts)
    items_walk Trees.none o n l ns bs s h fuel room ag = ap (λ r. (go n).items r l ns s) h ∙ no_items n l ns s
    items_walk (Trees.more t ts) o n l ns bs s (i, j, (r, (h, (st, (ht, hs))))) fuel room ag =
        let sizes = length-append (places t) (trees_places ts) in
        let size = tree_size t in
        at_items n o l ns s i j r (λ z. omega arith) h st ∙
        ap ((go (n - 1)).items r l ns) (tree_walk t j (n - 1) l ns bs s ht (omega arith) (omega arith) ag) ∙
        items_walk ts r (n - 1) l ns bs (note s (survey l bs t)) hs (omega arith) (omega arith) ag ∙
        joins s (survey l bs t) (survey_all l bs ts)

    arms_walk : (cs : Alternatives) (o : Option ℕ) (n l : ℕ) (ns bs : List Name) (s : Seen) → HoldsArms text es o cs → 2 * length (alternatives_places cs) ≤ n → Fits ns (length (alternatives_places cs)) → Agree ns bs → (go n).arms o l ns s ≡ note s (survey_in l bs cs)
    arms_walk Alternatives.no_more o n l ns bs s h fuel room ag = ap (λ r. (go n).arms r l ns s) h ∙ no_arms n l ns s
    arms_walk (Alternatives.alternative q t cs) o n l ns bs s (i, j, k, (r, (h, (st, (hq, (ht, hs)))))) fuel room ag =
        let sizes = length-append (pattern_places q) (places t ++ alternatives_places cs) in
        let sizes' = length-append (places t) (alternatives_places cs) in
        let size = tree_size t in
        let size' = pattern_size q in
        let few = names_few q in
        let longer = length-append ns (names q) in
        at_arms n o l ns s i j k r (λ z. omega arith) h st ∙
        ap (λ y. (go (n - 1)).arms r l ns (visit_right text (go (n - 1)) k l y)) (pattern_walk q j (n - 1) l (length ns) (record { names = ns; seen = s }) [] hq (omega arith) (omega arith) (omega arith) (drop_own ns)) ∙
        ap ((go (n - 1)).arms r l ns) (tree_walk t k (n - 1) l (ns ++ names q) (names q ++ bs) (note s (survey_pattern l [] q)) ht (omega arith) (omega arith) (agree_more ns bs (names q) ag)) ∙
        arms_walk cs r (n - 1) l ns bs (note (note s (survey_pattern l [] q)) (survey l (names q ++ bs) t)) hs (omega arith) (omega arith) ag ∙
        joins_2 s (survey_pattern l [] q) (survey l (names q ++ bs) t) (survey_in l bs cs)

    optional_walk : (o : Optional) (r : Option ℕ) (n l : ℕ) (ns bs : List Name) (s : Seen) → HoldsOptional text es r o → 2 * length (optional_places o) ≤ n → Fits ns (length (optional_places o)) → Agree ns bs → visit_optional text (go n) r l ns s ≡ note s (survey_of l bs o)
    optional_walk Optional.absent r n l ns bs s h fuel room ag = ap (λ x. visit_optional text (go n) x l ns s) h
    optional_walk (Optional.present t) r n l ns bs s (i, (h, ht)) fuel room ag = ap (λ x. visit_optional text (go n) x l ns s) h ∙ tree_walk t i n l ns bs s ht (omega arith) room ag

    filter_walk : (o : Optional) (w : Span) (y : Name) (r : Option ℕ) (n l : ℕ) (ns bs : List Name) (s : Seen) → spelled text w ≡ y → HoldsOptional text es r o → 2 * length (optional_places o) ≤ n → length ns + 1 + length (optional_places o) ≤ 2048 → length ns < 2048 → Agree ns bs → visit_filter text (go n) w r l ns s ≡ note s (survey_of l (y ∷ bs) o)
    filter_walk Optional.absent w y r n l ns bs s sp h fuel room lt ag = ap (λ x. visit_filter text (go n) w x l ns s) h
    filter_walk (Optional.present t) w y r n l ns bs s sp (i, (h, ht)) fuel room lt ag =
        let longer = length-append ns (y ∷ []) in
        ap (λ x. visit_filter text (go n) w x l ns s) h ∙ under_walk n w y i l ns s (survey l (y ∷ bs) t) sp lt (tree_walk t i n l (ns ++ y ∷ []) (y ∷ bs) s ht (omega arith) (omega arith) (agree_more ns bs (y ∷ []) ag))
