-- What a table holds it still holds when entries are added.
use Rattle.std.proofs.Common.{◌≡◌, ℕ, ◌+◌, List, [], ◌∷◌, ◌++◌, length, get_or, Some, Option, sym, refl, ap, ◌∙◌, subst, append_assoc, append-nil, arith, length-append}
use Rattle.std.proofs.lemmas.List.{get_or_append_left, get_or_push}
use Rattle.syntax.specs.Tree.{Pattern, Patterns, Tree, Trees, Alternatives, Optional}
use Rattle.reading.specs.declared.entry.Entry.{Entry}
use Rattle.reading.specs.declared.source.Reader.{Reader}
use Rattle.reading.specs.Sources.{made, Later, Moves, TreeAt, TreesAt, PatternAt, PatternsAt, BindAt, ArmsAt, IsName, IsNumeral}
use Rattle.tokens.specs.Lexeme.{Lexeme}
use Rattle.reading.specs.declared.entry.Span.{Span}
use Rattle.reading.specs.declared.source.Binding.{Binding}
use Rattle.reading.specs.declared.source.Branches.{Branches}
use Rattle.grammar.specs.Steps.{Bind, Arms}
use Rattle.reading.specs.declared.entry.Entry.TheVariants as entry
use Rattle.grammar.specs.Grammar.{Operation, join}
use Rattle.reading.specs.Entries.{spelled, joined, Stands, Extends, HoldsPattern, HoldsPatterns, Holds, HoldsItems, HoldsArms, HoldsOptional}

pub stands_more : {es es' : List Entry} {i : ℕ} {e : Entry} → Extends es es' → Stands es i e → Stands es' i e
stands_more {es} {es'} {i} {e} x s =
    subst (λ us. Stands us i e) (sym x.grown)
    (record { inside = omega (arith, s.inside, length-append es x.more); is = get_or_append_left es x.more entry.Empty i s.inside ∙ s.is })

pub same : (es : List Entry) → Extends es es
same es = record { more = []; grown = sym (append-nil es) }

pub then_more : {es es' es'' : List Entry} → Extends es es' → Extends es' es'' → Extends es es''
then_more {es} x y = record { more = x.more ++ y.more; grown = y.grown ∙ ap (λ us. us ++ y.more) x.grown ∙ append_assoc es x.more y.more }

-- a reader, and the same reader later
infixr 20 ◌then◌
pub ◌then◌ : {r r' r'' : Reader} → Later r r' → Later r' r'' → Later r r''
x then y = record { text = y.text ∙ x.text; entries = then_more x.entries y.entries }

pub then_moves : {r r' r'' : Reader} (m n : ℕ) → Moves m r r' → Moves n r' r'' → Moves (m + n) r r''
then_moves m n x y = record { later = x.later then y.later; few = y.few ∙ x.few; room = y.room ∙ x.room; taken = omega arith }

-- one entry more
pub added : (es es' : List Entry) (e : Entry) → es' ≡ es ++ e ∷ [] → Extends es es'
added es es' e g = record { more = e ∷ []; grown = g }

pub stands_new : (es es' : List Entry) (e : Entry) (i : ℕ) → es' ≡ es ++ e ∷ [] → i ≡ length es → Stands es' i e
stands_new es es' e i g h =
    subst (λ us. Stands us i e) (sym g) (record { inside = omega (arith, length-append es (e ∷ [])); is = ap (λ k. get_or (es ++ e ∷ []) k entry.Empty) h ∙ get_or_push es e entry.Empty (length es) refl })

module _ (text : List ℕ) {es es' : List Entry} (x : Extends es es') where
  mutual
    pub pattern_more : (i : ℕ) (p : Pattern) → HoldsPattern text es i p → HoldsPattern text es' i p
    pattern_more i (Pattern.any p) h = stands_more x h
    pattern_more i (Pattern.binds p n) (s, (st, w)) = (s, (stands_more x st, w))
    pattern_more i (Pattern.number p n) (s, (st, w)) = (s, (stands_more x st, w))
    pattern_more i (Pattern.truth p b) h = stands_more x h
    pattern_more i (Pattern.parts p k ps) (o, (st, hs)) = (o, (stands_more x st, patterns_more o ps hs))

    pub patterns_more : (o : Option ℕ) (ps : Patterns) → HoldsPatterns text es o ps → HoldsPatterns text es' o ps
    patterns_more o Patterns.none h = h
    patterns_more o (Patterns.more p ps) (i, j, (r, (e, (st, (h, hs))))) = (i, j, (r, (e, (stands_more x st, (pattern_more j p h, patterns_more r ps hs)))))

  mutual
    pub tree_more : (i : ℕ) (t : Tree) → Holds text es i t → Holds text es' i t
    tree_more i (Tree.numeral p n) (s, (st, w)) = (s, (stands_more x st, w))
    tree_more i (Tree.truth p b) h = stands_more x h
    tree_more i (Tree.name p n) (s, (st, w)) = (s, (stands_more x st, w))
    tree_more i (Tree.unary p o t) (j, (st, h)) = (j, (stands_more x st, tree_more j t h))
    tree_more i (Tree.binary p o t u) (j, k, (st, (h, g))) = (j, k, (stands_more x st, (tree_more j t h, tree_more k u g)))
    tree_more i (Tree.connective p o t u) (j, k, (st, (h, g))) = (j, k, (stands_more x st, (tree_more j t h, tree_more k u g)))
    tree_more i (Tree.if_else p t u v) (j, k, l, (st, (h, (g, f)))) = (j, k, l, (stands_more x st, (tree_more j t h, (tree_more k u g, tree_more l v f))))
    tree_more i (Tree.let_in p n t u) (s, (j, k, (st, (w, (h, g))))) = (s, (j, k, (stands_more x st, (w, (tree_more j t h, tree_more k u g)))))
    tree_more i (Tree.let_be p n t u v) (s, (j, k, l, (st, (w, (h, (g, f)))))) = (s, (j, k, l, (stands_more x st, (w, (tree_more j t h, (tree_more k u g, tree_more l v f))))))
    tree_more i (Tree.cases p t cs o) (j, k, (r, (st, (h, (g, f))))) = (j, k, (r, (stands_more x st, (tree_more j t h, (arms_more (Some k) cs g, optional_more r o f)))))
    tree_more i (Tree.quantifier p o n t u) (s, (j, k, (st, (w, (h, g))))) = (s, (j, k, (stands_more x st, (w, (tree_more j t h, tree_more k u g)))))
    tree_more i (Tree.collection p k ts) (o, (st, hs)) = (o, (stands_more x st, items_more o ts hs))
    tree_more i (Tree.range p t u) (j, k, (st, (h, g))) = (j, k, (stands_more x st, (tree_more j t h, tree_more k u g)))
    tree_more i (Tree.comprehension p c t n u o) (j, (s, (k, (r, (st, (w, (h, (g, f)))))))) = (j, (s, (k, (r, (stands_more x st, (w, (tree_more j t h, (tree_more k u g, optional_more r o f))))))))
    tree_more i (Tree.selection p t n) (j, (s, (st, (w, h)))) = (j, (s, (stands_more x st, (w, tree_more j t h))))

    pub items_more : (o : Option ℕ) (ts : Trees) → HoldsItems text es o ts → HoldsItems text es' o ts
    items_more o Trees.none h = h
    items_more o (Trees.more t ts) (i, j, (r, (e, (st, (h, hs))))) = (i, j, (r, (e, (stands_more x st, (tree_more j t h, items_more r ts hs)))))

    pub arms_more : (o : Option ℕ) (cs : Alternatives) → HoldsArms text es o cs → HoldsArms text es' o cs
    arms_more o Alternatives.no_more h = h
    arms_more o (Alternatives.alternative p t cs) (i, j, k, (r, (e, (st, (h, (g, hs)))))) = (i, j, k, (r, (e, (stands_more x st, (pattern_more j p h, (tree_more k t g, arms_more r cs hs))))))

    pub optional_more : (o : Option ℕ) (t : Optional) → HoldsOptional text es o t → HoldsOptional text es' o t
    optional_more o Optional.absent h = h
    optional_more o (Optional.present t) (i, (e, h)) = (i, (e, tree_more i t h))

-- what was read is still held later
module _ {r r' : Reader} (l : Later r r') where
  pub tree_later : (i : ℕ) (t : Tree) → TreeAt r i t → TreeAt r' i t
  tree_later i t h = subst (λ us. Holds us (made r') i t) (sym l.text) (tree_more r.text.now l.entries i t h)

  pub trees_later : (i : ℕ) (ts : Trees) → TreesAt r i ts → TreesAt r' i ts
  trees_later i ts h = subst (λ us. HoldsItems us (made r') (Some i) ts) (sym l.text) (items_more r.text.now l.entries (Some i) ts h)

  pub pattern_later : (i : ℕ) (p : Pattern) → PatternAt r i p → PatternAt r' i p
  pattern_later i p h = subst (λ us. HoldsPattern us (made r') i p) (sym l.text) (pattern_more r.text.now l.entries i p h)

  pub patterns_later : (i : ℕ) (ps : Patterns) → PatternsAt r i ps → PatternsAt r' i ps
  patterns_later i ps h = subst (λ us. HoldsPatterns us (made r') (Some i) ps) (sym l.text) (patterns_more r.text.now l.entries (Some i) ps h)

  pub arms_later : (b : Branches) (a : Arms) → ArmsAt r b a → ArmsAt r' b a
  arms_later b a h = subst (λ us. HoldsArms us (made r') (Some b.first) a.arms × HoldsOptional us (made r') b.others a.others) (sym l.text) (arms_more r.text.now l.entries _ a.arms h.0, optional_more r.text.now l.entries _ a.others h.1)

  pub bind_later : (b : Binding) (c : Bind) → BindAt r b c → BindAt r' b c
  bind_later b c h = subst (λ us. (spelled us b.name ≡ c.name) × Holds us (made r') b.set c.set) (sym l.text) (h.0, tree_more r.text.now l.entries _ c.set h.1)

  pub name_later : (x : Lexeme) (s : Span) → IsName r.text.now x s → IsName r'.text.now x s
  name_later x s h = rw l.text h

  pub numeral_later : (x : Lexeme) (s : Span) → IsNumeral r.text.now x s → IsNumeral r'.text.now x s
  numeral_later x s h = rw l.text h

  pub spelled_later : (s : Span) → spelled r'.text.now s ≡ spelled r.text.now s
  spelled_later s = rw l.text refl

-- an operation between two operands
pub holds_join : (r : Reader) (o : Operation) (p n i j : ℕ) (a b : Tree) → Stands (made r) n (joined o p i j) → TreeAt r i a → TreeAt r j b → TreeAt r n (join o p a b)
holds_join r (Operation.strict o) p n i j a b st h g = (i, j, (st, (h, g)))
holds_join r (Operation.deciding o) p n i j a b st h g = (i, j, (st, (h, g)))
