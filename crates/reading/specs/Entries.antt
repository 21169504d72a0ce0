-- A tree in a table: which entries hold it.
use Rattle.std.specs.Prelude.{◌≡◌, ℕ, ◌<◌, List, ◌++◌, length, take, drop, Some, None, Option, slice_index_or}
use Rattle.tokens.specs.Lexeme.{decimal}
use Rattle.syntax.specs.Tree.{Name, Pattern, Patterns, Tree, Trees, Alternatives, Optional}
use Rattle.grammar.specs.Grammar.{Operation}
use Rattle.reading.specs.declared.entry.Span.{Span}
use Rattle.reading.specs.declared.entry.Entry.{Entry}
use Rattle.reading.specs.declared.entry.Entry.TheVariants as entry

-- the bytes of a part of the text
abbrev pub spelled : List ℕ → Span → Name
spelled text s = take s.len (drop s.place text)

-- the number that they write
abbrev pub valued : List ℕ → Span → ℕ
valued text s = decimal 0 (spelled text s)

-- the entry of an operation between two operands
abbrev pub joined : Operation → ℕ → ℕ → ℕ → Entry
joined (Operation.strict o) p i j = entry.Binary p o i j
joined (Operation.deciding o) p i j = entry.Connective p o i j

-- the entry e stands at i
pub record Stands (es : List Entry) (i : ℕ) (e : Entry) : Type 0 where
  pub inside : i < length es
  pub is : slice_index_or es i entry.Empty ≡ e

-- later entries were added
pub record Extends (es es' : List Entry) : Type 0 where
  pub more : List Entry
  pub grown : es' ≡ es ++ more

-- HoldsPattern text es i p: the entry at i, and those that it names, are the pattern p. Where the entries stand is free.
abbrev mutual
  pub HoldsPattern : List ℕ → List Entry → ℕ → Pattern → Type 0
  HoldsPattern text es i (Pattern.any p) = Stands es i (entry.AnyPattern p)
  HoldsPattern text es i (Pattern.binds p n) = (s : Span) × (Stands es i (entry.NamePattern s) × ((s.place ≡ p) × (spelled text s ≡ n)))
  HoldsPattern text es i (Pattern.number p n) = (s : Span) × (Stands es i (entry.NumeralPattern s) × ((s.place ≡ p) × (valued text s ≡ n)))
  HoldsPattern text es i (Pattern.truth p b) = Stands es i (entry.TruthPattern p b)
  HoldsPattern text es i (Pattern.parts p k ps) = (o : Option ℕ) × (Stands es i (entry.PartsPattern p k o) × HoldsPatterns text es o ps)

  pub HoldsPatterns : List ℕ → List Entry → Option ℕ → Patterns → Type 0
  HoldsPatterns text es o Patterns.none = o ≡ None
  HoldsPatterns text es o (Patterns.more p ps) =
      (i j : ℕ) × ((r : Option ℕ) × ((o ≡ Some i) × (Stands es i (entry.Item j r) × (HoldsPattern text es j p × HoldsPatterns text es r ps))))

-- the same of expressions, members, alternatives, and what may be absent
abbrev mutual
  pub Holds : List ℕ → List Entry → ℕ → Tree → Type 0
  Holds text es i (Tree.numeral p n) = (s : Span) × (Stands es i (entry.Numeral s) × ((s.place ≡ p) × (valued text s ≡ n)))
  Holds text es i (Tree.truth p b) = Stands es i (entry.Truth p b)
  Holds text es i (Tree.name p n) = (s : Span) × (Stands es i (entry.Name s) × ((s.place ≡ p) × (spelled text s ≡ n)))
  Holds text es i (Tree.unary p o t) = (j : ℕ) × (Stands es i (entry.Unary p o j) × Holds text es j t)
  Holds text es i (Tree.binary p o t u) = (j k : ℕ) × (Stands es i (entry.Binary p o j k) × (Holds text es j t × Holds text es k u))
  Holds text es i (Tree.connective p o t u) = (j k : ℕ) × (Stands es i (entry.Connective p o j k) × (Holds text es j t × Holds text es k u))
  Holds text es i (Tree.if_else p t u v) = (j k l : ℕ) × (Stands es i (entry.If p j k l) × (Holds text es j t × (Holds text es k u × Holds text es l v)))
  Holds text es i (Tree.let_in p n t u) =
      (s : Span) × ((j k : ℕ) × (Stands es i (entry.Let p s j k) × ((spelled text s ≡ n) × (Holds text es j t × Holds text es k u))))
  Holds text es i (Tree.let_be p n t u v) =
      (s : Span) × ((j k l : ℕ) × (Stands es i (entry.LetBe p s j k l) × ((spelled text s ≡ n) × (Holds text es j t × (Holds text es k u × Holds text es l v)))))
  Holds text es i (Tree.cases p t cs o) =
      (j k : ℕ) × ((r : Option ℕ) × (Stands es i (entry.Cases p j k r) × (Holds text es j t × (HoldsArms text es (Some k) cs × HoldsOptional text es r o))))
  Holds text es i (Tree.quantifier p o n t u) =
      (s : Span) × ((j k : ℕ) × (Stands es i (entry.Quantifier p o s j k) × ((spelled text s ≡ n) × (Holds text es j t × Holds text es k u))))
  Holds text es i (Tree.collection p k ts) = (o : Option ℕ) × (Stands es i (entry.Collection p k o) × HoldsItems text es o ts)
  Holds text es i (Tree.range p t u) = (j k : ℕ) × (Stands es i (entry.Range p j k) × (Holds text es j t × Holds text es k u))
  Holds text es i (Tree.comprehension p c t n u o) =
      (j : ℕ) × ((s : Span) × ((k : ℕ) × ((r : Option ℕ) × (Stands es i (entry.Comprehension p c j s k r) × ((spelled text s ≡ n) × (Holds text es j t × (Holds text es k u × HoldsOptional text es r o)))))))
  Holds text es i (Tree.selection p t n) = (j : ℕ) × ((s : Span) × (Stands es i (entry.Selection p j s) × ((valued text s ≡ n) × Holds text es j t)))

  pub HoldsItems : List ℕ → List Entry → Option ℕ → Trees → Type 0
  HoldsItems text es o Trees.none = o ≡ None
  HoldsItems text es o (Trees.more t ts) =
      (i j : ℕ) × ((r : Option ℕ) × ((o ≡ Some i) × (Stands es i (entry.Item j r) × (Holds text es j t × HoldsItems text es r ts))))

  pub HoldsArms : List ℕ → List Entry → Option ℕ → Alternatives → Type 0
  HoldsArms text es o Alternatives.no_more = o ≡ None
  HoldsArms text es o (Alternatives.alternative p t cs) =
      (i j k : ℕ) × ((r : Option ℕ) × ((o ≡ Some i) × (Stands es i (entry.Alternative j k r) × (HoldsPattern text es j p × (Holds text es k t × HoldsArms text es r cs)))))

  pub HoldsOptional : List ℕ → List Entry → Option ℕ → Optional → Type 0
  HoldsOptional text es o Optional.absent = o ≡ None
  HoldsOptional text es o (Optional.present t) = (i : ℕ) × ((o ≡ Some i) × Holds text es i t)
