-- Entries that are no patterns, or no expressions, are passed over.
use Rattle.std.proofs.Common.{◌≡◌, ℕ, Bool, List, None, Option, arith}
use Rattle.syntax.specs.declared.Unary.{Unary}
use Rattle.syntax.specs.declared.Binary.{Binary}
use Rattle.syntax.specs.declared.Connective.{Connective}
use Rattle.syntax.specs.declared.Quantifier.{Quantifier}
use Rattle.syntax.specs.declared.Collection.{Collection}
use Rattle.syntax.specs.Tree.{Name}
use Rattle.reading.specs.declared.entry.Span.{Span}
use Rattle.reading.specs.declared.entry.Entry.{Entry}
use Rattle.reading.specs.declared.entry.Entry.TheVariants as entry
use Rattle.checking.specs.Walk.{Seen, Trail, Walks, entry_item, entry_arm, visit, visit_pattern}

pub no_pattern : (text : List ℕ) (w : Walks) (e : Entry) (from l : ℕ) (t : Trail) →
    ((p : ℕ) → e ≡ entry.AnyPattern p → ⊥) →
    ((x : Span) → e ≡ entry.NamePattern x → ⊥) →
    ((x : Span) → e ≡ entry.NumeralPattern x → ⊥) →
    ((p : ℕ) (b : Bool) → e ≡ entry.TruthPattern p b → ⊥) →
    ((p : ℕ) (k : Collection) (r : Option ℕ) → e ≡ entry.PartsPattern p k r → ⊥) →
    visit_pattern text w from e l t ≡ t
no_pattern text w e from l t a b c d f = grind arith

pub no_expression : (text : List ℕ) (w : Walks) (e : Entry) (l : ℕ) (ns : List Name) (s : Seen) →
    ((x : Span) → e ≡ entry.Numeral x → ⊥) →
    ((p : ℕ) (b : Bool) → e ≡ entry.Truth p b → ⊥) →
    ((x : Span) → e ≡ entry.Name x → ⊥) →
    ((p : ℕ) (o : Unary) (i : ℕ) → e ≡ entry.Unary p o i → ⊥) →
    ((p : ℕ) (o : Binary) (i : ℕ) (j : ℕ) → e ≡ entry.Binary p o i j → ⊥) →
    ((p : ℕ) (o : Connective) (i : ℕ) (j : ℕ) → e ≡ entry.Connective p o i j → ⊥) →
    ((p : ℕ) (i : ℕ) (j : ℕ) (k : ℕ) → e ≡ entry.If p i j k → ⊥) →
    ((p : ℕ) (x : Span) (i : ℕ) (j : ℕ) → e ≡ entry.Let p x i j → ⊥) →
    ((p : ℕ) (x : Span) (i : ℕ) (j : ℕ) (k : ℕ) → e ≡ entry.LetBe p x i j k → ⊥) →
    ((p : ℕ) (i : ℕ) (j : ℕ) (r : Option ℕ) → e ≡ entry.Cases p i j r → ⊥) →
    ((p : ℕ) (o : Quantifier) (x : Span) (i : ℕ) (j : ℕ) → e ≡ entry.Quantifier p o x i j → ⊥) →
    ((p : ℕ) (k : Collection) (r : Option ℕ) → e ≡ entry.Collection p k r → ⊥) →
    ((p : ℕ) (i : ℕ) (j : ℕ) → e ≡ entry.Range p i j → ⊥) →
    ((p : ℕ) (k : Collection) (i : ℕ) (x : Span) (j : ℕ) (r : Option ℕ) → e ≡ entry.Comprehension p k i x j r → ⊥) →
    ((p : ℕ) (i : ℕ) (x : Span) → e ≡ entry.Selection p i x → ⊥) →
    visit text w e l ns s ≡ s
no_expression text w e l ns s a b c d f g h i j k m n o p q = grind arith

pub no_item : (e : Entry) → ((i : ℕ) (r : Option ℕ) → e ≡ entry.Item i r → ⊥) → entry_item e ≡ None
no_item e h = grind arith

pub no_arm : (e : Entry) → ((i j : ℕ) (r : Option ℕ) → e ≡ entry.Alternative i j r → ⊥) → entry_arm e ≡ None
no_arm e h = grind arith
