-- The kinds of values, and the cells that tell them.
use Rattle.std.specs.Prelude.{◌≡◌, ℤ, pos, Result, MatchResult, ◌≢◌}
use Rattle.syntax.specs.declared.Collection.TheVariants.{Set as ASet, Sequence as ASequence, Tuple as ATuple}
use Rattle.values.specs.declared.kinds.Kind.{Kind}
use Rattle.values.specs.declared.kinds.Kind.TheVariants.{Number, Truth, Set, Sequence, Tuple}
use Rattle.values.specs.declared.kinds.NoKind.{NoKind}
use Rattle.values.specs.Value.{code}

-- the first cell of a value of the kind
abbrev pub cell : Kind → ℤ
cell Number = pos 0
cell Truth = pos 1
cell Set = code ASet
cell Sequence = code ASequence
cell Tuple = code ATuple

-- the kind that a first cell tells: an error where no kind has it
abbrev pub Tells : ℤ → Result Kind NoKind → Type 0
Tells z r = MatchResult r (λ k. cell k ≡ z) (λ _. (k : Kind) → cell k ≢ z)
