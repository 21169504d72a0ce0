-- Pairs of cells of no kind.
use Rattle.std.proofs.Common.{◌≡◌, zero, suc, ℤ, pos, negsuc, refl}
use Rattle.values.specs.declared.kinds.Kind.{Kind}
use Rattle.values.specs.declared.kinds.Kind.TheVariants.{Truth as KTruth, Set as KSet, Sequence as KSequence, Tuple as KTuple}
use Rattle.values.specs.Kinds.{cell}
use Rattle.writing.specs.declared.Head.TheVariants.{Number}
use Rattle.writing.specs.Heads.{head}

-- a cell of no kind begins a number
pub no_kind : (z c : ℤ) → ((k : Kind) → cell k ≡ z → ⊥) → head z c ≡ Number c
no_kind (pos zero) c h = refl
no_kind (pos (suc zero)) c h = absurd (h KTruth refl)
no_kind (pos (suc (suc zero))) c h = absurd (h KSet refl)
no_kind (pos (suc (suc (suc zero)))) c h = absurd (h KSequence refl)
no_kind (pos (suc (suc (suc (suc zero))))) c h = absurd (h KTuple refl)
no_kind (pos (suc (suc (suc (suc (suc k)))))) c h = refl
no_kind (negsuc k) c h = refl
