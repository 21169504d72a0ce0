use Rattle.std.proofs.Common.{◌≡◌, ℕ, Some, None, Option, ap}
use Rattle.std.specs.Option.{MatchOption, IsSomeAnd, option_map}
use Rattle.checking.specs.declared.call.Refusal.{Refusal}
use Rattle.checking.specs.declared.call.Refusal.TheVariants as refusal
use Rattle.checking.proofs.findings.Findings.refusal.Goals as goal

mapped : (f : ℕ → Refusal) (o : Option ℕ) (m : Option Refusal) → MatchOption o (m ≡ None) (λ p. IsSomeAnd m (λ y. y ≡ f p)) → m ≡ option_map f o
mapped f None m h = h
mapped f (Some p) None h = absurd h
mapped f (Some p) (Some y) h = ap (λ z. Some z) h

pub returns : goal.returns
returns c text =
    let a = mapped refusal.TooDeep _ c.map.result c.map.ensures.cases in
    let b = mapped refusal.OutOfRange _ c.map-2.result c.map-2.ensures.cases in
    let d = mapped refusal.Repeated _ c.map-3.result c.map-3.ensures.cases in
    let e = mapped refusal.TooManyNames _ c.map-4.result c.map-4.ensures.cases in
    cc
