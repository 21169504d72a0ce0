use Rattle.std.proofs.Common.{ℕ, ◌-◌, ◌≤◌, List, [], ◌∷◌, ◌+◌, ◌*◌, ◌<◌, drop, arith}
use Rattle.std.proofs.lemmas.Bool.Decides.{nat_tests}
use Rattle.tokens.specs.Lexeme.{decimal}
use Rattle.checking.proofs.spans.outside.Goals as goal

decimal_grows : (n : ℕ) (ds : List ℕ) → n ≤ decimal n ds
decimal_grows n [] = omega arith
decimal_grows n (d ∷ ds) = omega (arith, decimal_grows (10 * n + (d - 48)) ds)

pub returns-then-value-most : goal.returns-then-value-most
returns-then-value-most c =
    let ds = c.args.digits.now in
    let more : c.args.bounds.most < decimal 0 ds = omega (arith, decimal_grows c.loop-d.value (drop c.loop-d.d-index ds), c.loop-d.invariant) in
    grind (arith, nat_tests)
