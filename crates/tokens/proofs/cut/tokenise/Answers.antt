use Rattle.std.proofs.Common.{◌≡◌, ℕ, ◌-◌, List, length, take, drop, Some, None, Ok, is_ok, true, Option, refl, ap, ◌∙◌, subst, arith, rules}
use Rattle.std.proofs.lemmas.List.{take_rest}
use Rattle.tokens.specs.declared.cut.Piece.{Piece}
use Rattle.tokens.specs.declared.cut.Piece.TheVariants as piece
use Rattle.tokens.specs.Pieces.{Begins}
use Rattle.tokens.specs.Cutting.{Skipped, IsPiece}
use Rattle.tokens.proofs.Forms.{longest_some}
use Rattle.tokens.proofs.Turns as turn
use Rattle.tokens.proofs.cut.tokenise.Goals as goal

-- what stands in front of the text from n on, as the code lends it
here : (text : List ℕ) (n : ℕ) (o p : Option Piece) → IsPiece (take (length text - n) (drop n text)) o → o ≡ p → IsPiece (drop n text) p
here text n o p h e = subst (IsPiece (drop n text)) e (subst (λ bs. IsPiece bs o) (take_rest text n) h)

skips : (c : goal.In-Skip) → Skipped (drop c.loop-place.place c.args.text.now) c.in-Skip.len
skips c = here c.args.text.now c.loop-place.place _ (Some (piece.Skip c.in-Skip.len)) c.front.ensures (c.in-Some.is ∙ ap Some c.in-Skip.is)

begins : (c : goal.After-unwrap) → Begins c.in-Token.kind (drop c.loop-place.place c.args.text.now) c.in-Token.len
begins c = here c.args.text.now c.loop-place.place _ (Some (piece.Token c.in-Token.kind c.in-Token.len)) c.front.ensures (c.in-Some.is ∙ ap Some c.in-Token.is)

pub loop-place-preserved-in-Skip : goal.loop-place-preserved-in-Skip
loop-place-preserved-in-Skip c = turn.skipped c.loop-place.invariant c.loop-place-test.true c.in-Skip.len (skips c)

pub unwrap-requires : goal.unwrap-requires
unwrap-requires c =
    turn.fits c.loop-place.invariant c.loop-place-test.true (omega (arith, c.if-text-remaining.false, c.remaining.ensures)) _ c.push.ensures.test

pub loop-place-smaller : goal.loop-place-smaller
loop-place-smaller c = let some = longest_some (begins c).longest in omega (arith, c.loop-place-test.true)

pub loop-place-preserved : goal.loop-place-preserved
loop-place-preserved c =
    let ok : is_ok c.push.result ≡ true = ap is_ok c.unwrap.ensures in
    turn.taken c.loop-place.invariant c.loop-place-test.true c.in-Token.kind c.in-Token.len (begins c) (search rules) (search rules)

pub returns-in_default : goal.returns-in_default
returns-in_default c =
    let none : c.front.result ≡ None = search rules in
    turn.ends c.loop-place.invariant (Some c.loop-place.place) _
    (turn.stopped c.loop-place.invariant c.loop-place-test.true (here c.args.text.now c.loop-place.place _ None c.front.ensures none))
    refl (omega (arith, c.if-text-remaining.false, c.remaining.ensures))

pub returns : goal.returns
returns c =
    turn.ends c.loop-place.invariant None (Ok tt) (turn.finished c.loop-place.invariant c.loop-place-test.false) refl (omega (arith, c.if-text-remaining.false, c.remaining.ensures))
