use Rattle.std.proofs.Common.{◌≡◌, ℕ, Bool, false, List, length, take, codes, not, eqb, sym, ap, ◌∙◌, subst, rules, tests}
use Rattle.std.specs.Str.{bytes_eq}
use Rattle.std.proofs.lemmas.Slice.Eq.{bytes_eq-Decides}
use Rattle.std.proofs.lemmas.Bool.{both_ways}
use Rattle.tokens.specs.declared.Kind.TheVariants as kind
use Rattle.tokens.specs.Pieces.{Begins, OpensComment}
use Rattle.tokens.specs.Cutting.{IsPiece}
use Rattle.tokens.proofs.Forms.{counted, comment_skipped, sign_begins, sign_bad, front_within}
use Rattle.tokens.proofs.cut.sign.Goals as goal

pub returns-then-starts_with : goal.returns-then-starts_with
returns-then-starts_with c =
    comment_skipped _ _ (sym ((bytes_eq-Decides (codes "--") (take 2 c.args.bytes.now)).0 (sym c.starts_with.ensures.value ∙ c.if-starts_with.true)))
    (counted (λ b. not (eqb b 10)) c.count-len.ensures.ran (cc) c.take_while.ensures.closure c.take_while.ensures.done (λ x b q k. search (rules, tests)))

no_comment : (bs : List ℕ) (r : Bool) → r ≡ bytes_eq (codes "--") (take 2 bs) → r ≡ false → OpensComment bs → ⊥
no_comment bs r e f o = both_ways _ f (e ∙ (bytes_eq-Decides (codes "--") (take 2 bs)).1 (sym o))

pub returns : goal.returns
returns c =
    let bs = c.args.bytes.now in
    let m = c.in_ok-mark.mark in
    let l = c.in_ok-mark.ensures in
    subst (Begins (kind.Mark m) bs) (sym (ap length c.spelling.ensures)) (sign_begins bs c.requires.0 c.requires.1 (no_comment bs c.starts_with.result c.starts_with.ensures.value c.if-starts_with.false) m l (front_within m bs l.front))

pub returns-in_err-mark : goal.returns-in_err-mark
returns-in_err-mark c =
    let bs = c.args.bytes.now in
    subst (IsPiece bs) (sym c.from_residual.ensures) (sign_bad bs c.requires.0 c.requires.1 (no_comment bs c.starts_with.result c.starts_with.ensures.value c.if-starts_with.false) c.in_err-mark.ensures)
