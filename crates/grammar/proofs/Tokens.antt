-- What a token is of which a test holds.
use Rattle.std.proofs.Common.{◌≡◌, ℕ, Bool, true, false, ◌||◌, sym, refl, ap, subst, true≢false, true-eqb}
use mathlib.Core.Bool.{false≢true}
use Rattle.tokens.specs.declared.Mark.{Mark}
use Rattle.tokens.specs.Spelling.{number}
use Rattle.tokens.specs.Lexeme.{Symbol, Lexeme}
use Rattle.tokens.proofs.Listed.{same_number}
use Rattle.syntax.specs.Tree.{Place, Name}
use Rattle.grammar.specs.Grammar.{◌at◌, ◌name_at◌, ◌numeral_at◌, Left, Lead, Infix, infix_of_mark, Prefix, prefix_of_mark}
use Rattle.grammar.specs.Steps.{same, is, is_name, is_numeral, same_left, same_lead, is_chain, is_relation, is_lead, joins, relates, leads, operation, relation_of, unary_of}

pub same_mark : (m n : Mark) → same m n ≡ true → m ≡ n
same_mark m n e = same_number m n (true-eqb (number m) (number n) (sym e))

same_left_eq : (l k : Left) → same_left l k ≡ true → k ≡ l
same_left_eq Left.iff Left.iff e = refl
same_left_eq Left.iff Left.or e = absurd (false≢true e)
same_left_eq Left.iff Left.and e = absurd (false≢true e)
same_left_eq Left.iff Left.sum e = absurd (false≢true e)
same_left_eq Left.iff Left.product e = absurd (false≢true e)
same_left_eq Left.or Left.iff e = absurd (false≢true e)
same_left_eq Left.or Left.or e = refl
same_left_eq Left.or Left.and e = absurd (false≢true e)
same_left_eq Left.or Left.sum e = absurd (false≢true e)
same_left_eq Left.or Left.product e = absurd (false≢true e)
same_left_eq Left.and Left.iff e = absurd (false≢true e)
same_left_eq Left.and Left.or e = absurd (false≢true e)
same_left_eq Left.and Left.and e = refl
same_left_eq Left.and Left.sum e = absurd (false≢true e)
same_left_eq Left.and Left.product e = absurd (false≢true e)
same_left_eq Left.sum Left.iff e = absurd (false≢true e)
same_left_eq Left.sum Left.or e = absurd (false≢true e)
same_left_eq Left.sum Left.and e = absurd (false≢true e)
same_left_eq Left.sum Left.sum e = refl
same_left_eq Left.sum Left.product e = absurd (false≢true e)
same_left_eq Left.product Left.iff e = absurd (false≢true e)
same_left_eq Left.product Left.or e = absurd (false≢true e)
same_left_eq Left.product Left.and e = absurd (false≢true e)
same_left_eq Left.product Left.sum e = absurd (false≢true e)
same_left_eq Left.product Left.product e = refl

same_lead_eq : (l k : Lead) → same_lead l k ≡ true → k ≡ l
same_lead_eq Lead.not Lead.not e = refl
same_lead_eq Lead.not Lead.minus e = absurd (false≢true e)
same_lead_eq Lead.minus Lead.not e = absurd (false≢true e)
same_lead_eq Lead.minus Lead.minus e = refl

pub chain_of : (l : Left) (i : Infix) → is_chain l i ≡ true → i ≡ Infix.chains l (operation i)
chain_of l (Infix.chains k o) e = ap {B = Infix} (λ x. Infix.chains x o) (same_left_eq l k e)
chain_of l Infix.implies e = absurd (false≢true e)
chain_of l (Infix.relates o) e = absurd (false≢true e)
chain_of l Infix.nothing e = absurd (false≢true e)

pub relates_of : (i : Infix) → is_relation i ≡ true → i ≡ Infix.relates (relation_of i)
relates_of (Infix.chains k o) e = absurd (false≢true e)
relates_of Infix.implies e = absurd (false≢true e)
relates_of (Infix.relates o) e = refl
relates_of Infix.nothing e = absurd (false≢true e)

pub leads_of : (l : Lead) (i : Prefix) → is_lead l i ≡ true → i ≡ Prefix.leads l (unary_of i)
leads_of l (Prefix.leads k o) e = ap {B = Prefix} (λ x. Prefix.leads x o) (same_lead_eq l k e)
leads_of l Prefix.nothing e = absurd (false≢true e)

pub or_true : (a b : Bool) → (a || b) ≡ true → (a ≡ false → b ≡ true)
or_true true b e f = absurd (true≢false f)
or_true false b e f = e

pub bool_cases {ℓ} : {P : Type ℓ} (b : Bool) → (b ≡ true → P) → (b ≡ false → P) → P
bool_cases true f g = f refl
bool_cases false f g = g refl

-- a token, by the test that holds of it
module _ (P : Lexeme → Type 1) where
  by_mark : (m : Mark) → ((p : Place) → P (m at p)) → (p : Place) (s : Symbol) → is m s ≡ true → P (record { place = p; symbol = s })
  by_mark m h p (Symbol.mark n) e = subst (λ k. P (k at p)) (same_mark m n e) (h p)
  by_mark m h p (Symbol.name n) e = absurd (false≢true e)
  by_mark m h p (Symbol.numeral n) e = absurd (false≢true e)

  pub at_mark : (m : Mark) → ((p : Place) → P (m at p)) → (x : Lexeme) → is m x.symbol ≡ true → P x
  at_mark m h x e = by_mark m h x.place x.symbol e

  pub at_either : (m n : Mark) → ((p : Place) → P (m at p)) → ((p : Place) → P (n at p)) → (x : Lexeme) → (is m x.symbol || is n x.symbol) ≡ true → P x
  at_either m n g h x e = bool_cases (is m x.symbol) (λ t. at_mark m g x t) (λ f. at_mark n h x (or_true _ _ e f))

  by_name : ((p : Place) (n : Name) → P (n name_at p)) → (p : Place) (s : Symbol) → is_name s ≡ true → P (record { place = p; symbol = s })
  by_name h p (Symbol.mark n) e = absurd (false≢true e)
  by_name h p (Symbol.name n) e = h p n
  by_name h p (Symbol.numeral n) e = absurd (false≢true e)

  pub at_name : ((p : Place) (n : Name) → P (n name_at p)) → (x : Lexeme) → is_name x.symbol ≡ true → P x
  at_name h x e = by_name h x.place x.symbol e

  by_numeral : ((p : Place) (n : ℕ) → P (n numeral_at p)) → (p : Place) (s : Symbol) → is_numeral s ≡ true → P (record { place = p; symbol = s })
  by_numeral h p (Symbol.mark n) e = absurd (false≢true e)
  by_numeral h p (Symbol.name n) e = absurd (false≢true e)
  by_numeral h p (Symbol.numeral n) e = h p n

  pub at_numeral : ((p : Place) (n : ℕ) → P (n numeral_at p)) → (x : Lexeme) → is_numeral x.symbol ≡ true → P x
  at_numeral h x e = by_numeral h x.place x.symbol e

  by_chain : (l : Left) → ((p : Place) (m : Mark) → infix_of_mark m ≡ Infix.chains l (operation (infix_of_mark m)) → P (m at p)) → (p : Place) (s : Symbol) → joins l s ≡ true → P (record { place = p; symbol = s })
  by_chain l h p (Symbol.mark n) e = h p n (chain_of l (infix_of_mark n) e)
  by_chain l h p (Symbol.name n) e = absurd (false≢true e)
  by_chain l h p (Symbol.numeral n) e = absurd (false≢true e)

  pub at_chain : (l : Left) → ((p : Place) (m : Mark) → infix_of_mark m ≡ Infix.chains l (operation (infix_of_mark m)) → P (m at p)) → (x : Lexeme) → joins l x.symbol ≡ true → P x
  at_chain l h x e = by_chain l h x.place x.symbol e

  by_relation : ((p : Place) (m : Mark) → infix_of_mark m ≡ Infix.relates (relation_of (infix_of_mark m)) → P (m at p)) → (p : Place) (s : Symbol) → relates s ≡ true → P (record { place = p; symbol = s })
  by_relation h p (Symbol.mark n) e = h p n (relates_of (infix_of_mark n) e)
  by_relation h p (Symbol.name n) e = absurd (false≢true e)
  by_relation h p (Symbol.numeral n) e = absurd (false≢true e)

  pub at_relation : ((p : Place) (m : Mark) → infix_of_mark m ≡ Infix.relates (relation_of (infix_of_mark m)) → P (m at p)) → (x : Lexeme) → relates x.symbol ≡ true → P x
  at_relation h x e = by_relation h x.place x.symbol e

  by_lead : (l : Lead) → ((p : Place) (m : Mark) → prefix_of_mark m ≡ Prefix.leads l (unary_of (prefix_of_mark m)) → P (m at p)) → (p : Place) (s : Symbol) → leads l s ≡ true → P (record { place = p; symbol = s })
  by_lead l h p (Symbol.mark n) e = h p n (leads_of l (prefix_of_mark n) e)
  by_lead l h p (Symbol.name n) e = absurd (false≢true e)
  by_lead l h p (Symbol.numeral n) e = absurd (false≢true e)

  pub at_lead : (l : Lead) → ((p : Place) (m : Mark) → prefix_of_mark m ≡ Prefix.leads l (unary_of (prefix_of_mark m)) → P (m at p)) → (x : Lexeme) → leads l x.symbol ≡ true → P x
  at_lead l h x e = by_lead l h x.place x.symbol e
