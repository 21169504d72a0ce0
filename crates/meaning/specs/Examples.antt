-- Worked examples: the evaluation of texts.
use Rattle.std.specs.Prelude.{◌≡◌, ℕ, true, false, ◌⊎◌, List, [], ◌∷◌, map, pos, negsuc, None, codes, ◌≢◌}
use Rattle.tokens.specs.declared.Token.{Token}
use Rattle.tokens.specs.Lexeme.{lexeme}
use Rattle.tokens.specs.Pieces.{Cut}
use Rattle.grammar.specs.Grammar.{Derives, expr}
use Rattle.syntax.specs.Tree.{Place, Tree}
use Rattle.syntax.specs.declared.Collection.TheVariants.{Sequence, Tuple}
use Rattle.values.specs.declared.Fault.TheVariants.{DivisionByZero}
use Rattle.values.specs.Value.{Value, number, truth, of}
use Rattle.meaning.specs.Names.{◌≔◌, nothing, Facts, Map, Agrees}
use Rattle.meaning.specs.Course.{Outcome, value, fault}
use Rattle.meaning.specs.Eval.{eval}
use Rattle.meaning.specs.Laws.{Single}
use Rattle.meaning.specs.Play.{Chooser, by, outcome, begun, Allowed}

-- the text is cut into tokens, without a bad place, and they are an expression with this tree
pub record Reads (text : List ℕ) (t : Tree) : Type 0 where
  pub tokens : List Token
  pub cut : Cut 0 text tokens None
  pub derives : Derives expr (map (lexeme text) tokens) t

-- the outcome of the evaluation of a text, under any facts and any chooser
pub record Gives (text : List ℕ) (o : Outcome) : Type 0 where
  pub tree : Tree
  pub reads : Reads text tree
  pub out : (f : Facts) (χ : Chooser) → outcome (by χ) (eval tree f nothing) ≡ o

-- and the places of the expressions begun
pub record Goes (text : List ℕ) (o : Outcome) (ps : List Place) : Type 0 where
  pub gives : Gives text o
  pub list : (f : Facts) (χ : Chooser) → begun (by χ) (eval gives.tree f nothing) ≡ ps

-- the text reads as a tree of which P holds
pub record Of (text : List ℕ) (P : Tree → Type 0) : Type 0 where
  pub tree : Tree
  pub reads : Reads text tree
  pub holds : P tree

-- each choice has one candidate only, under any facts and any chooser
abbrev pub Settled : Tree → Type 0
Settled t = (f : Facts) (χ : Chooser) → Single (by χ) (eval t f nothing)

-- an outcome that is allowed, and that no chooser gives
abbrev pub OnlyAllowed : Outcome → Tree → Type 0
OnlyAllowed o t = (f : Facts) → Allowed t f o × ((χ : Chooser) → outcome (by χ) (eval t f nothing) ≢ o)

-- the allowed outcomes are these two
abbrev pub Just : Outcome → Outcome → Tree → Type 0
Just a b t = (f : Facts) → Allowed t f a × Allowed t f b × ((o : Outcome) → Allowed t f o → (o ≡ a) ⊎ (o ≡ b))

-- the outcome under the values that a map gives, whatever the chooser
abbrev pub Under : Map → Outcome → Tree → Type 0
Under m o t = (f : Facts) (χ : Chooser) → Agrees m f t → outcome (by χ) (eval t f nothing) ≡ o

-- two changes of a document, each with author, kind, first and last segment
abbrev pub change : ℕ → ℕ → ℕ → ℕ → Value
change a k first last = of Tuple (number (pos a) ∷ number (pos k) ∷ number (pos first) ∷ number (pos last) ∷ [])

abbrev pub document : Map
document = codes "changes" ≔ of Sequence (change 7 0 2 3 ∷ change 8 1 4 9 ∷ []) ∷ codes "segments" ≔ number (pos 9) ∷ []

pub record Examples : Type 0 where
  pub mod_below : Gives (codes "-7 mod 3") (value (number (pos 2)))
  pub rem_below : Gives (codes "-7 rem 3") (value (number (negsuc 0)))
  pub mod_by_below : Gives (codes "7 mod -3") (value (number (negsuc 1)))
  pub not_equal : Gives (codes "not 1 = 2") (value (truth true))
  pub decided : Gives (codes "true or 3") (value (truth true))
  pub made_up : Gives (codes "1 div 0 = 1 or true") (value (truth true))
  pub none : Gives (codes "exists c in set {} & c") (value (truth false))
  -- a fault does not stop it
  pub passed_over : Goes (codes "forall x in set {0, 2} & 4 div x = 2") (fault DivisionByZero 27) (0 ∷ 16 ∷ 17 ∷ 20 ∷ 33 ∷ 27 ∷ 25 ∷ 31 ∷ 33 ∷ 27 ∷ 25 ∷ 31 ∷ 35 ∷ [])
  pub one_candidate : Gives (codes "let x in set {1, 2} be st 1 div (x - 2) < 0 in x") (value (number (pos 1)))
  -- its choice has one candidate only
  pub settled : Of (codes "let x in set {1, 2} be st 1 div (x - 2) < 0 in x") Settled
  pub second_case : Gives (codes "cases []: [a] -> 1, [] -> 2 end") (value (number (pos 2)))
  -- a choice may depend on the names in sight
  pub by_sight : Of (codes "[let x in set {1, 2} be st true in x | y in set {1, 2}]") (OnlyAllowed (value (of Sequence (number (pos 1) ∷ number (pos 2) ∷ []))))
  -- and not on a name that a nearer binding hides
  pub hidden : Of (codes "[let y = 0 in let x in set {1, 2} be st true in x | y in set {1, 2}]") (Just (value (of Sequence (number (pos 1) ∷ number (pos 1) ∷ []))) (value (of Sequence (number (pos 2) ∷ number (pos 2) ∷ []))))
  pub lengths : Of (codes "len changes") (Under document (value (number (pos 2))))
  pub in_range : Of (codes "forall c in set elems changes & c.#3 <= c.#4 and c.#4 <= segments") (Under document (value (truth true)))
  pub authors : Of (codes "[changes(i).#1 | i in set inds changes]") (Under document (value (of Sequence ((number (pos 7)) ∷ (number (pos 8)) ∷ []))))
  pub second_change : Of (codes "let c in set elems changes be st c.#2 = 1 in c") (Under document (value (of Tuple ((number (pos 8)) ∷ (number (pos 1)) ∷ (number (pos 4)) ∷ (number (pos 9)) ∷ []))))
