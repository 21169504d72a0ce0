-- The grammar: which tokens make an expression, and which tree it has.
use Rattle.std.specs.Prelude.{◌≡◌, ℕ, suc, ◌≤◌, Bool, true, false, List, [], ◌∷◌, ◌++◌}
use Rattle.tokens.specs.declared.Mark.{Mark}
use Rattle.tokens.specs.declared.Mark.TheVariants as sign
use Rattle.tokens.specs.Lexeme.{Symbol, Lexeme}
use Rattle.syntax.specs.declared.Unary.{Unary}
use Rattle.syntax.specs.declared.Unary.TheVariants as un
use Rattle.syntax.specs.declared.Binary.{Binary}
use Rattle.syntax.specs.declared.Binary.TheVariants as bin
use Rattle.syntax.specs.declared.Connective.{Connective}
use Rattle.syntax.specs.declared.Connective.TheVariants as con
use Rattle.syntax.specs.declared.Quantifier.{Quantifier}
use Rattle.syntax.specs.declared.Quantifier.TheVariants as quant
use Rattle.syntax.specs.declared.Collection.{Collection}
use Rattle.syntax.specs.declared.Collection.TheVariants as coll
use Rattle.syntax.specs.Tree.{Place, Name, Pattern, Patterns, Tree, Trees, Alternatives, Optional}

-- a reserved word or sign, a name, a numeral, where it stands
infix 70 ◌at◌ ◌name_at◌ ◌numeral_at◌
abbrev pub ◌at◌ : Mark → Place → Lexeme
m at p = record { place = p; symbol = Symbol.mark m }

abbrev pub ◌name_at◌ : Name → Place → Lexeme
n name_at p = record { place = p; symbol = Symbol.name n }

abbrev pub ◌numeral_at◌ : ℕ → Place → Lexeme
n numeral_at p = record { place = p; symbol = Symbol.numeral n }

-- The levels whose signs group to the left, and the levels of prefix signs. Between them stand `=>`, the relations, application and atoms.
pub data Left : Type 0 where
  iff or and sum product : Left

pub data Lead : Type 0 where
  not minus : Lead

pub data Operation : Type 0 where
  strict : Binary → Operation
  deciding : Connective → Operation

abbrev pub join : Operation → Place → Tree → Tree → Tree
join (strict o) p a b = Tree.binary p o a b
join (deciding o) p a b = Tree.connective p o a b

-- what a sign does between two operands (`in set` and `not in set` have rules of their own)
pub data Infix : Type 0 where
  chains : Left → Operation → Infix
  implies : Infix
  relates : Binary → Infix
  nothing : Infix

abbrev pub infix_of_mark : Mark → Infix
infix_of_mark sign.Iff = chains iff (strict bin.Iff)
infix_of_mark sign.Implies = implies
infix_of_mark sign.Or = chains or (deciding con.Or)
infix_of_mark sign.And = chains and (deciding con.And)
infix_of_mark sign.Equal = relates bin.Equal
infix_of_mark sign.NotEqual = relates bin.NotEqual
infix_of_mark sign.Less = relates bin.Less
infix_of_mark sign.LessEqual = relates bin.LessEqual
infix_of_mark sign.Greater = relates bin.Greater
infix_of_mark sign.GreaterEqual = relates bin.GreaterEqual
infix_of_mark sign.Subset = relates bin.Subset
infix_of_mark sign.Psubset = relates bin.ProperSubset
infix_of_mark sign.Plus = chains sum (strict bin.Plus)
infix_of_mark sign.Minus = chains sum (strict bin.Minus)
infix_of_mark sign.Union = chains sum (strict bin.Union)
infix_of_mark sign.Backslash = chains sum (strict bin.Difference)
infix_of_mark sign.Caret = chains sum (strict bin.Concat)
infix_of_mark sign.Star = chains product (strict bin.Times)
infix_of_mark sign.Div = chains product (strict bin.Div)
infix_of_mark sign.Rem = chains product (strict bin.Rem)
infix_of_mark sign.Mod = chains product (strict bin.Mod)
infix_of_mark sign.Inter = chains product (strict bin.Inter)
infix_of_mark sign.Abs = nothing
infix_of_mark sign.Be = nothing
infix_of_mark sign.Card = nothing
infix_of_mark sign.Cases = nothing
infix_of_mark sign.Elems = nothing
infix_of_mark sign.Else = nothing
infix_of_mark sign.Elseif = nothing
infix_of_mark sign.End = nothing
infix_of_mark sign.Exists = nothing
infix_of_mark sign.False = nothing
infix_of_mark sign.Forall = nothing
infix_of_mark sign.Hd = nothing
infix_of_mark sign.If = nothing
infix_of_mark sign.In = nothing
infix_of_mark sign.Inds = nothing
infix_of_mark sign.Len = nothing
infix_of_mark sign.Let = nothing
infix_of_mark sign.Mk = nothing
infix_of_mark sign.Not = nothing
infix_of_mark sign.Others = nothing
infix_of_mark sign.Set = nothing
infix_of_mark sign.St = nothing
infix_of_mark sign.Then = nothing
infix_of_mark sign.Tl = nothing
infix_of_mark sign.True = nothing
infix_of_mark sign.OpenParen = nothing
infix_of_mark sign.CloseParen = nothing
infix_of_mark sign.OpenBracket = nothing
infix_of_mark sign.CloseBracket = nothing
infix_of_mark sign.OpenBrace = nothing
infix_of_mark sign.CloseBrace = nothing
infix_of_mark sign.Comma = nothing
infix_of_mark sign.Colon = nothing
infix_of_mark sign.Arrow = nothing
infix_of_mark sign.Ampersand = nothing
infix_of_mark sign.Bar = nothing
infix_of_mark sign.Ellipsis = nothing
infix_of_mark sign.Select = nothing

-- what a sign does in front of an operand
pub data Prefix : Type 0 where
  leads : Lead → Unary → Prefix
  nothing : Prefix

abbrev pub prefix_of_mark : Mark → Prefix
prefix_of_mark sign.Not = leads not un.Not
prefix_of_mark sign.Minus = leads minus un.Negate
prefix_of_mark sign.Abs = leads minus un.Abs
prefix_of_mark sign.Card = leads minus un.Card
prefix_of_mark sign.Len = leads minus un.Len
prefix_of_mark sign.Hd = leads minus un.Hd
prefix_of_mark sign.Tl = leads minus un.Tl
prefix_of_mark sign.Elems = leads minus un.Elems
prefix_of_mark sign.Inds = leads minus un.Inds
prefix_of_mark sign.And = nothing
prefix_of_mark sign.Be = nothing
prefix_of_mark sign.Cases = nothing
prefix_of_mark sign.Div = nothing
prefix_of_mark sign.Else = nothing
prefix_of_mark sign.Elseif = nothing
prefix_of_mark sign.End = nothing
prefix_of_mark sign.Exists = nothing
prefix_of_mark sign.False = nothing
prefix_of_mark sign.Forall = nothing
prefix_of_mark sign.If = nothing
prefix_of_mark sign.In = nothing
prefix_of_mark sign.Inter = nothing
prefix_of_mark sign.Let = nothing
prefix_of_mark sign.Mk = nothing
prefix_of_mark sign.Mod = nothing
prefix_of_mark sign.Or = nothing
prefix_of_mark sign.Others = nothing
prefix_of_mark sign.Psubset = nothing
prefix_of_mark sign.Rem = nothing
prefix_of_mark sign.Set = nothing
prefix_of_mark sign.St = nothing
prefix_of_mark sign.Subset = nothing
prefix_of_mark sign.Then = nothing
prefix_of_mark sign.True = nothing
prefix_of_mark sign.Union = nothing
prefix_of_mark sign.Iff = nothing
prefix_of_mark sign.Implies = nothing
prefix_of_mark sign.Equal = nothing
prefix_of_mark sign.NotEqual = nothing
prefix_of_mark sign.Less = nothing
prefix_of_mark sign.LessEqual = nothing
prefix_of_mark sign.Greater = nothing
prefix_of_mark sign.GreaterEqual = nothing
prefix_of_mark sign.Plus = nothing
prefix_of_mark sign.Backslash = nothing
prefix_of_mark sign.Caret = nothing
prefix_of_mark sign.Star = nothing
prefix_of_mark sign.OpenParen = nothing
prefix_of_mark sign.CloseParen = nothing
prefix_of_mark sign.OpenBracket = nothing
prefix_of_mark sign.CloseBracket = nothing
prefix_of_mark sign.OpenBrace = nothing
prefix_of_mark sign.CloseBrace = nothing
prefix_of_mark sign.Comma = nothing
prefix_of_mark sign.Colon = nothing
prefix_of_mark sign.Arrow = nothing
prefix_of_mark sign.Ampersand = nothing
prefix_of_mark sign.Bar = nothing
prefix_of_mark sign.Ellipsis = nothing
prefix_of_mark sign.Select = nothing

-- the brackets of sets and sequences
pub data Bracket : Type 0 where
  brace bracket : Bracket

abbrev pub opening : Bracket → Mark
opening brace = sign.OpenBrace
opening bracket = sign.OpenBracket

abbrev pub closing : Bracket → Mark
closing brace = sign.CloseBrace
closing bracket = sign.CloseBracket

abbrev pub kind : Bracket → Collection
kind brace = coll.Set
kind bracket = coll.Sequence

abbrev pub word : Quantifier → Mark
word quant.Forall = sign.Forall
word quant.Exists = sign.Exists

abbrev pub truth : Bool → Mark
truth true = sign.True
truth false = sign.False

abbrev pub count : Trees → ℕ
count Trees.none = 0
count (Trees.more t ts) = suc (count ts)

abbrev pub count_patterns : Patterns → ℕ
count_patterns Patterns.none = 0
count_patterns (Patterns.more t ts) = suc (count_patterns ts)

-- the expressions: E, what follows an `if` or `elseif` at a place, and the levels of C, loosest first
pub data Sort : Type 0 where
  expr : Sort
  choice : Place → Sort
  left : Left → Sort
  implication : Sort
  lead : Lead → Sort
  relation : Sort
  postfix : Sort
  atom : Sort

-- the next tighter level: `<=>`, `=>`, `or`, `and`, `not`, relations, sums, products, prefix signs, application, atoms
abbrev pub under : Left → Sort
under iff = implication
under or = left and
under and = lead not
under sum = left product
under product = lead minus

abbrev pub under_lead : Lead → Sort
under_lead not = relation
under_lead minus = postfix

mutual
  -- DerivesPattern us t: the tokens us are a pattern, and t is its tree
  -- P = - | name | numeral | true | false
  --   | [ ] | [ P (, P)* ] | mk_ ( P , P ... )
  pub data DerivesPattern : List Lexeme → Pattern → Type 0 where
    p_any : (p : Place) → DerivesPattern (sign.Minus at p ∷ []) (Pattern.any p)
    p_name : (p : Place) {n : Name} → DerivesPattern (n name_at p ∷ []) (Pattern.binds p n)
    p_numeral : (p : Place) {n : ℕ} → DerivesPattern (n numeral_at p ∷ []) (Pattern.number p n)
    p_truth : (p : Place) {b : Bool} → DerivesPattern (truth b at p ∷ []) (Pattern.truth p b)
    p_empty : (p q : Place) → DerivesPattern (sign.OpenBracket at p ∷ sign.CloseBracket at q ∷ []) (Pattern.parts p coll.Sequence Patterns.none)
    p_sequence : (p q : Place) {us : List Lexeme} {ts : Patterns} → DerivesPatterns us ts → DerivesPattern (sign.OpenBracket at p ∷ (us ++ sign.CloseBracket at q ∷ [])) (Pattern.parts p coll.Sequence ts)
    p_tuple : (p q r : Place) {us : List Lexeme} {ts : Patterns} → DerivesPatterns us ts → 2 ≤ count_patterns ts → count_patterns ts ≤ 8 → DerivesPattern (sign.Mk at p ∷ sign.OpenParen at q ∷ (us ++ sign.CloseParen at r ∷ [])) (Pattern.parts p coll.Tuple ts)

  -- P (, P)*
  pub data DerivesPatterns : List Lexeme → Patterns → Type 0 where
    p_last : {us : List Lexeme} {t : Pattern} → DerivesPattern us t → DerivesPatterns us (Patterns.more t Patterns.none)
    p_more : (p : Place) {us vs : List Lexeme} {t : Pattern} {ts : Patterns} → DerivesPattern us t → DerivesPatterns vs ts → DerivesPatterns (us ++ sign.Comma at p ∷ vs) (Patterns.more t ts)

mutual
  -- Derives s us t: the tokens us are an s, and t is its tree
  pub data Derives : Sort → List Lexeme → Tree → Type 0 where
    -- E = let name = E in E | let B be st E in E
    d_let : (p q r s : Place) {n : Name} {xs ys : List Lexeme} {a b : Tree} → Derives expr xs a → Derives expr ys b → Derives expr (sign.Let at p ∷ n name_at q ∷ sign.Equal at r ∷ (xs ++ sign.In at s ∷ ys)) (Tree.let_in p n a b)
    d_let_be : (p q r s : Place) {n : Name} {xs ys zs : List Lexeme} {a b c : Tree} → DerivesBind xs n a → Derives expr ys b → Derives expr zs c → Derives expr (sign.Let at p ∷ (xs ++ sign.Be at q ∷ sign.St at r ∷ (ys ++ sign.In at s ∷ zs))) (Tree.let_be p n a b c)
    -- | if E then E (elseif E then E)* else E
    d_if : (p : Place) {us : List Lexeme} {t : Tree} → Derives (choice p) us t → Derives expr (sign.If at p ∷ us) t
    -- | cases E : A (, A)* (, others -> E)? end
    d_cases : (p q r : Place) {xs ys : List Lexeme} {a : Tree} {cs : Alternatives} {o : Optional} → Derives expr xs a → DerivesCases ys cs o → Derives expr (sign.Cases at p ∷ (xs ++ sign.Colon at q ∷ (ys ++ sign.End at r ∷ []))) (Tree.cases p a cs o)
    -- | forall B & E | exists B & E
    d_quantifier : (p q : Place) {o : Quantifier} {n : Name} {xs ys : List Lexeme} {a b : Tree} → DerivesBind xs n a → Derives expr ys b → Derives expr (word o at p ∷ (xs ++ sign.Ampersand at q ∷ ys)) (Tree.quantifier p o n a b)
    -- | C
    d_connected : {us : List Lexeme} {t : Tree} → Derives (left iff) us t → Derives expr us t
    -- what follows `if` and `elseif`: E then E else E | E then E elseif ..
    d_else : (p q r : Place) {xs ys zs : List Lexeme} {a b c : Tree} → Derives expr xs a → Derives expr ys b → Derives expr zs c → Derives (choice p) (xs ++ sign.Then at q ∷ (ys ++ sign.Else at r ∷ zs)) (Tree.if_else p a b c)
    d_elseif : (p q r : Place) {xs ys zs : List Lexeme} {a b c : Tree} → Derives expr xs a → Derives expr ys b → Derives (choice r) zs c → Derives (choice p) (xs ++ sign.Then at q ∷ (ys ++ sign.Elseif at r ∷ zs)) (Tree.if_else p a b c)
    -- C, a level that groups to the left: <=>; or; and; + - union \ ^; * div rem mod inter
    d_chain : (p : Place) (m : Mark) {l : Left} {o : Operation} {xs ys : List Lexeme} {a b : Tree} → infix_of_mark m ≡ chains l o → Derives (left l) xs a → Derives (under l) ys b → Derives (left l) (xs ++ m at p ∷ ys) (join o p a b)
    d_link : {l : Left} {us : List Lexeme} {t : Tree} → Derives (under l) us t → Derives (left l) us t
    -- =>, to the right
    d_implies : (p : Place) {xs ys : List Lexeme} {a b : Tree} → Derives (left or) xs a → Derives implication ys b → Derives implication (xs ++ sign.Implies at p ∷ ys) (Tree.connective p con.Implies a b)
    d_premise : {us : List Lexeme} {t : Tree} → Derives (left or) us t → Derives implication us t
    -- prefix not; prefix - abs card len hd tl elems inds
    d_prefix : (p : Place) (m : Mark) {l : Lead} {o : Unary} {us : List Lexeme} {t : Tree} → prefix_of_mark m ≡ leads l o → Derives (lead l) us t → Derives (lead l) (m at p ∷ us) (Tree.unary p o t)
    d_bare : {l : Lead} {us : List Lexeme} {t : Tree} → Derives (under_lead l) us t → Derives (lead l) us t
    -- one relation: = <> < <= > >= subset psubset, in set, not in set
    d_relation : (p : Place) (m : Mark) {o : Binary} {xs ys : List Lexeme} {a b : Tree} → infix_of_mark m ≡ relates o → Derives (left sum) xs a → Derives (left sum) ys b → Derives relation (xs ++ m at p ∷ ys) (Tree.binary p o a b)
    d_in_set : (p q : Place) {xs ys : List Lexeme} {a b : Tree} → Derives (left sum) xs a → Derives (left sum) ys b → Derives relation (xs ++ sign.In at p ∷ sign.Set at q ∷ ys) (Tree.binary p bin.InSet a b)
    d_not_in_set : (p q r : Place) {xs ys : List Lexeme} {a b : Tree} → Derives (left sum) xs a → Derives (left sum) ys b → Derives relation (xs ++ sign.Not at p ∷ sign.In at q ∷ sign.Set at r ∷ ys) (Tree.binary p bin.NotInSet a b)
    d_side : {us : List Lexeme} {t : Tree} → Derives (left sum) us t → Derives relation us t
    -- application F ( E ) and selection F .# numeral
    d_apply : (p q : Place) {xs ys : List Lexeme} {a b : Tree} → Derives postfix xs a → Derives expr ys b → Derives postfix (xs ++ sign.OpenParen at p ∷ (ys ++ sign.CloseParen at q ∷ [])) (Tree.binary p bin.Apply a b)
    d_select : (p q : Place) {n : ℕ} {xs : List Lexeme} {a : Tree} → Derives postfix xs a → Derives postfix (xs ++ sign.Select at p ∷ n numeral_at q ∷ []) (Tree.selection p a n)
    d_atom : {us : List Lexeme} {t : Tree} → Derives atom us t → Derives postfix us t
    -- an atom: numeral, true, false, name, ( E )
    d_numeral : (p : Place) {n : ℕ} → Derives atom (n numeral_at p ∷ []) (Tree.numeral p n)
    d_truth : (p : Place) {b : Bool} → Derives atom (truth b at p ∷ []) (Tree.truth p b)
    d_name : (p : Place) {n : Name} → Derives atom (n name_at p ∷ []) (Tree.name p n)
    d_paren : (p q : Place) {us : List Lexeme} {t : Tree} → Derives expr us t → Derives atom (sign.OpenParen at p ∷ (us ++ sign.CloseParen at q ∷ [])) t
    -- a set { } or a sequence [ ]: around nothing, E (, E)*, E | B, E | B & E
    d_empty : (p q : Place) (k : Bracket) → Derives atom (opening k at p ∷ closing k at q ∷ []) (Tree.collection p (kind k) Trees.none)
    d_members : (p q : Place) (k : Bracket) {us : List Lexeme} {ts : Trees} → DerivesItems us ts → Derives atom (opening k at p ∷ (us ++ closing k at q ∷ [])) (Tree.collection p (kind k) ts)
    d_comprehension : (p q r : Place) (k : Bracket) {n : Name} {xs ys : List Lexeme} {a b : Tree} → Derives expr xs a → DerivesBind ys n b → Derives atom (opening k at p ∷ (xs ++ sign.Bar at q ∷ (ys ++ closing k at r ∷ []))) (Tree.comprehension p (kind k) a n b Optional.absent)
    d_filter : (p q r s : Place) (k : Bracket) {n : Name} {xs ys zs : List Lexeme} {a b c : Tree} → Derives expr xs a → DerivesBind ys n b → Derives expr zs c → Derives atom (opening k at p ∷ (xs ++ sign.Bar at q ∷ (ys ++ sign.Ampersand at r ∷ (zs ++ closing k at s ∷ [])))) (Tree.comprehension p (kind k) a n b (Optional.present c))
    -- a range { E , ... , E }
    d_range : (p q r s t : Place) {xs ys : List Lexeme} {a b : Tree} → Derives expr xs a → Derives expr ys b → Derives atom (sign.OpenBrace at p ∷ (xs ++ sign.Comma at q ∷ sign.Ellipsis at r ∷ sign.Comma at s ∷ (ys ++ sign.CloseBrace at t ∷ []))) (Tree.range p a b)
    -- a tuple mk_ ( E , E ... ), 2 to 8 parts
    d_tuple : (p q r : Place) {us : List Lexeme} {ts : Trees} → DerivesItems us ts → 2 ≤ count ts → count ts ≤ 8 → Derives atom (sign.Mk at p ∷ sign.OpenParen at q ∷ (us ++ sign.CloseParen at r ∷ [])) (Tree.collection p coll.Tuple ts)

  -- B = name in set C
  pub data DerivesBind : List Lexeme → Name → Tree → Type 0 where
    d_bind : (p q r : Place) {n : Name} {us : List Lexeme} {t : Tree} → Derives (left iff) us t → DerivesBind (n name_at p ∷ sign.In at q ∷ sign.Set at r ∷ us) n t

  -- E (, E)*
  pub data DerivesItems : List Lexeme → Trees → Type 0 where
    d_last : {us : List Lexeme} {t : Tree} → Derives expr us t → DerivesItems us (Trees.more t Trees.none)
    d_more : (p : Place) {us vs : List Lexeme} {t : Tree} {ts : Trees} → Derives expr us t → DerivesItems vs ts → DerivesItems (us ++ sign.Comma at p ∷ vs) (Trees.more t ts)

  -- A (, A)* (, others -> E)?   A = P -> E
  pub data DerivesCases : List Lexeme → Alternatives → Optional → Type 0 where
    d_only : (p : Place) {xs ys : List Lexeme} {t : Pattern} {a : Tree} → DerivesPattern xs t → Derives expr ys a → DerivesCases (xs ++ sign.Arrow at p ∷ ys) (Alternatives.alternative t a Alternatives.no_more) Optional.absent
    d_others : (p q r s : Place) {xs ys zs : List Lexeme} {t : Pattern} {a b : Tree} → DerivesPattern xs t → Derives expr ys a → Derives expr zs b → DerivesCases (xs ++ sign.Arrow at p ∷ (ys ++ sign.Comma at q ∷ sign.Others at r ∷ sign.Arrow at s ∷ zs)) (Alternatives.alternative t a Alternatives.no_more) (Optional.present b)
    d_next : (p q : Place) {xs ys zs : List Lexeme} {t : Pattern} {a : Tree} {cs : Alternatives} {o : Optional} → DerivesPattern xs t → Derives expr ys a → DerivesCases zs cs o → DerivesCases (xs ++ sign.Arrow at p ∷ (ys ++ sign.Comma at q ∷ zs)) (Alternatives.alternative t a cs) o
