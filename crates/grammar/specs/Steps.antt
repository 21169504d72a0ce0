-- A reader as a small program over the tokens, and what it comes to. The rules of Run are of no grammar.
use Rattle.std.specs.Prelude.{◌≡◌, ℕ, zero, suc, Bool, true, false, cond, ◌||◌, List, [], ◌∷◌, Some, None, Option, ◌==◌}
use Rattle.tokens.specs.declared.Mark.{Mark}
use Rattle.tokens.specs.declared.Mark.TheVariants as sign
use Rattle.tokens.specs.Spelling.{number}
use Rattle.tokens.specs.Lexeme.{Symbol, Lexeme}
use Rattle.syntax.specs.declared.Unary.{Unary}
use Rattle.syntax.specs.declared.Unary.TheVariants as un
use Rattle.syntax.specs.declared.Binary.{Binary}
use Rattle.syntax.specs.declared.Binary.TheVariants as bin
use Rattle.syntax.specs.declared.Connective.TheVariants as con
use Rattle.syntax.specs.declared.Quantifier.{Quantifier}
use Rattle.syntax.specs.declared.Quantifier.TheVariants as quant
use Rattle.syntax.specs.declared.Collection.TheVariants as coll
use Rattle.syntax.specs.Tree.{Place, Name, Pattern, Patterns, Tree, Trees, Alternatives, Optional}
use Rattle.grammar.specs.Grammar.{Left, Lead, Operation, join, Infix, infix_of_mark, Prefix, prefix_of_mark, Bracket, closing, kind, Sort, under, under_lead}

-- Tests of a token

abbrev pub same : Mark → Mark → Bool
same m n = number m == number n

abbrev pub Test : Type 0
Test = Symbol → Bool

abbrev pub is : Mark → Test
is m (Symbol.mark n) = same m n
is m (Symbol.name n) = false
is m (Symbol.numeral n) = false

abbrev pub is_name : Test
is_name (Symbol.mark m) = false
is_name (Symbol.name n) = true
is_name (Symbol.numeral n) = false

abbrev pub is_numeral : Test
is_numeral (Symbol.mark m) = false
is_numeral (Symbol.name n) = false
is_numeral (Symbol.numeral n) = true

abbrev pub is_truth : Test
is_truth s = is sign.True s || is sign.False s

abbrev pub is_quantifier : Test
is_quantifier s = is sign.Forall s || is sign.Exists s

abbrev pub same_left : Left → Left → Bool
same_left Left.iff Left.iff = true
same_left Left.iff Left.or = false
same_left Left.iff Left.and = false
same_left Left.iff Left.sum = false
same_left Left.iff Left.product = false
same_left Left.or Left.iff = false
same_left Left.or Left.or = true
same_left Left.or Left.and = false
same_left Left.or Left.sum = false
same_left Left.or Left.product = false
same_left Left.and Left.iff = false
same_left Left.and Left.or = false
same_left Left.and Left.and = true
same_left Left.and Left.sum = false
same_left Left.and Left.product = false
same_left Left.sum Left.iff = false
same_left Left.sum Left.or = false
same_left Left.sum Left.and = false
same_left Left.sum Left.sum = true
same_left Left.sum Left.product = false
same_left Left.product Left.iff = false
same_left Left.product Left.or = false
same_left Left.product Left.and = false
same_left Left.product Left.sum = false
same_left Left.product Left.product = true

abbrev pub same_lead : Lead → Lead → Bool
same_lead Lead.not Lead.not = true
same_lead Lead.not Lead.minus = false
same_lead Lead.minus Lead.not = false
same_lead Lead.minus Lead.minus = true

abbrev pub infix_at : Symbol → Infix
infix_at (Symbol.mark m) = infix_of_mark m
infix_at (Symbol.name n) = Infix.nothing
infix_at (Symbol.numeral n) = Infix.nothing

abbrev pub prefix_at : Symbol → Prefix
prefix_at (Symbol.mark m) = prefix_of_mark m
prefix_at (Symbol.name n) = Prefix.nothing
prefix_at (Symbol.numeral n) = Prefix.nothing

abbrev pub is_chain : Left → Infix → Bool
is_chain l (Infix.chains k o) = same_left l k
is_chain l Infix.implies = false
is_chain l (Infix.relates o) = false
is_chain l Infix.nothing = false

abbrev pub is_relation : Infix → Bool
is_relation (Infix.chains k o) = false
is_relation Infix.implies = false
is_relation (Infix.relates o) = true
is_relation Infix.nothing = false

abbrev pub is_lead : Lead → Prefix → Bool
is_lead l (Prefix.leads k o) = same_lead l k
is_lead l Prefix.nothing = false

abbrev pub joins : Left → Test
joins l s = is_chain l (infix_at s)

abbrev pub relates : Test
relates s = is_relation (infix_at s)

abbrev pub leads : Lead → Test
leads l s = is_lead l (prefix_at s)

-- What a token says, where its test holds

abbrev pub name_of : Symbol → Name
name_of (Symbol.mark m) = []
name_of (Symbol.name n) = n
name_of (Symbol.numeral n) = []

abbrev pub numeral_of : Symbol → ℕ
numeral_of (Symbol.mark m) = 0
numeral_of (Symbol.name n) = 0
numeral_of (Symbol.numeral n) = n

abbrev pub quantifier_of : Symbol → Quantifier
quantifier_of s = cond (is sign.Forall s) quant.Forall quant.Exists

abbrev pub operation : Infix → Operation
operation (Infix.chains l o) = o
operation Infix.implies = Operation.deciding con.Implies
operation (Infix.relates o) = Operation.strict o
operation Infix.nothing = Operation.strict bin.Apply

abbrev pub relation_of : Infix → Binary
relation_of (Infix.chains l o) = bin.Apply
relation_of Infix.implies = bin.Apply
relation_of (Infix.relates o) = o
relation_of Infix.nothing = bin.Apply

abbrev pub unary_of : Prefix → Unary
unary_of (Prefix.leads l o) = o
unary_of Prefix.nothing = un.Not

-- Programs

-- how many parts: any number, from one up to so many and one, or from two to eight
pub data Limit : Type 0 where
  any : Limit
  most : ℕ → Limit
  several : Limit

-- what follows a part: a comma and more may follow, must follow, or the part is the last
pub data Next : Type 0 where
  may must : Limit → Next
  last : Next

abbrev pub next : Limit → Next
next any = may any
next (most zero) = last
next (most (suc n)) = may (most n)
next several = must (most 6)

-- What is read. The flag says that `in` may follow, as it does behind what a `let` binds and behind the condition of `let be`.
-- `more` and `applied` go on behind an operand that was read.
pub data Job : Type 0 where
  parse : Sort → Bool → Job
  more : Left → Bool → Tree → Job
  applied : Tree → Job
  bind : Job
  items : Limit → Job
  arms : Job
  pattern : Job
  patterns : Limit → Job

pub record Bind : Type 0 where
  pub name : Name
  pub set : Tree

pub record Arms : Type 0 where
  pub arms : Alternatives
  pub others : Optional

abbrev pub Result : Job → Type 0
Result (parse s f) = Tree
Result (more l f a) = Tree
Result (applied a) = Tree
Result bind = Bind
Result (items l) = Trees
Result arms = Arms
Result pattern = Pattern
Result (patterns l) = Patterns

pub data Prog (A : Type 0) : Type 0 where
  ret : A → Prog A
  -- takes the next token, where the test holds of it, and goes on with the second, or else with the first
  on : Test → Prog A → (Lexeme → Prog A) → Prog A
  -- takes the next token, where the test holds of it, and goes on, or else refuses
  want : Test → (Lexeme → Prog A) → Prog A
  -- takes two tokens of which the tests hold and goes on with the third; where only the first test holds, leaves both and goes on with the second; else with the first
  ahead : Test → Test → Prog A → Prog A → (Lexeme → Prog A) → Prog A
  call : (j : Job) → (Result j → Prog A) → Prog A

-- the expression E, `in` may follow or not
abbrev pub opened : Job
opened = parse Sort.expr true

abbrev pub closed : Job
closed = parse Sort.expr false

-- let name = E in E | let B be st E in E, behind `let` at p
abbrev pub such_that : Bool → Place → Name → Prog Tree
such_that f p n =
    want (is sign.In) λ _. want (is sign.Set) λ _. call (parse (Sort.left Left.iff) false) λ a.
    want (is sign.Be) λ _. want (is sign.St) λ _. call opened λ b.
    want (is sign.In) λ _. call (parse Sort.expr f) λ c. ret (Tree.let_be p n a b c)

abbrev pub bound : Bool → Place → Name → Prog Tree
bound f p n = call opened λ a. want (is sign.In) λ _. call (parse Sort.expr f) λ b. ret (Tree.let_in p n a b)

abbrev pub let_tail : Bool → Place → Prog Tree
let_tail f p = want is_name λ n. on (is sign.Equal) (such_that f p (name_of n.symbol)) λ _. bound f p (name_of n.symbol)

-- cases E : .. end, behind `cases` at p
abbrev pub cases_tail : Place → Prog Tree
cases_tail p = call closed λ a. want (is sign.Colon) λ _. call arms λ r. want (is sign.End) λ _. ret (Tree.cases p a r.arms r.others)

-- forall B & E | exists B & E, behind the word at p
abbrev pub quantifier_tail : Bool → Place → Quantifier → Prog Tree
quantifier_tail f p o = call bind λ b. want (is sign.Ampersand) λ _. call (parse Sort.expr f) λ t. ret (Tree.quantifier p o b.name b.set t)

-- behind the opening bracket at p
abbrev pub closing_with : Bracket → Tree → Prog Tree
closing_with k t = want (is (closing k)) λ _. ret t

abbrev pub members : Bracket → Place → Tree → Prog Tree
members k p a = call (items any) λ ts. closing_with k (Tree.collection p (kind k) (Trees.more a ts))

abbrev pub after_comma : Bracket → Place → Tree → Prog Tree
after_comma Bracket.brace p a = on (is sign.Ellipsis) (members Bracket.brace p a) λ _. want (is sign.Comma) λ _. call closed λ b. closing_with Bracket.brace (Tree.range p a b)
after_comma Bracket.bracket p a = members Bracket.bracket p a

abbrev pub after_bar : Bracket → Place → Tree → Prog Tree
after_bar k p a =
    call bind λ b. on (is sign.Ampersand)
    (closing_with k (Tree.comprehension p (kind k) a b.name b.set Optional.absent))
    λ _. call closed λ c. closing_with k (Tree.comprehension p (kind k) a b.name b.set (Optional.present c))

abbrev pub after_first : Bracket → Place → Tree → Prog Tree
after_first k p a =
    on (is sign.Bar)
    (on (is sign.Comma) (closing_with k (Tree.collection p (kind k) (Trees.more a Trees.none))) λ _. after_comma k p a)
    λ _. after_bar k p a

abbrev pub collected : Bracket → Place → Prog Tree
collected k p = on (is (closing k)) (call closed λ a. after_first k p a) λ _. ret (Tree.collection p (kind k) Trees.none)

abbrev pub tuple_tail : Place → Prog Tree
tuple_tail p = want (is sign.OpenParen) λ _. call (items several) λ ts. want (is sign.CloseParen) λ _. ret (Tree.collection p coll.Tuple ts)

-- behind the left side a of a relation
abbrev pub right_side : Place → Binary → Tree → Prog Tree
right_side p o a = call (parse (Sort.left Left.sum) false) λ b. ret (Tree.binary p o a b)

abbrev pub member : Bool → Tree → Prog Tree
member true a = ahead (is sign.In) (is sign.Set) (ret a) (ret a) λ x. right_side x.place bin.InSet a
member false a = on (is sign.In) (ret a) λ x. want (is sign.Set) λ _. right_side x.place bin.InSet a

abbrev pub after_item : Next → Tree → Prog Trees
after_item (may l) a = on (is sign.Comma) (ret (Trees.more a Trees.none)) λ _. call (items l) λ ts. ret (Trees.more a ts)
after_item (must l) a = want (is sign.Comma) λ _. call (items l) λ ts. ret (Trees.more a ts)
after_item last a = ret (Trees.more a Trees.none)

abbrev pub after_pattern : Next → Pattern → Prog Patterns
after_pattern (may l) a = on (is sign.Comma) (ret (Patterns.more a Patterns.none)) λ _. call (patterns l) λ ts. ret (Patterns.more a ts)
after_pattern (must l) a = want (is sign.Comma) λ _. call (patterns l) λ ts. ret (Patterns.more a ts)
after_pattern last a = ret (Patterns.more a Patterns.none)

abbrev pub sequence_tail : Place → Prog Pattern
sequence_tail p =
    on (is sign.CloseBracket)
    (call (patterns any) λ ts. want (is sign.CloseBracket) λ _. ret (Pattern.parts p coll.Sequence ts))
    λ _. ret (Pattern.parts p coll.Sequence Patterns.none)

abbrev pub body : (j : Job) → Prog (Result j)
body (parse Sort.expr f) =
    on (is sign.Let)
    (on (is sign.If)
    (on (is sign.Cases)
    (on is_quantifier
    (call (parse (Sort.left Left.iff) f) ret)
    λ x. quantifier_tail f x.place (quantifier_of x.symbol))
    λ x. cases_tail x.place)
    λ x. call (parse (Sort.choice x.place) f) ret)
    λ x. let_tail f x.place
body (parse (Sort.choice p) f) =
    call closed λ a. want (is sign.Then) λ _. call closed λ b. on (is sign.Elseif)
    (want (is sign.Else) λ _. call (parse Sort.expr f) λ c. ret (Tree.if_else p a b c))
    λ x. call (parse (Sort.choice x.place) f) λ c. ret (Tree.if_else p a b c)
body (parse (Sort.left l) f) = call (parse (under l) f) λ a. call (more l f a) ret
body (parse Sort.implication f) =
    call (parse (Sort.left Left.or) f) λ a. on (is sign.Implies) (ret a) λ x. call (parse Sort.implication f) λ b. ret (Tree.connective x.place con.Implies a b)
body (parse (Sort.lead l) f) =
    on (leads l) (call (parse (under_lead l) f) ret) λ x. call (parse (Sort.lead l) f) λ a. ret (Tree.unary x.place (unary_of (prefix_at x.symbol)) a)
body (parse Sort.relation f) =
    call (parse (Sort.left Left.sum) false) λ a. on relates
    (on (is sign.Not)
    (member f a)
    λ x. want (is sign.In) λ _. want (is sign.Set) λ _. right_side x.place bin.NotInSet a)
    λ x. right_side x.place (relation_of (infix_at x.symbol)) a
body (parse Sort.postfix f) = call (parse Sort.atom false) λ a. call (applied a) ret
body (parse Sort.atom f) =
    on is_numeral
    (on is_name
    (on is_truth
    (on (is sign.OpenParen)
    (on (is sign.OpenBrace)
    (on (is sign.OpenBracket)
    (want (is sign.Mk) λ x. tuple_tail x.place)
    λ x. collected Bracket.bracket x.place)
    λ x. collected Bracket.brace x.place)
    λ _. call closed λ a. want (is sign.CloseParen) λ _. ret a)
    λ x. ret (Tree.truth x.place (is sign.True x.symbol)))
    λ x. ret (Tree.name x.place (name_of x.symbol)))
    λ x. ret (Tree.numeral x.place (numeral_of x.symbol))
body (more l f a) =
    on (joins l) (ret a) λ x. call (parse (under l) f) λ b. call (more l f (join (operation (infix_at x.symbol)) x.place a b)) ret
body (applied a) =
    on (is sign.OpenParen)
    (on (is sign.Select)
    (ret a)
    λ x. want is_numeral λ n. call (applied (Tree.selection x.place a (numeral_of n.symbol))) ret)
    λ x. call closed λ b. want (is sign.CloseParen) λ _. call (applied (Tree.binary x.place bin.Apply a b)) ret
body bind =
    want is_name λ n. want (is sign.In) λ _. want (is sign.Set) λ _. call (parse (Sort.left Left.iff) false) λ a. ret (record { name = name_of n.symbol; set = a })
body (items l) = call closed λ a. after_item (next l) a
body arms =
    call pattern λ p. want (is sign.Arrow) λ _. call closed λ a. on (is sign.Comma)
    (ret (record { arms = Alternatives.alternative p a Alternatives.no_more; others = Optional.absent }))
    λ _. on (is sign.Others)
    (call arms λ r. ret (record { arms = Alternatives.alternative p a r.arms; others = r.others }))
    λ _. want (is sign.Arrow) λ _. call closed λ b. ret (record { arms = Alternatives.alternative p a Alternatives.no_more; others = Optional.present b })
body pattern =
    on (is sign.Minus)
    (on is_name
    (on is_numeral
    (on is_truth
    (on (is sign.OpenBracket)
    (want (is sign.Mk) λ x. want (is sign.OpenParen) λ _. call (patterns several) λ ts. want (is sign.CloseParen) λ _. ret (Pattern.parts x.place coll.Tuple ts))
    λ x. sequence_tail x.place)
    λ x. ret (Pattern.truth x.place (is sign.True x.symbol)))
    λ x. ret (Pattern.number x.place (numeral_of x.symbol)))
    λ x. ret (Pattern.binds x.place (name_of x.symbol)))
    λ x. ret (Pattern.any x.place)
body (patterns l) = call pattern λ a. after_pattern (next l) a

-- Runs

-- What a run comes to: a result or a refusal, the tokens left, where a refusal is at the first of them, and whether the token
-- behind that one was looked at.
pub data Out (A : Type 0) : Type 0 where
  out : Option A → List Lexeme → Bool → Out A

abbrev pub first : List Lexeme → Option Lexeme
first [] = None
first (x ∷ xs) = Some x

abbrev pub second : List Lexeme → Option Lexeme
second [] = None
second (x ∷ xs) = first xs

-- there is a next token and the test holds of it; there is none or the test does not hold
abbrev pub Hits : Test → Option Lexeme → Type 0
Hits t None = ⊥
Hits t (Some x) = t x.symbol ≡ true

abbrev pub Misses : Test → Option Lexeme → Type 0
Misses t None = Unit {0}
Misses t (Some x) = t x.symbol ≡ false

-- Run i p ts far o: p, with a result as i has it, on ts comes to o; far: the second token of ts was looked at before
pub data Run : (i : Job) → Prog (Result i) → List Lexeme → Bool → Out (Result i) → Type 0 where
  r_ret : {i : Job} {a : Result i} {ts : List Lexeme} {far : Bool} → Run i (ret a) ts far (out (Some a) ts far)
  r_on : {i : Job} {t : Test} {q : Prog (Result i)} {k : Lexeme → Prog (Result i)} {x : Lexeme} {ts : List Lexeme} {far : Bool} {o : Out (Result i)} → t x.symbol ≡ true → Run i (k x) ts false o → Run i (on t q k) (x ∷ ts) far o
  r_off : {i : Job} {t : Test} {q : Prog (Result i)} {k : Lexeme → Prog (Result i)} {ts : List Lexeme} {far : Bool} {o : Out (Result i)} → Misses t (first ts) → Run i q ts far o → Run i (on t q k) ts far o
  r_want : {i : Job} {t : Test} {k : Lexeme → Prog (Result i)} {x : Lexeme} {ts : List Lexeme} {far : Bool} {o : Out (Result i)} → t x.symbol ≡ true → Run i (k x) ts false o → Run i (want t k) (x ∷ ts) far o
  r_refuse : {i : Job} {t : Test} {k : Lexeme → Prog (Result i)} {ts : List Lexeme} {far : Bool} → Misses t (first ts) → Run i (want t k) ts far (out None ts far)
  r_both : {i : Job} {t u : Test} {r q : Prog (Result i)} {k : Lexeme → Prog (Result i)} {x y : Lexeme} {ts : List Lexeme} {far : Bool} {o : Out (Result i)} → t x.symbol ≡ true → u y.symbol ≡ true → Run i (k x) ts false o → Run i (ahead t u r q k) (x ∷ y ∷ ts) far o
  r_only : {i : Job} {t u : Test} {r q : Prog (Result i)} {k : Lexeme → Prog (Result i)} {ts : List Lexeme} {far : Bool} {o : Out (Result i)} → Hits t (first ts) → Misses u (second ts) → Run i q ts true o → Run i (ahead t u r q k) ts far o
  r_none : {i : Job} {t u : Test} {r q : Prog (Result i)} {k : Lexeme → Prog (Result i)} {ts : List Lexeme} {far : Bool} {o : Out (Result i)} → Misses t (first ts) → Run i r ts far o → Run i (ahead t u r q k) ts far o
  r_call : {i j : Job} {k : Result j → Prog (Result i)} {a : Result j} {ts rest : List Lexeme} {far then : Bool} {o : Out (Result i)} → Run j (body j) ts far (out (Some a) rest then) → Run i (k a) rest then o → Run i (call j k) ts far o
  r_fails : {i j : Job} {k : Result j → Prog (Result i)} {ts rest : List Lexeme} {far then : Bool} → Run j (body j) ts far (out None rest then) → Run i (call j k) ts far (out None rest then)
