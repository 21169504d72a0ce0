-- The laws of the evaluation.
use Rattle.std.specs.Prelude.{◌≡◌, ℕ, suc, ◌^◌, ◌<◌, Bool, true, false, cond, not, ◌⊎◌, List, [], ◌∷◌, ◌++◌, map, length, pos, None, ◌≢◌, slice_index_or}
use Rattle.std.proofs.Math.Option.{none, some}
use Rattle.tokens.specs.declared.Token.{Token}
use Rattle.tokens.specs.Lexeme.{lexeme}
use Rattle.tokens.specs.Pieces.{Cut}
use Rattle.grammar.specs.Grammar.{Derives, expr}
use Rattle.syntax.specs.declared.Binary.TheVariants.{Equal, NotEqual, InSet, NotInSet}
use Rattle.syntax.specs.declared.Unary.{Unary}
use Rattle.syntax.specs.declared.Binary.{Binary}
use Rattle.syntax.specs.declared.Connective.{Connective}
use Rattle.syntax.specs.declared.Connective.TheVariants.{Implies, Or, And}
use Rattle.syntax.specs.declared.Quantifier.{Quantifier}
use Rattle.syntax.specs.declared.Quantifier.TheVariants.{Forall, Exists}
use Rattle.syntax.specs.declared.Collection.{Collection}
use Rattle.syntax.specs.declared.Collection.TheVariants.{Set, Sequence, Tuple}
use Rattle.syntax.specs.Tree.{Place, Name, Tree, numeral, name, unary, binary, connective, if_else, let_in, let_be, cases, quantifier, collection, range, comprehension, selection, Trees, Pattern, Patterns, Alternatives, no_more, alternative, Optional, absent, present}
use Rattle.values.specs.declared.Fault.{Fault}
use Rattle.values.specs.declared.Fault.TheVariants.{WrongKind, NoCandidate, NoCase}
use Rattle.values.specs.Value.{Value, number, truth, many, of}
use Rattle.values.specs.declared.Operand.TheVariants.{Number, Many}
use Rattle.values.specs.Lawful.{Lawful}
use Rattle.values.specs.Sets.{gathered}
use Rattle.values.specs.Operators.{is, unary as op_unary, binary as op_binary}
use Rattle.syntax.specs.Names.{In, Occurrence, free}
use Rattle.meaning.specs.Names.{Binding, ◌≔◌, Sight, nothing, bind, bind_all, Facts, Map, lookup, Agrees}
use Rattle.meaning.specs.Parts.{numerals, sites, Apart}
use Rattle.meaning.specs.Course.{Outcome, value, fault, Course, ended, begins, chooses}
use Rattle.meaning.specs.Eval.{told, both, match, eval, eval_or}
use Rattle.meaning.specs.Play.{Picker, outcome, begun, Chooser, by, Allowed}

-- ---- choices

-- each choice on the way has one candidate only
abbrev pub Single : Picker → Course → Type 0
Single pick (ended o) = Unit {0}
Single pick (begins p m) = Single pick m
Single pick (chooses p s c [] f) = Single pick (f (pick p s c []))
Single pick (chooses p s c (d ∷ ds) f) = ⊥

pub record Choosing : Type 0 where
  -- the candidates are numbered from 0, and the one with the number replied is taken
  pub numbered : (χ : Chooser) (p : Place) (s : Sight) (c : Value) (cs : List Value) (none : Value) → by χ p s c cs ≡ slice_index_or (c ∷ cs) (χ.reply p (suc (length cs))) none
  -- the outcome under any chooser is allowed
  pub allowed : (t : Tree) (f : Facts) (χ : Chooser) → Allowed t f (outcome (by χ) (eval t f nothing))
  -- where each choice on the way of one chooser has one candidate, every chooser gives the same outcome and the same list
  pub same_outcome : (t : Tree) (f : Facts) (χ ψ : Chooser) → Single (by χ) (eval t f nothing) → outcome (by ψ) (eval t f nothing) ≡ outcome (by χ) (eval t f nothing)
  pub same_list : (t : Tree) (f : Facts) (χ ψ : Chooser) → Single (by χ) (eval t f nothing) → begun (by ψ) (eval t f nothing) ≡ begun (by χ) (eval t f nothing)
  -- and no other outcome is allowed
  pub sole : (t : Tree) (f : Facts) (χ : Chooser) (o : Outcome) → Single (by χ) (eval t f nothing) → Allowed t f o → o ≡ outcome (by χ) (eval t f nothing)

-- ---- assignments by place and names in sight alone

-- with this assignment the course has this outcome, and at each choice on the way one of the candidates is assigned
abbrev pub Leads : (Place → Sight → Value) → Course → Outcome → Type 0
Leads α (ended o) r = o ≡ r
Leads α (begins p m) r = Leads α m r
Leads α (chooses p s c cs f) r = In (α p s) (c ∷ cs) × Leads α (f (α p s)) r

-- Where no two `let be` stand at one place, an assignment that is told the candidates too allows no more outcomes, and no fewer.
pub record Assigning : Type 0 where
  pub no_more : (t : Tree) (f : Facts) (o : Outcome) → Apart (sites t) → Allowed t f o → (α : Place → Sight → Value) × Leads α (eval t f nothing) o
  -- as in the tree of any text
  pub of_texts : (text : List ℕ) (ts : List Token) (t : Tree) → Cut 0 text ts None → Derives expr (map (lexeme text) ts) t → Apart (sites t)
  pub no_fewer : (t : Tree) (f : Facts) (o : Outcome) (α : Place → Sight → Value) → Leads α (eval t f nothing) o → Allowed t f o

-- ---- facts

pub record Naming : Type 0 where
  -- the course depends on the facts at the free names only
  pub depends : (t : Tree) (f g : Facts) → ((o : Occurrence) → In o (free t []) → f o.name ≡ g o.name) → eval t f nothing ≡ eval t g nothing
  -- there are facts that agree with a map, where it has every free name
  pub covered : (m : Map) (t : Tree) → ((o : Occurrence) → In o (free t []) → (v : Value) × (lookup m o.name ≡ some v)) → (f : Facts) × Agrees m f t
  -- and then the map settles the course
  pub settled : (m : Map) (t : Tree) (f g : Facts) → Agrees m f t → Agrees m g t → eval t f nothing ≡ eval t g nothing

-- ---- what is begun

abbrev pub place : Tree → Place
place (numeral p n) = p
place (Tree.truth p b) = p
place (name p n) = p
place (unary p op a) = p
place (binary p op a b) = p
place (connective p op a b) = p
place (if_else p a b c) = p
place (let_in p x a b) = p
place (let_be p x s c b) = p
place (cases p a cs o) = p
place (quantifier p q x s b) = p
place (collection p k ts) = p
place (range p a b) = p
place (comprehension p k e x s c) = p
place (selection p a n) = p

pub record Beginning : Type 0 where
  -- the list begins with the place of the whole expression
  pub first : (pick : Picker) (t : Tree) (f : Facts) (s : Sight) → (rest : List Place) × (begun pick (eval t f s) ≡ place t ∷ rest)
  -- the place of a fault is the place of some expression begun
  pub faulty : (pick : Picker) (t : Tree) (f : Facts) (s : Sight) (k : Fault) (q : Place) → outcome pick (eval t f s) ≡ fault k q → In q (begun pick (eval t f s))

-- ---- truth values

-- what an outcome counts for where a truth value is asked for
pub data Side : Type 0 where
  yea nay other : Side
  failed : Fault → Place → Side

abbrev pub side : Outcome → Side
side (value (number z)) = other
side (value (truth true)) = yea
side (value (truth false)) = nay
side (value (many k vs)) = other
side (fault k q) = failed k q

-- the outcome o that a part which is no truth value stands for: its fault, or 20 at p
abbrev pub failing : Place → Side → Outcome → Type 0
failing p (failed k q) o = o ≡ fault k q
failing p other o = o ≡ fault WrongKind p
failing p yea o = ⊥
failing p nay o = ⊥

-- ---- operators, `let` and `if`

-- the first fault of the two parts, else what is made of their values
abbrev pub of_both : (Value → Value → Outcome) → Outcome → Outcome → Outcome
of_both g (fault k q) b = fault k q
of_both g (value v) (fault k q) = fault k q
of_both g (value v) (value w) = g v w

abbrev pub of_one : (Value → Outcome) → Outcome → Outcome
of_one g (fault k q) = fault k q
of_one g (value v) = g v

-- what is begun behind a part: nothing where it is a fault
abbrev pub unless_fault : (Value → List Place) → Outcome → List Place
unless_fault list (fault k q) = []
unless_fault list (value v) = list v

module _ (pick : Picker) (f : Facts) (s : Sight) where
  abbrev pub out : Tree → Outcome
  out t = outcome pick (eval t f s)

  abbrev pub list_of : Tree → List Place
  list_of t = begun pick (eval t f s)

  -- parts from left to right, up to the first fault; own tests afterwards, at the own place
  pub record Parts : Type 0 where
    pub unary_out : (p : Place) (op : Unary) (a : Tree) → out (unary p op a) ≡ of_one (λ v. told p (op_unary op v)) (out a)
    pub unary_list : (p : Place) (op : Unary) (a : Tree) → list_of (unary p op a) ≡ p ∷ list_of a
    pub binary_out : (p : Place) (op : Binary) (a b : Tree) → out (binary p op a b) ≡ of_both (λ v w. told p (op_binary op v w)) (out a) (out b)
    pub binary_list : (p : Place) (op : Binary) (a b : Tree) → list_of (binary p op a b) ≡ p ∷ (list_of a ++ unless_fault (λ v. list_of b) (out a))
    -- the right side of a `let`, with the name bound
    pub let_out : (p : Place) (x : Name) (a b : Tree) → out (let_in p x a b) ≡ of_one (λ v. outcome pick (eval b f (bind x v s))) (out a)
    pub let_list : (p : Place) (x : Name) (a b : Tree) → list_of (let_in p x a b) ≡ p ∷ (list_of a ++ unless_fault (λ v. begun pick (eval b f (bind x v s))) (out a))
    -- one branch of an `if`, or none
    pub if_true_out : (p : Place) (a b c : Tree) → out a ≡ value (truth true) → out (if_else p a b c) ≡ out b
    pub if_true_list : (p : Place) (a b c : Tree) → out a ≡ value (truth true) → list_of (if_else p a b c) ≡ p ∷ (list_of a ++ list_of b)
    pub if_false_out : (p : Place) (a b c : Tree) → out a ≡ value (truth false) → out (if_else p a b c) ≡ out c
    pub if_false_list : (p : Place) (a b c : Tree) → out a ≡ value (truth false) → list_of (if_else p a b c) ≡ p ∷ (list_of a ++ list_of c)
    pub if_none_out : (p : Place) (a b c : Tree) (o : Outcome) → failing p (side (out a)) o → out (if_else p a b c) ≡ o
    pub if_none_list : (p : Place) (a b c : Tree) (o : Outcome) → failing p (side (out a)) o → list_of (if_else p a b c) ≡ p ∷ list_of a

abbrev pub Ordering : Type 0
Ordering = (pick : Picker) (f : Facts) (s : Sight) → Parts pick f s

-- ---- `cases`

-- what a pattern matches
pub record Matching : Type 0 where
  pub any_value : (p : Place) (v : Value) → match (Pattern.any p) v ≡ some []
  pub a_name : (p : Place) (n : Name) (v : Value) → match (Pattern.binds p n) v ≡ some (n ≔ v ∷ [])
  -- a numeral, `true` or `false`: the value that is equal to it, and no other
  pub numeral_itself : (p : Place) (n : ℕ) → match (Pattern.number p n) (number (pos n)) ≡ some []
  pub numeral_only : (p : Place) (n : ℕ) (v : Value) (bs : List Binding) → match (Pattern.number p n) v ≡ some bs → v ≡ number (pos n)
  pub truth_itself : (p : Place) (b : Bool) → match (Pattern.truth p b) (truth b) ≡ some []
  pub truth_only : (p : Place) (b : Bool) (v : Value) (bs : List Binding) → match (Pattern.truth p b) v ≡ some bs → v ≡ truth b
  -- a pattern with parts: a sequence or tuple with a member for each, which it matches
  pub no_parts : (p : Place) (k : Collection) → match (Pattern.parts p k Patterns.none) (of k []) ≡ some []
  pub too_few : (p : Place) (k : Collection) (t : Pattern) (ts : Patterns) → match (Pattern.parts p k (Patterns.more t ts)) (of k []) ≡ none
  pub too_many : (p : Place) (k : Collection) (v : Value) (vs : List Value) → match (Pattern.parts p k Patterns.none) (of k (v ∷ vs)) ≡ none
  pub with_parts : (p : Place) (k : Collection) (t : Pattern) (ts : Patterns) (v : Value) (vs : List Value) → match (Pattern.parts p k (Patterns.more t ts)) (of k (v ∷ vs)) ≡ both (match t v) (match (Pattern.parts p k ts) (of k vs))
  pub other_kind : (p : Place) (k : Collection) (ts : Patterns) (v : Value) → is (Many k) v ≡ false → match (Pattern.parts p k ts) v ≡ none

-- the subject first; the first alternative that matches, else `others`, else 26
module _ (pick : Picker) (f : Facts) (s : Sight) (p : Place) (a : Tree) where
  abbrev pub case : Alternatives → Optional → Tree
  case cs o = cases p a cs o

  pub record Cased (v : Value) : Type 0 where
    pub taken : (t : Pattern) (b : Tree) (cs : Alternatives) (o : Optional) (bs : List Binding) → match t v ≡ some bs → out pick f s (case (alternative t b cs) o) ≡ outcome pick (eval b f (bind_all bs s))
    pub taken_list : (t : Pattern) (b : Tree) (cs : Alternatives) (o : Optional) (bs : List Binding) → match t v ≡ some bs → list_of pick f s (case (alternative t b cs) o) ≡ p ∷ (list_of pick f s a ++ begun pick (eval b f (bind_all bs s)))
    pub passed : (t : Pattern) (b : Tree) (cs : Alternatives) (o : Optional) → match t v ≡ none → out pick f s (case (alternative t b cs) o) ≡ out pick f s (case cs o)
    pub passed_list : (t : Pattern) (b : Tree) (cs : Alternatives) (o : Optional) → match t v ≡ none → list_of pick f s (case (alternative t b cs) o) ≡ list_of pick f s (case cs o)
    pub others : (b : Tree) → out pick f s (case no_more (present b)) ≡ out pick f s b
    pub others_list : (b : Tree) → list_of pick f s (case no_more (present b)) ≡ p ∷ (list_of pick f s a ++ list_of pick f s b)
    pub no_case : out pick f s (case no_more absent) ≡ fault NoCase p
    pub no_case_list : list_of pick f s (case no_more absent) ≡ p ∷ list_of pick f s a

abbrev pub Casing : Type 0
Casing = (pick : Picker) (f : Facts) (s : Sight) (p : Place) (a : Tree) (v : Value) → out pick f s a ≡ value v → Cased pick f s p a v

-- ---- the connectives

-- the tables of `or`, `and`, `=>` at p: left side, right side
abbrev pub tabled : Connective → Place → Side → Side → Outcome
tabled Or p yea yea = value (truth true)
tabled Or p yea nay = value (truth true)
tabled Or p yea (failed j r) = value (truth true)
tabled Or p yea other = value (truth true)
tabled Or p nay yea = value (truth true)
tabled Or p nay nay = value (truth false)
tabled Or p nay (failed j r) = fault j r
tabled Or p nay other = fault WrongKind p
tabled Or p (failed k q) yea = value (truth true)
tabled Or p (failed k q) nay = fault k q
tabled Or p (failed k q) (failed j r) = fault k q
tabled Or p (failed k q) other = fault k q
tabled Or p other yea = value (truth true)
tabled Or p other nay = fault WrongKind p
tabled Or p other (failed j r) = fault WrongKind p
tabled Or p other other = fault WrongKind p
tabled And p yea yea = value (truth true)
tabled And p yea nay = value (truth false)
tabled And p yea (failed j r) = fault j r
tabled And p yea other = fault WrongKind p
tabled And p nay yea = value (truth false)
tabled And p nay nay = value (truth false)
tabled And p nay (failed j r) = value (truth false)
tabled And p nay other = value (truth false)
tabled And p (failed k q) yea = fault k q
tabled And p (failed k q) nay = value (truth false)
tabled And p (failed k q) (failed j r) = fault k q
tabled And p (failed k q) other = fault k q
tabled And p other yea = fault WrongKind p
tabled And p other nay = value (truth false)
tabled And p other (failed j r) = fault WrongKind p
tabled And p other other = fault WrongKind p
tabled Implies p yea yea = value (truth true)
tabled Implies p yea nay = value (truth false)
tabled Implies p yea (failed j r) = fault j r
tabled Implies p yea other = fault WrongKind p
tabled Implies p nay yea = value (truth true)
tabled Implies p nay nay = value (truth true)
tabled Implies p nay (failed j r) = value (truth true)
tabled Implies p nay other = value (truth true)
tabled Implies p (failed k q) yea = value (truth true)
tabled Implies p (failed k q) nay = fault k q
tabled Implies p (failed k q) (failed j r) = fault k q
tabled Implies p (failed k q) other = fault k q
tabled Implies p other yea = value (truth true)
tabled Implies p other nay = fault WrongKind p
tabled Implies p other (failed j r) = fault WrongKind p
tabled Implies p other other = fault WrongKind p

-- the left side alone decides, so that the right side is not begun
abbrev pub alone : Connective → Side → Bool
alone Or yea = true
alone Or nay = false
alone Or (failed k q) = false
alone Or other = false
alone And yea = false
alone And nay = true
alone And (failed k q) = false
alone And other = false
alone Implies yea = false
alone Implies nay = true
alone Implies (failed k q) = false
alone Implies other = false

pub record Connecting : Type 0 where
  pub table :
      (pick : Picker) (op : Connective) (p : Place) (a b : Tree) (f : Facts) (s : Sight)
      → outcome pick (eval (connective p op a b) f s) ≡ tabled op p (side (outcome pick (eval a f s))) (side (outcome pick (eval b f s)))
  pub list :
      (pick : Picker) (op : Connective) (p : Place) (a b : Tree) (f : Facts) (s : Sight)
      → begun pick (eval (connective p op a b) f s) ≡ p ∷ (begun pick (eval a f s) ++ cond (alone op (side (outcome pick (eval a f s)))) [] (begun pick (eval b f s)))

-- ---- the quantifiers

-- the truth value that decides
abbrev pub decisive : Quantifier → Bool
decisive Exists = true
decisive Forall = false

-- the members for which the body is begun: up to the first that decides
abbrev pub walked : Bool → (Value → Outcome) → (Value → List Place) → List Value → List Place
walked d out list [] = []
walked true out list (v ∷ vs) = list v ++ cond (alone Or (side (out v))) [] (walked true out list vs)
walked false out list (v ∷ vs) = list v ++ cond (alone And (side (out v))) [] (walked false out list vs)

module _ (pick : Picker) (q : Quantifier) (p : Place) (x : Name) (a b : Tree) (f : Facts) (s : Sight) where
  -- the outcome of the body for a member, what it begins, and the outcome of the whole
  abbrev pub body : Value → Outcome
  body v = outcome pick (eval b f (bind x v s))

  abbrev pub begins_body : Value → List Place
  begins_body v = begun pick (eval b f (bind x v s))

  abbrev pub quantified : Outcome
  quantified = outcome pick (eval (quantifier p q x a b) f s)

  pub record Quantified (vs : List Value) : Type 0 where
    -- a member that decides makes up for all others
    pub decided : (v : Value) → In v vs → body v ≡ value (truth (decisive q)) → quantified ≡ value (truth (decisive q))
    -- where the body is the other truth value for every member, that is the outcome
    pub undecided : ((v : Value) → In v vs → body v ≡ value (truth (not (decisive q)))) → quantified ≡ value (truth (not (decisive q)))
    -- else it is the outcome of the first member that fails
    pub first_failed :
        (us ws : List Value) (v : Value) (o : Outcome)
        → vs ≡ us ++ v ∷ ws
        → ((u : Value) → In u us → body u ≡ value (truth (not (decisive q))))
        → failing p (side (body v)) o
        → ((w : Value) → In w ws → body w ≢ value (truth (decisive q)))
        → quantified ≡ o
    -- the set, then the body for each member up to the first that decides
    pub list : begun pick (eval (quantifier p q x a b) f s) ≡ p ∷ (begun pick (eval a f s) ++ walked (decisive q) body begins_body vs)

-- over a set of members in ascending order
abbrev pub Quantifying : Type 0
Quantifying =
    (pick : Picker) (q : Quantifier) (p : Place) (x : Name) (a b : Tree) (f : Facts) (s : Sight) (vs : List Value)
    → outcome pick (eval a f s) ≡ value (of Set vs)
    → Quantified pick q p x a b f s vs

-- ---- `let be`

-- a member for which the condition is true is a candidate, and no other
abbrev pub if_true : Side → Value → List Value
if_true yea v = v ∷ []
if_true nay v = []
if_true other v = []
if_true (failed k q) v = []

abbrev pub those : (Value → Outcome) → List Value → List Value
those out [] = []
those out (v ∷ vs) = if_true (side (out v)) v ++ those out vs

-- what is begun for every member
abbrev pub each : (Value → List Place) → List Value → List Place
each list [] = []
each list (v ∷ vs) = list v ++ each list vs

module _ (pick : Picker) (p : Place) (x : Name) (a c b : Tree) (f : Facts) (s : Sight) where
  abbrev pub chosen : Outcome
  chosen = outcome pick (eval (let_be p x a c b) f s)

  abbrev pub begins_all : List Place
  begins_all = begun pick (eval (let_be p x a c b) f s)

  abbrev pub candidates : List Value → List Value
  candidates vs = those (λ v. outcome pick (eval c f (bind x v s))) vs

  -- the set, then the condition for every member
  abbrev pub before : List Value → List Place
  before vs = begun pick (eval a f s) ++ each (λ v. begun pick (eval c f (bind x v s))) vs

  pub record Chosen (vs : List Value) : Type 0 where
    pub without : candidates vs ≡ [] → chosen ≡ fault NoCandidate p
    pub without_list : candidates vs ≡ [] → begins_all ≡ p ∷ before vs
    -- one of the candidates is taken, and the body is evaluated with it
    pub taken : (d : Value) (ds : List Value) → candidates vs ≡ d ∷ ds → chosen ≡ outcome pick (eval b f (bind x (pick p s d ds) s))
    pub taken_list : (d : Value) (ds : List Value) → candidates vs ≡ d ∷ ds → begins_all ≡ p ∷ (before vs ++ begun pick (eval b f (bind x (pick p s d ds) s)))

-- over a set of members in ascending order
abbrev pub Letting : Type 0
Letting =
    (pick : Picker) (p : Place) (x : Name) (a c b : Tree) (f : Facts) (s : Sight) (vs : List Value)
    → outcome pick (eval a f s) ≡ value (of Set vs)
    → Chosen pick p x a c b f s vs

-- ---- comprehensions

-- the outcomes for these are values: those ones
abbrev pub Values : (Value → Outcome) → List Value → List Value → Type 0
Values out [] [] = Unit {0}
Values out [] (w ∷ ws) = ⊥
Values out (v ∷ vs) [] = ⊥
Values out (v ∷ vs) (w ∷ ws) = (out v ≡ value w) × Values out vs ws

-- a set of them, or a sequence of them in their order
abbrev pub collected : Collection → List Value → Value
collected Set ws = of Set (gathered [] ws)
collected Sequence ws = of Sequence ws
collected Tuple ws = of Tuple ws

-- what is begun for a member: the condition, and where it is true, the expression before the bar
abbrev pub filtered : Side → List Place → List Place → List Place
filtered yea cs rs = cs ++ rs
filtered nay cs rs = cs
filtered other cs rs = cs
filtered (failed k q) cs rs = cs

module _ (pick : Picker) (p : Place) (k : Collection) (e : Tree) (x : Name) (a : Tree) (c : Optional) (f : Facts) (s : Sight) where
  -- a condition that is left out is true
  abbrev pub condition : Value → Course
  condition v = eval_or c f (bind x v s) (ended (value (truth true)))

  abbrev pub comprehended : Course
  comprehended = eval (comprehension p k e x a c) f s

  -- where the outcome is the value u
  pub record Comprehended (vs : List Value) (u : Value) : Type 0 where
    -- a sequence comprehension goes over numbers only
    pub numbers : k ≡ Sequence → (v : Value) → In v vs → is Number v ≡ true
    -- each condition is a truth value
    pub decided : (v : Value) → In v vs → (outcome pick (condition v) ≡ value (truth true)) ⊎ (outcome pick (condition v) ≡ value (truth false))
    -- the value is made of the results for the members for which it is true, in ascending order of the members
    pub results : List Value
    pub gives : Values (λ v. outcome pick (eval e f (bind x v s))) (those (λ v. outcome pick (condition v)) vs) results
    pub is_value : u ≡ collected k results
    -- the set first, then for each member its condition first
    pub list : begun pick comprehended ≡ p ∷ (begun pick (eval a f s) ++ each (λ v. filtered (side (outcome pick (condition v))) (begun pick (condition v)) (begun pick (eval e f (bind x v s)))) vs)

-- over a set of members in ascending order
abbrev pub Comprehending : Type 0
Comprehending =
    (pick : Picker) (p : Place) (k : Collection) (e : Tree) (x : Name) (a : Tree) (c : Optional) (f : Facts) (s : Sight) (vs : List Value) (u : Value)
    → outcome pick (eval a f s) ≡ value (of Set vs)
    → outcome pick (eval (comprehension p k e x a c) f s) ≡ value u
    → Comprehended pick p k e x a c f s vs u

-- ---- duality

-- true and false exchanged
abbrev pub turn : Outcome → Outcome
turn (value (number z)) = value (number z)
turn (value (truth b)) = value (truth (not b))
turn (value (many k vs)) = value (many k vs)
turn (fault k q) = fault k q

-- the second has the outcome of the first with true and false exchanged, and begins the same
pub record Turned (pick : Picker) (m n : Course) : Type 0 where
  pub out : outcome pick n ≡ turn (outcome pick m)
  pub list : begun pick n ≡ begun pick m

pub record Duality : Type 0 where
  -- `<>` is `=`, and `not in set` is `in set`, so exchanged
  pub equal : (pick : Picker) (p : Place) (a b : Tree) (f : Facts) (s : Sight) → Turned pick (eval (binary p Equal a b) f s) (eval (binary p NotEqual a b) f s)
  pub member : (pick : Picker) (p : Place) (a b : Tree) (f : Facts) (s : Sight) → Turned pick (eval (binary p InSet a b) f s) (eval (binary p NotInSet a b) f s)
  -- `and` is `or`
  pub and_or :
      (pick : Picker) (p : Place) (a b a' b' : Tree) (f : Facts) (s : Sight)
      → Turned pick (eval a f s) (eval a' f s)
      → Turned pick (eval b f s) (eval b' f s)
      → Turned pick (eval (connective p Or a b) f s) (eval (connective p And a' b') f s)
  -- `forall` is `exists`
  pub forall_exists :
      (pick : Picker) (p : Place) (x : Name) (a b b' : Tree) (f : Facts) (s : Sight)
      → ((v : Value) → Turned pick (eval b f (bind x v s)) (eval b' f (bind x v s)))
      → Turned pick (eval (quantifier p Exists x a b) f s) (eval (quantifier p Forall x a b') f s)

-- ---- over {}

-- a quantifier over {}
abbrev pub none_of : Quantifier → Place → Place → Name → Tree → Tree
none_of q p r x b = quantifier p q x (collection r Set Trees.none) b

pub record Vacuous : Type 0 where
  -- wherever it stands: under any facts, with any names in sight
  pub exists_none : (pick : Picker) (p r : Place) (x : Name) (b : Tree) (f : Facts) (s : Sight) → outcome pick (eval (none_of Exists p r x b) f s) ≡ value (truth false)
  pub forall_none : (pick : Picker) (p r : Place) (x : Name) (b : Tree) (f : Facts) (s : Sight) → outcome pick (eval (none_of Forall p r x b) f s) ≡ value (truth true)
  -- behind an `or` whose first half failed, the fault remains
  pub behind_failed :
      (pick : Picker) (p q r : Place) (x : Name) (a b : Tree) (f : Facts) (s : Sight) (k : Fault) (z : Place)
      → outcome pick (eval a f s) ≡ fault k z
      → outcome pick (eval (connective q Or a (none_of Exists p r x b)) f s) ≡ fault k z

-- ---- lawful values

-- no numeral is over 2,147,483,647
abbrev pub Ranged : Tree → Type 0
Ranged t = (n : ℕ) → In n (numerals t) → n < 2 ^ 31

abbrev pub ToldLawful : Tree → Facts → Type 0
ToldLawful t f = (o : Occurrence) → In o (free t []) → Lawful (f o.name)

-- along the whole course, whichever candidates are taken: the value at the end, each value in sight of a choice and each candidate are lawful
abbrev pub Lawfully : Course → Type 0
Lawfully (ended (value v)) = Lawful v
Lawfully (ended (fault k q)) = Unit {0}
Lawfully (begins p m) = Lawfully m
Lawfully (chooses p s c cs f) = ((n : Name) (v : Value) → s n ≡ some v → Lawful v) × ((v : Value) → In v (c ∷ cs) → Lawful v × Lawfully (f v))

pub record Lawfulness : Type 0 where
  pub along : (t : Tree) (f : Facts) → Ranged t → ToldLawful t f → Lawfully (eval t f nothing)
  pub at_the_end : (t : Tree) (f : Facts) (χ : Chooser) (v : Value) → Ranged t → ToldLawful t f → outcome (by χ) (eval t f nothing) ≡ value v → Lawful v
