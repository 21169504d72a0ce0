-- The evaluation of a tree. Each construct is defined over the courses of its parts; a part under a binding is a function of the bound value.
use Rattle.std.specs.Prelude.{Bool, true, false, cond, not, ◌&&◌, List, [], ◌∷◌, ◌++◌, pos, Ok, Err, Result}
use Rattle.std.specs.Bool.{beq}
use Rattle.std.proofs.Math.Option.{Option, none, some}
use Rattle.syntax.specs.declared.Connective.{Connective}
use Rattle.syntax.specs.declared.Connective.TheVariants.{Implies, Or, And}
use Rattle.syntax.specs.declared.Quantifier.{Quantifier}
use Rattle.syntax.specs.declared.Quantifier.TheVariants.{Forall, Exists}
use Rattle.syntax.specs.declared.Collection.{Collection}
use Rattle.syntax.specs.declared.Collection.TheVariants.{Set, Sequence, Tuple}
use Rattle.syntax.specs.Tree.{Place, Pattern, any, binds, parts, Patterns, Tree, numeral, name, connective, if_else, let_in, let_be, cases, quantifier, collection, comprehension, selection, Trees, Alternatives, no_more, alternative, Optional, absent, present}
use Rattle.values.specs.declared.Fault.{Fault}
use Rattle.values.specs.declared.Fault.TheVariants.{WrongKind, NoCandidate, NoCase}
use Rattle.values.specs.declared.Operand.TheVariants.{Number, Many}
use Rattle.values.specs.Value.{Value, number, truth, many, of}
use Rattle.values.specs.Sets.{equal}
use Rattle.values.specs.Operators.{is, members, unary, binary, select, range, grow}
use Rattle.meaning.specs.Names.{Binding, ◌≔◌, Sight, bind, bind_all, Facts, value_of}
use Rattle.meaning.specs.Course.{Outcome, value, fault, Course, ended, begins, chooses, ◌>>=◌}

-- ---- parts and own tests

-- goes on with a value; a fault ends the expression
abbrev pub given : (Value → Course) → Outcome → Course
given f (value v) = f v
given f (fault k q) = ended (fault k q)

abbrev pub strict : Course → (Value → Course) → Course
strict part f = part >>= given f

-- what an operation gives; its fault is at the place of the expression
abbrev pub told : Place → Result Value Fault → Outcome
told p (Ok v) = value v
told p (Err k) = fault k p

-- ---- truth values

-- an outcome as a truth value: it is one, or it is none, and then its fault, or 20 at p, says why
pub data Truth : Type 0 where
  holds : Bool → Truth
  fails : Fault → Place → Truth

abbrev pub truth_of : Place → Outcome → Truth
truth_of p (value (number z)) = fails WrongKind p
truth_of p (value (truth b)) = holds b
truth_of p (value (many k vs)) = fails WrongKind p
truth_of p (fault k q) = fails k q

-- whether it is the deciding truth value d
abbrev pub decides : Bool → Truth → Bool
decides d (holds b) = beq b d
decides d (fails k q) = false

-- one way or the other, or the fault
abbrev pub branch : Course → Course → Truth → Course
branch a b (holds true) = a
branch a b (holds false) = b
branch a b (fails k q) = ended (fault k q)

-- ---- the connectives

-- the truth value of either side that decides `or`, `and`, `=>`, where the left side of `=>` is turned
abbrev pub deciding : Connective → Bool
deciding Or = true
deciding And = false
deciding Implies = true

abbrev pub left : Connective → Truth → Truth
left Or a = a
left And a = a
left Implies (holds b) = holds (not b)
left Implies (fails k q) = fails k q

-- where neither side decides: both are the other truth value, or the first that fails is the outcome
abbrev pub neither : Bool → Truth → Truth → Outcome
neither d (holds a) (holds b) = value (truth (not d))
neither d (holds a) (fails k q) = fault k q
neither d (fails k q) b = fault k q

abbrev pub joined : Bool → Truth → Truth → Outcome
joined d a b = cond (decides d b) (value (truth d)) (neither d a b)

-- the right side is begun unless the left side decides
abbrev pub connect : Place → Bool → Course → Truth → Course
connect p d right a = cond (decides d a) (ended (value (truth d))) (right >>= λ o. ended (joined d a (truth_of p o)))

-- ---- loops over a set

-- what is done for a member, from the answer so far; last, how the other members go on from an answer
abbrev pub Body : Type 0
Body = Value → Outcome → (Outcome → Course) → Course

-- the members in ascending order
abbrev pub looped : Body → List Value → Outcome → Course
looped f [] a = ended a
looped f (v ∷ vs) a = f v a (looped f vs)

abbrev pub all_numbers : List Value → Bool
all_numbers [] = true
all_numbers (v ∷ vs) = is Number v && all_numbers vs

-- the members of a set that a sequence comprehension takes are numbers
abbrev pub fit : Collection → List Value → Bool
fit Set vs = true
fit Sequence vs = all_numbers vs
fit Tuple vs = true

-- from the first answer, over the members; 20 at p where it is no set or its members do not fit
abbrev pub over : Place → Collection → Body → Outcome → Value → Course
over p k f a v = cond (is (Many Set) v && fit k (members v)) (looped f (members v) a) (ended (fault WrongKind p))

-- `forall` and `exists`: the deciding truth value ends it; the first member that fails is kept
abbrev pub decider : Quantifier → Bool
decider Forall = false
decider Exists = true

abbrev pub kept : Outcome → Truth → Outcome
kept a (holds b) = a
kept (value v) (fails k q) = fault k q
kept (fault j r) (fails k q) = fault j r

abbrev pub searching : Place → Bool → (Value → Course) → Body
searching p d body v a go = body v >>= λ o. cond (decides d (truth_of p o)) (ended (value (truth d))) (go (kept a (truth_of p o)))

-- one member more for the collection so far; its fault ends the expression
abbrev pub added : Place → Collection → Outcome → Value → Outcome
added p k (value c) x = told p (grow k (members c) x)
added p k (fault j q) x = fault j q

abbrev pub adding : Place → Collection → Course → (Outcome → Course) → Outcome → Course
adding p k part go a = strict part λ x. given (λ c. go (value c)) (added p k a x)

-- comprehensions: for each member the condition first
abbrev pub filtering : Place → Collection → (Value → Course) → (Value → Course) → Body
filtering p k condition result v a go = condition v >>= λ o. branch (adding p k (result v) go a) (go a) (truth_of p o)

-- `let be`: the members for which the condition is true are the candidates
abbrev pub candidate : Value → Outcome → Outcome
candidate v (value c) = value (of Set (members c ++ v ∷ []))
candidate v (fault k q) = fault k q

abbrev pub testing : Place → (Value → Course) → Body
testing p condition v a go = condition v >>= λ o. go (cond (decides true (truth_of p o)) (candidate v a) a)

-- one of the candidates is taken
abbrev pub choice : Place → Sight → (Value → Course) → List Value → Course
choice p s f [] = ended (fault NoCandidate p)
choice p s f (c ∷ cs) = chooses p s c cs f

-- ---- patterns

abbrev pub both : Option (List Binding) → Option (List Binding) → Option (List Binding)
both none b = none
both (some xs) none = none
both (some xs) (some ys) = some (xs ++ ys)

-- what a pattern binds, where it matches
abbrev mutual
  pub match : Pattern → Value → Option (List Binding)
  match (any p) v = some []
  match (binds p n) v = some (n ≔ v ∷ [])
  match (Pattern.number p n) v = cond (equal v (number (pos n))) (some []) none
  match (Pattern.truth p b) v = cond (equal v (truth b)) (some []) none
  match (parts p k ps) v = cond (is (Many k) v) (match_all ps (members v)) none

  pub match_all : Patterns → List Value → Option (List Binding)
  match_all Patterns.none [] = some []
  match_all Patterns.none (v ∷ vs) = none
  match_all (Patterns.more p ps) [] = none
  match_all (Patterns.more p ps) (v ∷ vs) = both (match p v) (match_all ps vs)

-- the right side where the pattern matches, else the other alternatives
abbrev pub matched : (List Binding → Course) → Course → Option (List Binding) → Course
matched right others none = others
matched right others (some bs) = right bs

-- ---- the evaluation

unfoldable mutual
  pub eval : Tree → Facts → Sight → Course
  eval (numeral p n) f s = begins p (ended (value (number (pos n))))
  eval (Tree.truth p b) f s = begins p (ended (value (truth b)))
  eval (name p n) f s = begins p (ended (value (value_of f s n)))
  eval (Tree.unary p op a) f s = begins p (strict (eval a f s) λ v. ended (told p (unary op v)))
  eval (Tree.binary p op a b) f s = begins p (strict (eval a f s) λ v. strict (eval b f s) λ w. ended (told p (binary op v w)))
  eval (connective p op a b) f s = begins p (eval a f s >>= λ o. connect p (deciding op) (eval b f s) (left op (truth_of p o)))
  eval (if_else p a b c) f s = begins p (eval a f s >>= λ o. branch (eval b f s) (eval c f s) (truth_of p o))
  eval (let_in p x a b) f s = begins p (strict (eval a f s) λ v. eval b f (bind x v s))
  eval (let_be p x a c b) f s =
      begins p
      (strict (strict (eval a f s) (over p Set (testing p λ v. eval c f (bind x v s)) (value (of Set []))))
      λ cs. choice p s (λ v. eval b f (bind x v s)) (members cs))
  eval (cases p a cs o) f s = begins p (strict (eval a f s) λ v. eval_cases cs f s v (eval_or o f s (ended (fault NoCase p))))
  eval (quantifier p q x a b) f s =
      begins p (strict (eval a f s) (over p Set (searching p (decider q) λ v. eval b f (bind x v s)) (value (truth (not (decider q))))))
  eval (collection p k ts) f s = begins p (eval_all ts f s p k (value (of k [])))
  eval (Tree.range p a b) f s = begins p (strict (eval a f s) λ v. strict (eval b f s) λ w. ended (told p (range v w)))
  eval (comprehension p k e x a c) f s =
      begins p
      (strict (eval a f s)
      (over p k (filtering p k (λ v. eval_or c f (bind x v s) (ended (value (truth true)))) (λ v. eval e f (bind x v s))) (value (of k []))))
  eval (selection p a n) f s = begins p (strict (eval a f s) λ v. ended (told p (select n v)))

  -- the members of an enumeration or the parts of a tuple, added one by one
  pub eval_all : Trees → Facts → Sight → Place → Collection → Outcome → Course
  eval_all Trees.none f s p k a = ended a
  eval_all (Trees.more t ts) f s p k a = adding p k (eval t f s) (eval_all ts f s p k) a

  -- the right side of the first alternative that matches, else the other course
  pub eval_cases : Alternatives → Facts → Sight → Value → Course → Course
  eval_cases no_more f s v others = others
  eval_cases (alternative pat a cs) f s v others = matched (λ bs. eval a f (bind_all bs s)) (eval_cases cs f s v others) (match pat v)

  -- what may be left out
  pub eval_or : Optional → Facts → Sight → Course → Course
  eval_or absent f s left_out = left_out
  eval_or (present t) f s left_out = eval t f s
