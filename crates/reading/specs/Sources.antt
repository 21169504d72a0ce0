-- What the reader's functions promise: each follows its program over the tokens.
use Rattle.std.specs.Prelude.{◌≡◌, ℕ, ◌+◌, ◌≤◌, ◌⊎◌, Bool, true, List, ◌∷◌, map, length, Some, None, Ok, Err, Option, Result, MatchOption, MatchResult}
use Rattle.tables.specs.Items.{items, room}
use Rattle.tokens.specs.declared.Mark.TheVariants as sign
use Rattle.tokens.specs.declared.Token.{Token}
use Rattle.tokens.specs.Lexeme.{Lexeme, lexeme}
use Rattle.syntax.specs.declared.Quantifier.{Quantifier}
use Rattle.syntax.specs.Tree.{Tree, Trees, Pattern, Patterns}
use Rattle.grammar.specs.Grammar as grammar
use Rattle.grammar.specs.Steps as steps
use Rattle.grammar.specs.Steps.{Test, Job, Prog, Run, out, first, second, Hits, Misses}
use Rattle.reading.specs.declared.entry.Span.{Span}
use Rattle.reading.specs.declared.entry.Entry.{Entry}
use Rattle.reading.specs.declared.source.Reader.{Reader}
use Rattle.reading.specs.declared.source.Bad.{Bad}
use Rattle.reading.specs.declared.source.Binding.{Binding}
use Rattle.reading.specs.declared.source.Branches.{Branches}
use Rattle.reading.specs.declared.source.Bracket.{Bracket}
use Rattle.reading.specs.declared.source.Bracket.TheVariants as bracket
use Rattle.reading.specs.declared.source.Limit.{Limit}
use Rattle.reading.specs.declared.source.Limit.TheVariants as limit
use Rattle.reading.specs.Entries.{spelled, valued, Extends, Stands, Holds, HoldsPattern, HoldsPatterns, HoldsItems, HoldsArms, HoldsOptional}

-- the grammar's limits and brackets
abbrev pub limit_of : Limit → steps.Limit
limit_of limit.Any = steps.Limit.any
limit_of (limit.Most n) = steps.Limit.most n
limit_of limit.Several = steps.Limit.several

abbrev pub bracket_of : Bracket → grammar.Bracket
bracket_of bracket.Brace = grammar.Bracket.brace
bracket_of bracket.Square = grammar.Bracket.bracket

-- the tokens left, and how many; the entries made
abbrev pub left : Reader → List Lexeme
left r = map (lexeme r.text.now) r.rest.now

abbrev pub ahead : Reader → ℕ
ahead r = length r.rest.now

abbrev pub made : Reader → List Entry
made r = items r.table

-- the place of a token, or the text's length
abbrev pub place_or : ℕ → Option Lexeme → ℕ
place_or end None = end
place_or end (Some x) = x.place

abbrev pub place_at : Reader → ℕ
place_at r = place_or (length r.text.now) (first (left r))

-- There is a slot for each token left, and for k more. It is no invariant of the reader: k, the entries that are still to be made of
-- tokens already taken, is another in each function.
abbrev pub Fits : ℕ → Reader → Type 0
Fits k r = length (made r) + ahead r + k ≤ room r.table

-- r' is r later: of the same text, with entries added
pub record Later (r r' : Reader) : Type 0 where
  pub text : r'.text.now ≡ r.text.now
  pub entries : Extends (made r) (made r')

-- n tokens were taken and nothing else done
pub record Moves (n : ℕ) (r r' : Reader) : Type 0 where
  pub later : Later r r'
  pub few : length (made r') ≡ length (made r)
  pub room : room r'.table ≡ room r.table
  pub taken : ahead r ≡ n + ahead r'

-- the next token passed the test and was taken
pub record Takes (r r' : Reader) (t : Test) : Type 0 where
  pub token : Lexeme
  pub here : left r ≡ token ∷ left r'
  pub passes : t token.symbol ≡ true
  pub moves : Moves 1 r r'

-- it did not, or there is none
pub record Leaves (r r' : Reader) (t : Test) : Type 0 where
  pub misses : Misses t (first (left r))
  pub here : left r ≡ left r'
  pub moves : Moves 0 r r'

-- two tokens passed two tests and were taken
pub record Both (r r' : Reader) (t u : Test) : Type 0 where
  pub token : Lexeme
  pub behind : Lexeme
  pub here : left r ≡ token ∷ behind ∷ left r'
  pub passes : t token.symbol ≡ true
  pub passes_too : u behind.symbol ≡ true
  pub moves : Moves 2 r r'

-- the next one did not, or it did alone
pub record Alone (r r' : Reader) (t u : Test) : Type 0 where
  pub misses : Misses t (first (left r)) ⊎ (Hits t (first (left r)) × Misses u (second (left r)))
  pub here : left r ≡ left r'
  pub moves : Moves 0 r r'

-- the next token was taken, and a value was told of it; or none was told of it, or there is no token, and nothing changed
pub record TakesTold {A : Type 0} (tells : Token → Option A → Type 0) (r r' : Reader) (o : Option A) : Type 0 where
  pub ends : MatchOption o ((r' ≡ r) × ((k : Token) (ks : List Token) → r.rest.now ≡ k ∷ ks → tells k None)) (λ a. (k : Token) × (r.rest.now ≡ k ∷ r'.rest.now) × (r' ≡ record r { rest = r'.rest }) × tells k (Some a))

-- the next token passed the test and was taken, and the value goes with it as P says
pub record Finds {A : Type 0} (r r' : Reader) (t : Test) (P : Lexeme → A → Type 0) (a : A) : Type 0 where
  pub takes : Takes r r' t
  pub tells : P takes.token a

abbrev pub Found : {A : Type 0} → Reader → Reader → Test → (Lexeme → A → Type 0) → Option A → Type 0
Found r r' t P o = MatchOption o (Leaves r r' t) (λ a. Finds r r' t P a)

abbrev pub IsName : List ℕ → Lexeme → Span → Type 0
IsName text x w = (w.place ≡ x.place) × (spelled text w ≡ steps.name_of x.symbol)

abbrev pub IsNumeral : List ℕ → Lexeme → Span → Type 0
IsNumeral text x w = (w.place ≡ x.place) × (valued text w ≡ steps.numeral_of x.symbol)

abbrev pub IsTruth : Lexeme → Bool → Type 0
IsTruth x b = b ≡ steps.is sign.True x.symbol

abbrev pub IsQuantifier : Lexeme → Quantifier → Type 0
IsQuantifier x o = o ≡ steps.quantifier_of x.symbol

-- behind a part: a comma was taken and so many parts come, or the list has ended, or there is no comma where one must be
abbrev pub Follows : steps.Next → Reader → Reader → Result (Option Limit) Bad → Type 0
Follows (steps.Next.may l) r r' (Ok None) = Leaves r r' (steps.is sign.Comma)
Follows (steps.Next.may l) r r' (Ok (Some m)) = Takes r r' (steps.is sign.Comma) × (limit_of m ≡ l)
Follows (steps.Next.may l) r r' (Err e) = ⊥
Follows (steps.Next.must l) r r' (Ok None) = ⊥
Follows (steps.Next.must l) r r' (Ok (Some m)) = Takes r r' (steps.is sign.Comma) × (limit_of m ≡ l)
Follows (steps.Next.must l) r r' (Err e) = Leaves r r' (steps.is sign.Comma)
Follows steps.Next.last r r' (Ok None) = (left r ≡ left r') × Moves 0 r r'
Follows steps.Next.last r r' (Ok (Some m)) = ⊥
Follows steps.Next.last r r' (Err e) = ⊥

abbrev pub Took : Reader → Reader → Result (Option Limit) Bad → Type 0
Took r r' (Ok None) = Moves 0 r r'
Took r r' (Ok (Some m)) = Moves 1 r r'
Took r r' (Err e) = Moves 0 r r'

-- an entry was added
pub record Puts (r r' : Reader) (e : Entry) (i : ℕ) : Type 0 where
  pub here : left r ≡ left r'
  pub stands : Stands (made r') i e
  pub later : Later r r'
  pub few : length (made r') ≡ length (made r) + 1
  pub room : room r'.table ≡ room r.table
  pub ahead : ahead r' ≡ ahead r

-- at most as many entries were added as tokens were taken, and k more
pub record Spends (k : ℕ) (r r' : Reader) : Type 0 where
  pub few : length (made r') + ahead r' ≤ length (made r) + ahead r + k
  pub room : room r'.table ≡ room r.table
  pub on : ahead r' ≤ ahead r

-- The program p, on the tokens that r has left, comes to the value v, or refuses where v is absent, and leaves those of r'.
pub record Way (i : Job) (p : Prog (steps.Result i)) (r : Reader) (far : Bool) (r' : Reader) (v : Option (steps.Result i)) : Type 0 where
  pub then : Bool
  pub run : Run i p (left r) far (out v (left r') then)
  pub later : Later r r'

-- it comes to a value, which r' holds
pub record Got (i : Job) (p : Prog (steps.Result i)) (r : Reader) (far : Bool) (r' : Reader) (holds : steps.Result i → Type 0) : Type 0 where
  pub value : steps.Result i
  pub way : Way i p r far r' (Some value)
  pub held : holds value

-- what a function that follows p comes to
pub record Came {N : Type 0} (i : Job) (p : Prog (steps.Result i)) (r : Reader) (far : Bool) (r' : Reader) (holds : Reader → N → steps.Result i → Type 0) (result : Result N Bad) : Type 0 where
  pub ends : MatchResult result (λ x. Got i p r far r' (holds r' x)) (λ _. Way i p r far r' None)

-- trees and patterns that were read, alone and in lists
abbrev pub TreeAt : Reader → ℕ → Tree → Type 0
TreeAt r i t = Holds r.text.now (made r) i t

abbrev pub TreesAt : Reader → ℕ → Trees → Type 0
TreesAt r i ts = HoldsItems r.text.now (made r) (Some i) ts

abbrev pub PatternAt : Reader → ℕ → Pattern → Type 0
PatternAt r i p = HoldsPattern r.text.now (made r) i p

abbrev pub PatternsAt : Reader → ℕ → Patterns → Type 0
PatternsAt r i ps = HoldsPatterns r.text.now (made r) (Some i) ps

-- a bind, and the alternatives of `cases` with `others`
abbrev pub BindAt : Reader → Binding → steps.Bind → Type 0
BindAt r b c = (spelled r.text.now b.name ≡ c.name) × Holds r.text.now (made r) b.set c.set

abbrev pub ArmsAt : Reader → Branches → steps.Arms → Type 0
ArmsAt r b a = HoldsArms r.text.now (made r) (Some b.first) a.arms × HoldsOptional r.text.now (made r) b.others a.others

-- parts of the reading program that have a function of their own
abbrev pub in_parentheses : Prog Tree
in_parentheses = steps.call steps.closed λ a. steps.want (steps.is sign.CloseParen) λ _. steps.ret a

abbrev pub to_range_end : ℕ → Tree → Prog Tree
to_range_end p a = steps.want (steps.is sign.Comma) λ _. steps.call steps.closed λ b. steps.closing_with grammar.Bracket.brace (Tree.range p a b)
