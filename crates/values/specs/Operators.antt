-- What each operator gives on values: a value, or a fault.
use Rattle.std.specs.Prelude.{ℕ, zero, suc, Bool, true, false, cond, not, ◌&&◌, List, [], ◌∷◌, ◌++◌, length, ℤ, pos, negsuc, ◌+ℤ◌, ◌-ℤ◌, ◌*ℤ◌, neg_ℤ, Ok, Err, Result, ◌==◌, int_le, int_lt, unsigned_abs}
use Rattle.std.specs.Bool.{beq}
use Rattle.syntax.specs.declared.Collection.{Collection}
use Rattle.syntax.specs.declared.Collection.TheVariants.{Set, Sequence, Tuple}
use Rattle.syntax.specs.declared.Unary.{Unary}
use Rattle.syntax.specs.declared.Unary.TheVariants.{Not, Negate, Abs, Card, Len, Hd, Tl, Elems, Inds}
use Rattle.syntax.specs.declared.Binary.{Binary}
use Rattle.syntax.specs.declared.Binary.TheVariants.{Iff, Equal, NotEqual, Less, LessEqual, Greater, GreaterEqual, Subset, ProperSubset, InSet, NotInSet, Plus, Minus, Union, Difference, Concat, Times, Div, Rem, Mod, Inter, Apply}
use Rattle.values.specs.declared.Fault.{Fault}
use Rattle.values.specs.declared.Fault.TheVariants.{WrongKind, OutOfRange, DivisionByZero, TooLarge, OutOfBounds}
use Rattle.values.specs.declared.Operand.{Operand}
use Rattle.values.specs.declared.Operand.TheVariants.{Any, Number, Truth, Many}
use Rattle.values.specs.Value.{Value, number, truth, many, list, of}
use Rattle.values.specs.Lawful.{in_range, fits}
use Rattle.values.specs.Sets.{equal, member, every, insert, gathered, union, inter, difference}
use Rattle.values.specs.Numbers.{quotient, remainder, modulus, between}

-- ---- which kinds an operator takes

-- number 0, truth value 1, set 2, sequence 3, tuple 4
abbrev pub kind : Value → ℕ
kind (number z) = 0
kind (truth b) = 1
kind (many Set vs) = 2
kind (many Sequence vs) = 3
kind (many Tuple vs) = 4

abbrev pub is : Operand → Value → Bool
is Any v = true
is Number v = kind v == 0
is Truth v = kind v == 1
is (Many Set) v = kind v == 2
is (Many Sequence) v = kind v == 3
is (Many Tuple) v = kind v == 4

abbrev pub operand : Unary → Operand
operand Not = Truth
operand Negate = Number
operand Abs = Number
operand Card = Many Set
operand Len = Many Sequence
operand Hd = Many Sequence
operand Tl = Many Sequence
operand Elems = Many Sequence
operand Inds = Many Sequence

abbrev pub left : Binary → Operand
left Iff = Truth
left Equal = Any
left NotEqual = Any
left Less = Number
left LessEqual = Number
left Greater = Number
left GreaterEqual = Number
left Subset = Many Set
left ProperSubset = Many Set
left InSet = Any
left NotInSet = Any
left Plus = Number
left Minus = Number
left Union = Many Set
left Difference = Many Set
left Concat = Many Sequence
left Times = Number
left Div = Number
left Rem = Number
left Mod = Number
left Inter = Many Set
left Apply = Many Sequence

abbrev pub right : Binary → Operand
right Iff = Truth
right Equal = Any
right NotEqual = Any
right Less = Number
right LessEqual = Number
right Greater = Number
right GreaterEqual = Number
right Subset = Many Set
right ProperSubset = Many Set
right InSet = Many Set
right NotInSet = Many Set
right Plus = Number
right Minus = Number
right Union = Many Set
right Difference = Many Set
right Concat = Many Sequence
right Times = Number
right Div = Number
right Rem = Number
right Mod = Number
right Inter = Many Set
right Apply = Number

abbrev pub takes : Binary → Value → Value → Bool
takes op v w = is (left op) v && is (right op) w

-- fault 20 where the kinds are not those that are taken
abbrev pub taking : Bool → Result Value Fault → Result Value Fault
taking true r = r
taking false r = Err WrongKind

-- ---- what it computes from what it takes

-- the number of a number, the truth of a truth value, the members of a set, a sequence or a tuple
abbrev pub number_of : Value → ℤ
number_of (number z) = z
number_of (truth b) = pos 0
number_of (many k vs) = pos 0

abbrev pub truth_of : Value → Bool
truth_of (number z) = false
truth_of (truth b) = b
truth_of (many k vs) = false

abbrev pub members : Value → List Value
members (number z) = []
members (truth b) = []
members (many k vs) = list vs

-- fault 21 where the number is out of range
abbrev pub calculated : ℤ → Result Value Fault
calculated z = cond (in_range z) (Ok (number z)) (Err OutOfRange)

-- fault 22 where the divisor is 0
abbrev pub divided : ℤ → ℤ → Result Value Fault
divided b z = cond (unsigned_abs b == 0) (Err DivisionByZero) (Ok (number z))

-- fault 23 where it passes 200 cells
abbrev pub made : Value → Result Value Fault
made v = cond (fits v) (Ok v) (Err TooLarge)

-- the member with a number, counted from 1; fault 24 where there is none
abbrev pub nth : ℕ → List Value → Result Value Fault
nth n [] = Err OutOfBounds
nth zero (v ∷ vs) = Err OutOfBounds
nth (suc zero) (v ∷ vs) = Ok v
nth (suc (suc n)) (v ∷ vs) = nth (suc n) vs

abbrev pub at : ℤ → List Value → Result Value Fault
at (pos n) vs = nth n vs
at (negsuc n) vs = Err OutOfBounds

-- all but the first
abbrev pub tail : List Value → Result Value Fault
tail [] = Err OutOfBounds
tail (v ∷ vs) = made (of Sequence vs)

abbrev pub answer : Bool → Result Value Fault
answer b = Ok (truth b)

abbrev pub gives : Unary → Value → Result Value Fault
gives Not v = answer (not (truth_of v))
gives Negate v = Ok (number (neg_ℤ (number_of v)))
gives Abs v = Ok (number (pos (unsigned_abs (number_of v))))
gives Card v = Ok (number (pos (length (members v))))
gives Len v = Ok (number (pos (length (members v))))
gives Hd v = nth 1 (members v)
gives Tl v = tail (members v)
gives Elems v = made (of Set (gathered [] (members v)))
gives Inds v = made (of Set (between (pos 1) (pos (length (members v)))))

abbrev pub results : Binary → Value → Value → Result Value Fault
results Iff v w = answer (beq (truth_of v) (truth_of w))
results Equal v w = answer (equal v w)
results NotEqual v w = answer (not (equal v w))
results Less v w = answer (int_lt (number_of v) (number_of w))
results LessEqual v w = answer (int_le (number_of v) (number_of w))
results Greater v w = answer (int_lt (number_of w) (number_of v))
results GreaterEqual v w = answer (int_le (number_of w) (number_of v))
results Subset v w = answer (every (members v) (members w))
results ProperSubset v w = answer (every (members v) (members w) && not (every (members w) (members v)))
results InSet v w = answer (member v (members w))
results NotInSet v w = answer (not (member v (members w)))
results Plus v w = calculated (number_of v +ℤ number_of w)
results Minus v w = calculated (number_of v -ℤ number_of w)
results Times v w = calculated (number_of v *ℤ number_of w)
results Div v w = divided (number_of w) (quotient (number_of v) (number_of w))
results Rem v w = divided (number_of w) (remainder (number_of v) (number_of w))
results Mod v w = divided (number_of w) (modulus (number_of v) (number_of w))
results Union v w = made (of Set (union (members v) (members w)))
results Inter v w = made (of Set (inter (members v) (members w)))
results Difference v w = made (of Set (difference (members v) (members w)))
results Concat v w = made (of Sequence (members v ++ members w))
results Apply v w = at (number_of w) (members v)

-- ---- the operators

unfoldable pub unary : Unary → Value → Result Value Fault
unary op v = taking (is (operand op) v) (gives op v)

unfoldable pub binary : Binary → Value → Value → Result Value Fault
binary op v w = taking (takes op v w) (results op v w)

-- the part of a tuple with a number, counted from 1
unfoldable pub select : ℕ → Value → Result Value Fault
select n v = taking (is (Many Tuple) v) (nth n (members v))

-- the set of the numbers from v to w
unfoldable pub range : Value → Value → Result Value Fault
range v w = taking (is Number v && is Number w) (made (of Set (between (number_of v) (number_of w))))

-- a growing set, sequence or tuple with one member more
abbrev pub grown : Collection → List Value → Value → List Value
grown Set vs w = insert w vs
grown Sequence vs w = vs ++ w ∷ []
grown Tuple vs w = vs ++ w ∷ []

unfoldable pub grow : Collection → List Value → Value → Result Value Fault
grow k vs w = made (of k (grown k vs w))
