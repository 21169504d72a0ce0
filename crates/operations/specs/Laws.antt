-- What the operators keep.
use Rattle.std.specs.Prelude.{◌≡◌, ℕ, ◌+◌, ◌≤◌, Bool, true, false, ◌&&◌, List, [], ◌++◌, length, ℤ, pos, ◌+ℤ◌, ◌*ℤ◌, Ok, Err, Result, ◌≢◌, int_le}
use Rattle.syntax.specs.declared.Collection.{Collection}
use Rattle.syntax.specs.declared.Unary.{Unary}
use Rattle.syntax.specs.declared.Binary.{Binary}
use Rattle.syntax.specs.declared.Binary.TheVariants.{Inter, Difference}
use Rattle.values.specs.declared.Fault.{Fault}
use Rattle.values.specs.declared.Fault.TheVariants.{TooLarge}
use Rattle.values.specs.declared.Operand.TheVariants.{Number}
use Rattle.values.specs.Value.{Value, number, truth, of}
use Rattle.values.specs.Lawful.{Lawful, in_range}
use Rattle.values.specs.Sets.{member, gathered, union}
use Rattle.values.specs.Numbers.{quotient, remainder, between}
use Rattle.values.specs.Operators.{is, nth, unary, binary, select, range, grow}

-- a value that is given is lawful
abbrev pub Sound : Result Value Fault → Type 0
Sound (Ok v) = Lawful v
Sound (Err f) = Unit {0}

pub record Lawfuls : Type 0 where
  -- what values begin with
  pub numeral : (z : ℤ) → in_range z ≡ true → Lawful (number z)
  pub truths : (b : Bool) → Lawful (truth b)
  pub empty : (k : Collection) → Lawful (of k [])
  -- each member of a lawful value
  pub each : (k : Collection) (vs : List Value) (n : ℕ) → Lawful (of k vs) → Sound (nth n vs)
  -- what the operators give
  pub one : (op : Unary) (v : Value) → Lawful v → Sound (unary op v)
  pub both : (op : Binary) (v w : Value) → Lawful v → Lawful w → Sound (binary op v w)
  pub part : (n : ℕ) (v : Value) → Lawful v → Sound (select n v)
  pub interval : (v w : Value) → Lawful v → Lawful w → Sound (range v w)
  pub growing : (k : Collection) (vs : List Value) (w : Value) → Lawful (of k vs) → Lawful w → Sound (grow k vs w)

pub record Subject : Type 0 where
  -- a = b × (a div b) + a rem b
  pub division : (a b : ℤ) → a ≡ b *ℤ quotient a b +ℤ remainder a b
  -- {a, ..., b} has the numbers from a to b, and nothing else
  pub in_interval : (a b i : ℤ) → member (number i) (between a b) ≡ (int_le a i && int_le i b)
  pub only_numbers : (a b : ℤ) (v : Value) → is Number v ≡ false → member v (between a b) ≡ false
  -- card (inds s) = len s
  pub card_inds : (n : ℕ) → length (between (pos 1) (pos n)) ≡ n
  -- card (elems s) is at most len s
  pub card_elems : (vs : List Value) → length (gathered [] vs) ≤ length vs
  -- elems (s ^ t) = elems s union elems t
  pub elems_concat : (us vs : List Value) → gathered [] (us ++ vs) ≡ union (gathered [] us) (gathered [] vs)
  -- len (s ^ t) = len s + len t
  pub len_concat : (us vs : List Value) → length (us ++ vs) ≡ length us + length vs

-- what cannot be too large
pub record Room : Type 0 where
  pub one : (op : Unary) (v : Value) → Lawful v → unary op v ≢ Err TooLarge
  pub inter : (v w : Value) → Lawful v → Lawful w → binary Inter v w ≢ Err TooLarge
  pub difference : (v w : Value) → Lawful v → Lawful w → binary Difference v w ≢ Err TooLarge
