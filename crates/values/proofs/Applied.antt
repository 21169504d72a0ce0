-- The operators, opened.
use Rattle.std.proofs.Common.{◌≡◌, ℕ, ◌&&◌, List, refl}
use Rattle.syntax.specs.declared.Collection.{Collection}
use Rattle.syntax.specs.declared.Collection.TheVariants.{Set, Tuple}
use Rattle.syntax.specs.declared.Unary.{Unary}
use Rattle.syntax.specs.declared.Binary.{Binary}
use Rattle.values.specs.declared.Operand.TheVariants.{Number, Many}
use Rattle.values.specs.Value.{Value, of}
use Rattle.values.specs.Numbers.{between}
use Rattle.values.specs.Operators.{is, operand, takes, taking, gives, results, unary, binary, select, range, grow, grown, made, nth, members, number_of}

pub unary_is : (op : Unary) (v : Value) → unary op v ≡ taking (is (operand op) v) (gives op v)
unfolding unary
unary_is op v = refl

pub binary_is : (op : Binary) (v w : Value) → binary op v w ≡ taking (takes op v w) (results op v w)
unfolding binary
binary_is op v w = refl

pub select_is : (n : ℕ) (v : Value) → select n v ≡ taking (is (Many Tuple) v) (nth n (members v))
unfolding select
select_is n v = refl

pub range_is : (v w : Value) → range v w ≡ taking (is Number v && is Number w) (made (of Set (between (number_of v) (number_of w))))
unfolding range
range_is v w = refl

pub grow_is : (k : Collection) (vs : List Value) (w : Value) → grow k vs w ≡ made (of k (grown k vs w))
unfolding grow
grow_is k vs w = refl
