-- Measures of the calls for expressions.
use Rattle.std.proofs.Common.{ℕ, ◌*◌}
use Rattle.reading.specs.declared.source.Reader.{Reader}
use Rattle.reading.specs.Sources.{ahead}
use Rattle.reading.specs.declared.signs.Left.{Left}
use Rattle.reading.specs.declared.signs.Left.TheVariants as left
use Rattle.reading.specs.declared.signs.Lead.{Lead}
use Rattle.reading.specs.declared.signs.Lead.TheVariants as lead

-- for each token left
abbrev pub left_of : Reader → ℕ
left_of r = 40 * ahead r

abbrev pub chain_rank : Left → ℕ
chain_rank left.Iff = 19
chain_rank left.Or = 16
chain_rank left.And = 14
chain_rank left.Sum = 9
chain_rank left.Product = 7

abbrev pub under_rank : Left → ℕ
under_rank left.Iff = 18
under_rank left.Or = 15
under_rank left.And = 13
under_rank left.Sum = 8
under_rank left.Product = 6

abbrev pub lead_rank : Lead → ℕ
lead_rank lead.Not = 12
lead_rank lead.Minus = 5

abbrev pub bare_rank : Lead → ℕ
bare_rank lead.Not = 11
bare_rank lead.Minus = 4
