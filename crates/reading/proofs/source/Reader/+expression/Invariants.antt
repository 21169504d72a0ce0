use Rattle.std.proofs.Common.{◌+◌}
use Rattle.reading.proofs.Ranks.{left_of, chain_rank, under_rank, lead_rank, bare_rank}
use Rattle.reading.proofs.source.Reader.+expression.Given as goal

-- the tokens left, and then the order of the calls that read none

abbrev pub decreases-expr : goal.decreases-expr
decreases-expr l = left_of l.self.now + 20

abbrev pub decreases-lets : goal.decreases-lets
decreases-lets l = left_of l.self.now + 22

abbrev pub decreases-bound : goal.decreases-bound
decreases-bound l = left_of l.self.now + 21

abbrev pub decreases-such : goal.decreases-such
decreases-such l = left_of l.self.now + 21

abbrev pub decreases-choice : goal.decreases-choice
decreases-choice l = left_of l.self.now + 21

abbrev pub decreases-cases : goal.decreases-cases
decreases-cases l = left_of l.self.now + 21

abbrev pub decreases-arms : goal.decreases-arms
decreases-arms l = left_of l.self.now + 0

abbrev pub decreases-quant : goal.decreases-quant
decreases-quant l = left_of l.self.now + 22

abbrev pub decreases-bind : goal.decreases-bind
decreases-bind l = left_of l.self.now + 21

abbrev pub decreases-chain : goal.decreases-chain
decreases-chain l = left_of l.self.now + chain_rank l.level

abbrev pub decreases-under : goal.decreases-under
decreases-under l = left_of l.self.now + under_rank l.level

abbrev pub decreases-more : goal.decreases-more
decreases-more l = left_of l.self.now + 0

abbrev pub decreases-imply : goal.decreases-imply
decreases-imply l = left_of l.self.now + 17

abbrev pub decreases-lead : goal.decreases-lead
decreases-lead l = left_of l.self.now + lead_rank l.level

abbrev pub decreases-bare : goal.decreases-bare
decreases-bare l = left_of l.self.now + bare_rank l.level

abbrev pub decreases-relation : goal.decreases-relation
decreases-relation l = left_of l.self.now + 10

abbrev pub decreases-side : goal.decreases-side
decreases-side l = left_of l.self.now + 10

abbrev pub decreases-postfix : goal.decreases-postfix
decreases-postfix l = left_of l.self.now + 3

abbrev pub decreases-applied : goal.decreases-applied
decreases-applied l = left_of l.self.now + 0

abbrev pub decreases-atom : goal.decreases-atom
decreases-atom l = left_of l.self.now + 2

abbrev pub decreases-paren : goal.decreases-paren
decreases-paren l = left_of l.self.now + 21

abbrev pub decreases-tuple : goal.decreases-tuple
decreases-tuple l = left_of l.self.now + 22

abbrev pub decreases-collect : goal.decreases-collect
decreases-collect l = left_of l.self.now + 22

abbrev pub decreases-after_comma : goal.decreases-after_comma
decreases-after_comma l = left_of l.self.now + 23

abbrev pub decreases-members : goal.decreases-members
decreases-members l = left_of l.self.now + 22

abbrev pub decreases-range : goal.decreases-range
decreases-range l = left_of l.self.now + 22

abbrev pub decreases-compre : goal.decreases-compre
decreases-compre l = left_of l.self.now + 22

abbrev pub decreases-items : goal.decreases-items
decreases-items l = left_of l.self.now + 21
