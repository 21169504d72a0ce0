use Rattle.std.proofs.Common.{◌+◌, ◌*◌}
use Rattle.reading.specs.Sources.{ahead}
use Rattle.reading.proofs.source.Reader.+pattern.Given as goal

-- the tokens left, and then the order of the calls that read none
abbrev pub decreases-pattern : goal.decreases-pattern
decreases-pattern l = 3 * ahead l.self.now

abbrev pub decreases-patterns : goal.decreases-patterns
decreases-patterns l = 3 * ahead l.self.now + 1

abbrev pub decreases-sequence : goal.decreases-sequence
decreases-sequence l = 3 * ahead l.self.now + 2
