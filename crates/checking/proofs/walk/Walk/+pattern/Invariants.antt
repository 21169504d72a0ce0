use Rattle.checking.proofs.walk.Walk.+pattern.Given as goal

abbrev pub decreases-pattern : goal.decreases-pattern
decreases-pattern l = l.depth.fuel

abbrev pub decreases-patterns : goal.decreases-patterns
decreases-patterns l = l.depth.fuel
