-- `crossing::Steps::one_by_one` meets its contract. The loop's invariant is `Behind`. Assumes nothing.
use Rattle.crossing.proofs.Levels.{Behind}
use Rattle.crossing.proofs.Steps.one_by_one.Given as goal

abbrev pub invariant-loop : goal.invariant-loop
invariant-loop l = Behind l.fn.self.threshold l.fn.self.losses l.fn.self.entering l.fn.self.leaving l.n l.low l.high l.over l.counter l.enters l.leaves
