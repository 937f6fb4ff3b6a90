-- `crossing::Steps::by_change` meets its contract. The loop's invariant is `Behind`. Assumes nothing.
use Prim.Native.Nat.{◌-◌}
use Rattle.packed.specs.Words.{word_bits}
use Rattle.crossing.proofs.Levels.{Behind}
use Rattle.crossing.proofs.Steps.by_change.Given as goal

abbrev pub invariant-loop-enters : goal.invariant-loop-enters
invariant-loop-enters l = Behind l.fn.self.threshold l.fn.self.losses l.fn.self.entering l.fn.self.leaving word_bits l.low l.high l.over l.j l.enters l.leaves

abbrev pub decreases-loop-enters : goal.decreases-loop-enters
decreases-loop-enters l = word_bits - l.j
