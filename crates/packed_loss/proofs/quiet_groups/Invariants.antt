-- `packed_loss::quiet_groups` meets its contract: the invariant is `Quiet`. Assumes nothing.
use Prim.Native.Nat.{◌-◌}
use Rattle.packed_loss.specs.Steps.{Quiet}
use Rattle.packed_loss.proofs.quiet_groups.Given as goal

abbrev pub invariant-loop-q : goal.invariant-loop-q
invariant-loop-q l = Quiet l.w l.from l.q

abbrev pub decreases-loop-q : goal.decreases-loop-q
decreases-loop-q l = l.most - l.q
