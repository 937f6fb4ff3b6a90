-- `frame::walk` meets its contract. The loop's invariant is `Walk`. Assumes nothing.
use Prim.Native.Nat.{◌-◌}
use Rattle.frame.proofs.Walking.{Walk}
use Rattle.frame.proofs.walk.Given as goal

abbrev pub invariant-loop-at : goal.invariant-loop-at
invariant-loop-at l = Walk l.s l.from l.end l.index l.at l.count l.found

abbrev pub decreases-loop-at : goal.decreases-loop-at
decreases-loop-at l = l.end - l.at
