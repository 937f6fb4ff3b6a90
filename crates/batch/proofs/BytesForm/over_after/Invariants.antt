-- `batch::Bytes::over_after` meets its contract. The loop's invariant is `Tallied`. Assumes nothing.
use Prim.Native.Nat.{◌-◌}
use Rattle.trace.specs.Trace.{counted_at}
use Rattle.batch.proofs.Loops.{Tallied}
use Rattle.batch.proofs.BytesForm.over_after.Given as goal

abbrev pub invariant-loop-start : goal.invariant-loop-start
invariant-loop-start l = Tallied (counted_at l.self.event l.self.trace.now) l.batches.size l.batches.threshold l.initial.start l.last l.over l.losses l.start

abbrev pub decreases-loop-start : goal.decreases-loop-start
decreases-loop-start l = l.last - l.start
