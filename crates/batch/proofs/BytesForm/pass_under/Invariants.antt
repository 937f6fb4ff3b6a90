-- `batch::Bytes::pass_under` meets its contract. The loop's invariant is `Under`. Assumes nothing.
use Prim.Native.Nat.{◌-◌, ◌≤◌}
use lib.ListN.{length}
use Rattle.trace.specs.Trace.{counted_at}
use Rattle.batch.proofs.Loops.{Under}
use Rattle.batch.proofs.BytesForm.pass_under.Given as goal

abbrev pub invariant-loop-start : goal.invariant-loop-start
invariant-loop-start l = Under (counted_at l.self.event l.self.trace.now) (length l.self.trace.now) l.batches.size l.batches.threshold l.initial.start l.losses l.start × (l.initial.start ≤ l.start)

abbrev pub decreases-loop-start : goal.decreases-loop-start
decreases-loop-start l = l.last - l.start
