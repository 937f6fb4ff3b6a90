-- `batch::Bytes::first_losses` meets its contract. The loop's invariant is `Part`, a stride a turn. Assumes nothing.
use Prim.Native.Nat.{◌*◌}
use Rattle.trace.specs.Trace.{counted_at}
use Rattle.batch.specs.Stride.{stride}
use Rattle.batch.proofs.Loops.{Part}
use Rattle.batch.proofs.BytesForm.first_losses.Given as goal

abbrev pub invariant-loop-k : goal.invariant-loop-k
invariant-loop-k l = Part (counted_at l.self.event l.self.trace.now) l.batches.size 0 l.losses (stride * l.k)
