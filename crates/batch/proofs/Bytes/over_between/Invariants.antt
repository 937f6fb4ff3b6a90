-- `batch::Bytes::over_between` meets its contract. The loop's invariant is `Tallied`. Assumes nothing.
use Rattle.trace.specs.Trace.{counted_at}
use Rattle.batch.proofs.Loops.{Tallied}
use Rattle.batch.proofs.Bytes.over_between.Given as goal

abbrev pub invariant-loop-k : goal.invariant-loop-k
invariant-loop-k l = Tallied (counted_at l.self.event l.self.trace.now) l.batches.size l.batches.threshold l.initial.k l.end l.over l.losses l.k
