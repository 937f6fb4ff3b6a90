-- `batch::Bytes::losses_among` meets its contract: so few losses fit a byte. The loop's invariant is `Part`. Assumes nothing.
use Rattle.trace.specs.Trace.{counted_at}
use Rattle.batch.proofs.Loops.{Part}
use Rattle.batch.proofs.Bytes.losses_among.Given as goal

abbrev pub invariant-loop-packet : goal.invariant-loop-packet
invariant-loop-packet l = Part (counted_at l.self.event l.self.trace.now) l.n l.i l.losses l.packet-index
