-- `trace::has_bad` meets its contract. The loop's invariant is `Asked`. Assumes nothing.
use Rattle.trace.proofs.Judging.{Asked}
use Rattle.trace.proofs.has_bad.Given as goal

abbrev pub invariant-loop-packet : goal.invariant-loop-packet
invariant-loop-packet l = Asked l.highest l.s l.found l.packet-index
