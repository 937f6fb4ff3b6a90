-- `tally::of_trace` meets its contract. The loop's invariant is `Running`. Assumes nothing.
use Rattle.tally.proofs.Running.{Running}
use Rattle.tally.proofs.of_trace.Given as goal

abbrev pub invariant-loop-packet : goal.invariant-loop-packet
invariant-loop-packet l = Running l.gmin l.spacing l.trace l.initial.tally l.tally l.packet-index
