-- `runs::Losses::vector` meets its contract. The loop's invariant is `Packing`. Assumes nothing.
use Rattle.runs.proofs.Packing.{Packing}
use Rattle.runs.proofs.Losses.vector.Given as goal

abbrev pub invariant-loop-j : goal.invariant-loop-j
invariant-loop-j l = Packing l.self.trace.now l.first l.n l.bits l.j
