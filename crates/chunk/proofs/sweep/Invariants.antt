-- `chunk::sweep` meets its contract. The loop's invariant is `Sweeping`. Assumes nothing.
use Rattle.chunk.specs.Steps.{Sweeping}
use Rattle.chunk.proofs.sweep.Given as goal

abbrev pub invariant-loop-k : goal.invariant-loop-k
invariant-loop-k l = Sweeping l.chunks l.i l.k l.all l.ones
