-- `chunk::sweep` meets its contract. The loop's invariant is `Sweeping`. Assumes nothing.
use Rattle.chunk.proofs.Sweeping.{sweeping_none, sweeping_more, sweeping_few, sweeping_all}
use native.Mathlib.Omega.{arith}
use lib.Count.{ones-le}
use Rattle.chunk.proofs.sweep.Goals as goal

pub loop-k-init : goal.loop-k-init
loop-k-init c = sweeping_none _ _ _

pub overflow_cast-ones : goal.overflow_cast-ones
overflow_cast-ones c = omega (arith, ones-le 64 c.four_at-four.result (omega arith))

pub overflow_add-ones : goal.overflow_add-ones
overflow_add-ones c = omega (arith, ones-le 64 c.four_at-four.result (omega arith), sweeping_few _ _ _ _ _ c.loop-k.invariant)

pub loop-k-preserved : goal.loop-k-preserved
loop-k-preserved c = sweeping_more _ _ _ _ _ c.loop-k.invariant _ c.four_at-four.ensures.0 c.four_at-four.ensures.1

pub returns : goal.returns
returns c = sweeping_all _ _ _ _ _ _ c.loop-k.invariant (omega arith)
