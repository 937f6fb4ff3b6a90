-- `packed_loss::quiet_groups` meets its contract: the invariant is `Quiet`. Assumes nothing.
use native.Mathlib.Omega.{arith}
use Rattle.packed_loss.specs.Steps.{group}
use Rattle.packed_loss.proofs.Settling.{quiet_none, quiet_more}
use Rattle.packed_loss.proofs.quiet_groups.Goals as goal

pub loop-q-init : goal.loop-q-init
loop-q-init c = quiet_none _ _ (omega arith)

pub overflow_add-q : goal.overflow_add-q
overflow_add-q c = omega (arith, c.loop-q.invariant.most)

pub loop-q-preserved : goal.loop-q-preserved
loop-q-preserved c = quiet_more _ _ _ group c.loop-q.invariant (omega arith) (c.any_one.ensures (omega arith))

pub returns-after-loop-q : goal.returns-after-loop-q
returns-after-loop-q c = c.loop-q.invariant

pub returns-then-any_one-ne0 : goal.returns-then-any_one-ne0
returns-then-any_one-ne0 c = c.loop-q.invariant
