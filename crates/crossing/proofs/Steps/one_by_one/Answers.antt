-- `crossing::Steps::one_by_one` meets its contract. The loop's invariant is `Behind`. Assumes nothing.
use native.Mathlib.Omega.{arith}
use Rattle.crossing.proofs.Levels.{behind_none, behind_next, behind_all}
use Rattle.crossing.proofs.Steps.one_by_one.Goals as goal

pub loop-init : goal.loop-init
loop-init c = behind_none _ _ _ _ _

pub overflow_add-low : goal.overflow_add-low
overflow_add-low c = omega (arith, c.loop.invariant.few, c.ranges)

pub overflow_add-high : goal.overflow_add-high
overflow_add-high c = omega (arith, c.loop.invariant.few, c.ranges)

pub overflow_cast-over : goal.overflow_cast-over
overflow_cast-over c = tt

pub overflow_add-over : goal.overflow_add-over
overflow_add-over c = omega (arith, (behind_next _ _ _ _ _ _ _ _ _ _ _ c.loop.invariant (omega arith)).few, c.ranges)

pub loop-preserved : goal.loop-preserved
loop-preserved c = behind_next _ _ _ _ _ _ _ _ _ _ _ c.loop.invariant (omega arith)

pub returns : goal.returns
returns c = behind_all _ _ _ _ _ _ _ _ _ _ _ c.loop.invariant (omega arith)
