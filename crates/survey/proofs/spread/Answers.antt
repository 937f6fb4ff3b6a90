-- `survey::spread` meets its contract. The loop's invariant is `Spread`. Assumes nothing.
use native.Mathlib.Omega.{arith}
use Rattle.survey.proofs.Spreading.{spread_start, spread_on, spread_end}
use Rattle.survey.proofs.spread.Goals as goal

pub loop-i-init : goal.loop-i-init
loop-i-init c = spread_start _ _ c.requires

pub loop-i-preserved : goal.loop-i-preserved
loop-i-preserved c = spread_on _ _ c.requires _ _ c.loop-i.invariant (omega arith)

pub returns : goal.returns
returns c = spread_end _ _ c.requires _ c.loop-i.i c.loop-i.invariant (omega arith)
