-- `card::put_digits` meets its contract. The loop's invariant is `Put`. Assumes nothing.
use native.Mathlib.Omega.{arith}
use Rattle.card.proofs.Loops.{put_more}
use Rattle.card.proofs.put_digits.Goals as goal

pub loop-i-preserved : goal.loop-i-preserved
loop-i-preserved c = put_more _ _ _ _ _ (omega arith) c.loop-i.invariant
