-- `card::number` meets its contract. The loop's invariant is `Taken`; at most 18 digits, so the number fits.
-- Assumes nothing.
use native.Mathlib.Omega.{arith}
use Rattle.std.proofs.Common.{rules}
use Rattle.card.proofs.Loops.{taken_more}
use Rattle.card.proofs.number.Goals as goal

pub loop-b-preserved : goal.loop-b-preserved
loop-b-preserved c = taken_more _ _ _ (omega arith) (search rules) (search rules) c.loop-b.invariant
