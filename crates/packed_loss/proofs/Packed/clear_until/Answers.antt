-- `packed_loss::Packed::clear_until` meets its contract. Assumes nothing.
use native.Mathlib.Omega.{arith}
use Rattle.packed_loss.proofs.Packed.clear_until.Goals as goal

pub returns-then-losses-ne0 : goal.returns-then-losses-ne0
returns-then-losses-ne0 c = (omega arith, λ l. absurd (omega arith), λ j l h. absurd (omega arith))

pub returns : goal.returns
returns c = (c.quiet_end.ensures.0, λ l. omega arith, c.quiet_end.ensures.1)
