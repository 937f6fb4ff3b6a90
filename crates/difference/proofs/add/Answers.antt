-- `difference::add` meets its contract: counted alone, or written in its place. Assumes nothing.
use native.Mathlib.Omega.{arith}
use Rattle.difference.proofs.Writing.{adds_counted, adds_placed}
use Rattle.difference.proofs.add.Goals as goal

pub returns-then-out-at : goal.returns-then-out-at
returns-then-out-at c = adds_counted _ _ _ (omega arith)

pub returns : goal.returns
returns c = adds_placed _ _ _ _ _ (omega arith) (omega arith) (rw (← c.into.ensures) c.copy_from_slice.ensures.after)
