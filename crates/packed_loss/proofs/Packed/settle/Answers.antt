-- `packed_loss::Packed::settle` meets its contract. Assumes nothing.
use native.Mathlib.Omega.{arith}
use Rattle.packed_loss.proofs.Settling.{settled_quiet}
use Rattle.packed_loss.proofs.Packed.settle.Goals as goal

pub returns-then-from-batches : goal.returns-then-from-batches
returns-then-from-batches c = settled_quiet _ _ _ _ _ _ c.requires.1.held _ (c.clear_until-end.ensures.1 (omega arith)) (omega arith) c.clear_until-end.ensures.0 c.clear_until-end.ensures.2
