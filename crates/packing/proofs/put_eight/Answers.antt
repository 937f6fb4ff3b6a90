-- `packing::put_eight` meets its contract: the bytes of the number are eight packets placed. Assumes nothing.
use native.Mathlib.Omega.{arith}
use mathlib.Core.Path.{◌∙◌}
use Rattle.packing.proofs.Octets.{eight_placed}
use Rattle.packing.proofs.put_eight.Goals as goal

pub returns : goal.returns
returns c = eight_placed _ _ _ _ _ _ (omega arith) (omega arith) (c.copy_from_slice.ensures.after ∙ c.to_le_bytes.ensures) c.spread.ensures
