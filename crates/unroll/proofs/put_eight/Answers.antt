-- `unroll::put_eight` meets its contract: the number's bytes are eight packets. Assumes nothing.
use mathlib.Core.Path.{◌∙◌}
use Rattle.unroll.proofs.Whole.{eight_bytes}
use Rattle.unroll.proofs.put_eight.Goals as goal

pub returns : goal.returns
returns c = c.copy_from_slice.ensures.after ∙ c.to_le_bytes.ensures ∙ eight_bytes _ _ c.eight.ensures
