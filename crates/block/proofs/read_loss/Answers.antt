-- `block::read_loss` meets its contract: another size is D1, and in a body of its size every number read is the one
-- that stands there. Assumes nothing.
use Rattle.std.proofs.Common.{◌*◌, ne_eqb}
use Rattle.wire.specs.BigEndian.{u16_at, u32_at}
use Rattle.block.specs.Types.{loss_words}
use Rattle.block.specs.Layouts.{loss_in}
use Rattle.block.specs.Reading.{read_loss}
use Rattle.block.proofs.read_loss.Goals as goal

pub returns-then-body-ne-LOSS_BYTES : goal.returns-then-body-ne-LOSS_BYTES
unfolding read_loss
returns-then-body-ne-LOSS_BYTES c = rw (ne_eqb _ (4 * loss_words) c.if-body-ne-LOSS_BYTES.true)

-- the places after each call, from the last to the first
pub returns : goal.returns
unfolding read_loss loss_in u16_at u32_at
returns c = simp (c.judge_summary.ensures, c.u16_at-4.ensures, c.u16_at-3.ensures, c.u16_at-2.ensures, c.u16_at.ensures, c.u32_at.ensures, c.if-body-ne-LOSS_BYTES.false)
