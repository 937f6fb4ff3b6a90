-- `block::read_discard` meets its contract: another size is D1, and in a body of its size every number read is the one
-- that stands there. Assumes nothing.
use Rattle.std.proofs.Common.{◌*◌, ne_eqb}
use Rattle.wire.specs.BigEndian.{u16_at, u32_at}
use Rattle.block.specs.Types.{discard_words}
use Rattle.block.specs.Layouts.{discard_in}
use Rattle.block.specs.Reading.{read_discard}
use Rattle.block.proofs.read_discard.Goals as goal

pub returns-then-body-ne-DISCARD_BYTES : goal.returns-then-body-ne-DISCARD_BYTES
unfolding read_discard
returns-then-body-ne-DISCARD_BYTES c = rw (ne_eqb _ (4 * discard_words) c.if-body-ne-DISCARD_BYTES.true)

-- the places after each call, from the last to the first
pub returns : goal.returns
unfolding read_discard discard_in u16_at u32_at
returns c = simp (c.judge_summary.ensures, c.u16_at-2.ensures, c.u16_at.ensures, c.u32_at.ensures, c.if-body-ne-DISCARD_BYTES.false)
