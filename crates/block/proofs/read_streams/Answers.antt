-- `block::read_streams` meets its contract: another size is D1, and in a body of its size every number read is the one
-- that stands there. Assumes nothing.
use Rattle.std.proofs.Common.{◌*◌, ne_eqb}
use Rattle.wire.specs.BigEndian.{u16_at, u32_at}
use Rattle.block.specs.Types.{streams_words}
use Rattle.block.specs.Layouts.{streams_in}
use Rattle.block.specs.Reading.{read_streams}
use Rattle.block.proofs.read_streams.Goals as goal

pub returns-then-body-ne-STREAMS_BYTES : goal.returns-then-body-ne-STREAMS_BYTES
unfolding read_streams
returns-then-body-ne-STREAMS_BYTES c = rw (ne_eqb _ (4 * streams_words) c.if-body-ne-STREAMS_BYTES.true)

-- the places after each call, from the last to the first
pub returns : goal.returns
unfolding read_streams streams_in u16_at u32_at
returns c = simp (c.u32_at-10.ensures, c.u32_at-9.ensures, c.u32_at-8.ensures, c.u32_at-7.ensures, c.u32_at-6.ensures, c.u32_at-5.ensures, c.u32_at-4.ensures, c.u32_at-3.ensures, c.u32_at-2.ensures, c.u16_at-2.ensures, c.u16_at.ensures, c.u32_at.ensures, c.if-body-ne-STREAMS_BYTES.false)
