-- `block::read_measurement` meets its contract: another size is D1, and in a body of its size every number read is the one
-- that stands there. Assumes nothing.
use Rattle.std.proofs.Common.{◌*◌, ne_eqb}
use Rattle.wire.specs.BigEndian.{u16_at, u32_at}
use Rattle.block.specs.Types.{measurement_words}
use Rattle.block.specs.Layouts.{measurement_in}
use Rattle.block.specs.Reading.{read_measurement}
use Rattle.block.proofs.read_measurement.Goals as goal

pub returns-then-body-ne-MEASUREMENT_BYTES : goal.returns-then-body-ne-MEASUREMENT_BYTES
unfolding read_measurement
returns-then-body-ne-MEASUREMENT_BYTES c = rw (ne_eqb _ (4 * measurement_words) c.if-body-ne-MEASUREMENT_BYTES.true)

-- the places after each call, from the last to the first
pub returns : goal.returns
unfolding read_measurement measurement_in u16_at u32_at
returns c = simp (c.u32_at-6.ensures, c.u32_at-5.ensures, c.u32_at-4.ensures, c.u32_at-3.ensures, c.u32_at-2.ensures, c.u16_at.ensures, c.u32_at.ensures, c.if-body-ne-MEASUREMENT_BYTES.false)
