-- `block::read_effective` meets its contract: another size is D1, and in a body of its size every number read is the one
-- that stands there. Assumes nothing.
use Rattle.std.proofs.Common.{◌*◌, ne_eqb}
use Rattle.wire.specs.BigEndian.{u16_at, u32_at}
use Rattle.block.specs.Types.{effective_words}
use Rattle.block.specs.Layouts.{effective_in}
use Rattle.block.specs.Reading.{read_effective}
use Rattle.block.proofs.read_effective.Goals as goal

pub returns-then-body-ne-EFFECTIVE_BYTES : goal.returns-then-body-ne-EFFECTIVE_BYTES
unfolding read_effective
returns-then-body-ne-EFFECTIVE_BYTES c = rw (ne_eqb _ (4 * effective_words) c.if-body-ne-EFFECTIVE_BYTES.true)

pub returns : goal.returns
unfolding read_effective effective_in u16_at u32_at
returns c = simp (c.u32_at.ensures, c.u16_at.ensures, c.if-body-ne-EFFECTIVE_BYTES.false)
