-- `wire::u16_at` meets its contract: the number of the bytes there. Assumes nothing.
use mathlib.Core.Path.{ap, ◌∙◌}
use Rattle.std.proofs.Common.{w16}
use Rattle.std.specs.Int.{from_be_bytes}
use Rattle.wire.proofs.Numbers.{u16_in}
use Rattle.wire.proofs.u16_at.Goals as goal

pub returns : goal.returns
returns c = c.from_be_bytes.ensures ∙ ap (from_be_bytes w16) c.bytes_at.ensures ∙ u16_in _ _
