-- `wire::u32_at` meets its contract: the number of the bytes there. Assumes nothing.
use mathlib.Core.Path.{ap, ◌∙◌}
use Rattle.std.proofs.Common.{w32}
use Rattle.std.specs.Int.{from_be_bytes}
use Rattle.wire.proofs.Numbers.{u32_in}
use Rattle.wire.proofs.u32_at.Goals as goal

pub returns : goal.returns
returns c = c.from_be_bytes.ensures ∙ ap (from_be_bytes w32) c.bytes_at.ensures ∙ u32_in _ _
