-- `block::measured_by` meets its contract: nothing where the size or the type is another, and otherwise the source that stands
-- there. Assumes nothing.
use Rattle.std.proofs.Common.{ap, ◌∙◌}
use Rattle.block.proofs.Reasons.{measures_nothing, measures_source}
use Rattle.block.proofs.measured_by.Goals as goal
use Rattle.std.specs.Prelude.{Some}

pub returns-then-bytes : goal.returns-then-bytes
returns-then-bytes c = measures_nothing _ (λ size type. c.if-bytes.true size)

pub returns-then-bytes-ne-MEASUREMENT : goal.returns-then-bytes-ne-MEASUREMENT
returns-then-bytes-ne-MEASUREMENT c = measures_nothing _ (λ size type. c.if-bytes-ne-MEASUREMENT.true type)

pub returns : goal.returns
returns c = ap Some c.u32_at.ensures ∙ measures_source _ c.if-bytes.false c.if-bytes-ne-MEASUREMENT.false
