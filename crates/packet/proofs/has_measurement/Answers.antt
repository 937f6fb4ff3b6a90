-- `packet::has_measurement` meets its contract: a block measures the source where its bytes do. Assumes nothing.
use mathlib.Core.Path.{◌∙◌}
use Rattle.std.proofs.Common.{rules, tests}
use Rattle.std.proofs.lemmas.Iterator.Consumers.{YieldsList-from_first}
use Rattle.std.proofs.lemmas.Iterator.Search.{any_from_yields_List}
use Rattle.block.specs.Reading.{read_bytes, measures_of}
use Rattle.frame.specs.Parts.{parts_left}
use Rattle.packet.specs.Blocks.{names}
use Rattle.packet.proofs.Measuring.{measured_parts}
use Rattle.packet.proofs.has_measurement.Goals as goal

pub returns : goal.returns
returns c =
    any_from_yields_List (λ bytes. names (measures_of (read_bytes bytes)) c.args.source) c.any.new.self _ _ c.any.ensures.ran
    (YieldsList-from_first (λ x. x.now) parts_left _ c.blocks_from.ensures) (λ x b q k. search (rules, tests))
    ∙ measured_parts _ _ _ _ c.requires
