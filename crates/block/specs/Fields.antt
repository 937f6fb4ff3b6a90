-- The fields of a typed block as numbers in layout order, reserved bits left out: document 01, "The packet", the table. The
-- interval flag of a 17 or 18, which stands in the block's first word, comes first; then the fields as they stand in the
-- words of the body. The packets that a 241 covers are computed from its fields and are none of them.
use Rattle.std.specs.Prelude.{ℕ, List, [], ◌∷◌}
use Rattle.block.specs.declared.Block.{Block}
use Rattle.block.specs.declared.Block.TheVariants.{Measured, Loss, Discard, Effective, Streams}

abbrev pub fields_of : Block → List ℕ
fields_of (Measured m) =
    m.source ∷ m.first ∷ m.extended_first ∷ m.extended_last ∷ m.interval ∷ m.seconds ∷ m.fraction ∷ []
fields_of (Loss l) = l.flag ∷ l.source ∷ l.burst_rate ∷ l.gap_rate ∷ l.burst_mean ∷ l.burst_variance ∷ []
fields_of (Discard d) = d.flag ∷ d.source ∷ d.burst_rate ∷ d.gap_rate ∷ []
fields_of (Effective e) = e.source ∷ e.index ∷ []
fields_of (Streams t) =
    t.source ∷ t.begin ∷ t.end ∷ t.streams ∷ t.sync_losses ∷ t.sync_byte_errors ∷ t.continuity_errors ∷ t.transport_errors ∷ t.pcr_errors ∷ t.pcr_repetition_errors ∷ t.pcr_discontinuity_errors ∷ t.pts_errors ∷ []
