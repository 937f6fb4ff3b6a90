-- What callers may lean on, as statements about the definitions that the calls promise. Proved in proofs/.
use Rattle.std.specs.Prelude.{ℕ, ◌≡◌, true, List, Result, Ok}
use Rattle.block.specs.Reading.{flag_good, read_bytes}
use Rattle.block.specs.declared.LossSummary.{LossSummary}
use Rattle.block.specs.declared.DiscardSummary.{DiscardSummary}
use Rattle.block.specs.declared.Block.{Block}
use Rattle.block.specs.declared.Block.TheVariants.{Loss as Block-as-Loss, Discard as Block-as-Discard}
use Rattle.block.specs.declared.BlockRead.TheVariants.{Typed}
use Rattle.encode.specs.Words.{bytes_of, writable}
use Rattle.encode.specs.Laws.{Word}
use Rattle.trace.specs.declared.Event.{Event}
use Rattle.trace.specs.declared.Event.TheVariants.{Lost, Discarded}
use Rattle.trace.specs.Trace.{counts_as}
use Rattle.bursts.specs.declared.Sums.{Sums}
use Rattle.bursts.specs.declared.Figures.{Figures}
use Rattle.bursts.specs.Sums.{sums_of}
use Rattle.bursts.specs.Laws.{RatesRight, DurationsRight, Right, Uncut}
use Rattle.tally.specs.declared.Tally.{Tally}
use Rattle.tally.specs.Tally.{counted, close_of}
use Rattle.figures.specs.declared.Summary.{Summary}
use Rattle.figures.specs.declared.Summary.TheVariants.{Loss, Discard}
use Rattle.figures.specs.Figures.{figures_in, loss_block, discard_block, summary_of}
use Rattle.refusal.specs.declared.Refusal.{Refusal}

-- The figures of a trace are those of its sums: one that could be measured is never sent as unavailable, and no
-- subtraction in a formula was cut off at 0.
abbrev pub TraceRight : Type 0
TraceRight =
    (gmin spacing : ℕ) (event : Event) (s : List ℕ) (f : Figures) → figures_in gmin spacing event s ≡ Ok f →
    Right (sums_of (counts_as event) gmin spacing s) f × Uncut (sums_of (counts_as event) gmin spacing s)

-- A 17 comes from the lost and an 18 from the discarded, with the figures that were measured; so no block comes from either.
pub record LossMeasured (event : Event) (source flag : ℕ) (m : Result Figures Refusal) (l : LossSummary) : Type 0 where
  pub lost : event ≡ Lost
  pub figures : Figures
  pub measured : m ≡ Ok figures
  pub as_given : (l.flag ≡ flag) × (l.source ≡ source)
  pub rates : (l.burst_rate ≡ figures.burst_rate) × (l.gap_rate ≡ figures.gap_rate)
  pub durations : (l.burst_mean ≡ figures.burst_mean) × (l.burst_variance ≡ figures.burst_variance)

pub record DiscardMeasured (event : Event) (source flag : ℕ) (m : Result Figures Refusal) (d : DiscardSummary) : Type 0 where
  pub discarded : event ≡ Discarded
  pub figures : Figures
  pub measured : m ≡ Ok figures
  pub as_given : (d.flag ≡ flag) × (d.source ≡ source)
  pub rates : (d.burst_rate ≡ figures.burst_rate) × (d.gap_rate ≡ figures.gap_rate)

abbrev pub KindRight : Type 0
KindRight =
    (event : Event) (source flag : ℕ) (m : Result Figures Refusal) →
    ((l : LossSummary) → summary_of event source flag m ≡ Ok (Loss l) → LossMeasured event source flag m l)
    × ((d : DiscardSummary) → summary_of event source flag m ≡ Ok (Discard d) → DiscardMeasured event source flag m d)

-- A block that refusal 16 lets through and that, written, is read as itself.
pub record Writes (b : Block) : Type 0 where
  pub let_through : writable b ≡ true
  pub reads_back : read_bytes (bytes_of b) ≡ Typed b

-- Blocks made from figures, with a good flag, are such blocks: whether the figures are those of a trace or those that
-- any tally closed with.
abbrev pub BlocksWrite : Figures → Type 0
BlocksWrite f =
    (source flag : ℕ) → Word source → flag_good flag ≡ true →
    Writes (Block-as-Loss (loss_block f source flag)) × Writes (Block-as-Discard (discard_block f source flag))

abbrev pub TraceWrites : Type 0
TraceWrites = (gmin spacing : ℕ) (event : Event) (s : List ℕ) (f : Figures) → figures_in gmin spacing event s ≡ Ok f → BlocksWrite f

abbrev pub TallyWrites : Type 0
TallyWrites = (t : Tally) (f : Figures) → close_of t ≡ Ok f → BlocksWrite f

-- What a measured block says of the sums that it was measured from, by its kind: a figure that could be measured is
-- never sent as unavailable; and it is a block that writes.
pub record SummaryRight (r : Sums) (source flag : ℕ) (b : Result Summary Refusal) : Type 0 where
  pub loss_rates : (l : LossSummary) → b ≡ Ok (Loss l) → RatesRight r l.burst_rate l.gap_rate
  pub loss_durations : (l : LossSummary) → b ≡ Ok (Loss l) → DurationsRight r l.burst_mean l.burst_variance
  pub discard_rates : (d : DiscardSummary) → b ≡ Ok (Discard d) → RatesRight r d.burst_rate d.gap_rate
  pub loss_writes : (l : LossSummary) → b ≡ Ok (Loss l) → Word source → flag_good flag ≡ true → Writes (Block-as-Loss l)
  pub discard_writes : (d : DiscardSummary) → b ≡ Ok (Discard d) → Word source → flag_good flag ≡ true → Writes (Block-as-Discard d)

abbrev pub TraceSummary : Type 0
TraceSummary =
    (gmin spacing : ℕ) (event : Event) (s : List ℕ) (source flag : ℕ) →
    SummaryRight (sums_of (counts_as event) gmin spacing s) source flag (summary_of event source flag (figures_in gmin spacing event s))

abbrev pub TallySummary : Type 0
TallySummary =
    (t : Tally) (source flag : ℕ) → SummaryRight (counted t) source flag (summary_of t.event source flag (close_of t))
