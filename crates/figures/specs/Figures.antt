-- The figures of a whole trace and the blocks that carry them: document 01, "The trace and its figures". "For
-- block 17 the events are the lost packets, for block 18 the discarded; all others count as received." Of the
-- order line "Traces: 15, 10, 9, 14, 8" the first three apply.
use Rattle.std.specs.Prelude.{ℕ, List, Result, Ok, Err}
use Rattle.refusal.specs.Table.{setting}
use Rattle.refusal.specs.Answer.{unless, if_accepted}
use Rattle.settings.specs.Ranges.{burst_in_range}
use Rattle.block.specs.declared.LossSummary.{LossSummary}
use Rattle.block.specs.declared.DiscardSummary.{DiscardSummary}
use Rattle.trace.specs.declared.Event.{Event}
use Rattle.trace.specs.declared.Event.TheVariants.{Lost, Discarded, Either}
use Rattle.trace.specs.Trace.{counts_as, judged}
use Rattle.bursts.specs.declared.Figures.{Figures}
use Rattle.bursts.specs.Sums.{sums_of}
use Rattle.bursts.specs.Figures.{figures_of}
use Rattle.figures.specs.declared.Summary.{Summary}
use Rattle.figures.specs.declared.Summary.TheVariants.{Loss, Discard}
use Rattle.refusal.specs.declared.Refusal.{Refusal}

unfoldable pub figures_in : ℕ → ℕ → Event → List ℕ → Result Figures Refusal
figures_in gmin spacing event s =
    unless (burst_in_range gmin spacing) (Err setting)
    (if_accepted (judged s) Err (Ok (figures_of (sums_of (counts_as event) gmin spacing s))))

abbrev pub loss_block : Figures → ℕ → ℕ → LossSummary
loss_block f source flag =
    record {
      flag = flag;
      source = source;
      burst_rate = f.burst_rate;
      gap_rate = f.gap_rate;
      burst_mean = f.burst_mean;
      burst_variance = f.burst_variance;
    }

abbrev pub discard_block : Figures → ℕ → ℕ → DiscardSummary
discard_block f source flag =
    record { flag = flag; source = source; burst_rate = f.burst_rate; gap_rate = f.gap_rate }

-- the block of what was measured, or its refusal
abbrev pub measured_as : (Figures → Summary) → Result Figures Refusal → Result Summary Refusal
measured_as make (Ok f) = Ok (make f)
measured_as make (Err r) = Err r

-- "For block 17 the events are the lost packets, for block 18 the discarded", and document 02, ticket 7: "Blocks 17 and 18 keep
-- their own events." To a block, either is "a setting outside its range", 15, before anything else.
abbrev pub summary_of : Event → ℕ → ℕ → Result Figures Refusal → Result Summary Refusal
summary_of Lost source flag m = measured_as (λ f. Loss (loss_block f source flag)) m
summary_of Discarded source flag m = measured_as (λ f. Discard (discard_block f source flag)) m
summary_of Either source flag m = Err setting
