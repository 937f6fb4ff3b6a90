-- What the boundary's struct holds for a measured block: its type and the block, the other kind all 0; where the call
-- refused, the paper's number and place, and both all 0. A tally whose event is no event is refusal 15.
use Rattle.std.specs.Prelude.{ℕ, Result, Ok, Err, Option, Some, None}
use Rattle.refusal.specs.Table.{setting}
use Rattle.refusal.specs.declared.Refusal.{Refusal}
use Rattle.block.specs.Types.{loss_type, discard_type}
use Rattle.block.specs.declared.LossSummary.{LossSummary}
use Rattle.block.specs.declared.DiscardSummary.{DiscardSummary}
use Rattle.tally.specs.Tally.{close_of}
use Rattle.figures.specs.Figures.{summary_of}
use Rattle.figures.specs.declared.Summary.{Summary}
use Rattle.figures.specs.declared.Summary.TheVariants.{Loss, Discard}
use Rattle.ffi_answer.specs.Answers.{none, refusal_out}
use Rattle.ffi_summary.specs.declared.SummaryNumbers.{SummaryNumbers}
use Rattle.tally.specs.declared.Tally.{Tally}

-- a block that is not filled: its flag is 0, which refusal 16 does not let through
abbrev pub no_loss : LossSummary
no_loss = record { flag = 0; source = 0; burst_rate = 0; gap_rate = 0; burst_mean = 0; burst_variance = 0 }

abbrev pub no_discard : DiscardSummary
no_discard = record { flag = 0; source = 0; burst_rate = 0; gap_rate = 0 }

abbrev pub no_summary : Refusal → SummaryNumbers
no_summary r = record { refusal = refusal_out r; block_type = 0; loss = no_loss; discard = no_discard }

abbrev pub summary_out : Result Summary Refusal → SummaryNumbers
summary_out (Ok (Loss l)) = record { refusal = none; block_type = loss_type; loss = l; discard = no_discard }
summary_out (Ok (Discard d)) = record { refusal = none; block_type = discard_type; loss = no_loss; discard = d }
summary_out (Err r) = no_summary r

abbrev pub block_by : ℕ → ℕ → Option Tally → SummaryNumbers
block_by source flag (Some t) = summary_out (summary_of t.event source flag (close_of t))
block_by source flag None = no_summary setting
