-- What the boundary's struct holds for each answer of a call that measures: the paper's number and place beside no figures
-- where it refused, 0 and 0 beside the figures where it answered. An event is a number, and one that is none is "a setting
-- outside its range, or a tally not sound", refusal 15.
use Rattle.std.specs.Prelude.{ℕ, List, Result, Ok, Err, Option, Some, None}
use Rattle.refusal.specs.Table.{setting}
use Rattle.block.specs.Reading.{unavailable}
use Rattle.bursts.specs.declared.Figures.{Figures}
use Rattle.figures.specs.Figures.{figures_in}
use Rattle.ffi_answer.specs.Answers.{none, refusal_out}
use Rattle.ffi_figures.specs.declared.Figured.{Figured}
use Rattle.refusal.specs.declared.Refusal.{Refusal}
use Rattle.trace.specs.declared.Event.{Event}

-- four zeros would read as a line without loss
abbrev pub no_figures : Figures
no_figures = record { burst_rate = unavailable; gap_rate = unavailable; burst_mean = unavailable; burst_variance = unavailable }

abbrev pub figures_out : Result Figures Refusal → Figured
figures_out (Ok f) = record { refusal = none; figures = f }
figures_out (Err r) = record { refusal = refusal_out r; figures = no_figures }

-- the call: figures of a trace for the event with a number
abbrev pub figures_by : ℕ → ℕ → List ℕ → Option Event → Figured
figures_by gmin spacing trace (Some event) = figures_out (figures_in gmin spacing event trace)
figures_by gmin spacing trace None = record { refusal = refusal_out setting; figures = no_figures }
