-- The three calls of a tally, which know its event by number: a number that is no event is "a setting outside its
-- range, or a tally not sound", refusal 15.
use Rattle.std.specs.Prelude.{ℕ, Option, Some, None}
use Rattle.refusal.specs.Table.{setting}
use Rattle.tally.specs.Tally.{open_of, take_one, close_of}
use Rattle.ffi_answer.specs.Answers.{refusal_out}
use Rattle.ffi_figures.specs.declared.Figured.{Figured}
use Rattle.ffi_figures.specs.Answers.{no_figures, figures_out}
use Rattle.ffi_tally.specs.declared.TallyNumbers.{TallyNumbers}
use Rattle.ffi_tally.specs.declared.Tallied.{Tallied}
use Rattle.ffi_tally.specs.Answers.{no_tally, opened_out, taken_out}
use Rattle.tally.specs.declared.Tally.{Tally}
use Rattle.trace.specs.declared.Event.{Event}

abbrev pub open_by : ℕ → ℕ → Option Event → Tallied
open_by gmin spacing (Some event) = opened_out (open_of gmin spacing event)
open_by gmin spacing None = record { refusal = refusal_out setting; tally = no_tally }

-- a refused tally comes back as given
abbrev pub take_by : TallyNumbers → ℕ → Option Tally → Tallied
take_by given packet (Some t) = taken_out (take_one t packet)
take_by given packet None = record { refusal = refusal_out setting; tally = given }

abbrev pub close_by : Option Tally → Figured
close_by (Some t) = figures_out (close_of t)
close_by None = record { refusal = refusal_out setting; figures = no_figures }
