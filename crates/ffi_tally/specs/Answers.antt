-- What the boundary's structs hold for a tally and for each answer about one: the paper's number and place where the
-- call refused, 0 and 0 where it answered; beside a refused opening no tally, beside a refused packet the tally as given.
use Rattle.refusal.specs.declared.Refusal.{Refusal}
use Rattle.tally.specs.declared.Tally.{Tally}
use Rattle.tally.specs.declared.Taken.{Taken}
use Rattle.ffi_answer.specs.Answers.{none, refusal_out}
use Rattle.ffi_answer.specs.declared.RefusalFields.{RefusalFields}
use Rattle.trace.specs.Events.{event_in, event_number}
use Rattle.ffi_tally.specs.declared.TallyNumbers.{TallyNumbers}
use Rattle.ffi_tally.specs.declared.Tallied.{Tallied}
use Rattle.std.specs.Prelude.{Result, Ok, Err, Option, Some, None}
use Rattle.refusal.specs.Answer.{Judged}
use Rattle.trace.specs.declared.Event.{Event}

abbrev pub tally_with : TallyNumbers → Option Event → Option Tally
tally_with t (Some event) =
    Some (record { gmin = t.gmin; spacing = t.spacing; event = event; sums = t.sums; stretch = t.stretch })
tally_with t None = None

abbrev pub tally_in : TallyNumbers → Option Tally
tally_in t = tally_with t (event_in t.event)

abbrev pub tally_out : Tally → TallyNumbers
tally_out t = record { gmin = t.gmin; spacing = t.spacing; event = event_number t.event; sums = t.sums; stretch = t.stretch }

abbrev pub no_tally : TallyNumbers
no_tally =
    record {
      gmin = 0;
      spacing = 0;
      event = 0;
      sums = record { packets = 0; events = 0; burst_packets = 0; burst_events = 0; bursts = 0; durations = 0; squares = 0 };
      stretch = record { events = 0; packets = 0; since = 0 };
    }

-- "a refused opening hands out none"
abbrev pub opened_out : Result Tally Refusal → Tallied
opened_out (Ok t) = record { refusal = none; tally = tally_out t }
opened_out (Err r) = record { refusal = refusal_out r; tally = no_tally }

-- "a tally comes back as given"
abbrev pub answer_out : Judged → RefusalFields
answer_out (Ok _) = none
answer_out (Err r) = refusal_out r

abbrev pub taken_out : Taken → Tallied
taken_out t = record { refusal = answer_out t.answer; tally = tally_out t.tally }
