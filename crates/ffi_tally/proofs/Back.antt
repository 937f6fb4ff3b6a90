-- A tally handed out comes back: `TallyBack` of specs/Laws.antt. Assumes nothing.
use mathlib.Core.Path.{ap}
use Rattle.trace.proofs.Events.{event_back}
use Rattle.ffi_tally.specs.Answers.{tally_out, tally_with}
use Rattle.ffi_tally.specs.Laws.{TallyBack}

pub tally_back : TallyBack
tally_back t = ap (tally_with (tally_out t)) (event_back t.event)
