-- What callers may lean on, as statements about the definitions that the calls promise. Proved in proofs/.
use Rattle.std.specs.Prelude.{ℕ, ◌≡◌, List, [], ◌∷◌, Ok, Some}
use Rattle.trace.specs.Trace.{judged}
use Rattle.tally.specs.declared.Tally.{Tally}
use Rattle.ffi_answer.specs.Answers.{none}
use Rattle.trace.specs.Events.{event_in}
use Rattle.ffi_figures.specs.Answers.{figures_by}
use Rattle.ffi_tally.specs.declared.TallyNumbers.{TallyNumbers}
use Rattle.ffi_tally.specs.Answers.{tally_in, tally_out}
use Rattle.ffi_tally.specs.Calls.{open_by, take_by, close_by}

-- A tally handed out as numbers comes back as the same tally.
abbrev pub TallyBack : Type 0
TallyBack = (t : Tally) → tally_in (tally_out t) ≡ Some t

-- packets given to a tally one after the other, as numbers each time
unfoldable pub take_each_by : TallyNumbers → List ℕ → TallyNumbers
take_each_by t [] = t
take_each_by t (packet ∷ s) = take_each_by (take_by t packet (tally_in t)).tally s

-- Opened, given a whole accepted trace and closed, a tally answers as nuvaskoe_figures does of the trace: no
-- packet after the first is ignored.
abbrev pub TallyAsFigures : Type 0
TallyAsFigures =
    (gmin spacing event : ℕ) (s : List ℕ) → (open_by gmin spacing (event_in event)).refusal ≡ none → judged s ≡ (Ok tt) →
    close_by (tally_in (take_each_by (open_by gmin spacing (event_in event)).tally s)) ≡ figures_by gmin spacing s (event_in event)
