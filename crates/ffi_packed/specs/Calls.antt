-- Packing, which knows its event by number: a number that is no event is "a setting outside its range", refusal 15, before anything
-- else, and then no word of the lent buffer changes.
use Rattle.std.specs.Prelude.{ℕ, List, Err, Option, Some, None}
use Rattle.refusal.specs.Table.{setting}
use Rattle.packing.specs.Packing.{pack_answer}
use Rattle.packing.specs.Laws.{packed_into}
use Rattle.refusal.specs.Answer.{Written}
use Rattle.trace.specs.declared.Event.{Event}

abbrev pub pack_by : List ℕ → List ℕ → Option Event → Written
pack_by s buffer (Some event) = pack_answer s buffer
pack_by s buffer None = Err setting

-- the buffer after packing
abbrev pub pack_after_by : List ℕ → List ℕ → Option Event → List ℕ
pack_after_by s buffer (Some event) = packed_into event s buffer
pack_after_by s buffer None = buffer
