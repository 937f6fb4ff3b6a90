-- An event by a number, as the boundary knows it: that of the packets that it counts, 1 lost and 2 discarded, and 3 for either.
use Rattle.std.specs.Prelude.{ℕ, cond, eqb, Option, Some, None}
use Rattle.trace.specs.declared.Event.{Event}
use Rattle.trace.specs.declared.Event.TheVariants.{Lost, Discarded, Either}
use Rattle.trace.specs.Trace.{lost, discarded}

abbrev pub either : ℕ
either = 3

abbrev pub event_number : Event → ℕ
event_number Lost = lost
event_number Discarded = discarded
event_number Either = either

unfoldable pub event_in : ℕ → Option Event
event_in number =
    cond (eqb number lost) (Some Lost)
    (cond (eqb number discarded) (Some Discarded)
    (cond (eqb number either) (Some Either)
    None))
