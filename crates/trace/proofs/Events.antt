-- What holds of every event: it comes back by its number, counts no packet that was received, and counts of a trace what lost only
-- counts of its flags. Assumes nothing.
use Prim.Native.Nat.{ℕ, zero, suc, ◌≤◌}
use mathlib.Core.Path.{◌≡◌, refl, ap}
use mathlib.Core.Bool.{Bool, true, false}
use mathlib.Core.List.{List, [], ◌∷◌}
use native.Mathlib.Omega.{arith}
use lib.ListN.{length, get_or, get_or-eq_default}
use Rattle.trace.specs.Sum.{bit}
use Rattle.trace.specs.declared.Event.{Event}
use Rattle.trace.specs.declared.Event.TheVariants.{Lost, Discarded, Either}
use Rattle.trace.specs.Trace.{received, counts_as, counted_at, flagged}
use Rattle.trace.specs.Laws.{IsTrace}
use Rattle.trace.specs.Events.{event_in, event_number}
use Rattle.trace.proofs.Sums.{bit_le}
use Rattle.std.specs.Prelude.{Some}

pub event_back : (event : Event) → event_in (event_number event) ≡ Some event
unfolding event_in
event_back Lost = refl
event_back Discarded = refl
event_back Either = refl

pub received_uncounted : (event : Event) → counts_as event received ≡ false
unfolding counts_as
received_uncounted Lost = refl
received_uncounted Discarded = refl
received_uncounted Either = refl

-- past the end of a trace nothing is counted
pub none_past : (event : Event) (s : List ℕ) (i : ℕ) → length s ≤ i → counted_at event s i ≡ false
none_past event s i h = rw (get_or-eq_default s 0 h) (received_uncounted event)

-- the flags of a trace: as many, each 0 or 1, and lost where the packet counts
flag_lost : (x : Bool) → counts_as Lost (bit x) ≡ x
unfolding counts_as bit
flag_lost true = refl
flag_lost false = refl

pub length_flagged : (event : Event) (s : List ℕ) → length (flagged event s) ≡ length s
length_flagged event [] = refl
length_flagged event (packet ∷ s) = ap suc (length_flagged event s)

pub flag_counted : (event : Event) (packet : ℕ) → counts_as Lost (bit (counts_as event packet)) ≡ counts_as event packet
flag_counted event packet = flag_lost (counts_as event packet)

pub flagged_counted : (event : Event) (s : List ℕ) (i : ℕ) → counted_at Lost (flagged event s) i ≡ counted_at event s i
flagged_counted event [] i = rw (received_uncounted Lost, received_uncounted event)
flagged_counted event (packet ∷ s) zero = flag_counted event packet
flagged_counted event (packet ∷ s) (suc i) = flagged_counted event s i

flagged_small : (event : Event) (s : List ℕ) (i : ℕ) → get_or (flagged event s) i 0 ≤ 1
flagged_small event [] i = omega arith
flagged_small event (packet ∷ s) zero = bit_le (counts_as event packet)
flagged_small event (packet ∷ s) (suc i) = flagged_small event s i

pub flagged_trace : (event : Event) (s : List ℕ) → IsTrace s → IsTrace (flagged event s)
flagged_trace event s t =
    record {
      some = rw (length_flagged event s) t.some;
      most = rw (length_flagged event s) t.most;
      each = λ i h. let small = flagged_small event s i in omega arith;
    }
