-- The tally: document 01, "The trace and its figures". "A tally is opened with Gmin, spacing and the kind of
-- event it counts, lost or discarded. It takes packets one after another .. Closing it gives the figures." By document
-- 02, ticket 7, it may count either. The order line is "Tallies: 15, 10, 9"; a refused packet leaves the tally as given.
use Rattle.std.specs.Prelude.{ℕ, ◌+◌, Bool, cond, ◌&&◌, List, [], ◌∷◌, leb, ltb, Result, Ok, Err}
use Rattle.refusal.specs.Table.{setting, trace_length, trace_byte}
use Rattle.refusal.specs.Answer.{unless, if_accepted}
use Rattle.refusal.specs.declared.Refusal.{Refusal}
use Rattle.settings.specs.Ranges.{burst_in_range}
use Rattle.trace.specs.declared.Event.{Event}
use Rattle.trace.specs.Trace.{packet_max, trace_max, counts_as, judged}
use Rattle.bursts.specs.declared.Sums.{Sums}
use Rattle.bursts.specs.Groups.{burst_min, duration, square}
use Rattle.bursts.specs.Sums.{counts_sound, durations_sound}
use Rattle.bursts.specs.Figures.{figures_of}
use Rattle.tally.specs.declared.Stretch.{Stretch}
use Rattle.tally.specs.declared.Tally.{Tally}
use Rattle.tally.specs.declared.Taken.{Taken}
use Rattle.bursts.specs.declared.Figures.{Figures}

-- no packet so far
unfoldable pub fresh : ℕ → ℕ → Event → Tally
fresh gmin spacing event =
    record {
      gmin = gmin;
      spacing = spacing;
      event = event;
      sums = record { packets = 0; events = 0; burst_packets = 0; burst_events = 0; bursts = 0; durations = 0; squares = 0 };
      stretch = record { events = 0; packets = 0; since = 0 };
    }

-- Opening. "a refused opening hands out none"
unfoldable pub open_of : ℕ → ℕ → Event → Result Tally Refusal
open_of gmin spacing event = unless (burst_in_range gmin spacing) (Err setting) (Ok (fresh gmin spacing event))

-- one more burst
unfoldable pub with_burst : ℕ → Stretch → Sums → Sums
with_burst spacing stretch s =
    record {
      packets = s.packets;
      events = s.events;
      burst_packets = s.burst_packets + stretch.packets;
      burst_events = s.burst_events + stretch.events;
      bursts = s.bursts + 1;
      durations = s.durations + duration spacing stretch.packets;
      squares = s.squares + square (duration spacing stretch.packets);
    }

-- "with its open stretch counted in": as if closed now. Two or more events are one more burst; one is none.
unfoldable pub counted_in : ℕ → Stretch → Sums → Sums
counted_in spacing stretch s = cond (leb burst_min stretch.events) (with_burst spacing stretch s) s

abbrev pub counted : Tally → Sums
counted t = counted_in t.spacing t.stretch t.sums

-- "the open stretch's own counts are at most E"
unfoldable pub open_within : Stretch → ℕ → Bool
open_within stretch E = leb stretch.events E && leb stretch.packets E && leb stretch.since E

-- Document 01's list, in its order, with document 02's last line (ticket 3).
unfoldable pub sound : Tally → Bool
sound t =
    burst_in_range t.gmin t.spacing && counts_sound (counted t) && open_within t.stretch t.sums.packets
    && durations_sound (counted t)

-- a packet, or an event, more
unfoldable pub one_packet : Sums → Sums
one_packet s =
    record {
      packets = s.packets + 1;
      events = s.events;
      burst_packets = s.burst_packets;
      burst_events = s.burst_events;
      bursts = s.bursts;
      durations = s.durations;
      squares = s.squares;
    }

unfoldable pub one_event : Sums → Sums
one_event s =
    record {
      packets = s.packets + 1;
      events = s.events + 1;
      burst_packets = s.burst_packets;
      burst_events = s.burst_events;
      bursts = s.bursts;
      durations = s.durations;
      squares = s.squares;
    }

-- the tally with other sums and another open stretch
abbrev pub with : Tally → Sums → Stretch → Tally
with t s o = record { gmin = t.gmin; spacing = t.spacing; event = t.event; sums = s; stretch = o }

-- a packet that is no event stands between the stretch and what follows
unfoldable pub passed : Tally → Tally
passed t =
    let o = t.stretch in
    with t (one_packet t.sums) (record { events = o.events; packets = o.packets; since = o.since + 1 })

-- an event that belongs to the stretch, with the packets that stand before it
unfoldable pub joined : Tally → Tally
joined t =
    let o = t.stretch in
    with t (one_event t.sums) (record { events = o.events + 1; packets = o.packets + (o.since + 1); since = 0 })

-- an event that begins a stretch of its own
abbrev pub lone : Stretch
lone = record { events = 1; packets = 1; since = 0 }

unfoldable pub apart : Tally → Tally
apart t = with t (counted_in t.spacing t.stretch (one_event t.sums)) lone

-- "Two successive events belong together when fewer than Gmin packets stand between them."
unfoldable pub joins : Tally → Bool
joins t = ltb 0 t.stretch.events && ltb t.stretch.since t.gmin

unfoldable pub step_of : Tally → ℕ → Tally
step_of t packet = cond (counts_as t.event packet) (cond (joins t) (joined t) (apart t)) (passed t)

-- Taking one packet.
abbrev pub refused_with : Tally → Refusal → Taken
refused_with t r = record { tally = t; answer = Err r }

unfoldable pub take_one : Tally → ℕ → Taken
take_one t packet =
    unless (sound t) (refused_with t setting)
    (unless (ltb t.sums.packets trace_max) (refused_with t trace_length)
    (unless (leb packet packet_max) (refused_with t (trace_byte 0))
    (record { tally = step_of t packet; answer = (Ok tt) })))

-- Closing.
unfoldable pub close_of : Tally → Result Figures Refusal
close_of t = unless (sound t) (Err setting) (Ok (figures_of (counted t)))

-- Packets one after another, each taken or refused.
unfoldable pub take_each : Tally → List ℕ → Tally
take_each t [] = t
take_each t (packet ∷ s) = take_each (take_one t packet).tally s

-- The tally of a whole trace, with what applies of the order line "Traces: 15, 10, 9, 14, 8".
unfoldable pub of_trace : ℕ → ℕ → Event → List ℕ → Result Tally Refusal
of_trace gmin spacing event s =
    unless (burst_in_range gmin spacing) (Err setting)
    (if_accepted (judged s) Err (Ok (take_each (fresh gmin spacing event) s)))
