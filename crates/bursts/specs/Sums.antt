-- The seven sums of a trace, E, L, Eb, Lb, n, S and Q, and when sums are sound: document 01, "The trace and its
-- figures", with the last line of document 02, ticket 3.
use Rattle.std.specs.Prelude.{ℕ, ◌-◌, ◌*◌, Bool, ◌&&◌, List, leb, length}
use Rattle.trace.specs.Trace.{trace_max}
use Rattle.bursts.specs.declared.Sums.{Sums}
use Rattle.bursts.specs.Groups.{events_at, Group, groups, bursts_of, packets_of, lasts, square, total}

-- the sums of E packets with these groups of L events
unfoldable pub sums_over : ℕ → ℕ → ℕ → List Group → Sums
sums_over spacing E L gs =
    record {
      packets = E;
      events = L;
      burst_packets = total packets_of (bursts_of gs);
      burst_events = total length (bursts_of gs);
      bursts = length (bursts_of gs);
      durations = total (lasts spacing) (bursts_of gs);
      squares = total (λ b. square (lasts spacing b)) (bursts_of gs);
    }

-- the sums of a trace
abbrev pub sums_of : (ℕ → Bool) → ℕ → ℕ → List ℕ → Sums
sums_of event gmin spacing s = sums_over spacing (length s) (length (events_at event s)) (groups gmin (events_at event s))

-- the most bursts, by "2n ≤ Eb", "Eb ≤ E" and "E ≤ 65,536"
abbrev pub bursts_max : ℕ
bursts_max = 32_768

abbrev pub durations_max : ℕ
durations_max = 2_621_440

-- "A tally is sound when, with its open stretch counted in: .. E ≤ 65,536, Eb ≤ E, Lb ≤ Eb, Lb ≤ L,
-- L − Lb ≤ E − Eb, 2n ≤ Eb, .."
unfoldable pub counts_sound : Sums → Bool
counts_sound s =
    leb s.packets trace_max && leb s.burst_packets s.packets && leb s.burst_events s.burst_packets
    && leb s.burst_events s.events && leb (s.events - s.burst_events) (s.packets - s.burst_packets)
    && leb (2 * s.bursts) s.burst_packets

-- ".. S ≤ 2,621,440, Q ≤ S × S, ..", and by document 02, ticket 3, "n × Q ≥ S × S in place of the last line of document
-- 01's list", where n is 0 too
unfoldable pub durations_sound : Sums → Bool
durations_sound s =
    leb s.durations durations_max && leb s.squares (square s.durations)
    && leb (square s.durations) (s.bursts * s.squares)

unfoldable pub sums_sound : Sums → Bool
sums_sound s = counts_sound s && durations_sound s
