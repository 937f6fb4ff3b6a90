-- What the private functions ask for: bounds under which no sum wraps. Each follows from soundness.
use Rattle.std.specs.Prelude.{ℕ, ◌≤◌, Bool, ◌&&◌, leb}
use Rattle.settings.specs.Ranges.{spacing_max}
use Rattle.trace.specs.Trace.{trace_max}
use Rattle.bursts.specs.declared.Sums.{Sums}
use Rattle.bursts.specs.Groups.{square}
use Rattle.bursts.specs.Sums.{durations_max}
use Rattle.tally.specs.declared.Stretch.{Stretch}
use Rattle.tally.specs.declared.Tally.{Tally}
use Rattle.tally.specs.Tally.{open_within}

-- room for one more burst
pub record Room (spacing : ℕ) (stretch : Stretch) (s : Sums) : Type 0 where
  pub spacing_small : spacing ≤ spacing_max
  pub stretch_events : stretch.events ≤ trace_max
  pub stretch_packets : stretch.packets ≤ trace_max
  pub packets_in_bursts : s.burst_packets ≤ trace_max
  pub events_in_bursts : s.burst_events ≤ trace_max
  pub bursts_few : s.bursts ≤ trace_max
  pub durations_small : s.durations ≤ durations_max
  pub squares_small : s.squares ≤ square durations_max

-- room for one more packet
pub record Bounded (t : Tally) : Type 0 where
  pub room : Room t.spacing t.stretch t.sums
  pub packets : t.sums.packets ≤ trace_max
  pub events : t.sums.events ≤ trace_max
  pub since : t.stretch.since ≤ trace_max

-- The tests that are made before the open stretch is counted in: none is more than soundness asks for.
unfoldable pub sums_within : Sums → Bool
sums_within s =
    leb s.events s.packets && leb s.burst_packets s.packets && leb s.burst_events s.packets
    && leb s.bursts s.packets && leb s.durations durations_max && leb s.squares (square durations_max)

unfoldable pub bounded : Tally → Bool
bounded t = leb t.sums.packets trace_max && open_within t.stretch t.sums.packets && sums_within t.sums
