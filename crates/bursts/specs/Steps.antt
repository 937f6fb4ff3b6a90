-- What the private functions ask for: each is a part of what sound sums have.
use Rattle.std.specs.Prelude.{ℕ, ◌*◌, ◌≤◌}
use Rattle.trace.specs.Trace.{trace_max}
use Rattle.bursts.specs.declared.Sums.{Sums}
use Rattle.bursts.specs.Groups.{square}
use Rattle.bursts.specs.Sums.{bursts_max, durations_max}

-- no more events than packets
pub record Rated (events packets : ℕ) : Type 0 where
  pub fewer : events ≤ packets
  pub most : packets ≤ trace_max

-- no more bursts than packets allow
pub record Few (s : Sums) : Type 0 where
  pub bursts : s.bursts ≤ bursts_max

-- few bursts, durations in their range, and S × S not above n × Q
pub record Spread (s : Sums) : Type 0 where
  pub few : Few s
  pub durations : s.durations ≤ durations_max
  pub squares : s.squares ≤ square s.durations
  pub least : square s.durations ≤ s.bursts * s.squares
