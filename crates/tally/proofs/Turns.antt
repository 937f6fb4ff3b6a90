-- The cases of a tally's calls, in the order of the refusals. Assumes nothing.
use Prim.Native.Nat.{ℕ, ◌<◌, ◌≤◌}
use mathlib.Core.Path.{◌≡◌}
use mathlib.Core.Bool.{true, false}
use native.Mathlib.Omega.{arith}
use native.Mathlib.Nat.{mul-le-mul}
use borrow.Author.Tests.{lt-ltb, le-leb}
use Rattle.refusal.specs.Table.{setting}
use Rattle.settings.specs.Ranges.{spacing_max, burst_in_range}
use Rattle.trace.specs.declared.Event.{Event}
use Rattle.trace.specs.Trace.{packet_max, trace_max, counts_as}
use Rattle.bursts.specs.declared.Sums.{Sums}
use Rattle.bursts.specs.Groups.{duration}
use Rattle.bursts.specs.Sums.{durations_max, sums_sound}
use Rattle.bursts.specs.Figures.{measure_of}
use Rattle.tally.specs.declared.Tally.{Tally}
use Rattle.tally.specs.Tally.{fresh, open_of, counted_in, counted, one_event, with, lone, sound, passed, joined, apart, joins, step_of, take_one, close_of}
use Rattle.tally.specs.Steps.{bounded}
use Rattle.tally.proofs.Limits.{out_of_range, out_of_bounds, tested}
use Rattle.std.specs.Prelude.{Ok, Err}

-- a burst of so many packets lasts so long at most
pub duration_small : (spacing packets : ℕ) → spacing ≤ spacing_max → packets ≤ trace_max → duration spacing packets ≤ durations_max
unfolding duration
duration_small spacing packets s p = let h = mul-le-mul {n₂ = trace_max} {m₂ = spacing_max} p s in omega arith

-- opening
pub opened : (gmin spacing : ℕ) (event : Event) (t : Tally) → burst_in_range gmin spacing ≡ true → t ≡ fresh gmin spacing event → Ok t ≡ open_of gmin spacing event
unfolding open_of
opened gmin spacing event t h e = rw (h, e)

module _ (t : Tally) where
  -- a step
  module _ (packet : ℕ) where
    pub passes : counts_as t.event packet ≡ false → passed t ≡ step_of t packet
    unfolding step_of
    passes h = rw h

    pub belongs : counts_as t.event packet ≡ true → joins t ≡ true → joined t ≡ step_of t packet
    unfolding step_of
    belongs h j = rw (h, j)

    pub begins : (s : Sums) → counts_as t.event packet ≡ true → joins t ≡ false → s ≡ counted_in t.spacing t.stretch (one_event t.sums) →
        with t s lone ≡ step_of t packet
    unfolding step_of apart
    begins s h j e = rw (h, j, e)

    -- taking
    pub taken : sound t ≡ true → t.sums.packets < trace_max → (r : Tally) → packet ≤ packet_max → r ≡ step_of t packet →
        record { tally = r; answer = (Ok (tt {0})) } ≡ take_one t packet
    unfolding take_one
    taken s room r h e = rw (s, lt-ltb t.sums.packets trace_max room, le-leb packet packet_max h, e)

  -- closing
  not_closed : false ≡ sound t → Err setting ≡ close_of t
  unfolding close_of
  not_closed h = rw (← h)

  pub closes : sums_sound (counted t) ≡ sound t → measure_of (counted t) ≡ close_of t
  unfolding close_of measure_of
  closes h = rw h

  pub closes_no_range : burst_in_range t.gmin t.spacing ≡ false → Err setting ≡ close_of t
  closes_no_range h = not_closed (out_of_range t h)

  pub closes_no_bounds : bounded t ≡ false → Err setting ≡ close_of t
  closes_no_bounds h = not_closed (out_of_bounds t h)

  pub closes_counted : burst_in_range t.gmin t.spacing ≡ true → bounded t ≡ true → measure_of (counted t) ≡ close_of t
  closes_counted r h = closes (tested t r h)
