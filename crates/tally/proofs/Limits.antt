-- Why the bounds that the code tests first are no more than soundness asks for: counting the open stretch in
-- makes no sum smaller. Assumes nothing.
use Prim.Native.Nat.{ℕ, ◌<◌, ◌≤◌}
use mathlib.Core.Path.{◌≡◌, sym}
use mathlib.Core.Bool.{true, false, ◌&&◌, and-true}
use native.Mathlib.Omega.{arith}
use native.Mathlib.Decide.{dec_lt}
use borrow.Author.Rules.{rules}
use borrow.Author.Tests.{leb-true, le-leb, lt-leb}
use lib.Dec.{leb}
use Rattle.refusal.proofs.Tests.{and_left, and_right, fails, six}
use Rattle.settings.specs.Ranges.{burst_in_range}
use Rattle.settings.proofs.Bounds.{burst}
use Rattle.trace.specs.Trace.{trace_max}
use Rattle.bursts.specs.declared.Sums.{Sums}
use Rattle.bursts.specs.Groups.{burst_min, square}
use Rattle.bursts.specs.Sums.{durations_max, counts_sound, durations_sound, sums_sound}
use Rattle.bursts.proofs.Soundness.{Counts, Durations, counts_of, durations_of, square_small}
use Rattle.tally.specs.declared.Stretch.{Stretch}
use Rattle.tally.specs.declared.Tally.{Tally}
use Rattle.tally.specs.Tally.{with_burst, counted_in, counted, open_within, sound}
use Rattle.tally.specs.Steps.{Room, Bounded, sums_within, bounded}

-- the cases of counting a stretch in
pub is_burst_lem : (spacing : ℕ) (o : Stretch) (s : Sums) → burst_min ≤ o.events → with_burst spacing o s ≡ counted_in spacing o s
unfolding counted_in
is_burst_lem spacing o s h = rw (le-leb burst_min o.events h)

pub no_burst : (spacing : ℕ) (o : Stretch) (s : Sums) → o.events < burst_min → s ≡ counted_in spacing o s
unfolding counted_in
no_burst spacing o s h = rw (lt-leb burst_min o.events h)

-- what holds of the sums as they are, or with the burst, holds of them with the stretch counted in
pub counted_cases : (P : Sums → Type 0) (spacing : ℕ) (o : Stretch) (s : Sums) → (o.events < burst_min → P s) →
    (burst_min ≤ o.events → P (with_burst spacing o s)) → P (counted_in spacing o s)
counted_cases P spacing o s few many = go (dec_lt o.events burst_min)
  where
    go : Dec (o.events < burst_min) → P (counted_in spacing o s)
    go (yes l) = rw (← no_burst spacing o s l) (few l)
    go (no l) = rw (← is_burst_lem spacing o s (omega arith)) (many (omega arith))

-- sums that are no smaller, over as many packets and events
pub record Grown (s r : Sums) : Type 0 where
  pub packets : r.packets ≡ s.packets
  pub events : r.events ≡ s.events
  pub packets_in_bursts : s.burst_packets ≤ r.burst_packets
  pub events_in_bursts : s.burst_events ≤ r.burst_events
  pub bursts : s.bursts ≤ r.bursts
  pub durations : s.durations ≤ r.durations
  pub squares : s.squares ≤ r.squares

pub grown : (spacing : ℕ) (o : Stretch) (s : Sums) → Grown s (counted_in spacing o s)
unfolding with_burst
grown spacing o s = counted_cases (Grown s) spacing o s (λ few. search rules) (λ many. search rules)

-- what a sound tally has
pub record Sound (t : Tally) : Type 0 where
  pub ranges : burst_in_range t.gmin t.spacing ≡ true
  pub counts : Counts (counted t)
  pub within : open_within t.stretch t.sums.packets ≡ true
  pub durations : Durations (counted t)

module _ (t : Tally) where
  pub sound_of : sound t ≡ true → Sound t
  unfolding sound
  sound_of h =
      let a = burst_in_range t.gmin t.spacing in
      let b = counts_sound (counted t) in
      let w = open_within t.stretch t.sums.packets in
      let d = durations_sound (counted t) in
      let h₃ = and_left (a && b && w) d h in
      let h₂ = and_left (a && b) w h₃ in
      record {
        ranges = and_left a b h₂;
        counts = counts_of (counted t) (and_right a b h₂);
        within = and_right (a && b) w h₃;
        durations = durations_of (counted t) (and_right (a && b && w) d h);
      }

  -- the bounds hold of a sound tally
  pub sound_bounded : sound t ≡ true → bounded t ≡ true
  unfolding bounded sums_within
  sound_bounded h =
      let s = sound_of h in
      let n = s.counts in
      let d = s.durations in
      let g = grown t.spacing t.stretch t.sums in
      let q = square_small (counted t).durations d.most in
      let u = t.sums in
      rw (
        le-leb u.packets trace_max (omega arith),
        s.within,
        le-leb u.events u.packets (omega arith),
        le-leb u.burst_packets u.packets (omega arith),
        le-leb u.burst_events u.packets (omega arith),
        le-leb u.bursts u.packets (omega arith),
        le-leb u.durations durations_max (omega arith),
        le-leb u.squares (square durations_max) (omega arith),
      )

  -- the cases of the test
  pub out_of_range : burst_in_range t.gmin t.spacing ≡ false → false ≡ sound t
  unfolding sound
  out_of_range h = rw h

  pub out_of_bounds : bounded t ≡ false → false ≡ sound t
  out_of_bounds h = sym (fails (sound t) (λ s. let e = sound_bounded s in let z : ◌≡◌ {A = ℕ} 0 1 = cc in omega arith))

  within_of : bounded t ≡ true → open_within t.stretch t.sums.packets ≡ true
  unfolding bounded
  within_of h =
      let a = leb t.sums.packets trace_max in
      let w = open_within t.stretch t.sums.packets in
      and_right a w (and_left (a && w) (sums_within t.sums) h)

  pub tested : burst_in_range t.gmin t.spacing ≡ true → bounded t ≡ true → sums_sound (counted t) ≡ sound t
  unfolding sound sums_sound
  tested r h = rw (r, within_of h) (simp and-true)

  -- what they give
  pub bounded_of : burst_in_range t.gmin t.spacing ≡ true → bounded t ≡ true → Bounded t
  unfolding bounded open_within sums_within
  bounded_of r h =
      let a = leb t.sums.packets trace_max in
      let w = open_within t.stretch t.sums.packets in
      let s = t.sums in
      let o = t.stretch in
      let most = leb-true s.packets trace_max (and_left a w (and_left (a && w) (sums_within s) h)) in
      let ow = within_of h in
      let e = leb o.events s.packets in
      let p = leb o.packets s.packets in
      let i = leb o.since s.packets in
      let oe = leb-true o.events s.packets (and_left e p (and_left (e && p) i ow)) in
      let op = leb-true o.packets s.packets (and_right e p (and_left (e && p) i ow)) in
      let og = leb-true o.since s.packets (and_right (e && p) i ow) in
      let m =
      six (leb s.events s.packets) (leb s.burst_packets s.packets) (leb s.burst_events s.packets)
      (leb s.bursts s.packets) (leb s.durations durations_max) (leb s.squares (square durations_max))
      (and_right (a && w) (sums_within s) h) in
      let m₀ = leb-true s.events s.packets m.0 in
      let m₁ = leb-true s.burst_packets s.packets m.1 in
      let m₂ = leb-true s.burst_events s.packets m.2 in
      let m₃ = leb-true s.bursts s.packets m.3 in
      record {
        room =
            record {
              spacing_small = (burst t.gmin t.spacing r).second.most;
              stretch_events = omega arith;
              stretch_packets = omega arith;
              packets_in_bursts = omega arith;
              events_in_bursts = omega arith;
              bursts_few = omega arith;
              durations_small = leb-true s.durations durations_max m.4;
              squares_small = leb-true s.squares (square durations_max) m.5;
            };
        packets = most;
        events = omega arith;
        since = omega arith;
      }

  -- room for one more burst, and for one more packet
  pub count_room : burst_in_range t.gmin t.spacing ≡ true → bounded t ≡ true → Room t.spacing t.stretch t.sums
  count_room r h = (bounded_of r h).room

  pub step_room : sound t ≡ true → Bounded t
  step_room h = bounded_of (sound_of h).ranges (sound_bounded h)
