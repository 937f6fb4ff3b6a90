-- The cases of a figure: unavailable, over range, or the number; and how large a rate is. Assumes nothing.
use Prim.Native.Nat.{ℕ, ◌*◌, ◌/◌, ◌<◌, ◌≤◌}
use mathlib.Core.Path.{◌≡◌}
use mathlib.Core.Bool.{true}
use native.Mathlib.Nat.{mul-le-mul_right, div-le_of_le-mul}
use borrow.Author.Tests.{le-leb, lt-leb, eq-eqb, ne_eqb}
use Rattle.block.specs.Reading.{rate_max, unavailable}
use Rattle.bursts.specs.declared.Sums.{Sums}
use Rattle.bursts.specs.declared.Figures.{Figures}
use Rattle.bursts.specs.Sums.{sums_sound}
use Rattle.bursts.specs.Figures.{measure_max, over_range, rate_of, ranged, mean_duration, duration_variance, mean_of, variance_of, figures_of, measure_of}
use Rattle.std.specs.Prelude.{Ok}

pub no_rate : (events packets : ℕ) → packets ≡ 0 → unavailable ≡ rate_of events packets
unfolding rate_of
no_rate events packets h = rw (eq-eqb packets 0 h)

pub some_rate : (events packets : ℕ) → (packets ≡ 0 → ⊥) → events * rate_max / packets ≡ rate_of events packets
unfolding rate_of
some_rate events packets h = rw (ne_eqb packets 0 h)

-- a rate is at most one event for each packet
pub rate_small : (events packets : ℕ) → events ≤ packets → events * rate_max / packets ≤ rate_max
rate_small events packets h = div-le_of_le-mul packets (mul-le-mul_right rate_max h)

pub over_range_lem : (measure : ℕ) → measure_max < measure → over_range ≡ ranged measure
unfolding ranged
over_range_lem measure h = rw (lt-leb measure measure_max h)

pub in_range_lem : (measure : ℕ) → measure ≤ measure_max → measure ≡ ranged measure
unfolding ranged
in_range_lem measure h = rw (le-leb measure measure_max h)

module _ (s : Sums) where
  module _ (none : s.bursts ≡ 0) where
    pub no_mean : unavailable ≡ mean_of s
    unfolding mean_of
    no_mean = rw (eq-eqb s.bursts 0 none)

    pub no_variance : unavailable ≡ variance_of s
    unfolding variance_of
    no_variance = rw (eq-eqb s.bursts 0 none)

  module _ (some : s.bursts ≡ 0 → ⊥) where
    pub some_mean : ranged (mean_duration s) ≡ mean_of s
    unfolding mean_of
    some_mean = rw (ne_eqb s.bursts 0 some)

    pub some_variance : ranged (duration_variance s) ≡ variance_of s
    unfolding variance_of
    some_variance = rw (ne_eqb s.bursts 0 some)

-- sums that are sound
pub accepted : (s : Sums) (f : Figures) → sums_sound s ≡ true → f ≡ figures_of s → Ok f ≡ measure_of s
unfolding measure_of
accepted s f h e = rw (h, e)
