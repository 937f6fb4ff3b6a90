-- What callers may lean on, as statements about the definitions that the calls promise. Proved in proofs/.
use Rattle.std.specs.Prelude.{ℕ, ◌<◌, ◌≡◌, true, List, length, get_or, take, Ok}
use Rattle.trace.specs.declared.Event.{Event}
use Rattle.trace.specs.Trace.{counts_as, judged}
use Rattle.block.specs.Reading.{unavailable}
use Rattle.bursts.specs.declared.Figures.{Figures}
use Rattle.bursts.specs.Sums.{sums_of}
use Rattle.bursts.specs.Figures.{figures_of}
use Rattle.bursts.specs.Laws.{Right, Uncut, ProductsFit}
use Rattle.tally.specs.declared.Tally.{Tally}
use Rattle.tally.specs.Tally.{open_of, counted, sound, take_one, close_of, take_each}

-- A tally t was opened, and s is an accepted trace.
pub record Given (gmin spacing : ℕ) (event : Event) (t : Tally) (s : List ℕ) : Type 0 where
  pub opened : open_of gmin spacing event ≡ Ok t
  pub accepted : judged s ≡ (Ok tt)

-- It takes the trace, packet after packet, and is sound at every point.
abbrev pub TakesAll : Type 0
TakesAll =
    (gmin spacing : ℕ) (event : Event) (t : Tally) (s : List ℕ) → Given gmin spacing event t s →
    (i : ℕ) → i < length s → (take_one (take_each t (take i s)) (get_or s i 0)).answer ≡ (Ok tt)

abbrev pub SoundThroughout : Type 0
SoundThroughout =
    (gmin spacing : ℕ) (event : Event) (t : Tally) (s : List ℕ) → Given gmin spacing event t s →
    (i : ℕ) → sound (take_each t (take i s)) ≡ true

-- At every point its sums, with the open stretch counted in, are those of the packets so far.
abbrev pub CountsAll : Type 0
CountsAll =
    (gmin spacing : ℕ) (event : Event) (t : Tally) (s : List ℕ) → Given gmin spacing event t s →
    (i : ℕ) → counted (take_each t (take i s)) ≡ sums_of (counts_as event) gmin spacing (take i s)

-- Its closing equals the formulas over the whole trace.
abbrev pub ClosesWithFigures : Type 0
ClosesWithFigures =
    (gmin spacing : ℕ) (event : Event) (t : Tally) (s : List ℕ) → Given gmin spacing event t s →
    close_of (take_each t s) ≡ Ok (figures_of (sums_of (counts_as event) gmin spacing s))

-- A tally that took no packet closes with every figure unavailable.
abbrev pub ClosesEmpty : Type 0
ClosesEmpty =
    (gmin spacing : ℕ) (event : Event) (t : Tally) → open_of gmin spacing event ≡ Ok t →
    close_of t
    ≡ Ok (record { burst_rate = unavailable; gap_rate = unavailable; burst_mean = unavailable; burst_variance = unavailable })

-- n × n, n × Q and S × S of a sound tally, with its open stretch counted in, fit 64 bits.
abbrev pub TallyFits : Type 0
TallyFits = (t : Tally) → sound t ≡ true → ProductsFit (counted t)

-- What any tally closes with, also one that no trace leads to: a figure that could be measured is never sent as
-- unavailable, and no subtraction in a formula was cut off at 0.
abbrev pub ClosesRight : Type 0
ClosesRight = (t : Tally) (f : Figures) → close_of t ≡ Ok f → Right (counted t) f × Uncut (counted t)
