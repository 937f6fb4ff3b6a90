-- What callers may lean on, as statements about the definitions that the calls promise. Proved in proofs/.
use Rattle.std.specs.Prelude.{ℕ, ◌*◌, ◌^◌, ◌<◌, ◌≤◌, ◌≡◌, Bool, true, ◌↔◌, ◌⊎◌, List, length, Ok}
use Rattle.settings.specs.Ranges.{burst_in_range}
use Rattle.trace.specs.Trace.{trace_max}
use Rattle.block.specs.Reading.{rate_max, unavailable}
use Rattle.bursts.specs.declared.Sums.{Sums}
use Rattle.bursts.specs.declared.Figures.{Figures}
use Rattle.bursts.specs.Groups.{square}
use Rattle.bursts.specs.Sums.{sums_of, bursts_max, durations_max, sums_sound}
use Rattle.bursts.specs.Figures.{over_range, measure_of}

-- A figure is sent as unavailable exactly where it cannot be measured, and otherwise is at most this much.
pub record FigureSent (figure most : ℕ) (unmeasurable : Type 0) : Type 0 where
  pub exactly : (figure ≡ unavailable) ↔ unmeasurable
  pub at_most : (figure ≤ most) ⊎ (figure ≡ unavailable)

-- the rates of a block 17 or 18
pub record RatesRight (s : Sums) (burst-rate gap-rate : ℕ) : Type 0 where
  pub burst : FigureSent burst-rate rate_max (s.burst_packets ≡ 0)
  pub gap : FigureSent gap-rate rate_max (s.packets ≡ s.burst_packets)

-- mean and variance of a block 17
pub record DurationsRight (s : Sums) (burst-mean burst-variance : ℕ) : Type 0 where
  pub mean : FigureSent burst-mean over_range (s.bursts ≡ 0)
  pub variance : FigureSent burst-variance over_range (s.bursts ≡ 0)

pub record Right (s : Sums) (f : Figures) : Type 0 where
  pub rates : RatesRight s f.burst_rate f.gap_rate
  pub durations : DurationsRight s f.burst_mean f.burst_variance

-- A figure that could be measured is never sent as unavailable.
abbrev pub FiguresRight : Type 0
FiguresRight = (s : Sums) (f : Figures) → measure_of s ≡ Ok f → Right s f

-- No subtraction in a formula is cut off at 0: L − Lb, E − Eb and n × Q − S × S.
pub record Uncut (s : Sums) : Type 0 where
  pub events : s.burst_events ≤ s.events
  pub packets : s.burst_packets ≤ s.packets
  pub squares : square s.durations ≤ s.bursts * s.squares

abbrev pub SoundUncut : Type 0
SoundUncut = (s : Sums) → sums_sound s ≡ true → Uncut s

-- Sound sums without a burst have no durations: "n × Q ≥ S × S" holds where n is 0 too.
abbrev pub SoundNoBursts : Type 0
SoundNoBursts = (s : Sums) → sums_sound s ≡ true → s.bursts ≡ 0 → (s.durations ≡ 0) × (s.squares ≡ 0)

-- a product has this bound, which is below 2 ^ 64
pub record Fits (most product : ℕ) : Type 0 where
  pub at_most : product ≤ most
  pub in_64_bits : most < 2 ^ 64

-- n × n, S × S and n × Q
pub record ProductsFit (s : Sums) : Type 0 where
  pub bursts : Fits (square bursts_max) (square s.bursts)
  pub durations : Fits (square durations_max) (square s.durations)
  pub squares : Fits (bursts_max * square durations_max) (s.bursts * s.squares)

-- No product of sound sums wraps, since n is at most 32,768, S at most 2,621,440 and Q at most S × S.
abbrev pub SoundFits : Type 0
SoundFits = (s : Sums) → sums_sound s ≡ true → ProductsFit s

-- The sums of every trace of up to 65,536 packets are sound, whatever counts as an event.
abbrev pub SumsSound : Type 0
SumsSound =
    (event : ℕ → Bool) (gmin spacing : ℕ) (s : List ℕ) → burst_in_range gmin spacing ≡ true → length s ≤ trace_max →
    sums_sound (sums_of event gmin spacing s) ≡ true
