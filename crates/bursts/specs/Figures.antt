-- The figures of the seven sums, as blocks 17 and 18 hold them: document 01, "The trace and its figures", and document 02,
-- ticket 3, for the variance.
use Rattle.std.specs.Prelude.{ℕ, ◌-◌, ◌*◌, ◌/◌, cond, eqb, leb, Result, Ok, Err}
use Rattle.refusal.specs.Table.{setting}
use Rattle.refusal.specs.Answer.{unless}
use Rattle.block.specs.Reading.{rate_max, unavailable}
use Rattle.bursts.specs.declared.Sums.{Sums}
use Rattle.bursts.specs.declared.Figures.{Figures}
use Rattle.bursts.specs.Groups.{square}
use Rattle.bursts.specs.Sums.{sums_sound}
use Rattle.refusal.specs.declared.Refusal.{Refusal}

abbrev pub measure_max : ℕ
measure_max = 65_533

abbrev pub over_range : ℕ
over_range = 65_534

-- "integer part of Lb × 32768 / Eb; unavailable if Eb is 0"
unfoldable pub rate_of : ℕ → ℕ → ℕ
rate_of events packets = cond (eqb packets 0) unavailable (events * rate_max / packets)

-- "above 65,533 sent as over range"
unfoldable pub ranged : ℕ → ℕ
ranged measure = cond (leb measure measure_max) measure over_range

-- "mean m is the integer part of S / n", before any cap
abbrev pub mean_duration : Sums → ℕ
mean_duration s = s.durations / s.bursts

-- "The variance is to be the integer part of (n × Q − S × S) / (n × n)", before any cap
abbrev pub duration_variance : Sums → ℕ
duration_variance s = (s.bursts * s.squares - square s.durations) / square s.bursts

-- "both unavailable if n is 0; above 65,533 sent as over range"
unfoldable pub mean_of : Sums → ℕ
mean_of s = cond (eqb s.bursts 0) unavailable (ranged (mean_duration s))

unfoldable pub variance_of : Sums → ℕ
variance_of s = cond (eqb s.bursts 0) unavailable (ranged (duration_variance s))

unfoldable pub figures_of : Sums → Figures
figures_of s =
    record {
      burst_rate = rate_of s.burst_events s.burst_packets;
      gap_rate = rate_of (s.events - s.burst_events) (s.packets - s.burst_packets);
      burst_mean = mean_of s;
      burst_variance = variance_of s;
    }

-- sums that are not sound are refused as a tally that is not
unfoldable pub measure_of : Sums → Result Figures Refusal
measure_of s = unless (sums_sound s) (Err setting) (Ok (figures_of s))
