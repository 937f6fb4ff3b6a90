-- A figure is unavailable exactly where its denominator is 0, and no subtraction is cut off: `FiguresRight` and
-- `SoundUncut` of specs/Laws.antt. Assumes nothing.
use Prim.Native.Nat.{ℕ, ◌-◌, ◌≤◌}
use mathlib.Core.Path.{◌≡◌, refl, sym}
use mathlib.Core.Bool.{Bool, true, false}
use mathlib.Core.Logic.{inl, inr}
use native.Mathlib.Omega.{arith}
use native.Mathlib.Decide.{ℕ_discrete, dec_le}
use Rattle.refusal.specs.Table.{setting}
use Rattle.refusal.specs.Answer.{unless}
use Rattle.block.specs.Reading.{rate_max, unavailable}
use Rattle.bursts.specs.declared.Sums.{Sums}
use Rattle.bursts.specs.Sums.{sums_sound}
use Rattle.bursts.specs.Figures.{measure_max, over_range, rate_of, ranged, mean_duration, duration_variance, mean_of, variance_of, figures_of, measure_of}
use Rattle.bursts.specs.Laws.{FigureSent, Right, FiguresRight, SoundUncut}
use Rattle.bursts.proofs.Soundness.{sound_of}
use Rattle.bursts.proofs.Cases.{no_rate, some_rate, rate_small, over_range_lem, in_range_lem, no_mean, some_mean, no_variance, some_variance}
use Rattle.std.specs.Prelude.{Ok, Err}

sent : (figure most : ℕ) (denominator : ℕ) → most ≤ over_range → (denominator ≡ 0 → unavailable ≡ figure) → ((denominator ≡ 0 → ⊥) → figure ≤ most) → FigureSent figure most (denominator ≡ 0)
sent figure most denominator small none some = go (ℕ_discrete denominator 0)
  where
    go : Dec (denominator ≡ 0) → FigureSent figure most (denominator ≡ 0)
    go (yes zero) = record { exactly = (λ e. zero, λ e. sym (none e)); at_most = inr (sym (none zero)) }
    go (no other) =
        let l = some other in
        record { exactly = (λ e. absurd (omega arith), λ e. sym (none e)); at_most = inl l }

ranged_most : (n : ℕ) → ranged n ≤ over_range
ranged_most n = go (dec_le n measure_max)
  where
    go : Dec (n ≤ measure_max) → ranged n ≤ over_range
    go (yes l) = rw (← in_range_lem n l) (omega arith)
    go (no g) = rw (← over_range_lem n (omega arith)) (omega arith)

rate_sent : (events packets : ℕ) → events ≤ packets → FigureSent (rate_of events packets) rate_max (packets ≡ 0)
rate_sent events packets h =
    sent (rate_of events packets) rate_max packets (omega arith) (no_rate events packets)
    (λ some. rw (← some_rate events packets some) (rate_small events packets h))

measure_sent : (figure measure denominator : ℕ) → (denominator ≡ 0 → unavailable ≡ figure) → ((denominator ≡ 0 → ⊥) → ranged measure ≡ figure) → FigureSent figure over_range (denominator ≡ 0)
measure_sent figure measure denominator none some =
    sent figure over_range denominator (omega arith) none (λ other. rw (← some other) (ranged_most measure))

right : (s : Sums) → sums_sound s ≡ true → Right s (figures_of s)
unfolding figures_of
right s h =
    let c = (sound_of s h).0 in
    let inside = c.inside in
    let g = rate_sent (s.events - s.burst_events) (s.packets - s.burst_packets) c.gaps in
    record {
      rates =
          record {
            burst = rate_sent s.burst_events s.burst_packets c.dense;
            gap = record { exactly = (λ e. let z = g.exactly.0 e in omega arith, λ e. g.exactly.1 (omega arith)); at_most = g.at_most };
          };
      durations =
          record {
            mean = measure_sent (mean_of s) (mean_duration s) s.bursts (no_mean s) (some_mean s);
            variance = measure_sent (variance_of s) (duration_variance s) s.bursts (no_variance s) (some_variance s);
          };
    }

pub figures_right : FiguresRight
unfolding measure_of
figures_right s f h = go (sums_sound s) refl h
  where
    go : (b : Bool) → sums_sound s ≡ b → unless b (Err setting) (Ok (figures_of s)) ≡ Ok f → Right s f
    go true e a = let same : figures_of s ≡ f = cc in rw (← same) (right s e)
    go false e a = let z : ◌≡◌ {A = ℕ} 0 1 = cc in absurd (omega arith)

pub sound_uncut : SoundUncut
sound_uncut s h =
    let p = sound_of s h in
    record { events = p.0.counted; packets = p.0.inside; squares = p.1.spread }
