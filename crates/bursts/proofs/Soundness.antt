-- What sound sums have, line by line of document 01's list with ticket 3's last line, the tests for it, and why no product of
-- them wraps: `SoundNoBursts` and `SoundFits` of specs/Laws.antt. Assumes nothing.
use Prim.Native.Nat.{ℕ, zero, suc, ◌-◌, ◌*◌, ◌/◌, ◌≤◌}
use mathlib.Core.Path.{◌≡◌, refl, sym, ◌∙◌}
use mathlib.Core.Bool.{true, false, ◌&&◌, and-true}
use native.Mathlib.Omega.{arith}
use native.Mathlib.Nat.{mul-le-mul, zero-mul, suc-mul}
use borrow.Author.Tests.{leb-true, le-leb}
use lib.Dec.{leb}
use Rattle.refusal.proofs.Tests.{and_left, and_right, fails, same_leb, six}
use Rattle.trace.specs.Trace.{trace_max}
use Rattle.bursts.specs.declared.Sums.{Sums}
use Rattle.bursts.specs.Groups.{square}
use Rattle.bursts.specs.Sums.{bursts_max, durations_max, counts_sound, durations_sound, sums_sound}
use Rattle.bursts.specs.Steps.{Rated, Few, Spread}
use Rattle.bursts.specs.Laws.{SoundNoBursts, ProductsFit, SoundFits}

-- "E ≤ 65,536, Eb ≤ E, Lb ≤ Eb, Lb ≤ L, L − Lb ≤ E − Eb, 2n ≤ Eb"
pub record Counts (s : Sums) : Type 0 where
  pub most : s.packets ≤ trace_max
  pub inside : s.burst_packets ≤ s.packets
  pub dense : s.burst_events ≤ s.burst_packets
  pub counted : s.burst_events ≤ s.events
  pub gaps : s.events - s.burst_events ≤ s.packets - s.burst_packets
  pub pairs : 2 * s.bursts ≤ s.burst_packets

-- "S ≤ 2,621,440, Q ≤ S × S", and "n × Q ≥ S × S"
pub record Durations (s : Sums) : Type 0 where
  pub most : s.durations ≤ durations_max
  pub squares : s.squares ≤ square s.durations
  pub spread : square s.durations ≤ s.bursts * s.squares

module _ (s : Sums) where
  pub counts_of : counts_sound s ≡ true → Counts s
  unfolding counts_sound
  counts_of h =
      let p =
      six (leb s.packets trace_max) (leb s.burst_packets s.packets) (leb s.burst_events s.burst_packets)
      (leb s.burst_events s.events) (leb (s.events - s.burst_events) (s.packets - s.burst_packets))
      (leb (2 * s.bursts) s.burst_packets) h in
      record {
        most = leb-true _ _ p.0;
        inside = leb-true _ _ p.1;
        dense = leb-true _ _ p.2;
        counted = leb-true _ _ p.3;
        gaps = leb-true _ _ p.4;
        pairs = leb-true _ _ p.5;
      }

  pub counts_sound_lem : Counts s → counts_sound s ≡ true
  unfolding counts_sound
  counts_sound_lem h =
      rw (le-leb _ _ h.most, le-leb _ _ h.inside, le-leb _ _ h.dense, le-leb _ _ h.counted, le-leb _ _ h.gaps, le-leb _ _ h.pairs)

  pub counts_unsound : (Counts s → ⊥) → false ≡ counts_sound s
  counts_unsound no-counts = sym (fails (counts_sound s) (λ h. no-counts (counts_of h)))

  -- the two comparisons that the code makes in another way
  pub counts_tested : s.burst_packets ≤ s.packets → s.burst_events ≤ s.events →
      (leb s.packets trace_max && leb s.burst_events s.burst_packets && leb (s.events - s.burst_events) (s.packets - s.burst_packets) && leb s.bursts (s.burst_packets / 2))
      ≡ counts_sound s
  unfolding counts_sound
  counts_tested inside counted =
      let half : leb s.bursts (s.burst_packets / 2) ≡ leb (2 * s.bursts) s.burst_packets
      = same_leb s.bursts (s.burst_packets / 2) (2 * s.bursts) s.burst_packets (λ h. omega arith) (λ h. omega arith) in
      rw (half, le-leb s.burst_packets s.packets inside, le-leb s.burst_events s.events counted) (simp and-true)

  spread_tested : s.durations ≤ durations_max → s.squares ≤ square s.durations → leb (square s.durations) (s.bursts * s.squares) ≡ durations_sound s
  unfolding durations_sound
  spread_tested most squares = rw (le-leb s.durations durations_max most, le-leb s.squares (square s.durations) squares)

  pub durations_of : durations_sound s ≡ true → Durations s
  unfolding durations_sound
  durations_of h =
      let a = leb s.durations durations_max in
      let b = leb s.squares (square s.durations) in
      let c = leb (square s.durations) (s.bursts * s.squares) in
      let ab = and_left (a && b) c h in
      record {
        most = leb-true _ _ (and_left a b ab);
        squares = leb-true _ _ (and_right a b ab);
        spread = leb-true _ _ (and_right (a && b) c h);
      }

  pub durations_sound_lem : Durations s → durations_sound s ≡ true
  durations_sound_lem h = sym (spread_tested h.most h.squares) ∙ le-leb _ _ h.spread

  -- both
  pub sound_of : sums_sound s ≡ true → Counts s × Durations s
  unfolding sums_sound
  sound_of h = (counts_of (and_left (counts_sound s) (durations_sound s) h), durations_of (and_right (counts_sound s) (durations_sound s) h))

-- a number whose square is 0
root_0 : (n : ℕ) → square n ≤ 0 → n ≡ 0
root_0 zero h = refl
root_0 (suc n) h = let e = suc-mul n (suc n) in absurd (omega arith)

pub sound_no_bursts : SoundNoBursts
sound_no_bursts s h none =
    let d = (sound_of s h).1 in
    let nothing : s.bursts * s.squares ≡ 0 = rw (none, zero-mul s.squares) in
    let S : s.durations ≡ 0 = root_0 s.durations (omega arith) in
    let S×S : square s.durations ≡ 0 = rw S in
    (S, omega arith)

-- products within these bounds
pub square_small : (n : ℕ) → n ≤ durations_max → square n ≤ square durations_max
square_small n h = mul-le-mul h h

pub products_fit : (s : Sums) → s.bursts ≤ bursts_max → s.durations ≤ durations_max → s.squares ≤ square s.durations → ProductsFit s
products_fit s n most squares =
    let q = square_small s.durations most in
    record {
      bursts = record { at_most = mul-le-mul n n; in_64_bits = omega arith };
      durations = record { at_most = q; in_64_bits = omega arith };
      squares = record { at_most = mul-le-mul {n₂ = bursts_max} {m₂ = square durations_max} n (omega arith); in_64_bits = omega arith };
    }

pub spread_fits : (s : Sums) → Spread s → ProductsFit s
spread_fits s p = products_fit s p.few.bursts p.durations p.squares

pub sound_fits : SoundFits
sound_fits s h = let p = sound_of s h in products_fit s (omega arith) p.1.most p.1.squares

-- what the private functions ask for is so of sound sums
pub few : (s : Sums) → counts_sound s ≡ true → Few s
few s h = let c = counts_of s h in record { bursts = omega arith }

pub record Measurable (s : Sums) : Type 0 where
  pub in_bursts : Rated s.burst_events s.burst_packets
  pub events : s.burst_events ≤ s.events
  pub packets : s.burst_packets ≤ s.packets
  pub in_gaps : Rated (s.events - s.burst_events) (s.packets - s.burst_packets)
  pub spread : Spread s

pub measurable : (s : Sums) → sums_sound s ≡ true → Measurable s
measurable s h =
    let p = sound_of s h in
    let c = p.0 in
    let d = p.1 in
    record {
      in_bursts = record { fewer = c.dense; most = omega arith };
      events = c.counted;
      packets = c.inside;
      in_gaps = record { fewer = c.gaps; most = omega arith };
      spread = record { few = record { bursts = omega arith }; durations = d.most; squares = d.squares; least = d.spread };
    }
