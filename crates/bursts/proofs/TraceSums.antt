-- The sums of every trace are sound: `SumsSound` of specs/Laws.antt. Packets and events are compared by position, the sums
-- over bursts burst by burst. Assumes nothing.
use Prim.Native.Nat.{ℕ, suc, ◌+◌, ◌*◌, ◌/◌, ◌≤◌}
use mathlib.Core.Path.{◌≡◌, refl}
use mathlib.Core.Bool.{Bool, true, false, cond, ◌&&◌, not}
use mathlib.Core.List.{List, [], ◌∷◌}
use native.Mathlib.Omega.{arith}
use native.Mathlib.Nat.{add-mul, mul-le-mul, mul-le-mul_right, mul-div-le, zero-mul}
use borrow.Author.Tests.{leb-true}
use lib.ListN.{length}
use Rattle.refusal.proofs.Tests.{both}
use Rattle.settings.specs.Ranges.{spacing_max, burst_in_range}
use Rattle.settings.proofs.Bounds.{burst}
use Rattle.trace.specs.Sum.{bit, bits}
use Rattle.trace.specs.Trace.{trace_max}
use Rattle.trace.proofs.Sums.{sum_both, count_all}
use Rattle.bursts.specs.declared.Sums.{Sums}
use Rattle.bursts.specs.Groups.{events_at, Group, last_of, groups, burst_min, is_burst, bursts_of, packets_of, duration, lasts, square, total}
use Rattle.bursts.specs.Sums.{sums_over, sums_of, counts_sound, durations_sound, sums_sound}
use Rattle.bursts.specs.Grouping.{is_event, in_burst, events_in}
use Rattle.bursts.specs.Laws.{SumsSound}
use Rattle.bursts.proofs.Groups.{AllSome, groups_some}
use Rattle.bursts.proofs.Positions.{Rising, Cut, cut, cut_dense, groups_rise, sums_counted}
use Rattle.bursts.proofs.Spread.{square_add, spread_uncut}
use Rattle.bursts.proofs.Soundness.{Counts, Durations, counts_sound_lem, durations_sound_lem}

-- The five sums over bursts, each with two events or more and no more events than packets.
record Fair (spacing packets events bursts durations squares : ℕ) : Type 0 where
  pub dense : events ≤ packets
  pub pairs : 2 * bursts ≤ packets
  pub long : 1000 * durations ≤ packets * spacing
  pub squares_most : squares ≤ square durations

fair_more : (spacing packets events bursts durations squares p e : ℕ) → Fair spacing packets events bursts durations squares →
    burst_min ≤ e → e ≤ p →
    Fair spacing (p + packets) (e + events) (suc bursts) (duration spacing p + durations) (square (duration spacing p) + squares)
unfolding duration
fair_more spacing packets events bursts durations squares p e f many dense =
    let d = p * spacing / 1000 in
    let lasts = mul-div-le (p * spacing) 1000 in
    let wide = add-mul p packets spacing in
    let sum = square_add d durations in
    record { dense = omega arith; pairs = omega arith; long = omega arith; squares_most = omega arith }

abbrev FairOver : ℕ → List Group → Type 0
FairOver spacing bs =
    Fair spacing (total packets_of bs) (total length bs) (length bs) (total (lasts spacing) bs) (total (λ b. square (lasts spacing b)) bs)

fair : (spacing lo hi : ℕ) (gs : List Group) → AllSome gs → Rising lo hi (events_in gs) → FairOver spacing (bursts_of gs)
unfolding AllSome events_in bursts_of total
fair spacing lo hi [] some order =
    let none = zero-mul spacing in
    record { dense = omega arith; pairs = omega arith; long = omega arith; squares_most = omega arith }
fair spacing lo hi (g ∷ gs) some order =
    go (is_burst g) refl (fair spacing (suc (last_of g)) hi gs some.1 (cut lo hi g (events_in gs) some.0 order).rest)
  where
    c : Cut lo hi g (events_in gs)
    c = cut lo hi g (events_in gs) some.0 order

    go : (t : Bool) → is_burst g ≡ t → FairOver spacing (bursts_of gs) → FairOver spacing (cond t (g ∷ bursts_of gs) (bursts_of gs))
    go true many later = fair_more spacing _ _ _ _ _ (packets_of g) (length g) later (leb-true burst_min (length g) many) (cut_dense lo hi g (events_in gs) c)
    go false few later = later

-- a count, and what of it lies inside and outside
split : (x y : Bool) → bit x ≡ bit (x && y) + bit (x && not y)
unfolding bit
split true true = refl
split true false = refl
split false y = refl

other : (x y : Bool) → bit (not y) ≡ bit (x && not y) + bit (not x && not y)
unfolding bit
other true true = refl
other true false = refl
other false true = refl
other false false = refl

-- how packets and events lie among a trace's
record Placed (r : Sums) : Type 0 where
  pub inside : r.burst_packets ≤ r.packets
  pub counted : r.burst_events ≤ r.events
  pub gaps : r.events + r.burst_packets ≤ r.packets + r.burst_events

module _ (event : ℕ → Bool) (gmin spacing : ℕ) (s : List ℕ) where
  abbrev sums : Sums
  sums = sums_of event gmin spacing s

  placed : Placed sums
  placed =
      let p = sums_counted event gmin spacing s in
      let ev = is_event event s in
      let in-burst = in_burst (groups gmin (events_at event s)) in
      let all = count_all (λ i. true) 0 (length s) (λ i l h. refl) in
      let packets = sum_both (bits (λ i. true)) (bits in-burst) (bits (λ i. not (in-burst i))) 0 (length s) (λ i h. split true (in-burst (0 + i))) in
      let events = sum_both (bits ev) (bits (λ i. ev i && in-burst i)) (bits (λ i. ev i && not (in-burst i))) 0 (length s) (λ i h. split (ev (0 + i)) (in-burst (0 + i))) in
      let gaps = sum_both (bits (λ i. not (in-burst i))) (bits (λ i. ev i && not (in-burst i))) (bits (λ i. not (ev i) && not (in-burst i))) 0 (length s) (λ i h. other (ev (0 + i)) (in-burst (0 + i))) in
      record { inside = omega arith; counted = omega arith; gaps = omega arith }

  fair_sums : Fair spacing sums.burst_packets sums.burst_events sums.bursts sums.durations sums.squares
  unfolding sums_over
  fair_sums = fair spacing 0 (length s) (groups gmin (events_at event s)) (groups_some gmin (events_at event s)) (groups_rise event gmin s)

  module _ (range : burst_in_range gmin spacing ≡ true) (most : length s ≤ trace_max) where
    counts : Counts sums
    counts =
        let p = placed in
        let f = fair_sums in
        let e = (sums_counted event gmin spacing s).packets in
        record { most = omega arith; inside = omega arith; dense = omega arith; counted = omega arith; gaps = omega arith; pairs = omega arith }

    durations : Durations sums
    durations =
        let f = fair_sums in
        let product = mul-le-mul {n₂ = trace_max} {m₂ = spacing_max} counts.most (burst gmin spacing range).second.most in
        let inside = mul-le-mul_right spacing counts.inside in
        record {
          most = omega arith;
          squares = f.squares_most;
          spread = spread_uncut event gmin spacing s;
        }

pub sums_sound_lem : SumsSound
unfolding sums_sound
sums_sound_lem event gmin spacing s range most =
    both (counts_sound (sums event gmin spacing s)) (durations_sound (sums event gmin spacing s))
    (counts_sound_lem _ (counts event gmin spacing s range most)) (durations_sound_lem _ (durations event gmin spacing s range most))
