-- The tie to effective loss: a trace with a valid plan's packets counted as received has no batch over the
-- threshold. Assumes nothing.
use Prim.Native.Nat.{ℕ, zero, suc, ◌+◌, ◌<◌, ◌≤◌}
use mathlib.Core.Path.{◌≡◌, refl, sym, ap}
use mathlib.Core.Bool.{Bool, true, false, cond, ◌&&◌, not}
use mathlib.Core.List.{List, [], ◌∷◌}
use native.Mathlib.Omega.{arith}
use native.Mathlib.Nat.{zero-mul, zero-div}
use lib.ListN.{length, get_or}
use Rattle.trace.specs.declared.Event.{Event}
use Rattle.trace.specs.Sum.{bit}
use Rattle.trace.specs.Trace.{received, packet_max, counts_as, counted_at, judged}
use Rattle.trace.specs.Laws.{IsTrace}
use Rattle.trace.proofs.Sums.{sum_same}
use Rattle.trace.proofs.Events.{received_uncounted}
use Rattle.trace.proofs.Judging.{accepted_trace, trace_accepted}
use Rattle.batch.specs.Batches.{batches, losses_in, over_count}
use Rattle.batch.specs.Loss.{loss_of}
use Rattle.batch.proofs.Judging.{accepted}
use Rattle.batch.proofs.Counting.{none_named, none_over}
use Rattle.batch.proofs.Answering.{measured}
use Rattle.resend.specs.Plans.{marked, left, Valid, resent}
use Rattle.resend.specs.Laws.{plan_in, PlanRepairs}
use Rattle.resend.proofs.Answering.{plan_best}
use Rattle.std.specs.Prelude.{None}

-- a resent trace, packet by packet
resent_length : (s p : List ℕ) → length (resent s p) ≡ length s
unfolding resent
resent_length [] p = refl
resent_length (packet ∷ s) [] = refl
resent_length (packet ∷ s) (mark ∷ p) = ap suc (resent_length s p)

resent_at : (s p : List ℕ) (i : ℕ) → i < length s → get_or (resent s p) i 0 ≡ cond (marked p i) received (get_or s i 0)
unfolding resent
resent_at [] p i h = absurd (omega arith)
resent_at (packet ∷ s) [] i h = refl
resent_at (packet ∷ s) (mark ∷ p) zero h = refl
resent_at (packet ∷ s) (mark ∷ p) (suc i) h = resent_at s p i (omega arith)

-- what counts in a resent trace is what the plan leaves
resent_left : (event : Event) (s p : List ℕ) (i : ℕ) → i < length s → counted_at event (resent s p) i ≡ left (counted_at event s) p i
resent_left event s p i h = rw (resent_at s p i h) (go (marked p i) (counted_at event s i) refl)
  where
    go : (m x : Bool) → counted_at event s i ≡ x → counts_as event (cond m received (get_or s i 0)) ≡ (x && not m)
    go true true e = received_uncounted event
    go true false e = received_uncounted event
    go false true e = e
    go false false e = e

resent_sound : (s p : List ℕ) → IsTrace s → IsTrace (resent s p)
resent_sound s p h =
    record {
      some = rw (resent_length s p) h.some;
      most = rw (resent_length s p) h.most;
      each = λ i l. each i (rw (← resent_length s p) l);
    }
  where
    each : (i : ℕ) → i < length s → get_or (resent s p) i 0 ≤ packet_max
    each i l = rw (resent_at s p i l) (go (marked p i))
      where
        go : (m : Bool) → cond m received (get_or s i 0) ≤ packet_max
        go true = omega arith
        go false = h.each i l

module _ (event : Event) (s : List ℕ) (b t : ℕ) (within : b ≤ length s) (p : List ℕ) (v : Valid (counted_at event s) (length s) b t p) where
  abbrev now_lost : ℕ → Bool
  now_lost = counted_at event (resent s p)

  pub few_left : (k : ℕ) → k < batches (length s) b → losses_in now_lost b k ≤ t
  few_left k h = rw same (v.none_over k h)
    where
      same : losses_in now_lost b k ≡ losses_in (left (counted_at event s) p) b k
      same = sum_same _ _ k b (λ i l. ap bit (resent_left event s p (k + i) (omega arith)))

  none_left : over_count now_lost (length s) b t ≡ 0
  none_left = none_over now_lost (length s) b t few_left

  repaired : loss_of now_lost (length s) b t ≡ record { over = 0; batches = batches (length s) b; index = 0; first = None }
  unfolding loss_of
  repaired = rw (none_left, none_named now_lost (length s) b t none_left, zero-mul, zero-div)

pub plan_repairs : PlanRepairs
plan_repairs event s b t buffer a =
    let p = plan_in event s b t buffer in
    let valid = (plan_best (judged s) (counted_at event s) (length s) b t buffer a).best.smallest.valid in
    let good = trace_accepted (resent s p) (resent_sound s p (accepted_trace s a.accepted)) in
    let long = resent_length s p in
    rw long
    (sym (measured (judged (resent s p)) (counted_at event (resent s p)) (length s) b t _
    (sym (accepted (judged (resent s p)) (length s) b t a.range good a.within))
    (sym (repaired event s b t a.within p valid))))
