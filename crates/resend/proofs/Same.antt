-- The plans of two tests that agree on the packets of a trace are the same, and so are the answers. Assumes nothing.
use Prim.Native.Nat.{ℕ, zero, suc, ◌+◌, ◌-◌, ◌<◌, ◌≤◌}
use mathlib.Core.Path.{◌≡◌, refl}
use mathlib.Core.Bool.{Bool}
use native.Mathlib.Omega.{arith}
use Rattle.trace.specs.Sum.{bits}
use Rattle.trace.proofs.Sums.{sum_same}
use Rattle.resend.specs.Plans.{left}
use Rattle.resend.specs.Greedy.{window_at, recent, plan_of}
use Rattle.resend.specs.Answer.{plan_answer, buffer_after}
use Rattle.resend.specs.Laws.{SamePlan}

plan_same : (lost lost' : ℕ → Bool) (e b t : ℕ) → ((i : ℕ) → i < e → lost i ≡ lost' i) → (n : ℕ) → n ≤ e → plan_of lost b t n ≡ plan_of lost' b t n
unfolding plan_of recent
plan_same lost lost' e b t same zero l = refl
plan_same lost lost' e b t same (suc i) l =
    let before = plan_same lost lost' e b t same i (omega arith) in
    let p = plan_of lost' b t i in
    let window = sum_same (bits (left lost p)) (bits (left lost' p)) (window_at b i) (i - window_at b i) (λ j h. rw (same (window_at b i + j) (omega arith))) in
    rw (before, same i (omega arith), window)

pub same_plan : SamePlan
unfolding plan_answer buffer_after
same_plan verdict lost lost' e b t buffer same =
    let p = plan_same lost lost' e b t same e (omega arith) in
    (rw p, rw p)
