-- What callers may lean on, as statements about the definitions that `plan` promises, for every input. Proved in
-- proofs/.
use Rattle.std.specs.Prelude.{ℕ, ◌<◌, ◌≡◌, Bool, List, length, take, Ok, Err, None}
use Rattle.refusal.specs.declared.Refusal.{Refusal}
use Rattle.trace.specs.declared.Event.{Event}
use Rattle.trace.specs.Trace.{counted_at, judged}
use Rattle.batch.specs.Batches.{batches}
use Rattle.batch.specs.Loss.{loss_answer}
use Rattle.resend.specs.Plans.{Best, resent}
use Rattle.resend.specs.Answer.{plan_answer, buffer_after, Plannable, PlannedBest}
use Rattle.refusal.specs.Answer.{Judged}

-- Demand 3, wherever it is asked.
abbrev pub PlanBest : Type 0
PlanBest =
    (verdict : Judged) (lost : ℕ → Bool) (e b t : ℕ) (buffer : List ℕ) → Plannable verdict e b t buffer →
    PlannedBest lost e b t buffer (plan_answer verdict lost e b t buffer) (buffer_after verdict lost e b t buffer)

-- A refused call changes no byte.
abbrev pub RefusedUnchanged : Type 0
RefusedUnchanged =
    (verdict : Judged) (lost : ℕ → Bool) (e b t : ℕ) (buffer : List ℕ) (r : Refusal) →
    plan_answer verdict lost e b t buffer ≡ Err r → buffer_after verdict lost e b t buffer ≡ buffer

-- The best plan is one: any two are the same.
abbrev pub BestOne : Type 0
BestOne = (lost : ℕ → Bool) (e b t : ℕ) (p q : List ℕ) → Best lost e b t p → Best lost e b t q → p ≡ q

-- Answer and buffer depend on the packets of the trace alone: another form of it with the same losses has the same.
abbrev pub SamePlan : Type 0
SamePlan =
    (verdict : Judged) (lost lost' : ℕ → Bool) (e b t : ℕ) (buffer : List ℕ) → ((i : ℕ) → i < e → lost i ≡ lost' i) →
    (plan_answer verdict lost e b t buffer ≡ plan_answer verdict lost' e b t buffer) × (buffer_after verdict lost e b t buffer ≡ buffer_after verdict lost' e b t buffer)

-- the bytes of the lent buffer that are the plan of a byte trace, once the call has answered
abbrev pub plan_in : Event → List ℕ → ℕ → ℕ → List ℕ → List ℕ
plan_in event s b t buffer = take (length s) (buffer_after (judged s) (counted_at event s) (length s) b t buffer)

-- The tie to effective loss: the trace with the plan's packets counted as received has K 0 and no first batch.
abbrev pub PlanRepairs : Type 0
PlanRepairs =
    (event : Event) (s : List ℕ) (b t : ℕ) (buffer : List ℕ) → Plannable (judged s) (length s) b t buffer →
    let again = resent s (plan_in event s b t buffer) in
    loss_answer (judged again) (counted_at event again) (length again) b t ≡ Ok record { over = 0; batches = batches (length s) b; index = 0; first = None }
