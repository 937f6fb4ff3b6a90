-- What the call answers and how it leaves the lent buffer: document 01, "The plan fills one byte for each packet
-- of the trace, 1 to resend and 0 otherwise, and its answer carries the count. Further bytes of the buffer keep
-- what they held", with the order line "Traces: 15, 10, 9, 14, 8". The verdict on the input, which packets count
-- and their number, e, are parameters.
use Rattle.std.specs.Prelude.{ℕ, ◌≤◌, ◌≡◌, Bool, true, List, ◌++◌, leb, length, take, drop, Result, Ok, Err}
use Rattle.refusal.specs.Table.{buffer_short}
use Rattle.refusal.specs.Answer.{unless, if_accepted}
use Rattle.settings.specs.Ranges.{limits, batch_in_range}
use Rattle.batch.specs.Judging.{judged_for}
use Rattle.resend.specs.Plans.{marks, Best}
use Rattle.resend.specs.Greedy.{plan_of}
use Rattle.refusal.specs.Answer.{Judged}
use Rattle.refusal.specs.declared.Refusal.{Refusal}

unfoldable pub plan_answer : Judged → (ℕ → Bool) → ℕ → ℕ → ℕ → List ℕ → Result ℕ Refusal
plan_answer verdict lost e b t buffer =
    if_accepted (judged_for verdict e b t) Err
    (unless (leb e (length buffer)) (Err buffer_short)
    (Ok (marks (plan_of lost b t e))))

-- the buffer after an answer: the plan, then the bytes past it as they were; as it was, where the call refused
abbrev pub with_plan : Result ℕ Refusal → List ℕ → List ℕ → List ℕ
with_plan (Ok n) plan buffer = plan ++ drop (length plan) buffer
with_plan (Err r) plan buffer = buffer

unfoldable pub buffer_after : Judged → (ℕ → Bool) → ℕ → ℕ → ℕ → List ℕ → List ℕ
buffer_after verdict lost e b t buffer = with_plan (plan_answer verdict lost e b t buffer) (plan_of lost b t e) buffer

-- what demand 3 asks: an accepted input, settings in range, the batch within it, and room
pub record Plannable (verdict : Judged) (e b t : ℕ) (buffer : List ℕ) : Type 0 where
  pub accepted : verdict ≡ (Ok tt)
  pub range : batch_in_range limits b t ≡ true
  pub within : b ≤ e
  pub room : e ≤ length buffer

-- what demand 3 says of a call: it answers with the number of its marks, its bytes are the best plan, and the further
-- bytes are as they were
pub record PlannedBest (lost : ℕ → Bool) (e b t : ℕ) (buffer : List ℕ) (r : Result ℕ Refusal) (out : List ℕ) : Type 0 where
  pub answer : r ≡ Ok (marks (take e out))
  pub best : Best lost e b t (take e out)
  pub further : drop e out ≡ drop e buffer
