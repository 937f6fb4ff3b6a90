-- The two calls, which know their event by number: a number that is no event is "a setting outside its range", refusal 15,
-- before anything else, and then no byte of a lent buffer changes.
use Rattle.std.specs.Prelude.{ℕ, List, length, Err, Option, Some, None}
use Rattle.refusal.specs.Table.{setting}
use Rattle.trace.specs.Trace.{counted_at, judged}
use Rattle.batch.specs.Loss.{loss_answer}
use Rattle.resend.specs.Answer.{plan_answer, buffer_after}
use Rattle.ffi_batch.specs.declared.LossNumbers.{LossNumbers}
use Rattle.ffi_batch.specs.declared.MarkCount.{MarkCount}
use Rattle.ffi_batch.specs.Answers.{loss_out, marks_out}
use Rattle.trace.specs.declared.Event.{Event}

abbrev pub loss_by : List ℕ → ℕ → ℕ → Option Event → LossNumbers
loss_by s b t (Some event) = loss_out (loss_answer (judged s) (counted_at event s) (length s) b t)
loss_by s b t None = loss_out (Err setting)

abbrev pub plan_by : List ℕ → ℕ → ℕ → List ℕ → Option Event → MarkCount
plan_by s b t buffer (Some event) = marks_out (plan_answer (judged s) (counted_at event s) (length s) b t buffer)
plan_by s b t buffer None = marks_out (Err setting)

-- the buffer after planning
abbrev pub plan_after_by : List ℕ → ℕ → ℕ → List ℕ → Option Event → List ℕ
plan_after_by s b t buffer (Some event) = buffer_after (judged s) (counted_at event s) (length s) b t buffer
plan_after_by s b t buffer None = buffer
