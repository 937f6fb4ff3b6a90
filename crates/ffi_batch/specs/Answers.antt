-- What the boundary's structs hold for each answer about batches: the paper's number and place where the call refused,
-- 0 and 0 where it answered; and the values, 0 where it refused.
use Rattle.std.specs.Prelude.{ℕ, Result, Ok, Err, Option, Some, None}
use Rattle.ffi_answer.specs.Answers.{none, refusal_out}
use Rattle.ffi_batch.specs.declared.LossNumbers.{LossNumbers}
use Rattle.ffi_batch.specs.declared.MarkCount.{MarkCount}
use Rattle.batch.specs.declared.EffectiveLoss.{EffectiveLoss}
use Rattle.refusal.specs.declared.Refusal.{Refusal}

abbrev pub found_out : Option ℕ → ℕ
found_out (Some k) = 1
found_out None = 0

abbrev pub first_out : Option ℕ → ℕ
first_out (Some k) = k
first_out None = 0

abbrev pub loss_out : Result EffectiveLoss Refusal → LossNumbers
loss_out (Ok e) =
    record { refusal = none; over = e.over; batches = e.batches; first = first_out e.first; index = e.index; found = found_out e.first }
loss_out (Err r) = record { refusal = refusal_out r; over = 0; batches = 0; first = 0; index = 0; found = 0 }

abbrev pub marks_out : Result ℕ Refusal → MarkCount
marks_out (Ok n) = record { refusal = none; marks = n }
marks_out (Err r) = record { refusal = refusal_out r; marks = 0 }
