-- The cases of planning, in the order of the code, and demand 3 as the caller's promise. Assumes nothing.
use Prim.Native.Nat.{ℕ, ◌<◌}
use mathlib.Core.Path.{◌≡◌, sym, ap, ◌∙◌}
use mathlib.Core.Bool.{Bool}
use mathlib.Core.List.{List, ◌++◌}
use borrow.Author.Tests.{le-leb, lt-leb}
use lib.ListN.{length, take, drop}
use lib.Seq.{take_at, drop_at}
use Rattle.refusal.specs.Table.{buffer_short}
use Rattle.refusal.specs.declared.Refusal.{Refusal}
use Rattle.settings.specs.Ranges.{limits}
use Rattle.settings.proofs.Bounds.{batch}
use Rattle.batch.specs.Judging.{judged_for}
use Rattle.batch.proofs.Judging.{accepted}
use Rattle.resend.specs.Plans.{marks}
use Rattle.resend.specs.Greedy.{plan_of}
use Rattle.resend.specs.Answer.{plan_answer, buffer_after, Plannable, PlannedBest}
use Rattle.resend.specs.Laws.{PlanBest, RefusedUnchanged}
use Rattle.resend.proofs.Greedy.{plan_length}
use Rattle.resend.proofs.Best.{ours_best}
use Rattle.std.specs.Prelude.{Result, Ok, Err}
use Rattle.refusal.specs.Answer.{Judged}

-- where demand 3 is asked
module _ (verdict : Judged) (lost : ℕ → Bool) (e b t : ℕ) (buffer : List ℕ) (a : Plannable verdict e b t buffer) where
  answer_is : plan_answer verdict lost e b t buffer ≡ Ok (marks (plan_of lost b t e))
  unfolding plan_answer
  answer_is = rw (← accepted verdict e b t a.range a.accepted a.within, le-leb e (length buffer) a.room)

  after_is : buffer_after verdict lost e b t buffer ≡ plan_of lost b t e ++ drop e buffer
  unfolding buffer_after
  after_is = rw (answer_is, plan_length lost b t e)

  front_is : take e (buffer_after verdict lost e b t buffer) ≡ plan_of lost b t e
  front_is = rw after_is (take_at (plan_of lost b t e) (drop e buffer) e (plan_length lost b t e))

pub plan_best : PlanBest
plan_best verdict lost e b t buffer a =
    let front = front_is verdict lost e b t buffer a in
    record {
      answer = answer_is verdict lost e b t buffer a ∙ ap (λ (p : List ℕ). Ok (marks p)) (sym front);
      best = rw front (ours_best lost e b t (batch limits b t a.range).first.least a.within);
      further = rw (after_is verdict lost e b t buffer a) (drop_at (plan_of lost b t e) (drop e buffer) e (plan_length lost b t e));
    }

pub refused_unchanged : RefusedUnchanged
unfolding buffer_after
refused_unchanged verdict lost e b t buffer r h = rw h

module _ (verdict : Judged) (lost : ℕ → Bool) (e b t : ℕ) (buffer : List ℕ) where
  -- a call's answer and buffer are what the promise says, and so demand 3 holds of it where it is asked
  abbrev pub Promised : Result ℕ Refusal → List ℕ → Type 0
  Promised r out =
      (r ≡ plan_answer verdict lost e b t buffer) × ((out ≡ buffer_after verdict lost e b t buffer) × (Plannable verdict e b t buffer → PlannedBest lost e b t buffer r out))

  pub promised : (r : Result ℕ Refusal) (out : List ℕ) → r ≡ plan_answer verdict lost e b t buffer → out ≡ buffer_after verdict lost e b t buffer → Promised r out
  promised r out is after = (is, (after, λ a. rw (is, after) (plan_best verdict lost e b t buffer a)))

  unchanged : (r : Refusal) → plan_answer verdict lost e b t buffer ≡ Err r → Promised (Err r) buffer
  unchanged r is = promised (Err r) buffer (sym is) (sym (refused_unchanged verdict lost e b t buffer r is))

  pub refused : (r : Refusal) → judged_for verdict e b t ≡ Err r → Promised (Err r) buffer
  unfolding plan_answer
  refused r j = unchanged r (rw j)

  pub too_short : judged_for verdict e b t ≡ Ok (tt {0}) → length buffer < e → Promised (Err buffer_short) buffer
  unfolding plan_answer
  too_short j l = unchanged buffer_short (rw (j, lt-leb e (length buffer) l))

  pub planned : (n : ℕ) (out : List ℕ) → Plannable verdict e b t buffer →
      n ≡ marks (plan_of lost b t e) → out ≡ plan_of lost b t e ++ drop e buffer →
      Promised (Ok n) out
  planned n out a count list =
      promised (Ok n) out (ap Ok count ∙ sym (answer_is verdict lost e b t buffer a)) (list ∙ sym (after_is verdict lost e b t buffer a))
