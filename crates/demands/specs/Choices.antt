-- What counts as a loss: document 02, ticket 7, "the caller chooses what counts as a loss: lost only, discarded only, or either."
use Rattle.std.specs.Prelude.{ℕ, ◌≡◌, true, List, ◌↔◌, ◌⊎◌, length, Result, Err}
use Rattle.refusal.specs.Table.{setting}
use Rattle.trace.specs.declared.Event.{Event}
use Rattle.trace.specs.declared.Event.TheVariants.{Lost, Discarded, Either}
use Rattle.trace.specs.Trace.{counts_as, counted_at, judged, flagged}
use Rattle.trace.specs.Laws.{IsTrace}
use Rattle.figures.specs.Figures.{figures_in, summary_of}
use Rattle.batch.specs.Loss.{loss_answer}
use Rattle.resend.specs.Answer.{plan_answer, buffer_after}
use Rattle.packing.specs.Laws.{PackAsBefore}
use Rattle.bursts.specs.declared.Figures.{Figures}
use Rattle.refusal.specs.declared.Refusal.{Refusal}

-- "Bursts, effective loss and the plan all take it.": by every choice the answers, and the bytes of the plan, are those by lost only of
-- the trace with the counted packets as 1 and the others as 0.
pub record AsLost (event : Event) (s flags : List ℕ) : Type 0 where
  pub figures : (gmin spacing : ℕ) → figures_in gmin spacing event s ≡ figures_in gmin spacing Lost flags
  pub loss : (b t : ℕ) → loss_answer (judged s) (counted_at event s) (length s) b t ≡ loss_answer (judged flags) (counted_at Lost flags) (length flags) b t
  pub plan : (b t : ℕ) (out : List ℕ) →
      plan_answer (judged s) (counted_at event s) (length s) b t out ≡ plan_answer (judged flags) (counted_at Lost flags) (length flags) b t out
  pub bytes : (b t : ℕ) (out : List ℕ) →
      buffer_after (judged s) (counted_at event s) (length s) b t out ≡ buffer_after (judged flags) (counted_at Lost flags) (length flags) b t out

pub record ChoicesKept : Type 0 where
  -- "lost only, discarded only, or either"
  pub lost_only : (packet : ℕ) → (counts_as Lost packet ≡ true) ↔ (packet ≡ 1)
  pub discarded_only : (packet : ℕ) → (counts_as Discarded packet ≡ true) ↔ (packet ≡ 2)
  pub either : (packet : ℕ) → (counts_as Either packet ≡ true) ↔ ((packet ≡ 1) ⊎ (packet ≡ 2))
  pub as_lost : (event : Event) (s : List ℕ) → IsTrace s → AsLost event s (flagged event s)
  -- "With the first every figure stays as it is": the definitions by lost only are what they were, and packing, which had no choice,
  -- answers as it did where nothing was discarded
  pub pack_before : PackAsBefore
  -- "Blocks 17 and 18 keep their own events.": none comes from either
  pub no_block : (source flag : ℕ) (m : Result Figures Refusal) → summary_of Either source flag m ≡ Err setting
