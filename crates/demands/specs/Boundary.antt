-- Refusals at the boundary to C: what a call of include/nuvaskoe.h hands out is the library's refusal, and 0 where it
-- answered. An event is a number there, and one that is neither lost nor discarded nor either is "a setting outside its range, or
-- a tally not sound", 15, before anything else.
use Rattle.std.specs.Prelude.{ℕ, ◌≡◌, Bool, true, not, ◌||◌, List, [], ◌∷◌, ◌++◌, eqb, ltb, length, Result, Ok, Err}
use Rattle.refusal.specs.Table.{buffer_short, setting}
use Rattle.refusal.specs.declared.Refusal.{Refusal}
use Rattle.settings.specs.Ranges.{burst_in_range}
use Rattle.packet.specs.declared.PacketHead.{PacketHead}
use Rattle.packet.specs.declared.BlockAt.{BlockAt}
use Rattle.trace.specs.Trace.{lost, discarded}
use Rattle.trace.specs.Events.{either, event_in}
use Rattle.tally.specs.declared.Tally.{Tally}
use Rattle.tally.specs.Tally.{take_one, close_of}
use Rattle.figures.specs.declared.Summary.{Summary}
use Rattle.figures.specs.Figures.{summary_of}
use Rattle.packed.specs.Words.{words_for}
use Rattle.ffi_answer.specs.declared.RefusalFields.{RefusalFields}
use Rattle.ffi_answer.specs.Answers.{none, refusal_out, written_out}
use Rattle.ffi_card.specs.Answers.{card_out}
use Rattle.ffi_block.specs.Answers.{block_out}
use Rattle.ffi_packet.specs.Answers.{packet_out, compared_out}
use Rattle.ffi_figures.specs.Answers.{figures_by}
use Rattle.ffi_tally.specs.declared.TallyNumbers.{TallyNumbers}
use Rattle.ffi_tally.specs.Answers.{tally_in, tally_out}
use Rattle.ffi_tally.specs.Calls.{open_by, take_by, close_by}
use Rattle.ffi_summary.specs.Answers.{summary_out, block_by}
use Rattle.ffi_batch.specs.Answers.{loss_out, marks_out}
use Rattle.ffi_batch.specs.Calls.{loss_by, plan_by, plan_after_by}
use Rattle.ffi_packed.specs.Calls.{pack_by, pack_after_by}
use Rattle.demands.specs.Verdicts.{verdict_on}
use Rattle.demands.specs.Orders.{when, judged_by, trace_rows, figures_rows, batch_rows}
use Rattle.batch.specs.declared.EffectiveLoss.{EffectiveLoss}
use Rattle.refusal.specs.Answer.{Judged, Written}
use Rattle.settings.specs.declared.Settings.{Settings}

abbrev pub shown : Judged → RefusalFields
shown (Ok _) = none
shown (Err r) = refusal_out r

abbrev pub no_event : ℕ → Bool
no_event n = not (eqb n lost || eqb n discarded || eqb n either)

pub record AtBoundary : Type 0 where
  -- cards, packets, blocks of traces, unpacking, and effective loss and the plan of packed traces: the answer of the library's call
  pub written : (a : Written) → (written_out a).refusal ≡ shown (verdict_on a)
  pub card : (a : Result Settings Refusal) → (card_out a).refusal ≡ shown (verdict_on a)
  pub packet : (a : Result PacketHead Refusal) → (packet_out a).refusal ≡ shown (verdict_on a)
  pub block : (a : Result BlockAt Refusal) → (block_out a).refusal ≡ shown (verdict_on a)
  pub compared : (a : Result ℕ Refusal) → (compared_out a).refusal ≡ shown (verdict_on a)
  pub block_of_trace : (a : Result Summary Refusal) → (summary_out a).refusal ≡ shown (verdict_on a)
  pub packed_loss_lem : (a : Result EffectiveLoss Refusal) → (loss_out a).refusal ≡ shown (verdict_on a)
  pub packed_plan_lem : (a : Result ℕ Refusal) → (marks_out a).refusal ≡ shown (verdict_on a)
  -- calls that take an event
  pub figures : (gmin spacing : ℕ) (s : List ℕ) (n : ℕ) → (figures_by gmin spacing s (event_in n)).refusal ≡ shown (judged_by (when (no_event n) setting ∷ figures_rows gmin spacing s))
  pub tally_open : (gmin spacing n : ℕ) →
      (open_by gmin spacing (event_in n)).refusal ≡ shown (judged_by (when (no_event n) setting ∷ when (not (burst_in_range gmin spacing)) setting ∷ []))
  pub effective_loss : (s : List ℕ) (b t n : ℕ) → (loss_by s b t (event_in n)).refusal ≡ shown (judged_by (when (no_event n) setting ∷ batch_rows s b t))
  pub resend_plan : (s : List ℕ) (b t : ℕ) (out : List ℕ) (n : ℕ) →
      (plan_by s b t out (event_in n)).refusal ≡ shown (judged_by (when (no_event n) setting ∷ (batch_rows s b t ++ when (ltb (length out) (length s)) buffer_short ∷ [])))
  pub trace_pack : (s out : List ℕ) (n : ℕ) →
      (written_out (pack_by s out (event_in n))).refusal ≡ shown (judged_by (when (no_event n) setting ∷ (trace_rows s ++ when (ltb (length out) (words_for (length s))) buffer_short ∷ [])))
  -- of these, those that are lent a buffer leave it as it was where they refuse, also for the number
  pub plan_unchanged : (s : List ℕ) (b t : ℕ) (out : List ℕ) (n : ℕ) → ((plan_by s b t out (event_in n)).refusal ≡ none → ⊥) → plan_after_by s b t out (event_in n) ≡ out
  pub pack_unchanged : (s out : List ℕ) (n : ℕ) → ((written_out (pack_by s out (event_in n))).refusal ≡ none → ⊥) → pack_after_by s out (event_in n) ≡ out
  -- calls on a tally that counts an event
  pub tally_take : (t : Tally) (packet : ℕ) → (take_by (tally_out t) packet (tally_in (tally_out t))).refusal ≡ shown (verdict_on (take_one t packet).answer)
  pub tally_close : (t : Tally) → (close_by (tally_in (tally_out t))).refusal ≡ shown (verdict_on (close_of t))
  pub tally_block : (t : Tally) (source flag : ℕ) → (block_by source flag (tally_in (tally_out t))).refusal ≡ shown (verdict_on (summary_of t.event source flag (close_of t)))
  -- and on one that counts none, which comes back as given
  pub tally_no_event : (t : TallyNumbers) (packet source flag : ℕ) → no_event t.event ≡ true →
      (take_by t packet (tally_in t) ≡ record { refusal = refusal_out setting; tally = t })
      × ((close_by (tally_in t)).refusal ≡ refusal_out setting) × ((block_by source flag (tally_in t)).refusal ≡ refusal_out setting)
