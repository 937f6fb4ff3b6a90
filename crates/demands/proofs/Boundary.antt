-- The boundary's refusals are the library's: `AtBoundary` of specs/Boundary.antt. Assumes nothing.
use Prim.Native.Nat.{ℕ}
use mathlib.Core.Path.{◌≡◌, refl, ap, ◌∙◌}
use mathlib.Core.Bool.{Bool, true, false, cond, not, ◌||◌}
use mathlib.Core.List.{List, ◌∷◌}
use native.Mathlib.Omega.{arith}
use lib.Dec.{eqb}
use lib.ListN.{length}
use Rattle.refusal.specs.Table.{setting}
use Rattle.refusal.specs.Answer.{after}
use Rattle.refusal.specs.declared.Refusal.{Refusal}
use Rattle.packet.specs.declared.PacketHead.{PacketHead}
use Rattle.packet.specs.declared.BlockAt.{BlockAt}
use Rattle.trace.specs.Trace.{lost, discarded, counted_at, judged}
use Rattle.trace.specs.declared.Event.{Event}
use Rattle.trace.specs.declared.Event.TheVariants.{Lost, Discarded, Either}
use Rattle.trace.specs.Events.{either, event_in}
use Rattle.tally.specs.Tally.{open_of, take_one, close_of}
use Rattle.figures.specs.declared.Summary.{Summary}
use Rattle.figures.specs.declared.Summary.TheVariants.{Loss, Discard}
use Rattle.figures.specs.Figures.{figures_in, summary_of}
use Rattle.batch.specs.Loss.{loss_answer}
use Rattle.resend.specs.Answer.{plan_answer, buffer_after}
use Rattle.resend.proofs.Answering.{refused_unchanged}
use Rattle.packing.specs.Packing.{words_of, pack_answer}
use Rattle.ffi_answer.specs.declared.RefusalFields.{RefusalFields}
use Rattle.ffi_answer.specs.Answers.{none, refusal_out, written_out}
use Rattle.ffi_card.specs.Answers.{card_out}
use Rattle.ffi_block.specs.Answers.{block_out}
use Rattle.ffi_packet.specs.Answers.{packet_out, compared_out}
use Rattle.ffi_figures.specs.Answers.{figures_out, figures_by}
use Rattle.ffi_tally.specs.declared.TallyNumbers.{TallyNumbers}
use Rattle.ffi_tally.specs.Answers.{tally_with, tally_in, opened_out, answer_out}
use Rattle.ffi_tally.specs.Calls.{open_by, take_by, close_by}
use Rattle.ffi_summary.specs.Answers.{summary_out, block_by}
use Rattle.ffi_tally.proofs.Back.{tally_back}
use Rattle.ffi_batch.specs.Answers.{loss_out, marks_out}
use Rattle.ffi_batch.specs.Calls.{loss_by, plan_by, plan_after_by}
use Rattle.ffi_packed.specs.Calls.{pack_by, pack_after_by}
use Rattle.demands.specs.Verdicts.{verdict_on}
use Rattle.demands.specs.Orders.{Row, when, judged_by}
use Rattle.demands.specs.Boundary.{shown, no_event, AtBoundary}
use Rattle.demands.proofs.Orders.{each_call}
use Rattle.std.specs.Prelude.{Result, Ok, Err, Option, Some, None}
use Rattle.batch.specs.declared.EffectiveLoss.{EffectiveLoss}
use Rattle.bursts.specs.declared.Figures.{Figures}
use Rattle.refusal.specs.Answer.{Judged, Written}
use Rattle.settings.specs.declared.Settings.{Settings}
use Rattle.tally.specs.declared.Tally.{Tally}

written_shown : (a : Written) → (written_out a).refusal ≡ shown (verdict_on a)
written_shown (Ok n) = refl
written_shown (Err r) = refl

card_shown : (a : Result Settings Refusal) → (card_out a).refusal ≡ shown (verdict_on a)
card_shown (Ok s) = refl
card_shown (Err r) = refl

packet_shown : (a : Result PacketHead Refusal) → (packet_out a).refusal ≡ shown (verdict_on a)
packet_shown (Ok h) = refl
packet_shown (Err r) = refl

compared_shown : (a : Result ℕ Refusal) → (compared_out a).refusal ≡ shown (verdict_on a)
compared_shown (Ok n) = refl
compared_shown (Err r) = refl

block_shown : (a : Result BlockAt Refusal) → (block_out a).refusal ≡ shown (verdict_on a)
block_shown (Ok b) = refl
block_shown (Err r) = refl

figures_shown : (a : Result Figures Refusal) → (figures_out a).refusal ≡ shown (verdict_on a)
figures_shown (Ok f) = refl
figures_shown (Err r) = refl

summary_shown : (a : Result Summary Refusal) → (summary_out a).refusal ≡ shown (verdict_on a)
summary_shown (Ok (Loss l)) = refl
summary_shown (Ok (Discard d)) = refl
summary_shown (Err r) = refl

opened_shown : (a : Result Tally Refusal) → (opened_out a).refusal ≡ shown (verdict_on a)
opened_shown (Ok t) = refl
opened_shown (Err r) = refl

taken_shown : (a : Judged) → answer_out a ≡ shown (verdict_on a)
taken_shown (Ok _) = refl
taken_shown (Err r) = refl

loss_shown : (a : Result EffectiveLoss Refusal) → (loss_out a).refusal ≡ shown (verdict_on a)
loss_shown (Ok l) = refl
loss_shown (Err r) = refl

marks_shown : (a : Result ℕ Refusal) → (marks_out a).refusal ≡ shown (verdict_on a)
marks_shown (Ok n) = refl
marks_shown (Err r) = refl

-- a call by an event's number: where every event has these rows, and no event is 15
by_event : (call : Option Event → RefusalFields) (rows : List Row) → ((event : Event) → call (Some event) ≡ shown (judged_by rows)) → call None ≡ refusal_out setting →
    (n : ℕ) → call (event_in n) ≡ shown (judged_by (when (no_event n) setting ∷ rows))
unfolding event_in judged_by
by_event call rows known unknown n = go (eqb n lost) (eqb n discarded) (eqb n either)
  where
    go : (a b c : Bool) → call (cond a (Some Lost) (cond b (Some Discarded) (cond c (Some Either) None))) ≡ shown (judged_by (when (not (a || b || c)) setting ∷ rows))
    go true b c = known Lost
    go false true c = known Discarded
    go false false true = known Either
    go false false false = unknown

-- and a number that is no event
unknown : (n : ℕ) → no_event n ≡ true → event_in n ≡ None
unfolding event_in
unknown n = go (eqb n lost) (eqb n discarded) (eqb n either)
  where
    go : (a b c : Bool) → not (a || b || c) ≡ true → cond a (Some Lost) (cond b (Some Discarded) (cond c (Some Either) None)) ≡ None
    go true b c h = let z : ◌≡◌ {A = ℕ} 0 1 = cc in absurd (omega arith)
    go false true c h = let z : ◌≡◌ {A = ℕ} 0 1 = cc in absurd (omega arith)
    go false false true h = let z : ◌≡◌ {A = ℕ} 0 1 = cc in absurd (omega arith)
    go false false false h = refl

no_event_lem : (t : TallyNumbers) (packet source flag : ℕ) → no_event t.event ≡ true →
    (take_by t packet (tally_in t) ≡ record { refusal = refusal_out setting; tally = t })
    × ((close_by (tally_in t)).refusal ≡ refusal_out setting) × ((block_by source flag (tally_in t)).refusal ≡ refusal_out setting)
no_event_lem t packet source flag h =
    let read : tally_in t ≡ None = ap (tally_with t) (unknown t.event h) in
    rw read (refl, refl, refl)

-- where a call by an event's number refuses, the buffer that it was lent is as it was
plan_unchanged : (s : List ℕ) (b t : ℕ) (out : List ℕ) (e : Option Event) → ((plan_by s b t out e).refusal ≡ none → ⊥) → plan_after_by s b t out e ≡ out
plan_unchanged s b t out None h = refl
plan_unchanged s b t out (Some event) h = go (plan_answer (judged s) (counted_at event s) (length s) b t out) refl h
  where
    go : (a : Result ℕ Refusal) → plan_answer (judged s) (counted_at event s) (length s) b t out ≡ a → ((marks_out a).refusal ≡ none → ⊥) →
        buffer_after (judged s) (counted_at event s) (length s) b t out ≡ out
    go (Ok n) is some = absurd (some refl)
    go (Err r) is some = refused_unchanged _ _ _ b t out r is

pack_unchanged : (s out : List ℕ) (e : Option Event) → ((written_out (pack_by s out e)).refusal ≡ none → ⊥) → pack_after_by s out e ≡ out
pack_unchanged s out None h = refl
pack_unchanged s out (Some event) h = go (pack_answer s out) h
  where
    go : (a : Written) → ((written_out a).refusal ≡ none → ⊥) → after a (words_of (counted_at event s) (length s)) out ≡ out
    go (Ok n) some = absurd (some refl)
    go (Err r) some = refl

pub at_boundary : AtBoundary
at_boundary =
    record {
      written = written_shown;
      card = card_shown;
      packet = packet_shown;
      block = block_shown;
      compared = compared_shown;
      block_of_trace = summary_shown;
      packed_loss_lem = loss_shown;
      packed_plan_lem = marks_shown;
      figures =
          λ gmin spacing s. by_event (λ e. (figures_by gmin spacing s e).refusal) _
          (λ event. figures_shown (figures_in gmin spacing event s) ∙ ap shown (each_call.figures gmin spacing event s)) refl;
      tally_open =
          λ gmin spacing. by_event (λ e. (open_by gmin spacing e).refusal) _
          (λ event. opened_shown (open_of gmin spacing event) ∙ ap shown (each_call.tally_open gmin spacing event)) refl;
      effective_loss =
          λ s b t. by_event (λ e. (loss_by s b t e).refusal) _
          (λ event. loss_shown (loss_answer (judged s) (counted_at event s) (length s) b t) ∙ ap shown (each_call.effective_loss event s b t)) refl;
      resend_plan =
          λ s b t out. by_event (λ e. (plan_by s b t out e).refusal) _
          (λ event. marks_shown (plan_answer (judged s) (counted_at event s) (length s) b t out) ∙ ap shown (each_call.resend_plan event s b t out)) refl;
      trace_pack =
          λ s out. by_event (λ e. (written_out (pack_by s out e)).refusal) _ (λ event. written_shown (pack_answer s out) ∙ ap shown (each_call.trace_pack s out)) refl;
      plan_unchanged = λ s b t out n. plan_unchanged s b t out (event_in n);
      pack_unchanged = λ s out n. pack_unchanged s out (event_in n);
      tally_take = λ t packet. rw (tally_back t) (taken_shown (take_one t packet).answer);
      tally_close = λ t. rw (tally_back t) (figures_shown (close_of t));
      tally_block = λ t source flag. rw (tally_back t) (summary_shown (summary_of t.event source flag (close_of t)));
      tally_no_event = no_event_lem;
    }
