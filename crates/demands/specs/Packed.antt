-- Packed traces, document 02, tickets 6 and 7, said of the words that packing leaves in a lent buffer and of what the calls answer.
use Rattle.std.specs.Prelude.{ℕ, ◌≤◌, ◌≡◌, List, length, take, Result}
use Rattle.trace.specs.declared.Event.{Event}
use Rattle.trace.specs.Trace.{counted_at, judged}
use Rattle.trace.specs.Laws.{IsTrace}
use Rattle.batch.specs.Loss.{loss_answer}
use Rattle.resend.specs.Answer.{plan_answer, buffer_after}
use Rattle.packed.specs.Words.{words_for, one_in}
use Rattle.packed.specs.Judging.{judged_packed}
use Rattle.packed.specs.Laws.{AcceptedPacked, PackedAccepted, FirstPast, NeededExactly, NeededPackets, NeededVerdict}
use Rattle.packing.specs.Packing.{unpack_answer}
use Rattle.packing.specs.Laws.{packed_into, unpacked_into, PackedForm, PackUnpack, PackBack, UnpackPack, BehindKept}
use Rattle.batch.specs.declared.EffectiveLoss.{EffectiveLoss}
use Rattle.refusal.specs.declared.Refusal.{Refusal}

-- effective loss and plan of so many packets in words
abbrev pub packed_loss : List ℕ → ℕ → ℕ → ℕ → Result EffectiveLoss Refusal
packed_loss words packets b t = loss_answer (judged_packed words packets) (one_in words) packets b t

abbrev pub packed_plan : List ℕ → ℕ → ℕ → ℕ → List ℕ → Result ℕ Refusal
packed_plan words packets b t out = plan_answer (judged_packed words packets) (one_in words) packets b t out

abbrev pub packed_plan_after : List ℕ → ℕ → ℕ → ℕ → List ℕ → List ℕ
packed_plan_after words packets b t out = buffer_after (judged_packed words packets) (one_in words) packets b t out

-- "Effective loss and the plan, still written a byte a packet, are the same from the packed form as from the byte form": of every
-- trace, packed by any choice into any buffer with room, and every batch and threshold, by that choice.
pub record SameFigures (event : Event) (s words : List ℕ) (b t : ℕ) (out : List ℕ) : Type 0 where
  pub loss : packed_loss words (length s) b t ≡ loss_answer (judged s) (counted_at event s) (length s) b t
  pub plan : packed_plan words (length s) b t out ≡ plan_answer (judged s) (counted_at event s) (length s) b t out
  pub bytes : packed_plan_after words (length s) b t out ≡ buffer_after (judged s) (counted_at event s) (length s) b t out

-- "Words past the last needed one are neither read nor changed.": answers and bytes are those of the needed words alone; that packing
-- leaves the words behind as they were is `BehindKept`.
pub record NeededAlone (words : List ℕ) (packets b t : ℕ) (out : List ℕ) : Type 0 where
  pub loss : packed_loss (take (words_for packets) words) packets b t ≡ packed_loss words packets b t
  pub plan : packed_plan (take (words_for packets) words) packets b t out ≡ packed_plan words packets b t out
  pub bytes : packed_plan_after (take (words_for packets) words) packets b t out ≡ packed_plan_after words packets b t out
  pub unpacked : unpack_answer (take (words_for packets) words) packets out ≡ unpack_answer words packets out
  pub trace : unpacked_into (take (words_for packets) words) packets out ≡ unpacked_into words packets out

pub record PackedKept : Type 0 where
  -- "64-bit words, packet i in word i / 64 at bit i modulo 64", "a one for each packet counted by the choice it was packed by", "bits
  -- past the end zero"
  pub form : PackedForm
  pub accepted : AcceptedPacked
  pub accepts : PackedAccepted
  -- "unpacking gives 1 for each"
  pub unpacked : PackUnpack
  -- "Conversion goes both ways for traces without discards", "promised for packing by lost only or either"
  pub back : PackBack
  pub packed_again : UnpackPack
  -- "9 at the index, counted on from the packets, of the first nonzero bit past the end in the last needed word"
  pub first_past_lem : FirstPast
  pub same : (event : Event) (s buffer : List ℕ) (b t : ℕ) (out : List ℕ) → IsTrace s → words_for (length s) ≤ length buffer →
      SameFigures event s (packed_into event s buffer) b t out
  pub needed_exactly : NeededExactly
  pub needed_packets : NeededPackets
  pub needed_verdict : NeededVerdict
  pub needed : (words : List ℕ) (packets b t : ℕ) (out : List ℕ) → NeededAlone words packets b t out
  pub behind_kept : BehindKept
