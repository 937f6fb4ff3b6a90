-- What a refused call leaves in the buffers that it was lent.
use Rattle.std.specs.Prelude.{ℕ, ◌≡◌, List, length, Err}
use Rattle.refusal.specs.Answer.{after}
use Rattle.refusal.specs.declared.Refusal.{Refusal}
use Rattle.settings.specs.Ranges.{limits}
use Rattle.settings.specs.declared.Settings.{Settings}
use Rattle.card.specs.Card.{card_of, write_card}
use Rattle.block.specs.declared.Block.{Block}
use Rattle.encode.specs.Words.{words_of}
use Rattle.frame.specs.Packet.{packet_of}
use Rattle.survey.specs.Survey.{list_of, list_answer}
use Rattle.compare.specs.Answer.{compare_answer, list_after}
use Rattle.compose.specs.Writing.{new_bytes, new_answer, grown, add_answer}
use Rattle.runs.specs.Writing.{rle_words, add_answer as rle_answer}
use Rattle.runs.specs.Answers.{trace_answer, trace_at}
use Rattle.trace.specs.declared.Event.{Event}
use Rattle.trace.specs.Trace.{counted_at, judged}
use Rattle.tally.specs.declared.Tally.{Tally}
use Rattle.tally.specs.Tally.{take_one}
use Rattle.resend.specs.Answer.{plan_answer, buffer_after}
use Rattle.packed.specs.Words.{one_in}
use Rattle.packed.specs.Judging.{judged_packed}
use Rattle.packing.specs.Packing.{pack_answer, unpack_answer}
use Rattle.packing.specs.Laws.{packed_into, unpacked_into}

-- "All lent bytes keep what they held; a tally comes back as given": of every call that fills a lent buffer, which the
-- calls of include/nuvaskoe.h do by the same definitions, and of taking a packet.
pub record Unchanged : Type 0 where
  pub card_write : (s : Settings) (out : List ℕ) (r : Refusal) → write_card limits s out ≡ Err r → after (write_card limits s out) (card_of s) out ≡ out
  pub packet_list : (s out : List ℕ) (r : Refusal) → list_answer (packet_of s) out ≡ Err r → after (list_answer (packet_of s) out) (list_of (packet_of s)) out ≡ out
  pub packet_compare : (s t out : List ℕ) (r : Refusal) → compare_answer (packet_of s) (packet_of t) out ≡ Err r → list_after (packet_of s) (packet_of t) out ≡ out
  pub packet_new : (sender : ℕ) (out : List ℕ) (r : Refusal) → new_answer out ≡ Err r → after (new_answer out) (new_bytes sender) out ≡ out
  pub packet_add : (out : List ℕ) (b : Block) (r : Refusal) → add_answer out b ≡ Err r → after (add_answer out b) (grown out (words_of b)) out ≡ out
  pub packet_rle : (s : List ℕ) (k : ℕ) (out : List ℕ) (r : Refusal) → trace_answer (packet_of s) k out ≡ Err r → after (trace_answer (packet_of s) k out) (trace_at (packet_of s) k) out ≡ out
  pub packet_add_rle : (out : List ℕ) (source begin : ℕ) (s : List ℕ) (r : Refusal) → rle_answer out source begin s ≡ Err r →
      after (rle_answer out source begin s) (grown out (rle_words source begin s)) out ≡ out
  pub resend_plan : (event : Event) (s : List ℕ) (b t : ℕ) (out : List ℕ) (r : Refusal) →
      plan_answer (judged s) (counted_at event s) (length s) b t out ≡ Err r → buffer_after (judged s) (counted_at event s) (length s) b t out ≡ out
  pub trace_pack : (event : Event) (s out : List ℕ) (r : Refusal) → pack_answer s out ≡ Err r → packed_into event s out ≡ out
  pub trace_unpack : (words : List ℕ) (packets : ℕ) (out : List ℕ) (r : Refusal) → unpack_answer words packets out ≡ Err r → unpacked_into words packets out ≡ out
  pub packed_plan_lem : (words : List ℕ) (packets b t : ℕ) (out : List ℕ) (r : Refusal) →
      plan_answer (judged_packed words packets) (one_in words) packets b t out ≡ Err r → buffer_after (judged_packed words packets) (one_in words) packets b t out ≡ out
  pub tally_take : (t : Tally) (packet : ℕ) (r : Refusal) → (take_one t packet).answer ≡ Err r → (take_one t packet).tally ≡ t
