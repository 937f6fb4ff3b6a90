-- The packed form and the byte form answer alike: specs/Packed.antt. Assumes nothing.
use Prim.Native.Nat.{ℕ, ◌≤◌}
use mathlib.Core.Path.{◌≡◌, sym, ap, ap₂, ◌∙◌}
use mathlib.Core.List.{List}
use native.Mathlib.Nat.{zero-add}
use lib.ListN.{length, take}
use Rattle.refusal.specs.Answer.{after}
use Rattle.trace.specs.declared.Event.{Event}
use Rattle.trace.specs.Trace.{counted_at, judged}
use Rattle.trace.specs.Laws.{IsTrace}
use Rattle.trace.proofs.Judging.{trace_accepted}
use Rattle.batch.specs.Loss.{loss_answer}
use Rattle.batch.proofs.Same.{same_loss}
use Rattle.resend.specs.Answer.{plan_answer, buffer_after}
use Rattle.resend.proofs.Same.{same_plan}
use Rattle.packed.specs.Words.{words_for, one_in}
use Rattle.packed.specs.Judging.{judged_packed}
use Rattle.packed.proofs.Laws.{accepted_packed, packed_accepted, first_past_lem, needed_exactly, needed_packets, needed_verdict}
use Rattle.packed.proofs.Bytes.{bytes_same}
use Rattle.packing.specs.Packing.{unpack_answer}
use Rattle.packing.specs.Laws.{packed_into}
use Rattle.packing.proofs.BothWays.{packed_form, pack_unpack, pack_back, unpack_pack, behind_kept}
use Rattle.demands.specs.Packed.{SameFigures, NeededAlone, PackedKept}
use Rattle.refusal.specs.Answer.{Judged, Written}

pub same_figures : (event : Event) (s buffer : List ℕ) (b t : ℕ) (out : List ℕ) → IsTrace s → words_for (length s) ≤ length buffer → SameFigures event s (packed_into event s buffer) b t out
same_figures event s buffer b t out w enough =
    let words : List ℕ = packed_into event s buffer in
    let form = packed_form event s buffer w enough in
    let verdict : judged_packed words (length s) ≡ judged s = packed_accepted words (length s) form.packed ∙ sym (trace_accepted s w) in
    let plans = same_plan (judged s) (one_in words) (counted_at event s) (length s) b t out form.same in
    record {
      loss = ap (λ (v : Judged). loss_answer v (one_in words) (length s) b t) verdict ∙ same_loss (judged s) (one_in words) (counted_at event s) (length s) b t form.same;
      plan = ap (λ (v : Judged). plan_answer v (one_in words) (length s) b t out) verdict ∙ plans.0;
      bytes = ap (λ (v : Judged). buffer_after v (one_in words) (length s) b t out) verdict ∙ plans.1;
    }

unpack_same : (few words : List ℕ) (packets : ℕ) (out : List ℕ) → judged_packed few packets ≡ judged_packed words packets → unpack_answer few packets out ≡ unpack_answer words packets out
unfolding unpack_answer
unpack_same few words packets out verdict = rw verdict

needed_alone : (words : List ℕ) (packets b t : ℕ) (out : List ℕ) → NeededAlone words packets b t out
needed_alone words packets b t out =
    let few : List ℕ = take (words_for packets) words in
    let verdict = needed_verdict words packets in
    let same = needed_packets words packets in
    let plans = same_plan (judged_packed words packets) (one_in few) (one_in words) packets b t out same in
    let answer = unpack_same few words packets out verdict in
    record {
      loss = ap (λ (v : Judged). loss_answer v (one_in few) packets b t) verdict ∙ same_loss (judged_packed words packets) (one_in few) (one_in words) packets b t same;
      plan = ap (λ (v : Judged). plan_answer v (one_in few) packets b t out) verdict ∙ plans.0;
      bytes = ap (λ (v : Judged). buffer_after v (one_in few) packets b t out) verdict ∙ plans.1;
      unpacked = answer;
      trace = ap₂ (λ (w : Written) (l : List ℕ). after w l out) answer (bytes_same (one_in few) (one_in words) 0 0 packets (λ j h. rw (zero-add j) (same j h)));
    }

pub packed_kept : PackedKept
packed_kept =
    record {
      form = packed_form;
      accepted = accepted_packed;
      accepts = packed_accepted;
      unpacked = pack_unpack;
      back = pack_back;
      packed_again = unpack_pack;
      first_past_lem = first_past_lem;
      same = same_figures;
      needed_exactly = needed_exactly;
      needed_packets = needed_packets;
      needed_verdict = needed_verdict;
      needed = needed_alone;
      behind_kept = behind_kept;
    }
