-- What callers may lean on, as statements about the definitions that `pack` and `unpack` promise, for every choice of what counts.
-- Proved in proofs/.
use Rattle.std.specs.Prelude.{ℕ, ◌<◌, ◌≤◌, ◌^◌, ◌≡◌, true, List, ◌++◌, leb, length, get_or, take, drop, Ok, Err}
use Rattle.refusal.specs.Table.{buffer_short}
use Rattle.refusal.specs.Answer.{unless, if_accepted, after}
use Rattle.trace.specs.declared.Event.{Event}
use Rattle.trace.specs.Trace.{lost, discarded, trace_max, counts_as, counted_at, flagged, judged_within}
use Rattle.trace.specs.Laws.{IsWithin, IsTrace}
use Rattle.packed.specs.Words.{words_for, one_in, bytes_of}
use Rattle.packed.specs.Laws.{IsPacked}
use Rattle.packing.specs.Packing.{words_of, pack_answer, unpack_answer}
use Rattle.refusal.specs.Answer.{Written}

-- the buffer after a call
abbrev pub packed_into : Event → List ℕ → List ℕ → List ℕ
packed_into event s buffer = after (pack_answer s buffer) (words_of (counted_at event s) (length s)) buffer

abbrev pub unpacked_into : List ℕ → ℕ → List ℕ → List ℕ
unpacked_into words packets buffer = after (unpack_answer words packets buffer) (bytes_of (one_in words) 0 packets) buffer

-- What packing leaves, words behind the needed ones and all, is a packed trace, and has "a one for each packet counted by the choice
-- it was packed by".
pub record PacksAs (event : Event) (s words : List ℕ) : Type 0 where
  pub packed : IsPacked words (length s)
  pub same : (i : ℕ) → i < length s → one_in words i ≡ counted_at event s i

abbrev pub PackedForm : Type 0
PackedForm =
    (event : Event) (s buffer : List ℕ) → IsTrace s → words_for (length s) ≤ length buffer → PacksAs event s (packed_into event s buffer)

-- Unpacking what was packed gives the trace with the counted packets as 1 and the others as 0: the buffer that packing has left, words
-- behind the needed ones and all, is read as the words of as many packets.
abbrev pub PackUnpack : Type 0
PackUnpack =
    (event : Event) (s buffer room : List ℕ) → IsTrace s → words_for (length s) ≤ length buffer → length s ≤ length room →
    (pack_answer s buffer ≡ Ok (words_for (length s))) ×
    (unpack_answer (packed_into event s buffer) (length s) room ≡ Ok (length s)) ×
    (unpacked_into (packed_into event s buffer) (length s) room ≡ flagged event s ++ drop (length s) room)

-- "Ticket 6's conversion both ways is then promised for packing by lost only or either", the choices that count lost packets: of a
-- trace without discards, what was unpacked is the trace.
abbrev pub PackBack : Type 0
PackBack =
    (event : Event) (s buffer room : List ℕ) → counts_as event lost ≡ true → IsWithin trace_max lost s → words_for (length s) ≤ length buffer →
    length s ≤ length room → unpacked_into (packed_into event s buffer) (length s) room ≡ s ++ drop (length s) room

-- The tie to ticket 6 by itself, where "converting from bytes counts 2 as bad": without a 2 the answer is the same.
abbrev pub answer_before : List ℕ → List ℕ → Written
answer_before s buffer =
    if_accepted (judged_within trace_max lost s) Err
    (unless (leb (words_for (length s)) (length buffer)) (Err buffer_short)
    (Ok (words_for (length s))))

abbrev pub PackAsBefore : Type 0
PackAsBefore =
    (s buffer : List ℕ) → ((i : ℕ) → i < length s → get_or s i 0 ≡ discarded → ⊥) → pack_answer s buffer ≡ answer_before s buffer

-- "Words past the last needed one are neither read nor changed.": those behind a packed trace are as they were, and so are all where the
-- call refused.
abbrev pub BehindKept : Type 0
BehindKept =
    (event : Event) (s buffer : List ℕ) → drop (words_for (length s)) (packed_into event s buffer) ≡ drop (words_for (length s)) buffer

-- Packing what was unpacked, by such a choice, gives the needed words; words of 64 bits.
abbrev pub UnpackPack : Type 0
UnpackPack =
    (event : Event) (words room buffer : List ℕ) (packets : ℕ) → counts_as event lost ≡ true → ((k : ℕ) → get_or words k 0 < 2 ^ 64) →
    IsPacked words packets → packets ≤ length room → words_for packets ≤ length buffer →
    (unpack_answer words packets room ≡ Ok packets) ×
    (pack_answer (take packets (unpacked_into words packets room)) buffer ≡ Ok (words_for packets)) ×
    (packed_into event (take packets (unpacked_into words packets room)) buffer ≡ take (words_for packets) words ++ drop (words_for packets) buffer)
