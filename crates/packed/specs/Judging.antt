-- What is asked of a packed trace by itself: document 02, ticket 6. "10, 8 for a word slice too short to read, 9 at the index,
-- counted on from the packets, of the first nonzero bit past the end in the last needed word".
use Rattle.std.specs.Prelude.{ℕ, ◌+◌, ◌-◌, ◌*◌, List, leb, length, Ok, Err}
use Rattle.refusal.specs.Table.{trace_length, buffer_short, trace_byte}
use Rattle.refusal.specs.Answer.{unless}
use Rattle.trace.specs.Trace.{received, trace_max, packets_within, first_above}
use Rattle.packed.specs.Words.{word_bits, one_in, words_for, bytes_of}
use Rattle.refusal.specs.Answer.{Judged}

-- the bits of the last needed word that are past the end, as packets
unfoldable pub past_end : List ℕ → ℕ → List ℕ
past_end words packets = bytes_of (one_in words) packets (word_bits * words_for packets - packets)

-- where the first of them that is not zero stands among them; their number, where there is none
abbrev pub first_past : List ℕ → ℕ → ℕ
first_past words packets = first_above received (past_end words packets)

unfoldable pub judged_packed : List ℕ → ℕ → Judged
judged_packed words packets =
    unless (packets_within trace_max packets) (Err trace_length)
    (unless (leb (words_for packets) (length words)) (Err buffer_short)
    (unless (leb (length (past_end words packets)) (first_past words packets)) (Err (trace_byte (packets + first_past words packets)))
    (Ok tt)))
