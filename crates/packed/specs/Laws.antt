-- What callers may lean on, as statements about the definitions that the calls promise. Proved in proofs/.
use Rattle.std.specs.Prelude.{ℕ, ◌+◌, ◌*◌, ◌<◌, ◌≤◌, ◌≡◌, true, false, List, length, take, Ok}
use Rattle.trace.specs.Trace.{trace_min, trace_max}
use Rattle.packed.specs.Words.{word_bits, one_in, words_for}
use Rattle.packed.specs.Judging.{past_end, first_past, judged_packed}

-- An accepted packed trace: from 1 to 65,536 packets, as many words as they need, "bits past the end zero".
pub record IsPacked (words : List ℕ) (packets : ℕ) : Type 0 where
  pub some : trace_min ≤ packets
  pub most : packets ≤ trace_max
  pub enough : words_for packets ≤ length words
  pub zero : (i : ℕ) → packets ≤ i → i < word_bits * words_for packets → one_in words i ≡ false

abbrev pub AcceptedPacked : Type 0
AcceptedPacked = (words : List ℕ) (packets : ℕ) → judged_packed words packets ≡ (Ok tt) → IsPacked words packets

abbrev pub PackedAccepted : Type 0
PackedAccepted = (words : List ℕ) (packets : ℕ) → IsPacked words packets → judged_packed words packets ≡ (Ok tt)

-- The place of refusal 9 is that of the first bit past the end, in the last needed word, that is not zero: it is a one, and none
-- before it is.
pub record FirstPastAt (words : List ℕ) (packets place : ℕ) : Type 0 where
  pub past : packets ≤ place
  pub within : place < word_bits * words_for packets
  pub one : one_in words place ≡ true
  pub before : (i : ℕ) → packets ≤ i → i < place → one_in words i ≡ false

abbrev pub FirstPast : Type 0
FirstPast =
    (words : List ℕ) (packets : ℕ) → first_past words packets < length (past_end words packets) →
    FirstPastAt words packets (packets + first_past words packets)

-- A word is needed exactly where a packet stands in it.
abbrev pub NeededExactly : Type 0
NeededExactly = (packets k : ℕ) → (k < words_for packets → word_bits * k < packets) × (word_bits * k < packets → k < words_for packets)

-- "Words past the last needed one are neither read": packets and verdict are those of the needed words alone.
abbrev pub NeededPackets : Type 0
NeededPackets = (words : List ℕ) (packets i : ℕ) → i < packets → one_in (take (words_for packets) words) i ≡ one_in words i

abbrev pub NeededVerdict : Type 0
NeededVerdict = (words : List ℕ) (packets : ℕ) → judged_packed (take (words_for packets) words) packets ≡ judged_packed words packets
