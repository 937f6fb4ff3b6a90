-- When each call refuses: document 01, "When the set says no". A call's refusals stand in the order in which they are
-- judged, each beside its condition; the call gives the first whose condition holds, and answers where none does.
use Rattle.std.specs.Prelude.{ℕ, ◌+◌, ◌*◌, ◌/◌, ◌%◌, ◌≡◌, Bool, true, false, cond, not, List, [], ◌∷◌, ◌++◌, eqb, leb, ltb, length, get_or, Ok, Err, Result}
use Rattle.refusal.specs.Table.{packet_short, version, packet_type, packet_length, padding, block_past_end, no_such_block, buffer_short, trace_byte, trace_length, card_digits, card_check, card_field, batch_length, setting, block_value, packet_full}
use Rattle.refusal.specs.declared.Refusal.{Refusal}
use Rattle.settings.specs.Ranges.{limits, burst_in_range, batch_in_range, in_range}
use Rattle.settings.specs.declared.Settings.{Settings}
use Rattle.card.specs.Card.{card_length, settings_on, twenty_digits, check_right, read_card, write_card}
use Rattle.block.specs.declared.Block.{Block}
use Rattle.encode.specs.Words.{words_of, writable}
use Rattle.frame.specs.declared.Extent.{Extent}
use Rattle.frame.specs.declared.Extent.TheVariants.{Whole, Front}
use Rattle.frame.specs.Frames.{Frames, whole, past, first_block, frames_in, entries_of}
use Rattle.frame.specs.Packet.{size_in, size_fits, packet_of}
use Rattle.block.specs.Types.{interval_max}
use Rattle.block.specs.declared.BlockRead.TheVariants.{Typed, Rle, Unknown, Dropped}
use Rattle.packet.specs.declared.BlockAt.{BlockAt}
use Rattle.packet.specs.Answers.{head_of, block_of}
use Rattle.runs.specs.Writing.{rle_words, add_answer as rle_answer}
use Rattle.runs.specs.Answers.{trace_answer, trace_at}
use Rattle.survey.specs.Survey.{list_answer}
use Rattle.compare.specs.Answer.{differences_of, compare_answer}
use Rattle.compose.specs.Writing.{new_answer, length_after, length_max, size_after, add_answer}
use Rattle.trace.specs.declared.Event.{Event}
use Rattle.trace.specs.declared.Event.TheVariants.{Lost, Discarded, Either}
use Rattle.trace.specs.Trace.{lost, packet_max, trace_max, counted_at, packets_within, length_within, first_above, judged}
use Rattle.tally.specs.declared.Tally.{Tally}
use Rattle.tally.specs.Tally.{open_of, sound, take_one, close_of}
use Rattle.figures.specs.Figures.{figures_in, summary_of}
use Rattle.batch.specs.Loss.{loss_answer}
use Rattle.resend.specs.Answer.{plan_answer}
use Rattle.packed.specs.Words.{words_for, one_in}
use Rattle.packed.specs.Judging.{past_end, first_past, judged_packed}
use Rattle.packing.specs.Packing.{pack_answer, unpack_answer}
use Rattle.frame.specs.Packet.{packet_in, located_of}
use Rattle.frame.specs.Laws.{PastExactly}
use Rattle.compose.specs.Writing.{append_answer}
use Rattle.batch.specs.Judging.{judged_for}
use Rattle.bursts.specs.declared.Sums.{Sums}
use Rattle.bursts.specs.Sums.{sums_sound}
use Rattle.bursts.specs.Figures.{measure_of}
use Rattle.tally.specs.Tally.{of_trace}
use Rattle.trace.specs.Laws.{AcceptedWithin, WithinAccepted, FirstAbove}
use Rattle.demands.specs.Verdicts.{verdict_on}
use Rattle.refusal.specs.Answer.{Judged}
use Rattle.block.specs.declared.BlockRead.{BlockRead}

-- a refusal of the table beside its condition
pub record Row : Type 0 where
  pub holds : Bool
  pub refusal : Refusal

abbrev pub when : Bool → Refusal → Row
when holds refusal = record { holds = holds; refusal = refusal }

-- the first whose condition holds
unfoldable pub judged_by : List Row → Judged
judged_by [] = Ok tt
judged_by (row ∷ rows) = cond row.holds (Err row.refusal) (judged_by rows)

-- 1 to 5, of the packet that is s or that stands at its front
abbrev pub header_rows : Extent → List ℕ → List Row
header_rows extent s =
    when (ltb (length s) first_block) packet_short
    ∷ when (not (eqb (get_or s 0 0 / 64) 2)) version
    ∷ when (not (eqb (get_or s 1 0) 207)) packet_type
    ∷ when (not (size_fits extent (size_in s) (length s))) packet_length
    ∷ when (not (eqb (get_or s 0 0 / 32 % 2) 0)) padding
    ∷ []

-- 6: what `past` means is said by `Conditions` below
abbrev pub past_rows : Frames → List Row
past_rows (whole es) = []
past_rows (past offset) = when true (block_past_end offset) ∷ []

-- the blocks as far as the length field goes, and how many they are
abbrev pub frames_at : List ℕ → Frames
frames_at s = frames_in s first_block (size_in s)

abbrev pub blocks_in : List ℕ → ℕ
blocks_in s = length (entries_of (frames_at s))

abbrev pub packet_rows : Extent → List ℕ → List Row
packet_rows extent s = header_rows extent s ++ past_rows (frames_at s)

-- 17 and 8 of n words more
abbrev pub room_rows : List ℕ → ℕ → List Row
room_rows s n = when (ltb length_max (length_after s n)) packet_full ∷ when (ltb (length s) (size_after s n)) buffer_short ∷ []

-- a block's own refusals, judged already
abbrev pub own_rows : Judged → List Row
own_rows (Ok _) = []
own_rows (Err r) = when true r ∷ []

-- 10 and 9 of a trace, with these limits on its packets and on its bytes
abbrev pub trace_rows_within : ℕ → ℕ → List ℕ → List Row
trace_rows_within limit highest s =
    when (not (length_within limit s)) trace_length ∷ when (ltb (first_above highest s) (length s)) (trace_byte (first_above highest s)) ∷ []

abbrev pub trace_rows : List ℕ → List Row
trace_rows s = trace_rows_within trace_max packet_max s

-- whether asking for a block found a good type 1
abbrev pub is_good_rle : BlockRead → Bool
is_good_rle (Typed b) = false
is_good_rle (Rle r) = true
is_good_rle Unknown = false
is_good_rle (Dropped reason) = false

abbrev pub is_rle : Result BlockAt Refusal → Bool
is_rle (Ok found) = is_good_rle found.read
is_rle (Err r) = false

-- 15 of a block: "Blocks 17 and 18 keep their own events", so that either is a setting outside its range
abbrev pub no_block : Event → Bool
no_block Lost = false
no_block Discarded = false
no_block Either = true

-- of "Traces: 15, 10, 9, 14, 8" what applies to burst figures
abbrev pub figures_rows : ℕ → ℕ → List ℕ → List Row
figures_rows gmin spacing s = when (not (burst_in_range gmin spacing)) setting ∷ trace_rows s

-- and to batches
abbrev pub batch_rows : List ℕ → ℕ → ℕ → List Row
batch_rows s b t = when (not (batch_in_range limits b t)) setting ∷ (trace_rows s ++ when (ltb (length s) b) batch_length ∷ [])

-- document 02, ticket 6, of a packed trace by itself: "10, 8 for a word slice too short to read, 9 at the index, counted on from the
-- packets, of the first nonzero bit past the end in the last needed word"
abbrev pub packed_rows : List ℕ → ℕ → List Row
packed_rows words packets =
    when (not (packets_within trace_max packets)) trace_length
    ∷ when (ltb (length words) (words_for packets)) buffer_short
    ∷ when (ltb (first_past words packets) (length (past_end words packets))) (trace_byte (packets + first_past words packets))
    ∷ []

-- "15", then these, then "14"
abbrev pub packed_batch_rows : List ℕ → ℕ → ℕ → ℕ → List Row
packed_batch_rows words packets b t = when (not (batch_in_range limits b t)) setting ∷ (packed_rows words packets ++ when (ltb packets b) batch_length ∷ [])

-- Every call of the library that can refuse, on any input.
pub record EachCall : Type 0 where
  -- "Cards: 11, 12, 13; writing a card: 15, then 8"
  pub card_read : (c : List ℕ) →
      verdict_on (read_card limits c)
      ≡ judged_by (when (not (twenty_digits c)) card_digits ∷ when (not (check_right c)) card_check ∷ when (not (in_range limits (settings_on c))) card_field ∷ [])
  pub card_write : (s : Settings) (out : List ℕ) →
      verdict_on (write_card limits s out) ≡ judged_by (when (not (in_range limits s)) setting ∷ when (ltb (length out) card_length) buffer_short ∷ [])
  -- "packets 1, 2, 3, 4, 5, 6, then 7"; 8 for the list of all blocks
  pub locate : (extent : Extent) (s : List ℕ) (k : ℕ) → verdict_on (located_of (packet_in extent s) k) ≡ judged_by (packet_rows extent s)
  pub packet_head : (s : List ℕ) → verdict_on (head_of (packet_of s)) ≡ judged_by (packet_rows Whole s)
  pub packet_block : (s : List ℕ) (k : ℕ) →
      verdict_on (block_of (packet_of s) k) ≡ judged_by (packet_rows Whole s ++ when (leb (blocks_in s) k) no_such_block ∷ [])
  pub packet_list : (s out : List ℕ) →
      verdict_on (list_answer (packet_of s) out) ≡ judged_by (packet_rows Whole s ++ when (ltb (length out) (2 * blocks_in s)) buffer_short ∷ [])
  -- document 02, ticket 1: "1 to 6, first packet before second, then 8"
  pub packet_compare : (s t out : List ℕ) →
      verdict_on (compare_answer (packet_of s) (packet_of t) out)
      ≡ judged_by (packet_rows Whole s ++ (packet_rows Whole t ++ when (ltb (length out) (5 * length (differences_of (packet_of s) (packet_of t)))) buffer_short ∷ []))
  -- a new packet: 8. "Adding a block: the packet's own, then 16, 17, 8"
  pub packet_new : (out : List ℕ) → verdict_on (new_answer out) ≡ judged_by (when (ltb (length out) first_block) buffer_short ∷ [])
  pub packet_add : (s : List ℕ) (b : Block) →
      verdict_on (add_answer s b)
      ≡ judged_by (packet_rows Front s ++ (when (not (writable b)) block_value ∷ room_rows s (length (words_of b))))
  pub append : (s : List ℕ) (own : Judged) (n : ℕ) → verdict_on (append_answer s own n) ≡ judged_by (packet_rows Front s ++ (own_rows own ++ room_rows s n))
  -- document 02, ticket 5: "1 to 7 (7 too if that block is not a good type 1), then 8"
  pub packet_rle : (s : List ℕ) (k : ℕ) (out : List ℕ) →
      verdict_on (trace_answer (packet_of s) k out)
      ≡ judged_by (packet_rows Whole s ++ when (leb (blocks_in s) k) no_such_block ∷ when (not (is_rle (block_of (packet_of s) k))) no_such_block ∷ when (ltb (length out) (length (trace_at (packet_of s) k))) buffer_short ∷ [])
  -- "the packet's own, then 10 for a trace empty or over 65,533, 9 with 2 counted as bad, 17, 8"
  pub packet_add_rle : (out : List ℕ) (source begin : ℕ) (s : List ℕ) →
      verdict_on (rle_answer out source begin s) ≡ judged_by (packet_rows Front out ++ (trace_rows_within interval_max lost s ++ room_rows out (length (rle_words source begin s))))
  -- "Traces: 15, 10, 9, 14, 8", each call as far as it goes
  pub trace : (s : List ℕ) → judged s ≡ judged_by (trace_rows s)
  pub batch : (s : List ℕ) (b t : ℕ) → judged_for (judged s) (length s) b t ≡ judged_by (batch_rows s b t)
  pub figures : (gmin spacing : ℕ) (event : Event) (s : List ℕ) → verdict_on (figures_in gmin spacing event s) ≡ judged_by (figures_rows gmin spacing s)
  pub block_of_trace : (gmin spacing : ℕ) (event : Event) (s : List ℕ) (source flag : ℕ) →
      verdict_on (summary_of event source flag (figures_in gmin spacing event s)) ≡ judged_by (when (no_block event) setting ∷ figures_rows gmin spacing s)
  pub effective_loss : (event : Event) (s : List ℕ) (b t : ℕ) →
      verdict_on (loss_answer (judged s) (counted_at event s) (length s) b t) ≡ judged_by (batch_rows s b t)
  pub resend_plan : (event : Event) (s : List ℕ) (b t : ℕ) (out : List ℕ) →
      verdict_on (plan_answer (judged s) (counted_at event s) (length s) b t out) ≡ judged_by (batch_rows s b t ++ when (ltb (length out) (length s)) buffer_short ∷ [])
  -- packed traces: "packing no longer refuses 2"; "8 for the room to write"
  pub trace_pack : (s out : List ℕ) → verdict_on (pack_answer s out) ≡ judged_by (trace_rows s ++ when (ltb (length out) (words_for (length s))) buffer_short ∷ [])
  pub packed : (words : List ℕ) (packets : ℕ) → judged_packed words packets ≡ judged_by (packed_rows words packets)
  pub packed_batch : (words : List ℕ) (packets b t : ℕ) → judged_for (judged_packed words packets) packets b t ≡ judged_by (packed_batch_rows words packets b t)
  pub trace_unpack : (words : List ℕ) (packets : ℕ) (out : List ℕ) →
      verdict_on (unpack_answer words packets out) ≡ judged_by (packed_rows words packets ++ when (ltb (length out) packets) buffer_short ∷ [])
  pub packed_loss_lem : (words : List ℕ) (packets b t : ℕ) →
      verdict_on (loss_answer (judged_packed words packets) (one_in words) packets b t) ≡ judged_by (packed_batch_rows words packets b t)
  pub packed_plan_lem : (words : List ℕ) (packets b t : ℕ) (out : List ℕ) →
      verdict_on (plan_answer (judged_packed words packets) (one_in words) packets b t out) ≡ judged_by (packed_batch_rows words packets b t ++ when (ltb (length out) packets) buffer_short ∷ [])
  -- "Tallies: 15, 10, 9"; sums by themselves as a tally's
  pub tally_of_trace : (gmin spacing : ℕ) (event : Event) (s : List ℕ) → verdict_on (of_trace gmin spacing event s) ≡ judged_by (figures_rows gmin spacing s)
  pub sums : (r : Sums) → verdict_on (measure_of r) ≡ judged_by (when (not (sums_sound r)) setting ∷ [])
  pub tally_open : (gmin spacing : ℕ) (event : Event) → verdict_on (open_of gmin spacing event) ≡ judged_by (when (not (burst_in_range gmin spacing)) setting ∷ [])
  pub tally_take : (t : Tally) (packet : ℕ) →
      verdict_on (take_one t packet).answer
      ≡ judged_by (when (not (sound t)) setting ∷ when (leb trace_max t.sums.packets) trace_length ∷ when (ltb packet_max packet) (trace_byte 0) ∷ [])
  pub tally_close : (t : Tally) → verdict_on (close_of t) ≡ judged_by (when (not (sound t)) setting ∷ [])
  pub tally_block : (t : Tally) (source flag : ℕ) → verdict_on (summary_of t.event source flag (close_of t)) ≡ judged_by (when (no_block t.event) setting ∷ when (not (sound t)) setting ∷ [])

-- What the conditions say that are computed above: 6 is given exactly where a block runs past the end, placed at the first
-- such block's offset; 9 is placed at the first bad byte; and an accepted trace has 1 to 65,536 bytes, each 0, 1 or 2, or with other
-- limits so many as these say.
pub record Conditions : Type 0 where
  pub past : PastExactly
  pub first_bad_lem : (highest : ℕ) → FirstAbove highest
  pub accepted : (limit highest : ℕ) → AcceptedWithin limit highest
  pub accepts : (limit highest : ℕ) → WithinAccepted limit highest
