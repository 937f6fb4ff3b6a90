-- Each call gives the first refusal of its order whose condition holds: `EachCall` of specs/Orders.antt. Assumes nothing.
use Prim.Native.Nat.{ℕ, zero, suc, ◌+◌, ◌*◌, ◌/◌, ◌%◌, ◌≤◌}
use mathlib.Core.Path.{◌≡◌, refl, sym, ap, ◌∙◌}
use mathlib.Core.Bool.{Bool, true, false, cond, not}
use mathlib.Core.List.{List, [], ◌∷◌, ◌++◌, append-nil}
use native.Mathlib.Omega.{arith}
use native.Mathlib.Decide.{dec_le}
use borrow.Author.Tests.{le-leb, lt-leb, lt-ltb, le-ltb}
use lib.Dec.{eqb, leb, ltb}
use lib.ListN.{length, get_or}
use lib.Seq.{append_snoc}
use Rattle.refusal.specs.Answer.{unless, if_accepted}
use Rattle.refusal.specs.Table.{packet_short, version, packet_type, packet_length, padding, block_past_end, no_such_block, buffer_short, trace_byte, trace_length, card_digits, card_check, card_field, batch_length, setting, block_value, packet_full}
use Rattle.refusal.specs.declared.Refusal.{Refusal}
use Rattle.refusal.proofs.Tests.{same_leb}
use Rattle.settings.specs.Ranges.{limits, burst_in_range, batch_in_range, in_range}
use Rattle.card.specs.Card.{card_length, settings_on, twenty_digits, check_right, read_card, write_card}
use Rattle.wire.specs.BigEndian.{be32}
use Rattle.block.specs.declared.Block.{Block}
use Rattle.encode.specs.Words.{words_of, writable}
use Rattle.frame.specs.declared.Extent.{Extent}
use Rattle.frame.specs.declared.Extent.TheVariants.{Whole, Front}
use Rattle.frame.specs.declared.Header.{Header}
use Rattle.frame.specs.Frames.{Entry, Frames, whole, past, first_block, entries_of}
use Rattle.frame.specs.Packet.{Packet, good, bad, numbered, size_in, size_fits, header_of, of_frames, framed, packet_in, packet_of, located_of}
use Rattle.block.specs.Types.{interval_max}
use Rattle.block.specs.Layouts.{covered}
use Rattle.block.specs.declared.LossRle.{LossRle}
use Rattle.block.specs.declared.BlockRead.TheVariants.{Typed, Rle, Unknown, Dropped}
use Rattle.packet.specs.declared.BlockAt.{BlockAt}
use Rattle.packet.specs.Answers.{head_of, found, block_of, answered as answered_as}
use Rattle.runs.specs.Writing.{rle_words, own_of as rleOwn, add_answer as rle_answer}
use Rattle.runs.specs.Answers.{trace_found, trace_answer, trace_at}
use Rattle.runs.proofs.Again.{trace_of_block}
use Rattle.survey.specs.Survey.{list_answer}
use Rattle.compare.specs.Answer.{differences_of, compare_answer}
use Rattle.compose.specs.Writing.{length_after, length_max, size_after, appended, append_answer, own_of, add_answer}
use Rattle.trace.specs.declared.Event.{Event}
use Rattle.trace.specs.declared.Event.TheVariants.{Lost, Discarded, Either}
use Rattle.trace.specs.Trace.{lost, packet_max, trace_max, counted_at, packets_within, length_within, first_above, judged_within, judged}
use Rattle.tally.specs.declared.Tally.{Tally}
use Rattle.tally.specs.declared.Taken.{Taken}
use Rattle.tally.specs.Tally.{open_of, sound, take_one, close_of, of_trace}
use Rattle.bursts.specs.declared.Sums.{Sums}
use Rattle.bursts.specs.Sums.{sums_sound}
use Rattle.bursts.specs.Figures.{measure_of}
use Rattle.figures.specs.Figures.{figures_in, summary_of}
use Rattle.batch.specs.Judging.{judged_for}
use Rattle.batch.specs.Loss.{loss_answer}
use Rattle.resend.specs.Answer.{plan_answer}
use Rattle.packed.specs.Words.{words_for, one_in}
use Rattle.packed.specs.Judging.{past_end, first_past, judged_packed}
use Rattle.packing.specs.Packing.{pack_answer, unpack_answer}
use Rattle.demands.specs.Orders.{Row, when, judged_by, header_rows, past_rows, frames_at, blocks_in, packet_rows, room_rows, own_rows, trace_rows_within, trace_rows, is_rle, figures_rows, no_block, packed_rows, EachCall}
use Rattle.demands.specs.Verdicts.{verdict_on}
use Rattle.std.specs.Prelude.{Result, Ok, Err}
use Rattle.bursts.specs.declared.Figures.{Figures}
use Rattle.refusal.specs.Answer.{Judged}
use Rattle.block.specs.declared.BlockRead.{BlockRead}
use Rattle.demands.specs.Orders.{is_good_rle}

-- "less" is "not at least"
less : (a b : ℕ) → ltb a b ≡ not (leb b a)
less a b = go (dec_le b a)
  where
    go : Dec (b ≤ a) → ltb a b ≡ not (leb b a)
    go (yes h) = rw (le-ltb a b h, le-leb b a h)
    go (no h) = rw (lt-ltb a b (omega arith), lt-leb b a (omega arith))

not_less : (a b : ℕ) → leb b a ≡ not (ltb a b)
not_less a b = go (dec_le b a)
  where
    go : Dec (b ≤ a) → leb b a ≡ not (ltb a b)
    go (yes h) = rw (le-ltb a b h, le-leb b a h)
    go (no h) = rw (lt-ltb a b (omega arith), lt-leb b a (omega arith))

-- the end of an order, and a line that holds
answered : Ok (tt {0}) ≡ judged_by []
unfolding judged_by
answered = refl

first_fails : (r : Refusal) (rows : List Row) → judged_by rows ≡ judged_by (when false r ∷ rows)
unfolding judged_by
first_fails r rows = refl

first_holds : (r : Refusal) (rows : List Row) → Err r ≡ judged_by (when true r ∷ rows)
unfolding judged_by
first_holds r rows = refl

-- one line of an order, whatever the answer v is read off; `at_least` is the same for a condition that is written by `ltb`
module _ {A : Type 0} (v : A → Judged) where
  line : (t : Bool) (r : Refusal) (failed rest : A) (rows : List Row) → v failed ≡ Err r → v rest ≡ judged_by rows →
      v (unless t failed rest) ≡ judged_by (when (not t) r ∷ rows)
  unfolding judged_by
  line true r failed rest rows n e = e
  line false r failed rest rows n e = n

  at_least : (a b : ℕ) (r : Refusal) (failed rest : A) (rows : List Row) → v failed ≡ Err r → v rest ≡ judged_by rows →
      v (unless (leb a b) failed rest) ≡ judged_by (when (ltb b a) r ∷ rows)
  at_least a b r failed rest rows n e = rw (less b a) (line (leb a b) r failed rest rows n e)

-- two orders, one after the other
both_orders : (first rows : List Row) → judged_by (first ++ rows) ≡ if_accepted (judged_by first) Err (judged_by rows)
unfolding judged_by
both_orders [] rows = refl
both_orders (row ∷ first) rows = go row.holds (both_orders first rows)
  where
    go : (t : Bool) → judged_by (first ++ rows) ≡ if_accepted (judged_by first) Err (judged_by rows) →
        cond t (Err row.refusal) (judged_by (first ++ rows)) ≡ if_accepted (cond t (Err row.refusal) (judged_by first)) Err (judged_by rows)
    go true e = refl
    go false e = e

-- the lines of an input that is judged by itself, before those of the rest
input : {A : Type 0} (v : A → Judged) (j : Judged) (refused : Refusal → A) (rest : A) (first rows : List Row) → j ≡ judged_by first →
    ((r : Refusal) → v (refused r) ≡ Err r) → v rest ≡ judged_by rows → v (if_accepted j refused rest) ≡ judged_by (first ++ rows)
input v j refused rest first rows is n e = go j is
  where
    go : (k : Judged) → k ≡ judged_by first → v (if_accepted k refused rest) ≡ judged_by (first ++ rows)
    go (Ok _) is = e ∙ sym (both_orders first rows ∙ rw (← is))
    go (Err r) is = n r ∙ sym (both_orders first rows ∙ rw (← is))

-- the first eight bytes of a packet, before what follows them
module _ (extent : Extent) (s : List ℕ) (v : Result Header Refusal → Judged) (refused : (r : Refusal) → v (Err r) ≡ Err r) where
  header : (rows : List Row) → v (Ok (record { sender = be32 s 4; size = size_in s })) ≡ judged_by rows → v (header_of extent s) ≡ judged_by (header_rows extent s ++ rows)
  unfolding header_of
  header rows e =
      at_least v first_block (length s) packet_short _ _ _ (refused packet_short)
      (line v (eqb (get_or s 0 0 / 64) 2) version _ _ _ (refused version)
      (line v (eqb (get_or s 1 0) 207) packet_type _ _ _ (refused packet_type)
      (line v (size_fits extent (size_in s) (length s)) packet_length _ _ _ (refused packet_length)
      (line v (eqb (get_or s 0 0 / 32 % 2) 0) padding _ _ _ (refused padding) e))))

head_frames : (sender : ℕ) (f : Frames) → verdict_on (head_of (of_frames sender f)) ≡ judged_by (past_rows f)
head_frames sender (whole es) = answered
head_frames sender (past offset) = first_holds (block_past_end offset) []

packet_head : (s : List ℕ) → verdict_on (head_of (packet_of s)) ≡ judged_by (packet_rows Whole s)
unfolding packet_in
packet_head s = header Whole s (λ h. verdict_on (head_of (framed h s))) (λ r. refl) (past_rows (frames_at s)) (head_frames (be32 s 4) (frames_at s))

numbered_rows : (all es : List Entry) (k : ℕ) → verdict_on (found all (numbered es k)) ≡ judged_by (when (leb (length es) k) no_such_block ∷ [])
unfolding numbered judged_by
numbered_rows all [] k = rw (le-leb 0 k (omega arith))
numbered_rows all (e ∷ es) zero = rw (lt-leb (length (e ∷ es)) 0 (omega arith))
numbered_rows all (e ∷ es) (suc k) =
    let same = same_leb (length (e ∷ es)) (suc k) (length es) k (λ h. omega arith) (λ h. omega arith) in
    numbered_rows all es k ∙ rw same

block_frames : (sender : ℕ) (f : Frames) (k : ℕ) → verdict_on (block_of (of_frames sender f) k) ≡ judged_by (past_rows f ++ when (leb (length (entries_of f)) k) no_such_block ∷ [])
block_frames sender (whole es) k = numbered_rows es es k
block_frames sender (past offset) k = first_holds (block_past_end offset) _

packet_block : (s : List ℕ) (k : ℕ) → verdict_on (block_of (packet_of s) k) ≡ judged_by (packet_rows Whole s ++ when (leb (blocks_in s) k) no_such_block ∷ [])
unfolding packet_in
packet_block s k = header Whole s (λ h. verdict_on (block_of (framed h s) k)) (λ r. refl) _ (block_frames (be32 s 4) (frames_at s) k)

list_frames : (sender : ℕ) (f : Frames) (out : List ℕ) →
    verdict_on (list_answer (of_frames sender f) out) ≡ judged_by (past_rows f ++ when (ltb (length out) (2 * length (entries_of f))) buffer_short ∷ [])
list_frames sender (whole es) out = at_least verdict_on (2 * length es) (length out) buffer_short _ _ [] refl answered
list_frames sender (past offset) out = first_holds (block_past_end offset) _

packet_list : (s out : List ℕ) → verdict_on (list_answer (packet_of s) out) ≡ judged_by (packet_rows Whole s ++ when (ltb (length out) (2 * blocks_in s)) buffer_short ∷ [])
unfolding packet_in
packet_list s out = header Whole s (λ h. verdict_on (list_answer (framed h s) out)) (λ r. refl) _ (list_frames (be32 s 4) (frames_at s) out)

-- the first packet's lines, the second's, then the room
compared_rows : (p q : Packet) (out : List ℕ) →
    verdict_on (compare_answer p q out) ≡ if_accepted (verdict_on (head_of p)) Err (if_accepted (verdict_on (head_of q)) Err (judged_by (when (ltb (length out) (5 * length (differences_of p q))) buffer_short ∷ [])))
compared_rows (good a xs) (good b ys) out = at_least verdict_on (5 * length (differences_of (good a xs) (good b ys))) (length out) buffer_short _ _ [] refl answered
compared_rows (good a xs) (bad r) out = refl
compared_rows (bad r) q out = refl

packet_compare : (s t out : List ℕ) →
    verdict_on (compare_answer (packet_of s) (packet_of t) out)
    ≡ judged_by (packet_rows Whole s ++ (packet_rows Whole t ++ when (ltb (length out) (5 * length (differences_of (packet_of s) (packet_of t)))) buffer_short ∷ []))
packet_compare s t out =
    let room = when (ltb (length out) (5 * length (differences_of (packet_of s) (packet_of t)))) buffer_short ∷ [] in
    compared_rows (packet_of s) (packet_of t) out
    ∙ ap (λ (j : Judged). if_accepted j Err (if_accepted (verdict_on (head_of (packet_of t))) Err (judged_by room))) (packet_head s)
    ∙ ap (λ (j : Judged). if_accepted (judged_by (packet_rows Whole s)) Err (if_accepted j Err (judged_by room))) (packet_head t)
    ∙ sym (both_orders (packet_rows Whole s) (packet_rows Whole t ++ room) ∙ ap (if_accepted (judged_by (packet_rows Whole s)) Err) (both_orders (packet_rows Whole t) room))

own_rows_lem : (own : Judged) → own ≡ judged_by (own_rows own)
own_rows_lem (Ok _) = answered
own_rows_lem (Err r) = first_holds r []

module _ (s : List ℕ) (own : Judged) (n : ℕ) where
  append_frames : (rows : List Row) → own ≡ judged_by rows → (sender : ℕ) (f : Frames) → verdict_on (appended (of_frames sender f) own s n) ≡ judged_by (past_rows f ++ (rows ++ room_rows s n))
  append_frames rows is sender (whole es) =
      input verdict_on own Err _ rows _ is (λ r. refl)
      (at_least verdict_on (length_after s n) length_max packet_full _ _ _ refl
      (at_least verdict_on (size_after s n) (length s) buffer_short _ _ [] refl answered))
  append_frames rows is sender (past offset) = first_holds (block_past_end offset) _

  append_rows : (rows : List Row) → own ≡ judged_by rows → verdict_on (append_answer s own n) ≡ judged_by (packet_rows Front s ++ (rows ++ room_rows s n))
  unfolding packet_in append_answer
  append_rows rows is = header Front s (λ h. verdict_on (appended (framed h s) own s n)) (λ r. refl) _ (append_frames rows is (be32 s 4) (frames_at s))

packet_add : (s : List ℕ) (b : Block) → verdict_on (add_answer s b) ≡ judged_by (packet_rows Front s ++ (when (not (writable b)) block_value ∷ room_rows s (length (words_of b))))
packet_add s b =
    append_rows s (own_of b) (length (words_of b)) (when (not (writable b)) block_value ∷ []) (line (λ (j : Judged). j) (writable b) block_value _ _ [] refl answered)

-- traces by themselves
within_rows : (limit highest : ℕ) (s : List ℕ) → judged_within limit highest s ≡ judged_by (trace_rows_within limit highest s)
unfolding judged_within
within_rows limit highest s =
    line (λ (j : Judged). j) (length_within limit s) trace_length _ _ _ refl
    (at_least (λ (j : Judged). j) (length s) (first_above highest s) (trace_byte (first_above highest s)) _ _ [] refl answered)

trace_rows_lem : (s : List ℕ) → judged s ≡ judged_by (trace_rows s)
trace_rows_lem s = within_rows trace_max packet_max s

-- a trace read out: the lines of asking for its block, then its own
trace_found_lem : (a : Result BlockAt Refusal) (n : ℕ) (out : List ℕ) → ((type : ℕ) (r : LossRle) → a ≡ answered_as type (Rle r) → n ≡ covered r.begin r.end) →
    verdict_on (trace_found a out) ≡ if_accepted (verdict_on a) Err (judged_by (when (not (is_rle a)) no_such_block ∷ when (ltb (length out) n) buffer_short ∷ []))
trace_found_lem (Ok found) n out long = go found.read (λ r is. long found.kind r (ap (λ (read : BlockRead). answered_as found.kind read) is))
  where
    go : (read : BlockRead) → ((r : LossRle) → read ≡ Rle r → n ≡ covered r.begin r.end) →
        verdict_on (trace_found (answered_as found.kind read) out) ≡ judged_by (when (not (is_good_rle read)) no_such_block ∷ when (ltb (length out) n) buffer_short ∷ [])
    go (Typed b) long = first_holds no_such_block _
    go (Rle r) long = rw (long r refl) (at_least verdict_on (covered r.begin r.end) (length out) buffer_short _ _ [] refl answered ∙ first_fails no_such_block _)
    go Unknown long = first_holds no_such_block _
    go (Dropped reason) long = first_holds no_such_block _
trace_found_lem (Err r) n out long = refl

packet_rle : (s : List ℕ) (k : ℕ) (out : List ℕ) →
    verdict_on (trace_answer (packet_of s) k out)
    ≡ judged_by (packet_rows Whole s ++ when (leb (blocks_in s) k) no_such_block ∷ when (not (is_rle (block_of (packet_of s) k))) no_such_block ∷ when (ltb (length out) (length (trace_at (packet_of s) k))) buffer_short ∷ [])
packet_rle s k out =
    let p : Packet = packet_of s in
    let own : List Row = when (not (is_rle (block_of p k))) no_such_block ∷ when (ltb (length out) (length (trace_at p k))) buffer_short ∷ [] in
    trace_found_lem (block_of p k) (length (trace_at p k)) out (λ type r is. (trace_of_block s k type r is).long)
    ∙ ap (λ (j : Judged). if_accepted j Err (judged_by own)) (packet_block s k)
    ∙ sym (both_orders (packet_rows Whole s ++ when (leb (blocks_in s) k) no_such_block ∷ []) own)
    ∙ ap judged_by (append_snoc (packet_rows Whole s) (when (leb (blocks_in s) k) no_such_block) own)

packet_add_rle : (out : List ℕ) (source begin : ℕ) (s : List ℕ) →
    verdict_on (rle_answer out source begin s) ≡ judged_by (packet_rows Front out ++ (trace_rows_within interval_max lost s ++ room_rows out (length (rle_words source begin s))))
packet_add_rle out source begin s = append_rows out (rleOwn s) (length (rle_words source begin s)) (trace_rows_within interval_max lost s) (within_rows interval_max lost s)

located_frames : (sender : ℕ) (f : Frames) (k : ℕ) → verdict_on (located_of (of_frames sender f) k) ≡ judged_by (past_rows f)
located_frames sender (whole es) k = answered
located_frames sender (past offset) k = first_holds (block_past_end offset) []

locate : (extent : Extent) (s : List ℕ) (k : ℕ) → verdict_on (located_of (packet_in extent s) k) ≡ judged_by (packet_rows extent s)
unfolding packet_in
locate extent s k = header extent s (λ h. verdict_on (located_of (framed h s) k)) (λ r. refl) (past_rows (frames_at s)) (located_frames (be32 s 4) (frames_at s) k)

-- traces
figures_rows_lem : {A : Type 0} (v : A → Judged) (gmin spacing : ℕ) (s : List ℕ) (refused : Refusal → A) (rest : A) → ((r : Refusal) → v (refused r) ≡ Err r) → v rest ≡ judged_by [] →
    v (unless (burst_in_range gmin spacing) (refused setting) (if_accepted (judged s) refused rest)) ≡ judged_by (figures_rows gmin spacing s)
figures_rows_lem v gmin spacing s refused rest n e =
    line v (burst_in_range gmin spacing) setting _ _ (trace_rows s) (n setting) (input v (judged s) refused rest (trace_rows s) [] (trace_rows_lem s) n e)

figures : (gmin spacing : ℕ) (event : Event) (s : List ℕ) → verdict_on (figures_in gmin spacing event s) ≡ judged_by (figures_rows gmin spacing s)
unfolding figures_in
figures gmin spacing event s = figures_rows_lem verdict_on gmin spacing s Err _ (λ r. refl) answered

-- a block is answered where figures are, but of either
summary_rows : (event : Event) (source flag : ℕ) (m : Result Figures Refusal) (rows : List Row) → verdict_on m ≡ judged_by rows →
    verdict_on (summary_of event source flag m) ≡ judged_by (when (no_block event) setting ∷ rows)
unfolding judged_by
summary_rows Lost source flag (Ok f) rows is = is
summary_rows Lost source flag (Err r) rows is = is
summary_rows Discarded source flag (Ok f) rows is = is
summary_rows Discarded source flag (Err r) rows is = is
summary_rows Either source flag m rows is = refl

-- batches, of an input that is judged by itself; the plan's room
module _ (verdict : Judged) (rows : List Row) (is : verdict ≡ judged_by rows) (lost : ℕ → Bool) (e b t : ℕ) where
  abbrev settled : List Row
  settled = when (not (batch_in_range limits b t)) setting ∷ (rows ++ when (ltb e b) batch_length ∷ [])

  batch_rows_lem : judged_for verdict e b t ≡ judged_by settled
  unfolding judged_for
  batch_rows_lem =
      line (λ (j : Judged). j) (batch_in_range limits b t) setting _ _ _ refl
      (input (λ (j : Judged). j) verdict Err _ rows _ is (λ r. refl) (at_least (λ (j : Judged). j) b e batch_length _ _ [] refl answered))

  loss_rows : verdict_on (loss_answer verdict lost e b t) ≡ judged_by settled
  unfolding loss_answer
  loss_rows = input verdict_on (judged_for verdict e b t) Err _ settled [] batch_rows_lem (λ r. refl) answered ∙ ap judged_by (append-nil settled)

  plan_rows : (out : List ℕ) → verdict_on (plan_answer verdict lost e b t out) ≡ judged_by (settled ++ when (ltb (length out) e) buffer_short ∷ [])
  unfolding plan_answer
  plan_rows out = input verdict_on (judged_for verdict e b t) Err _ settled _ batch_rows_lem (λ r. refl) (at_least verdict_on e (length out) buffer_short _ _ [] refl answered)

-- packed traces
packed_rows_lem : (words : List ℕ) (packets : ℕ) → judged_packed words packets ≡ judged_by (packed_rows words packets)
unfolding judged_packed
packed_rows_lem words packets =
    line (λ (j : Judged). j) (packets_within trace_max packets) trace_length _ _ _ refl
    (at_least (λ (j : Judged). j) (words_for packets) (length words) buffer_short _ _ _ refl
    (at_least (λ (j : Judged). j) (length (past_end words packets)) (first_past words packets) (trace_byte (packets + first_past words packets)) _ _ [] refl answered))

trace_pack : (s out : List ℕ) → verdict_on (pack_answer s out) ≡ judged_by (trace_rows s ++ when (ltb (length out) (words_for (length s))) buffer_short ∷ [])
unfolding pack_answer
trace_pack s out =
    input verdict_on (judged s) Err _ (trace_rows s) _ (trace_rows_lem s) (λ r. refl)
    (at_least verdict_on (words_for (length s)) (length out) buffer_short _ _ [] refl answered)

trace_unpack : (words : List ℕ) (packets : ℕ) (out : List ℕ) →
    verdict_on (unpack_answer words packets out) ≡ judged_by (packed_rows words packets ++ when (ltb (length out) packets) buffer_short ∷ [])
unfolding unpack_answer
trace_unpack words packets out =
    input verdict_on (judged_packed words packets) Err _ (packed_rows words packets) _ (packed_rows_lem words packets) (λ r. refl)
    (at_least verdict_on packets (length out) buffer_short _ _ [] refl answered)

-- tallies
tally_open : (gmin spacing : ℕ) (event : Event) → verdict_on (open_of gmin spacing event) ≡ judged_by (when (not (burst_in_range gmin spacing)) setting ∷ [])
unfolding open_of
tally_open gmin spacing event = line verdict_on (burst_in_range gmin spacing) setting _ _ [] refl answered

tally_take : (t : Tally) (packet : ℕ) →
    verdict_on (take_one t packet).answer
    ≡ judged_by (when (not (sound t)) setting ∷ when (leb trace_max t.sums.packets) trace_length ∷ when (ltb packet_max packet) (trace_byte 0) ∷ [])
unfolding take_one
tally_take t packet =
    line v (sound t) setting _ _ _ refl
    (rw (not_less t.sums.packets trace_max)
    (line v (ltb t.sums.packets trace_max) trace_length _ _ _ refl
    (at_least v packet packet_max (trace_byte 0) _ _ [] refl answered)))
  where
    v : Taken → Judged
    v t = verdict_on t.answer

tally_close : (t : Tally) → verdict_on (close_of t) ≡ judged_by (when (not (sound t)) setting ∷ [])
unfolding close_of
tally_close t = line verdict_on (sound t) setting _ _ [] refl answered

tally_of_trace : (gmin spacing : ℕ) (event : Event) (s : List ℕ) → verdict_on (of_trace gmin spacing event s) ≡ judged_by (figures_rows gmin spacing s)
unfolding of_trace
tally_of_trace gmin spacing event s = figures_rows_lem verdict_on gmin spacing s Err _ (λ r. refl) answered

sums : (r : Sums) → verdict_on (measure_of r) ≡ judged_by (when (not (sums_sound r)) setting ∷ [])
unfolding measure_of
sums r = line verdict_on (sums_sound r) setting _ _ [] refl answered

pub each_call : EachCall
unfolding read_card write_card
each_call =
    record {
      card_read =
          λ c. line verdict_on (twenty_digits c) card_digits _ _ _ refl
          (line verdict_on (check_right c) card_check _ _ _ refl
          (line verdict_on (in_range limits (settings_on c)) card_field _ _ [] refl answered));
      card_write = λ s out. line verdict_on (in_range limits s) setting _ _ _ refl (at_least verdict_on card_length (length out) buffer_short _ _ [] refl answered);
      locate = locate;
      packet_head = packet_head;
      packet_block = packet_block;
      packet_list = packet_list;
      packet_compare = packet_compare;
      packet_new = λ out. at_least verdict_on first_block (length out) buffer_short _ _ [] refl answered;
      packet_add = packet_add;
      packet_rle = packet_rle;
      packet_add_rle = packet_add_rle;
      append = λ s own n. append_rows s own n (own_rows own) (own_rows_lem own);
      trace = trace_rows_lem;
      batch = λ s b t. batch_rows_lem (judged s) (trace_rows s) (trace_rows_lem s) (counted_at Lost s) (length s) b t;
      figures = figures;
      block_of_trace = λ gmin spacing event s source flag. summary_rows event source flag (figures_in gmin spacing event s) (figures_rows gmin spacing s) (figures gmin spacing event s);
      effective_loss = λ event s b t. loss_rows (judged s) (trace_rows s) (trace_rows_lem s) (counted_at event s) (length s) b t;
      resend_plan = λ event s b t out. plan_rows (judged s) (trace_rows s) (trace_rows_lem s) (counted_at event s) (length s) b t out;
      trace_pack = trace_pack;
      packed = packed_rows_lem;
      packed_batch = λ words packets b t. batch_rows_lem (judged_packed words packets) (packed_rows words packets) (packed_rows_lem words packets) (one_in words) packets b t;
      trace_unpack = trace_unpack;
      packed_loss_lem = λ words packets b t. loss_rows (judged_packed words packets) (packed_rows words packets) (packed_rows_lem words packets) (one_in words) packets b t;
      packed_plan_lem = λ words packets b t out. plan_rows (judged_packed words packets) (packed_rows words packets) (packed_rows_lem words packets) (one_in words) packets b t out;
      tally_of_trace = tally_of_trace;
      sums = sums;
      tally_open = tally_open;
      tally_take = tally_take;
      tally_close = tally_close;
      tally_block = λ t source flag. summary_rows t.event source flag (close_of t) _ (tally_close t);
    }
