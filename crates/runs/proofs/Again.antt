-- A trace that was added, read again: `AddedRead` of specs/Laws.antt; and `TraceOfBlock`. Assumes nothing.
use Rattle.std.proofs.Common.{◌≡◌, ℕ, ◌/◌, ◌%◌, ◌<◌, ◌≤◌, true, false, ◌⊎◌, List, [], ◌∷◌, ◌++◌, length, drop, sym, ap, ◌∙◌, subst, inl, inr, arith, le-leb}
use Rattle.trace.specs.Laws.{IsWithin}
use Rattle.trace.specs.Trace.{lost}
use Rattle.trace.proofs.Judging.{accepted_within}
use Rattle.block.specs.Types.{rle_type, interval_max}
use Rattle.block.specs.Layouts.{covered, trace_of}
use Rattle.block.specs.Reading.{read_block, read_bytes}
use Rattle.block.specs.Laws.{RleTrace}
use Rattle.block.specs.declared.BlockRead.TheVariants.{Rle, Dropped}
use Rattle.block.proofs.Cases.{bytes_read}
use Rattle.block.proofs.RleLaws.{rle_read, rle_trace}
use Rattle.encode.specs.Words.{in_bytes}
use Rattle.encode.proofs.Framing.{framed_words}
use Rattle.frame.specs.Frames.{Entry}
use Rattle.frame.specs.Packet.{Packet, good, bad, numbered, size_in, packet_of, front_packet}
use Rattle.frame.proofs.Numbering.{number_last}
use Rattle.packet.specs.Blocks.{read_alone, measures, read_in}
use Rattle.packet.specs.Answers.{answered, found, block_of, body_in, body_of, part_of}
use Rattle.packet.specs.declared.BlockAt.{BlockAt}
use Rattle.packet.proofs.Judging.{own_but_unmeasured}
use Rattle.compose.specs.Laws.{entry_of, Append, Appended, Lifted, Kept}
use Rattle.compose.proofs.Adding.{fit}
use Rattle.compose.proofs.Growing.{added_good}
use Rattle.compose.proofs.Earlier.{earlier_kept}
use Rattle.runs.specs.Writing.{end_of, rle_body, rle_words, own_of}
use Rattle.runs.specs.Answers.{trace_found, trace_answer}
use Rattle.runs.specs.Laws.{after_add, rle_of, Add, ReadBack, AddedRead, TraceOfBlock}
use Rattle.runs.proofs.ReadBack.{trace_is, read_body}
use Rattle.runs.proofs.Storing.{rle_long}
use Rattle.std.specs.Prelude.{Option, Some, None, Result, Ok}
use Rattle.refusal.specs.declared.Refusal.{Refusal}
use Rattle.block.specs.declared.Reason.TheVariants.{Unmeasured}

pub trace_of_block : TraceOfBlock
unfolding read_alone
trace_of_block s k type r h = go (packet_of s) h
  where
    of_entry : (es : List Entry) (e : Entry) → answered e.kind (read_in es e) ≡ answered type (Rle r) → RleTrace e.body r
    of_entry es e told = by (own_but_unmeasured es e)
      where
        same_block : ◌≡◌ {A = BlockAt} (record { kind = e.kind; read = read_in es e }) (record { kind = type; read = Rle r })
        same_block = cc

        is : read_in es e ≡ Rle r
        is = ap (λ (x : BlockAt). x.read) same_block

        by : (read_in es e ≡ read_alone e) ⊎ (read_in es e ≡ Dropped Unmeasured) → RleTrace e.body r
        by (inl same) = rle_trace e.kind e.specific e.body r (sym same ∙ is)
        by (inr dropped) = let other : Dropped Unmeasured ≡ Rle r = sym dropped ∙ is in let z : ◌≡◌ {A = ℕ} 0 1 = cc in absurd (omega arith)

    in_list : (es : List Entry) (n : Option Entry) → found es n ≡ answered type (Rle r) → RleTrace (body_in n) r
    in_list es None told = let z : ◌≡◌ {A = ℕ} 0 1 = cc in absurd (omega arith)
    in_list es (Some e) told = of_entry es e told

    go : (p : Packet) → block_of p k ≡ answered type (Rle r) → RleTrace (body_of p k) r
    go (bad x) told = let z : ◌≡◌ {A = ℕ} 0 1 = cc in absurd (omega arith)
    go (good sender es) told = in_list es (numbered es k) told

module _ (out : List ℕ) (source begin : ℕ) (s : List ℕ) (sender : ℕ) (es : List Entry) (n : ℕ) (a : Add out source begin s sender es n) where
  append : Append out (own_of s) rle_type 0 (rle_body source begin s) sender es n
  append = record { type_fits = omega arith; specific_fits = omega arith; packet = a.packet; answer = a.answer }

  accepted : IsWithin interval_max lost s
  accepted = accepted_within interval_max lost s (fit out (own_of s) (length (rle_words source begin s)) n a.answer).accepted

  behind : Appended out (after_add out source begin s) rle_type 0 (rle_body source begin s) sender es n
  behind = added_good out (own_of s) rle_type 0 (rle_body source begin s) sender es n append

  abbrev new : Entry
  new = entry_of rle_type 0 (rle_body source begin s) (size_in out)

  -- the new block by itself
  block_is : read_block rle_type 0 (in_bytes (rle_body source begin s)) ≡ Rle (rle_of source begin s)
  block_is = rle_read 0 (in_bytes (rle_body source begin s)) ∙ read_body source begin s a.source_fits a.begin_fits accepted

  alone : read_alone new ≡ Rle (rle_of source begin s)
  unfolding read_alone
  alone = block_is

  short : length (rle_body source begin s) < 65536
  short = let most = accepted.most in omega (arith, rle_long source begin s)

  itself : read_bytes (in_bytes (rle_words source begin s)) ≡ Rle (rle_of source begin s)
  itself =
      ap read_bytes (framed_words rle_type 0 (rle_body source begin s) (omega arith) (omega arith) short)
      ∙ bytes_read rle_type 0 (length (rle_body source begin s) / 256) (length (rle_body source begin s) % 256) (in_bytes (rle_body source begin s)) ∙ block_is

  -- in the packet
  abbrev all : List Entry
  all = es ++ new ∷ []

  index : block_of (good sender all) (length es) ≡ answered rle_type (Rle (rle_of source begin s))
  index = rw (number_last es new, alone)

  body : body_of (good sender all) (length es) ≡ in_bytes (rle_body source begin s)
  body = rw (number_last es new)

  interval : covered begin (end_of begin s) ≡ length s
  interval = let most = accepted.most in let small = a.begin_fits in omega arith

  room_for : (room : List ℕ) → length s ≤ length room → trace_answer (good sender all) (length es) room ≡ Ok (length s)
  room_for room h = ap (λ (x : Result BlockAt Refusal). trace_found x room) index ∙ rw (interval, le-leb (length s) (length room) h)

  unmeasuring : (x : ℕ) → measures x new ≡ true → ⊥
  unmeasuring x h = let none : false ≡ true = rw alone at h in let z : ◌≡◌ {A = ℕ} 0 1 = cc in omega arith

  -- and the blocks that were there
  earlier : (k : ℕ) → k < length es →
      (block_of (good sender all) k ≡ block_of (front_packet out) k) × (part_of (good sender all) k ≡ part_of (front_packet out) k) × (body_of (good sender all) k ≡ body_of (front_packet out) k)
  earlier k h =
      let kept : Kept (front_packet out) (good sender all) new k =
      subst (λ (p : Packet). Kept (front_packet out) p new k) behind.packet (earlier_kept out (own_of s) rle_type 0 (rle_body source begin s) sender es n k append h)
      in
      (by kept.2, kept.0, kept.1)
    where
      by : (block_of (good sender all) k ≡ block_of (front_packet out) k) ⊎ Lifted (front_packet out) (good sender all) new k → block_of (good sender all) k ≡ block_of (front_packet out) k
      by (inl same) = same
      by (inr lifted) = absurd (unmeasuring lifted.source lifted.measured_now)

  pub again : ReadBack (good sender all) out (after_add out source begin s) source begin s sender es n
  again =
      record {
        good_packet = behind;
        by_itself = ap read_bytes behind.bytes ∙ itself;
        own_trace = ap (λ (bytes : List ℕ). trace_of (drop 4 bytes)) behind.bytes ∙ trace_is source begin s a.source_fits a.begin_fits accepted;
        by_index = index;
        trace = ap trace_of body ∙ trace_is source begin s a.source_fits a.begin_fits accepted;
        packets = room_for;
        earlier = earlier;
      }

pub added_read : AddedRead
added_read out source begin s sender es n a = rw (behind out source begin s sender es n a).packet (again out source begin s sender es n a)
