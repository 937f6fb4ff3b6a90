-- Bytes are read as a typed block exactly where they are one, by the diagrams: `IsBlock` of specs/Places.antt. Assumes nothing.
use Prim.Native.Nat.{ℕ, ◌+◌, ◌*◌, ◌/◌, ◌%◌}
use mathlib.Core.Path.{◌≡◌, refl, sym, ap, ◌∙◌}
use mathlib.Core.Bool.{true}
use mathlib.Core.Logic.{◌↔◌}
use mathlib.Core.List.{List}
use native.Mathlib.Omega.{arith}
use borrow.Author.Tests.{eq-eqb, le-leb, leb-true}
use lib.Dec.{leb}
use lib.ListN.{length, get_or, drop, length-drop}
use Rattle.refusal.proofs.Tests.{and_left, and_right, passed}
use Rattle.wire.specs.BigEndian.{be16, u16_at, u32_at}
use Rattle.block.specs.Reading.{flag_good, rates_good, summary_good, summary_read, read_measurement, read_loss, read_discard, read_effective, read_streams, read_block, read_bytes}
use Rattle.block.specs.Layouts.{measurement_in, loss_in, discard_in, effective_in, streams_in}
use Rattle.block.specs.declared.Measurement.{Measurement}
use Rattle.block.specs.declared.LossSummary.{LossSummary}
use Rattle.block.specs.declared.DiscardSummary.{DiscardSummary}
use Rattle.block.specs.declared.EffectiveSummary.{EffectiveSummary}
use Rattle.block.specs.declared.StreamCounts.{StreamCounts}
use Rattle.block.specs.declared.Block.{Block}
use Rattle.block.specs.declared.Block.TheVariants.{Measured, Loss, Discard, Effective, Streams}
use Rattle.block.specs.declared.BlockRead.TheVariants.{Typed, Unknown}
use Rattle.block.proofs.Cases.{typed_answers}
use Rattle.difference.specs.Places.{values_by}
use Rattle.difference.proofs.Places.{half_at, word_at, typed_size, by_type, fields_are}
use Rattle.encode.specs.Words.{body_words, bytes_of, writable}
use Rattle.encode.specs.Laws.{Fits}
use Rattle.encode.proofs.Framing.{framed_bytes}
use Rattle.encode.proofs.ReadBack.{read_back}
use Rattle.demands.specs.Places.{type_number, block_length, IsBlock}

-- what a typed block is, but for its fields and the length of its first word
module _ (s : List ℕ) where
  abbrev TypedAs : ℕ → Block → Type 0
  TypedAs type b = (type ≡ type_number b) × (length (drop 4 s) ≡ 4 * block_length b) × (writable b ≡ true)

  typed_as : (type : ℕ) (b : Block) → read_block type (get_or s 1 0) (drop 4 s) ≡ Typed b → TypedAs type b
  unfolding loss_in discard_in
  typed_as =
      typed_answers (get_or s 1 0) (drop 4 s) TypedAs
      (λ size. (refl, size, refl))
      (λ size good. (refl, size, good))
      (λ size good. (refl, size, good))
      (λ size. (refl, size, refl))
      (λ size. (refl, size, refl))

is_block : (s : List ℕ) (b : Block) → read_bytes s ≡ Typed b → IsBlock s b
unfolding read_bytes
is_block s b h =
    let p = passed (leb 4 (length s)) Unknown (read_block (get_or s 0 0) (get_or s 1 0) (drop 4 s)) (Typed b) (λ e. let z : ◌≡◌ {A = ℕ} 0 1 = cc in omega arith) h in
    let t = typed_as s (get_or s 0 0) b p.1 in
    let long = leb-true 4 (length s) p.0 in
    let size = t.1 in
    let rest = length-drop 4 s in
    record { type = t.0; size = omega arith; fields = sym (fields_are s b h) ∙ by_type s (typed_size s b h) ∙ ap (λ type. values_by type s) t.0; good = t.2 }

-- and back, kind by kind
back_effective : (s : List ℕ) (e : EffectiveSummary) → IsBlock s (Effective e) → read_bytes s ≡ Typed (Effective e)
unfolding read_bytes read_block read_effective effective_in
back_effective s e h =
    let f = h.fields in
    let z = h.size in
    let source : e.source ≡ u32_at s 4 = cc in
    let index : e.index ≡ u16_at s 8 = cc in
    let d = length-drop 4 s in
    rw (le-leb 4 (length s) (omega arith), h.type, eq-eqb (length (drop 4 s)) 8 (omega arith), word_at s 0 (omega arith), half_at s 4 (omega arith), ← source, ← index)

back_measured : (s : List ℕ) (m : Measurement) → IsBlock s (Measured m) → read_bytes s ≡ Typed (Measured m)
unfolding read_bytes read_block read_measurement measurement_in
back_measured s m h =
    let f = h.fields in
    let z = h.size in
    let a : m.source ≡ u32_at s 4 = cc in
    let b : m.first ≡ u16_at s 10 = cc in
    let c : m.extended_first ≡ u32_at s 12 = cc in
    let g : m.extended_last ≡ u32_at s 16 = cc in
    let i : m.interval ≡ u32_at s 20 = cc in
    let j : m.seconds ≡ u32_at s 24 = cc in
    let k : m.fraction ≡ u32_at s 28 = cc in
    let d = length-drop 4 s in
    rw (le-leb 4 (length s) (omega arith), h.type, eq-eqb (length (drop 4 s)) 28 (omega arith), word_at s 0 (omega arith), half_at s 6 (omega arith), word_at s 8 (omega arith), word_at s 12 (omega arith), word_at s 16 (omega arith), word_at s 20 (omega arith), word_at s 24 (omega arith), ← a, ← b, ← c, ← g, ← i, ← j, ← k)

back_streams : (s : List ℕ) (t : StreamCounts) → IsBlock s (Streams t) → read_bytes s ≡ Typed (Streams t)
unfolding read_bytes read_block read_streams streams_in
back_streams s t h =
    let f = h.fields in
    let z = h.size in
    let a : t.source ≡ u32_at s 4 = cc in
    let b : t.begin ≡ u16_at s 8 = cc in
    let c : t.end ≡ u16_at s 10 = cc in
    let g : t.streams ≡ u32_at s 12 = cc in
    let i1 : t.sync_losses ≡ u32_at s 16 = cc in
    let i2 : t.sync_byte_errors ≡ u32_at s 20 = cc in
    let i3 : t.continuity_errors ≡ u32_at s 24 = cc in
    let i4 : t.transport_errors ≡ u32_at s 28 = cc in
    let i5 : t.pcr_errors ≡ u32_at s 32 = cc in
    let i6 : t.pcr_repetition_errors ≡ u32_at s 36 = cc in
    let i7 : t.pcr_discontinuity_errors ≡ u32_at s 40 = cc in
    let i8 : t.pts_errors ≡ u32_at s 44 = cc in
    let d = length-drop 4 s in
    rw (le-leb 4 (length s) (omega arith), h.type, eq-eqb (length (drop 4 s)) 44 (omega arith), word_at s 0 (omega arith), half_at s 4 (omega arith), half_at s 6 (omega arith), word_at s 8 (omega arith), word_at s 12 (omega arith), word_at s 16 (omega arith), word_at s 20 (omega arith), word_at s 24 (omega arith), word_at s 28 (omega arith), word_at s 32 (omega arith), word_at s 36 (omega arith), word_at s 40 (omega arith), ← a, ← b, ← c, ← g, ← i1, ← i2, ← i3, ← i4, ← i5, ← i6, ← i7, ← i8)

back_loss : (s : List ℕ) (l : LossSummary) → IsBlock s (Loss l) → read_bytes s ≡ Typed (Loss l)
unfolding read_bytes read_block read_loss loss_in summary_read summary_good
back_loss s l h =
    let f = h.fields in
    let z = h.size in
    let o : l.flag ≡ get_or s 1 0 / 64 = cc in
    let a : l.source ≡ u32_at s 4 = cc in
    let b : l.burst_rate ≡ u16_at s 8 = cc in
    let c : l.gap_rate ≡ u16_at s 10 = cc in
    let g : l.burst_mean ≡ u16_at s 12 = cc in
    let i : l.burst_variance ≡ u16_at s 14 = cc in
    let d = length-drop 4 s in
    let flag = and_left (flag_good l.flag) (rates_good l.burst_rate l.gap_rate) h.good in
    let rates = and_right (flag_good l.flag) (rates_good l.burst_rate l.gap_rate) h.good in
    rw (le-leb 4 (length s) (omega arith), h.type, eq-eqb (length (drop 4 s)) 12 (omega arith), word_at s 0 (omega arith), half_at s 4 (omega arith), half_at s 6 (omega arith), half_at s 8 (omega arith), half_at s 10 (omega arith), ← o, ← a, ← b, ← c, ← g, ← i, flag, rates)

back_discard : (s : List ℕ) (l : DiscardSummary) → IsBlock s (Discard l) → read_bytes s ≡ Typed (Discard l)
unfolding read_bytes read_block read_discard discard_in summary_read summary_good
back_discard s l h =
    let f = h.fields in
    let z = h.size in
    let o : l.flag ≡ get_or s 1 0 / 64 = cc in
    let a : l.source ≡ u32_at s 4 = cc in
    let b : l.burst_rate ≡ u16_at s 8 = cc in
    let c : l.gap_rate ≡ u16_at s 10 = cc in
    let d = length-drop 4 s in
    let flag = and_left (flag_good l.flag) (rates_good l.burst_rate l.gap_rate) h.good in
    let rates = and_right (flag_good l.flag) (rates_good l.burst_rate l.gap_rate) h.good in
    rw (le-leb 4 (length s) (omega arith), h.type, eq-eqb (length (drop 4 s)) 8 (omega arith), word_at s 0 (omega arith), half_at s 4 (omega arith), half_at s 6 (omega arith), ← o, ← a, ← b, ← c, flag, rates)

block_is : (s : List ℕ) (b : Block) → IsBlock s b → read_bytes s ≡ Typed b
block_is s (Measured m) = back_measured s m
block_is s (Loss l) = back_loss s l
block_is s (Discard d) = back_discard s d
block_is s (Effective e) = back_effective s e
block_is s (Streams t) = back_streams s t

pub typed_exactly : (s : List ℕ) (b : Block) → (read_bytes s ≡ Typed b) ↔ IsBlock s b
typed_exactly s b = (is_block s b, block_is s b)

pub written : (b : Block) → Fits b → writable b ≡ true → IsBlock (bytes_of b) b
written b fits good = is_block (bytes_of b) b (read_back b fits good)

pub length_written : (b : Block) → be16 (bytes_of b) 2 ≡ block_length b
unfolding be16
length_written b = rw (framed_bytes b) (go b)
  where
    go : (b : Block) → length (body_words b) / 256 * 256 + length (body_words b) % 256 ≡ block_length b
    go (Measured m) = refl
    go (Loss l) = refl
    go (Discard d) = refl
    go (Effective e) = refl
    go (Streams t) = refl
