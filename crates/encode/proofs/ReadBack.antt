-- A block written is read as itself: `ReadBackLaw` of specs/Laws.antt. Assumes nothing.
use Prim.Native.Nat.{ℕ, ◌+◌, ◌*◌, ◌/◌, ◌%◌}
use mathlib.Core.Path.{◌≡◌}
use mathlib.Core.Bool.{true}
use native.Mathlib.Omega.{arith}
use Rattle.wire.specs.BigEndian.{be16, be32}
use Rattle.block.specs.Layouts.{flag_in, measurement_in, loss_in, discard_in, effective_in, streams_in}
use Rattle.block.specs.Reading.{summary_good, read_measurement, read_loss, read_discard, read_effective, read_streams, read_block}
use Rattle.block.specs.declared.Block.{Block}
use Rattle.block.specs.declared.Block.TheVariants.{Measured, Loss, Discard, Effective, Streams}
use Rattle.block.specs.declared.BlockRead.TheVariants.{Typed}
use Rattle.block.proofs.Good.{good_fits}
use Rattle.block.proofs.Cases.{bytes_read, good_typed}
use Rattle.encode.specs.Words.{halves, flag_byte, type_of, specific_of, body_words, in_bytes, writable}
use Rattle.encode.specs.Laws.{Half, Word, Fits, ReadBackLaw}
use Rattle.encode.proofs.Framing.{framed_bytes}

-- numbers back from their bytes
back32 : (n : ℕ) → Word n → (n / 16777216 * 256 + n / 65536 % 256) * 65536 + (n / 256 % 256 * 256 + n % 256) ≡ n
back32 n h = omega arith

high : (h l : ℕ) → Half h → Half l → halves h l / 16777216 * 256 + halves h l / 65536 % 256 ≡ h
high h l p q = omega arith

low : (h l : ℕ) → Half l → halves h l / 256 % 256 * 256 + halves h l % 256 ≡ l
low h l q = omega arith

-- a flag that may be written comes back from its two bits
flag_back : (flag burst gap : ℕ) → summary_good flag burst gap ≡ true → flag_in (flag_byte flag) ≡ flag
flag_back flag burst gap good = let small = (good_fits flag burst gap good).0 in omega arith

typed_back : (b : Block) → Fits b → writable b ≡ true → read_block (type_of b) (specific_of b) (in_bytes (body_words b)) ≡ Typed b
unfolding read_block read_measurement read_loss read_discard read_effective read_streams measurement_in loss_in discard_in effective_in streams_in be32 be16
typed_back (Measured m) f w =
    rw (back32 _ f.0, low 0 _ f.1, back32 _ f.2, back32 _ f.3, back32 _ f.4, back32 _ f.5, back32 _ f.6)
typed_back (Loss l) f w =
    rw (flag_back l.flag l.burst_rate l.gap_rate w, back32 _ f.0, high _ _ f.1 f.2, low _ _ f.2, high _ _ f.3 f.4, low _ _ f.4)
    (good_typed l.flag l.burst_rate l.gap_rate (Loss l) w)
typed_back (Discard d) f w =
    rw (flag_back d.flag d.burst_rate d.gap_rate w, back32 _ f.0, high _ _ f.1 f.2, low _ _ f.2)
    (good_typed d.flag d.burst_rate d.gap_rate (Discard d) w)
typed_back (Effective e) f w = rw (back32 _ f.0, high _ 0 f.1 (omega arith))
typed_back (Streams t) f w =
    rw (back32 _ f.0, high _ _ f.1 f.2, low _ _ f.2, back32 _ f.3, back32 _ f.4, back32 _ f.5, back32 _ f.6, back32 _ f.7, back32 _ f.8, back32 _ f.9, back32 _ f.10, back32 _ f.11)

pub read_back : ReadBackLaw
read_back b f w = rw (framed_bytes b, bytes_read) (typed_back b f w)
