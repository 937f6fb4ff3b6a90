-- The reserved bits of a packet's first byte are ignored: `ReservedFirst` of specs/Laws.antt. The header sees
-- the other three bits of it, and the blocks none. Assumes nothing.
use Prim.Native.Nat.{ℕ, zero, suc, ◌+◌, ◌/◌, ◌<◌}
use mathlib.Core.Path.{◌≡◌, refl}
use mathlib.Core.List.{List, [], ◌∷◌}
use native.Mathlib.Omega.{arith}
use Rattle.std.proofs.Common.{Result, Ok, Err}
use Rattle.refusal.specs.declared.Refusal.{Refusal}
use lib.ListN.{get_or, set, length-set}
use lib.Seq.{get_or-set_other, drop-set-lt}
use Rattle.wire.specs.BigEndian.{be16, be32, u16_at}
use Rattle.frame.specs.declared.Extent.{Extent}
use Rattle.frame.specs.declared.Header.{Header}
use Rattle.frame.specs.Frames.{next_at, entry_at, frames_from, first_block}
use Rattle.frame.specs.Packet.{header_of, framed, packet_in}
use Rattle.frame.specs.Laws.{ReservedFirst}

header_set : (extent : Extent) (s : List ℕ) (b : ℕ) → b / 32 ≡ get_or s 0 0 / 32 → header_of extent (set s 0 b) ≡ header_of extent s
unfolding header_of be16 be32
header_set extent [] b same = refl
header_set extent (a ∷ s) b same = let version : b / 64 ≡ a / 64 = omega arith in rw (version, same)

-- the blocks, which stand past that byte
module _ (s : List ℕ) (b : ℕ) where
  field_set : (at : ℕ) → u16_at (set s 0 b) (at + 2) ≡ u16_at s (at + 2)
  unfolding u16_at be16
  field_set at =
      rw (length-set s 0 b, get_or-set_other s 0 (at + 2) b 0 (omega arith), get_or-set_other s 0 (at + 2 + 1) b 0 (omega arith))

  entry_set : (at : ℕ) → 0 < at → entry_at (set s 0 b) at ≡ entry_at s at
  unfolding entry_at
  entry_set at h =
      rw (get_or-set_other s 0 at b 0 (omega arith), get_or-set_other s 0 (at + 1) b 0 (omega arith), field_set at, drop-set-lt (at + 4) s 0 b (omega arith))

  frames_set : (most at to : ℕ) → 0 < at → frames_from most (set s 0 b) at to ≡ frames_from most s at to
  unfolding frames_from
  frames_set zero at to h = refl
  frames_set (suc most) at to h = rw (field_set at, entry_set at h, frames_set most (next_at s at) to (omega arith))

pub reserved_first : ReservedFirst
unfolding packet_in
reserved_first extent s b same = rw (header_set extent s b same) (go (header_of extent s))
  where
    go : (header : Result Header Refusal) → framed header (set s 0 b) ≡ framed header s
    go (Ok header) = rw (frames_set s b header.size first_block header.size (omega arith))
    go (Err r) = refl
