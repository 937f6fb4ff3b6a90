-- Block number k of a list: past its end, in a longer list, and of blocks that fill bytes. Assumes nothing.
use Prim.Native.Nat.{ℕ, zero, suc, ◌<◌, ◌≤◌}
use mathlib.Core.Path.{◌≡◌, refl}
use mathlib.Core.List.{List, [], ◌∷◌, ◌++◌}
use native.Mathlib.Omega.{arith}
use Rattle.std.proofs.Common.{Some, None}
use lib.ListN.{length, get_or}
use Rattle.wire.specs.BigEndian.{be16}
use Rattle.frame.specs.declared.Extent.TheVariants.{Whole}
use Rattle.frame.specs.Frames.{Entry, whole, next_at, entry_at, first_block, frames_of}
use Rattle.frame.specs.Packet.{good, numbered, place_at, place_of, packet_of}
use Rattle.frame.specs.Laws.{Fill}
use Rattle.frame.proofs.FirstBytes.{head_facts, whole_length}
use Rattle.frame.proofs.Filling.{full, fill_up, packet_exactly}

pub number_none : (es : List Entry) (k : ℕ) → length es ≤ k → numbered es k ≡ None
unfolding numbered
number_none [] k h = refl
number_none (e ∷ es) zero h = absurd (omega arith)
number_none (e ∷ es) (suc k) h = number_none es k (omega arith)

pub number_front : (es fs : List Entry) (k : ℕ) → k < length es → numbered (es ++ fs) k ≡ numbered es k
unfolding numbered
number_front [] fs k h = absurd (omega arith)
number_front (e ∷ es) fs zero h = refl
number_front (e ∷ es) fs (suc k) h = number_front es fs k (omega arith)

pub number_last : (es : List Entry) (e : Entry) → numbered (es ++ e ∷ []) (length es) ≡ Some e
unfolding numbered
number_last [] e = refl
number_last (x ∷ es) e = number_last es e

-- where it stands, and that there is none
pub place_some : (es : List Entry) (k at : ℕ) → place_at es k ≡ Some at → (k < length es) × (at ≡ place_of es k)
unfolding numbered
place_some [] k at h = let z : ◌≡◌ {A = ℕ} 0 1 = cc in absurd (omega arith)
place_some (e ∷ es) zero at h = (omega arith, cc)
place_some (e ∷ es) (suc k) at h = let rest = place_some es k at h in (omega (arith, rest.0), rest.1)

pub place_none : (es : List Entry) (k : ℕ) → place_at es k ≡ None → length es ≤ k
unfolding numbered
place_none [] k h = omega arith
place_none (e ∷ es) zero h = let z : ◌≡◌ {A = ℕ} 0 1 = cc in absurd (omega arith)
place_none (e ∷ es) (suc k) h = let rest = place_none es k h in omega (arith, rest)

-- of blocks that fill bytes, it stands at its place and ends inside
pub record Stands (s : List ℕ) (at to : ℕ) (es : List Entry) (k : ℕ) : Type 0 where
  pub entry : numbered es k ≡ Some (entry_at s (place_of es k))
  pub low : at ≤ place_of es k
  pub ends : next_at s (place_of es k) ≤ to

pub stands : (s : List ℕ) (es : List Entry) (at to k : ℕ) → Fill s at to es → k < length es → Stands s at to es k
unfolding numbered entry_at
stands s [] at to k f h = absurd (omega arith)
stands s (e ∷ es) at to zero f h =
    let up = fill_up s es (next_at s at) to f.1 in
    rw f.0 (record { entry = refl; low = omega arith; ends = up })
stands s (e ∷ es) at to (suc k) f h =
    let rest = stands s es (next_at s at) to k f.1 (omega arith) in
    let low = rest.low in
    record { entry = rest.entry; low = omega arith; ends = rest.ends }

-- the blocks of a packet fill its bytes from 8 to the end
pub packet_fill : (s : List ℕ) (sender : ℕ) (es : List Entry) → packet_of s ≡ good sender es → Fill s first_block (length s) es
packet_fill s sender es p =
    let m = (packet_exactly Whole s sender es).0 p in
    rw (← whole_length s sender m.size m.header) m.fill

pub packet_frames : (s : List ℕ) (sender : ℕ) (es : List Entry) → packet_of s ≡ good sender es → frames_of s ≡ whole es
packet_frames s sender es p = full s es first_block (length s) (packet_fill s sender es p)

-- with bytes below 256, no packet is longer than the largest length field says
pub packet_short_lem : (s : List ℕ) (sender : ℕ) (es : List Entry) → packet_of s ≡ good sender es → get_or s 2 0 < 256 → get_or s 3 0 < 256 → length s ≤ 262144
unfolding be16
packet_short_lem s sender es p a b =
    let m = (packet_exactly Whole s sender es).0 p in
    let size = (head_facts Whole s sender m.size m.header).field in
    let long = whole_length s sender m.size m.header in
    omega arith
