-- Laws of big-endian numbers: inside the bytes `u16_at` and `u32_at` are the numbers that stand there, and both are
-- those of the bytes from there on, which are zeros past the end. Assumes nothing.
use Prim.Native.Nat.{ℕ, ◌+◌, ◌*◌, ◌<◌, ◌≤◌}
use mathlib.Core.Path.{◌≡◌, refl, ◌∙◌}
use mathlib.Core.Bool.{Bool, true, false}
use mathlib.Core.List.{List}
use native.Mathlib.Omega.{arith}
use native.Mathlib.Nat.{add-zero}
use borrow.Author.Tests.{le-leb, lt-leb}
use lib.Dec.{leb}
use lib.ListN.{length, get_or, take, drop, replicate}
use lib.Seq.{get_or-take, get_or-drop}
use Rattle.std.proofs.Common.{w16, w32}
use Rattle.std.specs.Int.{from_be_bytes}
use Rattle.refusal.specs.Answer.{unless}
use Rattle.wire.specs.BigEndian.{be16, be32, u16_at, u32_at, bytes_in}

pub u16_inside : (s : List ℕ) (i : ℕ) → i + 2 ≤ length s → u16_at s i ≡ be16 s i
unfolding u16_at
u16_inside s i h = rw (le-leb (i + 2) (length s) h)

pub u32_inside : (s : List ℕ) (i : ℕ) → i + 4 ≤ length s → u32_at s i ≡ be32 s i
unfolding u32_at
u32_inside s i h = rw (le-leb (i + 4) (length s) h)

-- a number from its bytes
byte : (n : ℕ) (s : List ℕ) (i j : ℕ) → j < n → get_or (take n (drop i s)) j 0 ≡ get_or s (i + j) 0
byte n s i j h = get_or-take n (drop i s) j 0 h ∙ get_or-drop i s j 0

pub u16_in : (s : List ℕ) (i : ℕ) → from_be_bytes w16 (bytes_in 2 s i) ≡ u16_at s i
unfolding bytes_in u16_at be16
u16_in s i = go (leb (i + 2) (length s))
  where
    go : (t : Bool) → from_be_bytes w16 (unless t (replicate 2 0) (take 2 (drop i s))) ≡ unless t 0 (get_or s i 0 * 256 + get_or s (i + 1) 0)
    go false = refl
    go true = rw (byte 2 s i 0 (omega arith), byte 2 s i 1 (omega arith), add-zero i)

pub u32_in : (s : List ℕ) (i : ℕ) → from_be_bytes w32 (bytes_in 4 s i) ≡ u32_at s i
unfolding bytes_in u32_at be32 be16
u32_in s i = go (leb (i + 4) (length s))
  where
    last : i + 2 + 1 ≡ i + 3
    last = omega arith

    go : (t : Bool) → from_be_bytes w32 (unless t (replicate 4 0) (take 4 (drop i s)))
        ≡ unless t 0 ((get_or s i 0 * 256 + get_or s (i + 1) 0) * 65536 + (get_or s (i + 2) 0 * 256 + get_or s (i + 2 + 1) 0))
    go false = refl
    go true =
        rw (byte 4 s i 0 (omega arith), byte 4 s i 1 (omega arith), byte 4 s i 2 (omega arith), byte 4 s i 3 (omega arith), add-zero i, last) (omega arith)

pub bytes_past : (n : ℕ) (s : List ℕ) (i : ℕ) → length s < i + n → replicate n 0 ≡ bytes_in n s i
unfolding bytes_in
bytes_past n s i h = rw (lt-leb (i + n) (length s) h)

-- the same of any number that is zero
pub zeros_past : (n : ℕ) (s : List ℕ) (i zero : ℕ) → zero ≡ 0 → length s < i + n → replicate n zero ≡ bytes_in n s i
zeros_past n s i zero is h = rw is (bytes_past n s i h)

pub bytes_inside : (n : ℕ) (s : List ℕ) (i : ℕ) → i + n ≤ length s → bytes_in n s i ≡ take n (drop i s)
unfolding bytes_in
bytes_inside n s i h = rw (le-leb (i + n) (length s) h)
