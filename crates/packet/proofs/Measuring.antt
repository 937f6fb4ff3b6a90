-- A block at its place read by itself, and whether a measurement block stands anywhere: the walk over all. Assumes
-- nothing.
use Prim.Native.Nat.{ℕ, ◌≤◌}
use mathlib.Core.Path.{◌≡◌, ap, ◌∙◌}
use mathlib.Core.Bool.{false}
use mathlib.Core.List.{List, [], ◌∷◌}
use native.Mathlib.Omega.{arith}
use borrow.Author.Tests.{le-leb}
use lib.ListN.{length}
use Rattle.block.specs.Reading.{read_bytes, measures_of}
use Rattle.frame.specs.Frames.{Entry, whole, next_at, entry_at, block_at, frames_in}
use Rattle.frame.specs.Parts.{parts_in}
use Rattle.frame.proofs.Stepping.{first_of, some_left}
use Rattle.frame.proofs.Blocks.{block_bytes_lem}
use Rattle.frame.proofs.Parting.{part_end, part_next}
use Rattle.std.specs.List.{list_any}
use native.Mathlib.Decide.{dec_le}
use Rattle.packet.specs.Blocks.{read_alone, names, measured}

-- the bytes of a block read as its entry
pub read_at : (s : List ℕ) (at : ℕ) → next_at s at ≤ length s → read_bytes (block_at s at) ≡ read_alone (entry_at s at)
unfolding read_bytes read_alone
read_at s at h =
    let b = block_bytes_lem s at h in
    let long = b.long in
    rw (le-leb 4 (length (block_at s at)) (omega arith), b.kind, b.specific, b.body)

-- Whole blocks measure a source where one of their parts does.
pub measured_parts : (s : List ℕ) (source : ℕ) (es : List Entry) (at : ℕ) → frames_in s at (length s) ≡ whole es →
    list_any (λ (bytes : List ℕ). names (measures_of (read_bytes bytes)) source) (parts_in s at) ≡ measured source es
unfolding measured
measured_parts s source [] at w = go (dec_le (next_at s at) (length s))
  where
    go : Dec (next_at s at ≤ length s) → list_any (λ (bytes : List ℕ). names (measures_of (read_bytes bytes)) source) (parts_in s at) ≡ false
    go (no over) = rw (part_end s at (omega arith))
    go (yes fits) =
        let none = (first_of s at (length s) [] (omega arith) w).first in
        let z : ◌≡◌ {A = ℕ} 0 1 = cc in
        absurd (omega arith)
measured_parts s source (e ∷ es) at w =
    let f = first_of s at (length s) (e ∷ es) (some_left s at (length s) (e ∷ es) w (omega arith)) w in
    let here : e ≡ entry_at s at = let both = f.first in cc in
    let rest : f.rest ≡ es = let both = f.first in cc in
    rw (part_next s at f.fits, here, read_at s at f.fits, measured_parts s source es (next_at s at) (f.after ∙ ap whole rest))
