-- Chunks in bytes, from a place on. Assumes nothing.
use Prim.Native.Nat.{ℕ, suc, ◌+◌, ◌<◌, ◌≤◌}
use mathlib.Core.Path.{◌≡◌, refl}
use mathlib.Core.List.{List, [], ◌∷◌}
use native.Mathlib.Omega.{arith}
use lib.ListN.{length, drop, length-drop}
use lib.Seq.{drop-cons}
use Rattle.wire.specs.BigEndian.{be16}
use Rattle.chunk.specs.Chunks.{chunks_in}

pub chunks_next : (s : List ℕ) (i : ℕ) → i + 2 ≤ length s → chunks_in (drop i s) ≡ be16 s i ∷ chunks_in (drop (i + 2) s)
unfolding chunks_in be16
chunks_next s i h =
    let one : i + 1 ≡ suc i = omega arith in
    let two : i + 2 ≡ suc (suc i) = omega arith in
    rw (drop-cons s i 0 (omega arith), drop-cons s (suc i) 0 (omega arith), one, two)

pub chunks_end : (s : List ℕ) (i : ℕ) → length s < i + 2 → chunks_in (drop i s) ≡ []
unfolding chunks_in
chunks_end s i h = go (drop i s) (omega (arith, length-drop i s))
  where
    go : (t : List ℕ) → length t < 2 → chunks_in t ≡ []
    go [] l = refl
    go (x ∷ []) l = refl
    go (x ∷ y ∷ t) l = absurd (omega arith)
