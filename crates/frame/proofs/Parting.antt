-- The blocks of a packet as parts of its bytes, one after the other: what the first of them says of the place, and none. Assumes
-- nothing.
use Prim.Native.Nat.{ℕ, zero, suc, ◌+◌, ◌<◌, ◌≤◌}
use mathlib.Core.Path.{◌≡◌, refl, sym, ap, ap₂, ◌∙◌}
use mathlib.Core.List.{List, [], ◌∷◌}
use native.Mathlib.Omega.{arith}
use native.Mathlib.Decide.{dec_le}
use borrow.Author.Tests.{le-leb, lt-leb}
use lib.ListN.{length}
use Rattle.frame.specs.Frames.{next_at, block_at}
use Rattle.frame.specs.Parts.{parts_from, parts_in}
use Rattle.frame.proofs.Blocks.{no_block, block_next}

from_end : (most : ℕ) (s : List ℕ) (at : ℕ) → length s < next_at s at → parts_from most s at ≡ []
unfolding parts_from
from_end zero s at h = refl
from_end (suc most) s at h = rw (lt-leb (next_at s at) (length s) h)

from_next : (most : ℕ) (s : List ℕ) (at : ℕ) → next_at s at ≤ length s → parts_from (suc most) s at ≡ block_at s at ∷ parts_from most s (next_at s at)
unfolding parts_from
from_next most s at h = rw (le-leb (next_at s at) (length s) h)

-- the limit does not matter
from_limit : (m n : ℕ) (s : List ℕ) (at : ℕ) → length s ≤ m + at → length s ≤ n + at → parts_from m s at ≡ parts_from n s at
from_limit zero n s at hm hn = from_end zero s at (omega arith) ∙ sym (from_end n s at (omega arith))
from_limit (suc m) zero s at hm hn = from_end (suc m) s at (omega arith) ∙ sym (from_end zero s at (omega arith))
from_limit (suc m) (suc n) s at hm hn = go (dec_le (next_at s at) (length s)) (from_limit m n s (next_at s at))
  where
    go : Dec (next_at s at ≤ length s) →
        (length s ≤ m + next_at s at → length s ≤ n + next_at s at → parts_from m s (next_at s at) ≡ parts_from n s (next_at s at)) →
        parts_from (suc m) s at ≡ parts_from (suc n) s at
    go (no over) rest = from_end (suc m) s at (omega arith) ∙ sym (from_end (suc n) s at (omega arith))
    go (yes fits) rest = from_next m s at fits ∙ ap (λ (l : List (List ℕ)). block_at s at ∷ l) (rest (omega arith) (omega arith)) ∙ sym (from_next n s at fits)

pub part_end : (s : List ℕ) (at : ℕ) → length s < next_at s at → parts_in s at ≡ []
part_end s at h = from_end (length s) s at h

pub part_next : (s : List ℕ) (at : ℕ) → next_at s at ≤ length s → parts_in s at ≡ block_at s at ∷ parts_in s (next_at s at)
part_next s at h = from_limit (length s) (suc (length s)) s at (omega arith) (omega arith) ∙ from_next (length s) s at h

-- a walk that stands at a place, by the bytes of the block there
module _ (s : List ℕ) (at : ℕ) (bytes : List ℕ) (b : bytes ≡ block_at s at) where
  pub walk_ends : length bytes ≡ 0 → parts_in s at ≡ []
  walk_ends h = go (dec_le (next_at s at) (length s))
    where
      go : Dec (next_at s at ≤ length s) → parts_in s at ≡ []
      go (no over) = part_end s at (omega arith)
      go (yes fits) = absurd (omega (arith, block_next s at bytes fits b))

  pub walk_fits : 0 < length bytes → next_at s at ≤ length s
  walk_fits h = go (dec_le (next_at s at) (length s))
    where
      go : Dec (next_at s at ≤ length s) → next_at s at ≤ length s
      go (yes fits) = fits
      go (no over) = let none = (no_block s at (omega arith)).0 in absurd (omega (arith, ap length (b ∙ none)))

  pub walk_goes : 0 < length bytes → parts_in s at ≡ bytes ∷ parts_in s (at + length bytes)
  walk_goes h =
      let fits = walk_fits h in
      part_next s at fits ∙ ap₂ (λ (x : List ℕ) (n : ℕ). x ∷ parts_in s n) (sym b) (sym (block_next s at bytes fits b))

-- the parts that are left say where the walk stands
pub record FirstPart (s : List ℕ) (at : ℕ) (bytes : List ℕ) (rest : List (List ℕ)) : Type 0 where
  pub fits : next_at s at ≤ length s
  pub is : bytes ≡ block_at s at
  pub long : at + length bytes ≡ next_at s at
  pub after : rest ≡ parts_in s (at + length bytes)

pub first_part : (s : List ℕ) (at : ℕ) (bytes : List ℕ) (rest : List (List ℕ)) → bytes ∷ rest ≡ parts_in s at → FirstPart s at bytes rest
first_part s at bytes rest e = go (dec_le (next_at s at) (length s))
  where
    go : Dec (next_at s at ≤ length s) → FirstPart s at bytes rest
    go (no over) =
        let none : bytes ∷ rest ≡ [] = e ∙ part_end s at (omega arith) in
        let z : ◌≡◌ {A = ℕ} 0 1 = cc in
        absurd (omega arith)
    go (yes fits) =
        let both = e ∙ part_next s at fits in
        let is : bytes ≡ block_at s at = cc in
        let long = block_next s at bytes fits is in
        record { fits = fits; is = is; long = long; after = rw long cc }

pub no_part : (s : List ℕ) (at : ℕ) → parts_in s at ≡ [] → length s < next_at s at
no_part s at e = go (dec_le (next_at s at) (length s))
  where
    go : Dec (next_at s at ≤ length s) → length s < next_at s at
    go (no over) = omega arith
    go (yes fits) =
        let some : block_at s at ∷ parts_in s (next_at s at) ≡ [] = sym (part_next s at fits) ∙ e in
        let z : ◌≡◌ {A = ℕ} 0 1 = cc in
        absurd (omega arith)
