-- The cases of reading a type 1. Assumes nothing.
use Rattle.std.proofs.Common.{◌≡◌, ℕ, ◌-◌, ◌%◌, ◌<◌, ◌≤◌, true, List, length, take, drop, ap, ◌∙◌, ap₂, arith, length-drop, take_all, eq-eqb, ne_eqb, le-leb}
use borrow.Author.Tests.{lt-leb}
use Rattle.wire.specs.BigEndian.{u16_at, u32_at}
use Rattle.wire.proofs.Numbers.{u16_inside, u32_inside}
use Rattle.chunk.specs.Chunks.{chunks_in}
use Rattle.chunk.specs.Counting.{count_of}
use Rattle.chunk.proofs.Counting.{lost_most, counted_lost, counted_not}
use Rattle.block.specs.declared.BlockRead.TheVariants.{Rle, Dropped}
use Rattle.block.specs.Types.{rle_head, interval_max}
use Rattle.block.specs.Layouts.{covered, thinning_in, interval_in, chunks_of, rle_in}
use Rattle.block.specs.Reading.{rle_sized, read_rle}
use Rattle.std.specs.Prelude.{Option, Some, None}
use Rattle.block.specs.declared.Reason.TheVariants.{BadSize, BadFlag, BadChunks}

-- the interval, as it is computed from the numbers that were read
pub interval : (body : List ℕ) → rle_head ≤ length body → (begin end n : ℕ) → begin ≡ u16_at body 4 → end ≡ u16_at body 6 → n ≡ covered begin end →
    n ≡ interval_in body
interval body some begin end n b e is =
    is ∙ ap₂ covered (b ∙ u16_inside body 4 (omega arith)) (e ∙ u16_inside body 6 (omega arith))

-- what was counted, in the part behind the first two words
pub counted_behind : (body : List ℕ) (n : ℕ) (r : Option ℕ) → n ≡ interval_in body → r ≡ count_of n (chunks_in (take (length body - rle_head) (drop rle_head body))) →
    r ≡ count_of (interval_in body) (chunks_of body)
counted_behind body n r is told =
    let rest = take_all (length body - rle_head) (drop rle_head body) (rw (length-drop rle_head body) (omega arith)) in
    told ∙ ap₂ count_of is (ap chunks_in rest)

-- no more are lost than the interval has packets
pub fits_half : (n : ℕ) (cs : List ℕ) (k : ℕ) → n ≤ interval_max → count_of n cs ≡ Some k → k < 65536
fits_half n cs k most h = let told = counted_lost n cs k h in omega (arith, lost_most n cs)

module _ (specific : ℕ) (body : List ℕ) where
  pub short : length body < rle_head → Dropped BadSize ≡ read_rle specific body
  unfolding read_rle
  short h = rw (lt-leb rle_head (length body) h)

  pub ragged : rle_head ≤ length body → (length body % 4 ≡ 0 → ⊥) → Dropped BadSize ≡ read_rle specific body
  unfolding read_rle
  ragged some h = rw (le-leb rle_head (length body) some, ne_eqb (length body % 4) 0 h)

  -- of whole words
  module _ (some : rle_head ≤ length body) (whole : length body % 4 ≡ 0) where
    sized : rle_sized body ≡ true
    sized = rw (le-leb rle_head (length body) some, eq-eqb (length body % 4) 0 whole)

    pub thinned : (thinning_in specific ≡ 0 → ⊥) → Dropped BadFlag ≡ read_rle specific body
    unfolding read_rle
    thinned h = rw (sized, ne_eqb (thinning_in specific) 0 h)

    -- and without thinning
    module _ (plain : thinning_in specific ≡ 0) where
      pub too_long : interval_max < interval_in body → Dropped BadChunks ≡ read_rle specific body
      unfolding read_rle
      too_long h = rw (sized, eq-eqb (thinning_in specific) 0 plain, lt-leb (interval_in body) interval_max h)

      -- and of an interval in range
      module _ (fits : interval_in body ≤ interval_max) where
        pub uncovered : count_of (interval_in body) (chunks_of body) ≡ None → Dropped BadChunks ≡ read_rle specific body
        unfolding read_rle
        uncovered h =
            rw (sized, eq-eqb (thinning_in specific) 0 plain, le-leb (interval_in body) interval_max fits, counted_not (interval_in body) (chunks_of body) h)

        pub counted : (source begin end k : ℕ) → source ≡ u32_at body 0 → begin ≡ u16_at body 4 → end ≡ u16_at body 6 →
            count_of (interval_in body) (chunks_of body) ≡ Some k →
            Rle (record { source = source; begin = begin; end = end; lost = k }) ≡ read_rle specific body
        unfolding read_rle rle_in
        counted source begin end k s b e h =
            let told = counted_lost (interval_in body) (chunks_of body) k h in
            rw (sized, eq-eqb (thinning_in specific) 0 plain, le-leb (interval_in body) interval_max fits, told.0, told.1, s, b, e, u32_inside body 0 (omega arith), u16_inside body 4 (omega arith), u16_inside body 6 (omega arith))
