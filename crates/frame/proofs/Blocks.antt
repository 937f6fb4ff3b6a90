-- The block at an offset as a part of the slice: where none stands, where one does, and that its bytes are the first
-- word and the body of the entry there. Assumes nothing.
use Prim.Native.Nat.{ℕ, ◌+◌, ◌<◌, ◌≤◌}
use mathlib.Core.Path.{◌≡◌, ap, ◌∙◌}
use mathlib.Core.List.{List, []}
use native.Mathlib.Omega.{arith}
use borrow.Author.Tests.{le-leb, lt-leb}
use lib.ListN.{length, get_or, take, drop, length-drop}
use lib.Seq.{length-take-le, get_or-take, get_or-drop, drop-drop, drop_at, take-add}
use Rattle.frame.specs.Frames.{body_length, next_at, entry_at, block_at, start_at}
use Rattle.frame.specs.Laws.{BlockAt}

module _ (s : List ℕ) (at : ℕ) where
  pub no_block : length s < next_at s at → (block_at s at ≡ []) × (start_at s at ≡ 0)
  unfolding block_at start_at
  no_block h = let t = lt-leb (next_at s at) (length s) h in (rw t, rw t)

  pub one_block : next_at s at ≤ length s → (block_at s at ≡ take (4 + body_length s at) (drop at s)) × (start_at s at ≡ at)
  unfolding block_at start_at
  one_block h = let t = le-leb (next_at s at) (length s) h in (rw t, rw t)

pub block_bytes_lem : BlockAt
unfolding entry_at
block_bytes_lem s at h =
    rw (one_block s at h).0 (record {
      long = length-take-le n (drop at s) (rw (length-drop at s) (omega arith));
      kind = let here : at + 0 ≡ at = omega arith in byte 0 (omega arith) ∙ ap (λ (i : ℕ). get_or s i 0) here;
      specific = byte 1 (omega arith);
      body = tail;
    })
  where
    n : ℕ
    n = 4 + body_length s at

    byte : (i : ℕ) → i < n → get_or (take n (drop at s)) i 0 ≡ get_or s (at + i) 0
    byte i l = get_or-take n (drop at s) i 0 l ∙ get_or-drop at s i 0

    front : length (take 4 (drop at s)) ≡ 4
    front = length-take-le 4 (drop at s) (rw (length-drop at s) (omega arith))

    tail : drop 4 (take n (drop at s)) ≡ take (body_length s at) (drop (at + 4) s)
    tail =
        ap (drop 4) (take-add 4 (body_length s at) (drop at s))
        ∙ drop_at (take 4 (drop at s)) (take (body_length s at) (drop 4 (drop at s))) 4 front
        ∙ ap (take (body_length s at)) (drop-drop 4 at s)

-- the part that was handed out leads to the next block
pub block_next : (s : List ℕ) (at : ℕ) (bytes : List ℕ) → next_at s at ≤ length s → bytes ≡ block_at s at → at + length bytes ≡ next_at s at
block_next s at bytes h b = omega (arith, ap length b, (block_bytes_lem s at h).long)
