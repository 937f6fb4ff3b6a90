-- Blocks one after the other: the cases of `frames_from`, that its limit does not matter while it is large
-- enough, and what whole blocks have at each place. Assumes nothing.
use Prim.Native.Nat.{ℕ, zero, suc, ◌+◌, ◌<◌, ◌≤◌}
use mathlib.Core.Path.{◌≡◌, refl, sym, ap, ◌∙◌}
use mathlib.Core.List.{List, [], ◌∷◌}
use native.Mathlib.Omega.{arith}
use native.Mathlib.Decide.{dec_lt, dec_le}
use borrow.Author.Tests.{lt-ltb, le-ltb, le-leb, lt-leb}
use lib.ListN.{length}
use Rattle.frame.specs.Frames.{Entry, Frames, whole, past, before, next_at, entry_at, frames_from, frames_in}

-- the cases of `frames_from`
pub frames_end : (most : ℕ) (s : List ℕ) (at to : ℕ) → to ≤ at → frames_from most s at to ≡ whole []
unfolding frames_from
frames_end zero s at to h = refl
frames_end (suc most) s at to h = rw (le-ltb at to h)

pub frames_past : (most : ℕ) (s : List ℕ) (at to : ℕ) → at < to → to < next_at s at → frames_from (suc most) s at to ≡ past at
unfolding frames_from
frames_past most s at to h p = rw (lt-ltb at to h, lt-leb (next_at s at) to p)

pub frames_next : (most : ℕ) (s : List ℕ) (at to : ℕ) → at < to → next_at s at ≤ to →
    frames_from (suc most) s at to ≡ before (entry_at s at) (frames_from most s (next_at s at) to)
unfolding frames_from
frames_next most s at to h p = rw (lt-ltb at to h, le-leb (next_at s at) to p)

-- the limit does not matter
frames_limit : (m n : ℕ) (s : List ℕ) (at to : ℕ) → to ≤ m + at → to ≤ n + at → frames_from m s at to ≡ frames_from n s at to
frames_limit zero n s at to hm hn = frames_end zero s at to (omega arith) ∙ sym (frames_end n s at to (omega arith))
frames_limit (suc m) zero s at to hm hn = frames_end (suc m) s at to (omega arith) ∙ sym (frames_end zero s at to (omega arith))
frames_limit (suc m) (suc n) s at to hm hn = go (dec_lt at to) (dec_le (next_at s at) to) (frames_limit m n s (next_at s at) to)
  where
    go : Dec (at < to) → Dec (next_at s at ≤ to) →
        (to ≤ m + next_at s at → to ≤ n + next_at s at → frames_from m s (next_at s at) to ≡ frames_from n s (next_at s at) to) →
        frames_from (suc m) s at to ≡ frames_from (suc n) s at to
    go (no outside) d rest = frames_end (suc m) s at to (omega arith) ∙ sym (frames_end (suc n) s at to (omega arith))
    go (yes inside) (no over) rest = frames_past m s at to inside (omega arith) ∙ sym (frames_past n s at to inside (omega arith))
    go (yes inside) (yes fits) rest =
        frames_next m s at to inside fits ∙ ap (before (entry_at s at)) (rest (omega arith) (omega arith)) ∙ sym (frames_next n s at to inside fits)

-- the blocks from one place are the block there and those from the next
pub at_next : (s : List ℕ) (at to : ℕ) → at < to → next_at s at ≤ to → frames_in s at to ≡ before (entry_at s at) (frames_in s (next_at s at) to)
at_next s at to h p = frames_limit to (suc to) s at to (omega arith) (omega arith) ∙ frames_next to s at to h p

pub at_past : (s : List ℕ) (at to : ℕ) → at < to → to < next_at s at → frames_in s at to ≡ past at
at_past s at to h p = frames_limit to (suc to) s at to (omega arith) (omega arith) ∙ frames_past to s at to h p

pub at_end : (s : List ℕ) (at to : ℕ) → to ≤ at → frames_in s at to ≡ whole []
at_end s at to h = frames_end to s at to h

-- whole blocks from a place inside: the first stands there and fits, and the rest are whole
pub record First (s : List ℕ) (at to : ℕ) (es : List Entry) : Type 0 where
  pub rest : List Entry
  pub fits : next_at s at ≤ to
  pub first : es ≡ entry_at s at ∷ rest
  pub after : frames_in s (next_at s at) to ≡ whole rest

pub first_of : (s : List ℕ) (at to : ℕ) (es : List Entry) → at < to → frames_in s at to ≡ whole es → First s at to es
first_of s at to es h w = go (dec_le (next_at s at) to)
  where
    cons : (frames : Frames) → frames_in s (next_at s at) to ≡ frames → next_at s at ≤ to → before (entry_at s at) frames ≡ whole es → First s at to es
    cons (whole rest) e fits b = record { rest = rest; fits = fits; first = cc; after = e }
    cons (past offset) e fits b = let z : ◌≡◌ {A = ℕ} 0 1 = cc in absurd (omega arith)

    go : Dec (next_at s at ≤ to) → First s at to es
    go (yes fits) = cons (frames_in s (next_at s at) to) refl fits (sym (at_next s at to h fits) ∙ w)
    go (no over) =
        let p : past at ≡ whole es = sym (at_past s at to h (omega arith)) ∙ w in
        let z : ◌≡◌ {A = ℕ} 0 1 = cc in
        absurd (omega arith)

-- whole blocks that are some leave a place inside
pub some_left : (s : List ℕ) (at to : ℕ) (es : List Entry) → frames_in s at to ≡ whole es → 0 < length es → at < to
some_left s at to es w h = go (dec_lt at to)
  where
    go : Dec (at < to) → at < to
    go (yes l) = l
    go (no l) =
        let none : whole es ≡ whole [] = sym w ∙ at_end s at to (omega arith) in
        let nil : es ≡ [] = cc in
        let size = ap length nil in
        absurd (omega arith)
