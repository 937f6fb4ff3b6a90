-- The loop that takes D4 back from the blocks whose source is measured, as plain lists and numbers: its invariant,
-- start, turn and end. Assumes nothing.
use Prim.Native.Nat.{ℕ, ◌+◌, ◌-◌, ◌*◌, ◌/◌, ◌%◌, ◌<◌, ◌≤◌}
use mathlib.Core.Path.{◌≡◌, refl, sym, ap, ◌∙◌}
use mathlib.Core.Bool.{Bool, true, false, ◌&&◌}
use mathlib.Core.List.{List, [], ◌∷◌, ◌++◌, append-nil}
use native.Mathlib.Omega.{arith}
use borrow.Author.Tests.{eqb-true, eqb-false}
use lib.Dec.{eqb}
use lib.ListN.{length, get_or, take, drop, set, length-append, length-set}
use lib.Seq.{take-set-le, take-take, drop-set-add, get_or_at, get_or-drop, set_at, set-get_or, append_snoc}
use Rattle.refusal.proofs.Tests.{and_left, and_right}
use Rattle.wire.specs.BigEndian.{u32_at}
use Rattle.block.specs.Types.{unmeasured}
use Rattle.frame.specs.Frames.{Entry, whole, next_at, entry_at, frames_in, first_block}
use Rattle.frame.proofs.Stepping.{First, first_of, some_left}
use Rattle.packet.specs.Blocks.{measured, read_in}
use Rattle.packet.specs.Steps.{blocks_of}
use Rattle.verdict.specs.Verdict.{verdict_of}
use Rattle.verdict.specs.Sources.{member, Table}
use Rattle.verdict.proofs.Verdict.{verdict_small, settled, found, missed}
use Rattle.survey.specs.Packed.{verdicts, packed_of, packing, Settleable}
use Rattle.survey.proofs.Marking.{packing_length, packing_snoc}

-- one block: what it was packed as, and what it becomes
abbrev pub waits : List ℕ → ℕ → Bool
waits s packed = eqb (packed % verdicts) unmeasured && measured (u32_at s (packed / verdicts + 4)) (blocks_of s)

module _ (s : List ℕ) (at : ℕ) (i : next_at s at ≤ length s) (packed : ℕ) (is : packed ≡ packed_of [] (entry_at s at)) where
  apart : (packed / verdicts ≡ at) × (packed % verdicts ≡ verdict_of (read_in [] (entry_at s at)))
  unfolding entry_at
  apart = let small = verdict_small [] (entry_at s at) in (omega arith, omega arith)

  waiting : eqb (packed % verdicts) unmeasured ≡ true → verdict_of (read_in [] (entry_at s at)) ≡ unmeasured
  waiting t = sym apart.1 ∙ eqb-true (packed % verdicts) unmeasured t

  source : (b : Bool) → measured (u32_at s (packed / verdicts + 4)) (blocks_of s) ≡ b → measured (u32_at s (at + 4)) (blocks_of s) ≡ b
  source b h = ap (λ (n : ℕ). measured (u32_at s (n + 4)) (blocks_of s)) (sym apart.0) ∙ h

  pub taken_back : waits s packed ≡ true → packed - unmeasured ≡ packed_of (blocks_of s) (entry_at s at)
  unfolding entry_at
  taken_back t =
      let w = waiting (and_left (eqb (packed % verdicts) unmeasured) _ t) in
      let f = found s at i w (blocks_of s) (source true (and_right (eqb (packed % verdicts) unmeasured) _ t)) in
      omega arith

  pub left_so : waits s packed ≡ false → packed ≡ packed_of (blocks_of s) (entry_at s at)
  left_so t = is ∙ ap (λ (v : ℕ). (entry_at s at).place * verdicts + v) (go (eqb (packed % verdicts) unmeasured) (measured (u32_at s (packed / verdicts + 4)) (blocks_of s)) refl refl t)
    where
      go : (a b : Bool) → eqb (packed % verdicts) unmeasured ≡ a → measured (u32_at s (packed / verdicts + 4)) (blocks_of s) ≡ b → (a && b) ≡ false →
          verdict_of (read_in [] (entry_at s at)) ≡ verdict_of (read_in (blocks_of s) (entry_at s at))
      go false b e m h = sym (settled (blocks_of s) (entry_at s at) (λ w. eqb-false (packed % verdicts) unmeasured e (apart.1 ∙ w)))
      go true false e m h = waiting e ∙ missed s at i (waiting e) (blocks_of s) (source false m)
      go true true e m h = let z : ◌≡◌ {A = ℕ} 0 1 = cc in absurd (omega arith)

-- The loop: the blocks passed are settled, and those left are as they were.
pub record Settle (s old : List ℕ) (count : ℕ) (out : List ℕ) (i : ℕ) : Type 0 where
  pub at : ℕ
  pub passed : List Entry
  pub left : List Entry
  pub blocks : blocks_of s ≡ passed ++ left
  pub frames : frames_in s at (length s) ≡ whole left
  pub index : i ≡ count + length passed
  pub front : take count out ≡ take count old
  pub packed : drop count out ≡ packing (blocks_of s) passed ++ (packing [] left ++ drop (2 * count) old)
  pub long : length out ≡ length old

module _ (s old : List ℕ) (count k : ℕ) (can : Settleable s old count k) where
  pub settle_start : Settle s old count old count
  unfolding packing
  settle_start =
      record {
        at = first_block;
        passed = [];
        left = blocks_of s;
        blocks = refl;
        frames = can.room.whole_blocks;
        index = omega arith;
        front = refl;
        packed = can.packed;
        long = refl;
      }

  module _ (out : List ℕ) (i : ℕ) (m : Settle s old count out i) where
    -- the table stands in front of the packed blocks
    pub settle_table : Table s out k
    settle_table =
        let fits = can.table.fits in
        let long = m.long in
        let few = can.few in
        let same : take k out ≡ take k old = sym (take-take k count out few) ∙ ap (take k) m.front ∙ take-take k count old few in
        record { fits = omega arith; sorted = rw same can.table.sorted; same = λ x. ap (member x) same ∙ can.table.same x }

    total : count ≡ length m.passed + length m.left
    total = can.room.counted ∙ ap length m.blocks ∙ length-append m.passed m.left

    starts : i < 2 * count → m.at < length s
    starts h =
        let all = total in
        let index = m.index in
        some_left s m.at (length s) m.left m.frames (omega arith)

    first : i < 2 * count → First s m.at (length s) m.left
    first h = first_of s m.at (length s) m.left (starts h) m.frames

    settle_fits : i < 2 * count → next_at s m.at ≤ length s
    settle_fits h = (first h).fits

    -- the packed blocks, with the one that is looked at
    shown : (h : i < 2 * count) →
        drop count out ≡ packing (blocks_of s) m.passed ++ packed_of [] (entry_at s m.at) ∷ (packing [] (first h).rest ++ drop (2 * count) old)
    unfolding packing
    shown h = m.packed ∙ ap (λ (es : List Entry). packing (blocks_of s) m.passed ++ (packing [] es ++ drop (2 * count) old)) (first h).first

    pub settle_read : i < 2 * count → get_or out i 0 ≡ packed_of [] (entry_at s m.at)
    settle_read h =
        ap (λ (n : ℕ). get_or out n 0) m.index ∙ sym (get_or-drop count out (length m.passed) 0) ∙ ap (λ (l : List ℕ). get_or l (length m.passed) 0) (shown h)
        ∙ get_or_at (packing (blocks_of s) m.passed) _ _ 0 (length m.passed) (packing_length (blocks_of s) m.passed)

    pub settle_on : (h : i < 2 * count) (new : List ℕ) → new ≡ set out i (packed_of (blocks_of s) (entry_at s m.at)) → Settle s old count new (i + 1)
    settle_on h new is =
        let index = m.index in
        let p : ℕ = packed_of (blocks_of s) (entry_at s m.at) in
        record {
          at = next_at s m.at;
          passed = m.passed ++ (entry_at s m.at ∷ []);
          left = (first h).rest;
          blocks = m.blocks ∙ ap (λ (es : List Entry). m.passed ++ es) (first h).first ∙ sym (append_snoc m.passed (entry_at s m.at) (first h).rest);
          frames = (first h).after;
          index = ap (λ (n : ℕ). n + 1) index ∙ sym (rw (length-append m.passed (entry_at s m.at ∷ [])) (omega arith));
          front = ap (take count) is ∙ take-set-le count out i p (omega arith) ∙ m.front;
          packed =
              ap (drop count) is ∙ ap (λ (n : ℕ). drop count (set out n p)) index ∙ drop-set-add count out (length m.passed) p
              ∙ ap (λ (l : List ℕ). set l (length m.passed) p) (shown h)
              ∙ set_at (packing (blocks_of s) m.passed) _ _ p (length m.passed) (packing_length (blocks_of s) m.passed)
              ∙ sym (packing_snoc (blocks_of s) m.passed (entry_at s m.at) (packing [] (first h).rest ++ drop (2 * count) old));
          long = ap length is ∙ length-set out i p ∙ m.long;
        }

    -- the two ways through a turn
    pub settle_back : (h : i < 2 * count) → waits s (get_or out i 0) ≡ true → set out i (get_or out i 0 - unmeasured) ≡ set out i (packed_of (blocks_of s) (entry_at s m.at))
    settle_back h t = ap (set out i) (taken_back s m.at (settle_fits h) (get_or out i 0) (settle_read h) t)

    pub settle_left : (h : i < 2 * count) → waits s (get_or out i 0) ≡ false → out ≡ set out i (packed_of (blocks_of s) (entry_at s m.at))
    settle_left h t = sym (set-get_or out i 0) ∙ ap (set out i) (left_so s m.at (settle_fits h) (get_or out i 0) (settle_read h) t)

    -- D4 is there to be taken back
    pub settle_enough : i < 2 * count → waits s (get_or out i 0) ≡ true → unmeasured ≤ get_or out i 0
    settle_enough h t =
        let e = eqb-true (get_or out i 0 % verdicts) unmeasured (and_left (eqb (get_or out i 0 % verdicts) unmeasured) _ t) in
        omega arith

    pub settle_end : 2 * count ≤ i → drop count out ≡ packing (blocks_of s) (blocks_of s) ++ drop (2 * count) old
    unfolding packing
    settle_end h =
        let all = total in
        let index = m.index in
        let empty : m.left ≡ [] = none m.left (omega arith) in
        let passed : blocks_of s ≡ m.passed = m.blocks ∙ ap (λ (es : List Entry). m.passed ++ es) empty ∙ append-nil m.passed in
        m.packed ∙ ap (λ (es : List Entry). packing (blocks_of s) m.passed ++ (packing [] es ++ drop (2 * count) old)) empty
        ∙ ap (λ (es : List Entry). packing (blocks_of s) es ++ drop (2 * count) old) (sym passed)
      where
        none : (es : List Entry) → length es ≡ 0 → es ≡ []
        none [] h = refl
        none (e ∷ es) h = absurd (omega arith)
