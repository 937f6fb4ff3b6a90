-- The walk that marks the blocks and gathers the measured sources, as plain lists and numbers: its invariant, start,
-- turn and end. Assumes nothing.
use Prim.Native.Nat.{ℕ, suc, ◌+◌, ◌*◌, ◌<◌, ◌≤◌}
use mathlib.Core.Path.{◌≡◌, refl, sym, ap, ◌∙◌}
use mathlib.Core.List.{List, [], ◌∷◌, ◌++◌, append-nil}
use native.Mathlib.Omega.{arith}
use native.Mathlib.Decide.{dec_lt}
use native.Mathlib.Numerals.{add-one}
use lib.ListN.{length, get_or, take, drop, set, length-append, length-set}
use lib.Seq.{take-set-le, drop-set-add, drop-cons, set_at, append_snoc}
use Rattle.frame.specs.Frames.{Entry, whole, next_at, entry_at, block_at, frames_in, first_block}
use Rattle.frame.proofs.Stepping.{first_of, at_end}
use Rattle.frame.proofs.Blocks.{block_next}
use Rattle.block.specs.Reading.{read_bytes, measures_of}
use Rattle.block.specs.declared.BlockRead.{BlockRead}
use Rattle.packet.specs.Blocks.{read_alone, measured, read_among, read_in}
use Rattle.packet.specs.Steps.{blocks_of}
use Rattle.packet.proofs.Measuring.{read_at}
use Rattle.verdict.specs.Verdict.{verdict_of}
use Rattle.verdict.specs.Sources.{member, gathered_count, gathered_table}
use Rattle.verdict.proofs.Members.{gather_grows, grown_measured, later}
use Rattle.survey.specs.Packed.{verdicts, packing, Room, Marked}

pub packing_length : (all es : List Entry) → length (packing all es) ≡ length es
unfolding packing
packing_length all [] = refl
packing_length all (e ∷ es) = ap suc (packing_length all es)

pub packing_snoc : (all es : List Entry) (e : Entry) (rest : List ℕ) →
    packing all (es ++ (e ∷ [])) ++ rest ≡ packing all es ++ (e.place * verdicts + verdict_of (read_in all e)) ∷ rest
unfolding packing
packing_snoc all [] e rest = refl
packing_snoc all (f ∷ es) e rest = rw (packing_snoc all es e rest)

-- The walk stands at `at`: the blocks passed are packed from `count` on, and the first k entries are their sources.
pub record Mark (s old : List ℕ) (count : ℕ) (out : List ℕ) (at i k : ℕ) : Type 0 where
  pub passed : List Entry
  pub left : List Entry
  pub blocks : blocks_of s ≡ passed ++ left
  pub frames : frames_in s at (length s) ≡ whole left
  pub index : i ≡ count + length passed
  pub few : k ≤ length passed
  pub same : (x : ℕ) → member x (take k out) ≡ measured x passed
  pub packed : drop count out ≡ packing [] passed ++ drop i old
  pub long : length out ≡ length old

module _ (s old : List ℕ) (count : ℕ) (room : Room s old count) where
  pub mark_start : Mark s old count old first_block count 0
  unfolding member measured packing
  mark_start =
      record {
        passed = [];
        left = blocks_of s;
        blocks = refl;
        frames = room.whole_blocks;
        index = omega arith;
        few = omega arith;
        same = λ x. refl;
        packed = refl;
        long = refl;
      }

  module _ (out : List ℕ) (at i k : ℕ) (m : Mark s old count out at i k) where
    total : count ≡ length m.passed + length m.left
    total = room.counted ∙ ap length m.blocks ∙ length-append m.passed m.left

    -- a turn has a block at its place, and room for its packed number and its source
    pub mark_fits : at < length s → next_at s at ≤ length s
    mark_fits h = (first_of s at (length s) m.left h m.frames).fits

    pub mark_room : at < length s → (i < 2 * count) × (k < count)
    mark_room h =
        let one = ap length (first_of s at (length s) m.left h m.frames).first in
        let all = total in
        let index = m.index in
        let few = m.few in
        (omega arith, omega arith)

    pub mark_on : (h : at < length s) (bytes : List ℕ) → bytes ≡ block_at s at → (v : ℕ) → v ≡ verdict_of (read_among [] (read_bytes bytes)) → (r : ℕ) (new : List ℕ) →
        r ≡ gathered_count (measures_of (read_bytes bytes)) (length (set out i (at * verdicts + v))) k →
        new ≡ gathered_table (measures_of (read_bytes bytes)) (set out i (at * verdicts + v)) k → Mark s old count new (at + length bytes) (i + 1) r
    unfolding entry_at
    mark_on h bytes b v j r new count-is table_is =
        let alone : read_bytes bytes ≡ read_alone (entry_at s at) = ap read_bytes b ∙ read_at s at (mark_fits h) in
        let is : v ≡ verdict_of (read_in [] (entry_at s at)) = j ∙ ap (λ (a : BlockRead). verdict_of (read_among [] a)) alone in
        let e = block_next s at bytes (mark_fits h) b in
        let first = first_of s at (length s) m.left h m.frames in
        let within = mark_room h in
        let fits = room.fits in
        let few = m.few in
        let index = m.index in
        let long = m.long in
        let grow = gather_grows (measures_of (read_bytes bytes)) (set out i (at * verdicts + v)) new k r (rw length-set (omega arith)) count-is table_is in
        let more = grow.few in
        record {
          passed = m.passed ++ (entry_at s at ∷ []);
          left = first.rest;
          blocks = m.blocks ∙ ap (λ (es : List Entry). m.passed ++ es) first.first ∙ sym (append_snoc m.passed (entry_at s at) first.rest);
          frames = rw e first.after;
          index = ap (λ (n : ℕ). n + 1) index ∙ sym (rw (length-append m.passed (entry_at s at ∷ [])) (omega arith));
          few = rw (length-append m.passed (entry_at s at ∷ [])) (omega arith);
          same =
              grown_measured m.passed (entry_at s at) (read_bytes bytes) (set out i (at * verdicts + v)) new k r alone grow
              (λ x. ap (member x) (take-set-le k out i (at * verdicts + v) (omega arith)) ∙ m.same x);
          packed =
              later (k + 1) count new (set out i (at * verdicts + v)) (omega arith) grow.rest
              ∙ ap (λ (n : ℕ). drop count (set out n (at * verdicts + v))) index
              ∙ drop-set-add count out (length m.passed) (at * verdicts + v)
              ∙ ap (λ (l : List ℕ). set l (length m.passed) (at * verdicts + v)) (m.packed ∙ ap (λ (l : List ℕ). packing [] m.passed ++ l) (drop-cons old i 0 (omega arith)))
              ∙ set_at (packing [] m.passed) (get_or old i 0) (drop (suc i) old) (at * verdicts + v) (length m.passed) (packing_length [] m.passed)
              ∙ ap (λ (n : ℕ). packing [] m.passed ++ (at * verdicts + n) ∷ drop (suc i) old) is
              ∙ sym (packing_snoc [] m.passed (entry_at s at) (drop (suc i) old))
              ∙ ap (λ (n : ℕ). packing [] (m.passed ++ (entry_at s at ∷ [])) ++ drop n old) (sym (add-one i));
          long = grow.long ∙ length-set out i (at * verdicts + v) ∙ long;
        }

    pub mark_end : length s < next_at s at → Marked s old out count k
    mark_end h = go (dec_lt at (length s))
      where
        stop : length s ≤ at → Marked s old out count k
        stop l =
            let none : whole m.left ≡ whole [] = sym m.frames ∙ at_end s at (length s) l in
            let empty : m.left ≡ [] = cc in
            let all : blocks_of s ≡ m.passed = m.blocks ∙ ap (λ (es : List Entry). m.passed ++ es) empty ∙ append-nil m.passed in
            let counted : count ≡ length m.passed = room.counted ∙ ap length all in
            let few = m.few in
            let index = m.index in
            let twice : i ≡ 2 * count = omega arith in
            record {
              few = omega arith;
              same = λ x. m.same x ∙ ap (measured x) (sym all);
              packed = rw all (rw twice at m.packed);
            }

        go : Dec (at < length s) → Marked s old out count k
        go (no past) = stop (omega arith)
        go (yes inside) = let fits = mark_fits inside in absurd (omega arith)
