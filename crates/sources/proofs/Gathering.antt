-- The walk over one packet that gathers its measured sources, as plain lists and numbers: its start, a turn, its end and a
-- block that runs past the end. Assumes nothing.
use Prim.Native.Nat.{ℕ, ◌+◌, ◌*◌, ◌<◌, ◌≤◌}
use mathlib.Core.Path.{◌≡◌, refl, ap, ◌∙◌}
use mathlib.Core.List.{List, [], ◌∷◌, ◌++◌}
use native.Mathlib.Omega.{arith}
use native.Mathlib.Decide.{dec_le, ℕ_discrete}
use borrow.Author.Tests.{le-leb, lt-leb}
use lib.ListN.{length, take, drop, length-set}
use Rattle.sorting.specs.Order.{Sorted, Permuted}
use Rattle.block.specs.Reading.{read_bytes, measures_of}
use Rattle.block.proofs.Reasons.{measures_nothing}
use Rattle.frame.specs.Frames.{whole, past, next_at, entry_at, first_block, frames_of}
use Rattle.frame.proofs.Parting.{FirstPart}
use Rattle.frame.proofs.Filling.{fill_append, full, blocks_past}
use Rattle.packet.specs.Blocks.{read_alone, measured}
use Rattle.packet.specs.Steps.{blocks_of}
use Rattle.packet.proofs.Measuring.{read_at}
use Rattle.verdict.specs.Sources.{member, gathered_count, gathered_table}
use Rattle.verdict.proofs.Members.{gather_grows, grown_measured, front_long, sorted_front}
use Rattle.sources.specs.Tables.{block_bytes}
use Rattle.sources.specs.Steps.{Standing, Settled}
use Rattle.std.specs.Prelude.{Option, Some, None}

-- gathering keeps the table's length, stays inside it, and takes a source from 32 bytes alone
table_long : (m : Option ℕ) (table : List ℕ) (k : ℕ) → length (gathered_table m table k) ≡ length table
table_long None table k = refl
table_long (Some x) table k = go (dec_le (length table) k)
  where
    go : Dec (length table ≤ k) → length (gathered_table (Some x) table k) ≡ length table
    go (yes h) = rw (le-leb (length table) k h)
    go (no h) = rw (lt-leb (length table) k (omega arith)) (length-set table k x)

count_most : (m : Option ℕ) (size k : ℕ) → k ≤ size → (gathered_count m size k ≤ size) × (gathered_count m size k ≤ k + 1)
count_most None size k h = (h, omega arith)
count_most (Some x) size k h = go (dec_le size k)
  where
    go : Dec (size ≤ k) → (gathered_count (Some x) size k ≤ size) × (gathered_count (Some x) size k ≤ k + 1)
    go (yes full) = rw (le-leb size k full) (h, omega arith)
    go (no free) = rw (lt-leb size k (omega arith)) (omega arith, omega arith)

count_room : (bytes : List ℕ) (size k : ℕ) → k ≤ size → block_bytes * gathered_count (measures_of (read_bytes bytes)) size k ≤ block_bytes * k + length bytes
count_room bytes size k h = go (ℕ_discrete (length bytes) block_bytes)
  where
    go : Dec (length bytes ≡ block_bytes) → block_bytes * gathered_count (measures_of (read_bytes bytes)) size k ≤ block_bytes * k + length bytes
    go (yes sized) = let most = (count_most (measures_of (read_bytes bytes)) size k h).1 in omega arith
    go (no other) = rw (← measures_nothing bytes (λ sized type. other sized)) (omega arith)

pub stand_start : (s table : List ℕ) → first_block ≤ length s → Standing s table first_block 0
unfolding member measured
stand_start s table h =
    record {
      passed = [];
      filled = refl;
      inside = h;
      fits = omega arith;
      room = omega arith;
      same = λ enough x. refl;
    }

module _ (s table : List ℕ) (at k : ℕ) (t : Standing s table at k) where
  pub stand_past : at < length s → length s < next_at s at → frames_of s ≡ past at
  stand_past h over =
      (blocks_past s first_block (length s) at).1 (record { blocks = t.passed; filled = t.filled; starts = h; ends = over })

  -- a turn goes on inside the packet
  pub stand_on : (bytes : List ℕ) (rest : List (List ℕ)) → FirstPart s at bytes rest → (r : ℕ) (new : List ℕ) →
      r ≡ gathered_count (measures_of (read_bytes bytes)) (length table) k →
      new ≡ gathered_table (measures_of (read_bytes bytes)) table k → Standing s new (at + length bytes) r
  stand_on bytes rest part r new count-is table_is =
      let fits = part.fits in
      let next = part.long in
      let alone : read_bytes bytes ≡ read_alone (entry_at s at) = ap read_bytes part.is ∙ read_at s at fits in
      let long : length new ≡ length table = ap length table_is ∙ table_long (measures_of (read_bytes bytes)) table k in
      let most = count_most (measures_of (read_bytes bytes)) (length table) k t.fits in
      let room = count_room bytes (length table) k t.fits in
      let before = t.room in
      record {
        passed = t.passed ++ (entry_at s at ∷ []);
        filled = rw next (fill_append s t.passed (entry_at s at ∷ []) first_block at (next_at s at) t.filled (refl, refl));
        inside = omega arith;
        fits = omega arith;
        room = omega arith;
        same = λ enough.
            let enough' : length s ≤ block_bytes * length table = rw (← long) enough in
            grown_measured t.passed (entry_at s at) (read_bytes bytes) table new k r alone
            (gather_grows (measures_of (read_bytes bytes)) table new k r (omega arith) count-is table_is)
            (t.same enough');
      }

  -- at the end, with the sources sorted
  module _ (h : length s ≤ at) where
    ends : frames_of s ≡ whole t.passed
    ends = let inside = t.inside in let e : at ≡ length s = omega arith in full s t.passed first_block (length s) (rw (← e) t.filled)

    pub stand_end : (part : List ℕ) → Sorted part → Permuted (take k table) part → Settled s (part ++ drop k table) k
    stand_end part sorted p =
        let blocks : blocks_of s ≡ t.passed = rw ends in
        let long : length (part ++ drop k table) ≡ length table = front_long table part k t.fits p in
        record {
          whole_blocks = rw ends;
          fits = rw long t.fits;
          sources = λ enough. sorted_front s table part k t.fits sorted p (rw blocks (t.same (rw (← long) enough)));
        }
