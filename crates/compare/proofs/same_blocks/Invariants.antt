-- `compare::same_blocks` meets its contract: what is left of the blocks is the same exactly where all of them is, a word a turn. Assumes nothing.
use Prim.Native.Nat.{◌+◌, ◌-◌, ◌%◌, ◌≤◌}
use mathlib.Core.Path.{◌≡◌}
use lib.ListN.{length, drop}
use Rattle.compare.specs.Differences.{same_numbers}
use Rattle.compare.proofs.same_blocks.Given as goal

abbrev pub invariant-loop-i : goal.invariant-loop-i
invariant-loop-i l = (l.last + 4 ≡ length l.x) × (l.i ≤ length l.x) × (l.i % 4 ≡ 0) × (length l.x ≡ length l.y) × (same_numbers l.x l.y ≡ same_numbers (drop l.i l.x) (drop l.i l.y))

abbrev pub decreases-loop-i : goal.decreases-loop-i
decreases-loop-i l = length l.x - l.i
