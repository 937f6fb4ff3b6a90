-- `packing::Chosen::last_word` meets its contract. The word has the packets so far. Assumes nothing.
use Prim.Native.Nat.{◌-◌, ◌≤◌}
use mathlib.Core.Path.{◌≡◌}
use lib.ListN.{length}
use Rattle.trace.specs.Trace.{counted_at}
use Rattle.packed.specs.Words.{number_of}
use Rattle.packing.proofs.Chosen.last_word.Given as goal

abbrev pub invariant-loop-j : goal.invariant-loop-j
invariant-loop-j l = (l.j ≤ length l.self.trace.now - l.i) × (l.word ≡ number_of (counted_at l.self.event l.self.trace.now) l.i l.j)
