-- `packing::Chosen::word` meets its contract. The word has the octets so far. Assumes nothing.
use Prim.Native.Nat.{◌*◌, ◌≤◌}
use mathlib.Core.Path.{◌≡◌}
use Rattle.trace.specs.Trace.{counted_at}
use Rattle.packed.specs.Words.{number_of}
use Rattle.packing.proofs.Chosen.word.Given as goal

abbrev pub invariant-loop-j : goal.invariant-loop-j
invariant-loop-j l = (l.j ≤ 8) × (l.word ≡ number_of (counted_at l.self.event l.self.trace.now) l.i (8 * l.j))
