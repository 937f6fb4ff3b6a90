-- `packing::Chosen::put_words` meets its contract. The loop's invariant is `Placing`, a word a turn. Assumes nothing.
use Prim.Native.Nat.{◌≤◌}
use lib.ListN.{length}
use Rattle.trace.specs.Trace.{counted_at}
use Rattle.packed.specs.Words.{words_for}
use Rattle.packing.specs.Packing.{words_up_to}
use Rattle.packing.proofs.Placing.{Placing}
use Rattle.packing.proofs.Chosen.put_words.Given as goal

abbrev pub invariant-loop-k : goal.invariant-loop-k
invariant-loop-k l = Placing (words_up_to (counted_at l.self.event l.self.trace.now)) l.initial.out 0 (words_for (length l.self.trace.now)) l.out l.k × (l.k ≤ l.whole)
