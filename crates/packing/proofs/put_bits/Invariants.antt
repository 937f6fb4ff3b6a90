-- `packing::put_bits` meets its contract. The loop's invariant is `Placing`. Assumes nothing.
use Rattle.packed.specs.Words.{one_at, bytes_of}
use Rattle.packing.proofs.Placing.{Placing}
use Rattle.packing.proofs.put_bits.Given as goal

abbrev pub invariant-loop-j : goal.invariant-loop-j
invariant-loop-j l = Placing (bytes_of (one_at l.word) 0) l.initial.out l.at l.n l.out l.j
