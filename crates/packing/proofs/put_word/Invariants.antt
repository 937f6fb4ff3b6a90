-- `packing::put_word` meets its contract. The loop's invariant is `Placing`, eight packets a turn. Assumes nothing.
use Prim.Native.Nat.{◌*◌}
use Rattle.packed.specs.Words.{word_bits, one_at, bytes_of}
use Rattle.packing.proofs.Placing.{Placing}
use Rattle.packing.proofs.put_word.Given as goal

abbrev pub invariant-loop-j : goal.invariant-loop-j
invariant-loop-j l = Placing (bytes_of (one_at l.word) 0) l.initial.out l.at word_bits l.out (8 * l.j)
