-- `packing::put_packets` meets its contract. The loop's invariant is `Placing`, a word's packets a turn. Assumes nothing.
use Prim.Native.Nat.{◌*◌}
use Rattle.packed.specs.Words.{word_bits, one_in, bytes_of}
use Rattle.packing.proofs.Placing.{Placing}
use Rattle.packing.proofs.put_packets.Given as goal

abbrev pub invariant-loop-k : goal.invariant-loop-k
invariant-loop-k l = Placing (bytes_of (one_in l.words) 0) l.initial.out 0 l.packets l.out (word_bits * l.k)
