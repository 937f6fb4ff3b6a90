-- `unroll::put_bits` meets its contract. The loop's invariant is `Filling`. Assumes nothing.
use Rattle.chunk.specs.Chunks.{vector_bits, vector_of}
use Rattle.unroll.proofs.Filling.{Filling}
use Rattle.unroll.proofs.put_bits.Given as goal

abbrev pub invariant-loop-j : goal.invariant-loop-j
invariant-loop-j l = Filling l.initial.out (vector_of vector_bits l.bits) l.out l.j
