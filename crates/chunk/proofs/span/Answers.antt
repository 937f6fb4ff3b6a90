-- `chunk::span` meets its contract. Assumes nothing.
use native.Mathlib.Omega.{arith}
use lib.Bits.{and_le_r}
use Rattle.chunk.proofs.Vectors.{span_run, span_vector}
use Rattle.chunk.proofs.span.Goals as goal

pub overflow_cast-result : goal.overflow_cast-result
overflow_cast-result c = omega (arith, and_le_r c.args.chunk 16383)

pub returns-then-chunk-lt-VECTOR : goal.returns-then-chunk-lt-VECTOR
returns-then-chunk-lt-VECTOR c = span_run _ (omega arith)

pub returns : goal.returns
returns c = span_vector _ (omega arith)
