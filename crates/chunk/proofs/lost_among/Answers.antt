-- `chunk::lost_among` meets its contract: all of a run or none, and of a vector its bits less its ones. Assumes nothing.
use Rattle.chunk.proofs.Vectors.{span_vector, among_lost, among_received, among_vector}
use native.Mathlib.Omega.{arith}
use Rattle.chunk.proofs.lost_among.Goals as goal

pub returns-then-chunk-lt-RUN_OF_RECEIVED : goal.returns-then-chunk-lt-RUN_OF_RECEIVED
returns-then-chunk-lt-RUN_OF_RECEIVED c = (among_lost _ _ (omega arith) (omega arith), omega arith)

pub returns-then-chunk-lt-VECTOR : goal.returns-then-chunk-lt-VECTOR
returns-then-chunk-lt-VECTOR c = (among_received c.args.chunk c.args.n (omega arith) (omega arith), omega arith)

pub overflow_sub-result : goal.overflow_sub-result
overflow_sub-result c = omega (arith, span_vector c.args.chunk (omega arith))

pub overflow_cast-result-2 : goal.overflow_cast-result-2
overflow_cast-result-2 c = omega (arith, among_vector c.args.chunk c.args.n (omega arith) (omega arith))

pub overflow_sub-result-2 : goal.overflow_sub-result-2
overflow_sub-result-2 c = omega (arith, among_vector c.args.chunk c.args.n (omega arith) (omega arith))

pub returns : goal.returns
returns c = let told = among_vector c.args.chunk c.args.n (omega arith) (omega arith) in (omega arith, omega arith)
