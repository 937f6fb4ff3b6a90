-- `chunk::next_part` meets its contract. Assumes nothing.
use native.Mathlib.Omega.{arith}
use Rattle.chunk.proofs.Parts.{step_none, step_one, step_fours}
use Rattle.chunk.proofs.Sweeping.{types_tested, sweeping_few}
use Rattle.chunk.proofs.next_part.Goals as goal

pub returns-then-chunks-i-lt2 : goal.returns-then-chunks-i-lt2
returns-then-chunks-i-lt2 c = step_none c.args.chunks.now c.args.i c.args.left c.args.since (omega arith) (omega arith)

pub returns-then-chunk-lt-VECTOR : goal.returns-then-chunk-lt-VECTOR
returns-then-chunk-lt-VECTOR c = step_one _ _ _ _ _ _ _ c.one_part.ensures (omega arith) (omega arith) c.pair_at-chunk.ensures

pub returns-then-since-lt-ENOUGH : goal.returns-then-since-lt-ENOUGH
returns-then-since-lt-ENOUGH c = step_one _ _ _ _ _ _ _ c.one_part-then-since-lt-ENOUGH.ensures (omega arith) (omega arith) c.pair_at-chunk.ensures

pub returns-then-fours-eq0 : goal.returns-then-fours-eq0
returns-then-fours-eq0 c = step_one _ _ _ _ _ _ _ c.one_part-then-fours-eq0.ensures (omega arith) (omega arith) c.pair_at-chunk.ensures

pub returns-then-swept : goal.returns-then-swept
returns-then-swept c = step_one _ _ _ _ _ _ _ c.one_part-then-swept.ensures (omega arith) (omega arith) c.pair_at-chunk.ensures

pub overflow_sub-result : goal.overflow_sub-result
overflow_sub-result c = sweeping_few _ _ _ _ _ c.sweep-swept.ensures

pub returns : goal.returns
returns c =
    let some = c.if-fours-eq0.false in
    step_fours _ _ _ _ _ _ _ c.sweep-swept.ensures (types_tested _ c.if-swept.false) (omega arith) (omega arith) (omega arith)
