-- `packed_plan::clear` meets its contract. Assumes nothing.
use native.Mathlib.Omega.{arith}
use Rattle.packed.specs.Words.{word_bits}
use Rattle.packed_plan.proofs.Strides.{cleared_filled}
use Rattle.packed_plan.proofs.clear.Goals as goal

pub returns : goal.returns
returns c =
    let a = c.args in
    cleared_filled a.out.now a.i word_bits _ _ (omega arith) (omega arith) c.copy_from_slice.ensures.after
