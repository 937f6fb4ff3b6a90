-- `batch::Bytes::over_in_stride` meets its contract: the first two returns are settled by what enters and what leaves. Assumes
-- nothing.
use Prim.Native.Nat.{◌+◌, ◌-◌}
use mathlib.Core.Path.{◌≡◌, sym}
use native.Mathlib.Omega.{arith}
use Rattle.batch.specs.Stride.{stride}
use Rattle.batch.proofs.Counting.{at_most}
use Rattle.batch.proofs.Sliding.{under_counted, over_counted}
use Rattle.batch.proofs.Bytes.over_in_stride.Goals as goal

pub overflow_add-from : goal.overflow_add-from
overflow_add-from c = omega (arith, at_most _ _ _ _ c.requires.0.held, at_most _ _ _ _ c.requires.2)

pub returns-then-from-entering : goal.returns-then-from-entering
returns-then-from-entering c = sym (under_counted _ _ _ _ _ (omega arith))

pub overflow_add-batches : goal.overflow_add-batches
overflow_add-batches c = omega (arith, at_most _ _ _ _ c.requires.0.held, at_most _ _ _ _ c.requires.2, at_most _ _ _ _ c.requires.3)

pub returns-then-batches-leaving : goal.returns-then-batches-leaving
returns-then-batches-leaving c = sym (over_counted _ _ _ _ _ (omega arith))

pub returns : goal.returns
returns c =
    let a = c.args in
    let e : a.from.start + stride - a.from.start ≡ stride = omega arith in
    rw e at c.over_between.ensures
