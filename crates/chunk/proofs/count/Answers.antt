-- `chunk::count` meets its contract. The loop's invariant is `Counting`. Assumes nothing.
use Prim.Native.Nat.{ℕ}
use mathlib.Core.Path.{◌≡◌, ap}
use lib.ListN.{drop}
use Rattle.chunk.specs.Chunks.{covers, chunks_in}
use mathlib.Core.Path.{sym, ◌∙◌}
use native.Mathlib.Omega.{arith}
use Rattle.chunk.proofs.Counting.{counting_none, counting_bad, counting_more, counting_done}
use Rattle.chunk.proofs.count.Goals as goal

pub loop-left-init : goal.loop-left-init
loop-left-init c = counting_none _ _

pub returns-in_err-part : goal.returns-in_err-part
returns-in_err-part c = c.from_residual.ensures ∙ counting_bad _ _ _ _ _ _ c.loop-left.invariant c.in_err-part.ensures

pub overflow_add-lost : goal.overflow_add-lost
overflow_add-lost c = let few = c.in_ok-part.ensures.taken.few in let inside = c.in_ok-part.ensures.taken.inside in let sum = c.loop-left.invariant.few in omega arith

pub overflow_sub-left : goal.overflow_sub-left
overflow_sub-left c = c.in_ok-part.ensures.taken.inside

pub overflow_add-i : goal.overflow_add-i
overflow_add-i c = let within = c.in_ok-part.ensures.taken.within in omega arith

pub loop-left-smaller : goal.loop-left-smaller
loop-left-smaller c = let within = c.in_ok-part.ensures.taken.within in let some = c.in_ok-part.ensures.some in omega arith

pub loop-left-preserved : goal.loop-left-preserved
loop-left-preserved c = let told = c.in_ok-part.ensures in counting_more _ _ _ _ _ _ c.loop-left.invariant _ _ _ _ told.taken told.row

pub returns-then-not-all_null : goal.returns-then-not-all_null
returns-then-not-all_null c =
    let none : c.loop-left.left ≡ 0 = omega arith in
    let rest = chunks_in (drop c.loop-left.i c.args.chunks.now) in
    counting_bad _ _ _ _ _ _ c.loop-left.invariant (ap (λ (k : ℕ). covers k rest) none ∙ sym c.all_null.ensures ∙ c.if-not-all_null.true)

pub returns : goal.returns
returns c = counting_done _ _ _ _ _ _ c.loop-left.invariant (omega arith) (sym c.all_null.ensures ∙ c.if-not-all_null.false)
