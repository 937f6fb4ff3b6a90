-- `packed_loss::quiet_words` meets its contract: the invariant is `Quiet`. Assumes nothing.
use Prim.Native.Nat.{ℕ}
use mathlib.Core.Path.{◌≡◌, ap, ◌∙◌}
use native.Mathlib.Omega.{arith}
use lib.ListN.{get_or}
use Rattle.packed_loss.proofs.Settling.{quiet_none, quiet_more}
use Rattle.packed_loss.proofs.quiet_words.Goals as goal

pub loop-q-init : goal.loop-q-init
loop-q-init c = quiet_none _ _ (omega arith)

pub loop-q-preserved : goal.loop-q-preserved
loop-q-preserved c =
    let a = c.args in
    let q = c.loop-q.q in
    quiet_more _ _ _ 1 c.loop-q.invariant (omega arith) (λ k l m. let here : k ≡ q = omega arith in ap (λ (j : ℕ). get_or a.w.now j 0) here ∙ omega arith)

pub returns-then-w-q-ne0 : goal.returns-then-w-q-ne0
returns-then-w-q-ne0 c = c.loop-q.invariant

pub returns : goal.returns
returns c =
    let quiet = c.loop-q.invariant in
    record { onward = omega arith; most = omega arith; zero = λ k l m. quiet.zero k l (omega arith) }
