-- `packed_plan::Packed::gone` meets its contract. Assumes nothing.
use Prim.Native.Nat.{ℕ, ◌-◌, ◌*◌, ◌%◌, ◌^◌}
use mathlib.Core.Path.{ap, ◌∙◌}
use native.Mathlib.Omega.{arith}
use Rattle.packed.specs.Words.{one_in}
use Rattle.packed_plan.proofs.Leaving.{gone_all, gone_none, gone_some}
use Rattle.packed_plan.proofs.Packed.gone.Goals as goal

pub returns-then-size-i : goal.returns-then-size-i
returns-then-size-i c = c.window.ensures ∙ gone_all _ _ _ (omega arith)

pub returns-then-ahead-ge-WORD : goal.returns-then-ahead-ge-WORD
returns-then-ahead-ge-WORD c = gone_none _ _ _ (omega arith)

pub returns : goal.returns
returns c = let a = c.args in ap (λ (x : ℕ). x * 2 ^ (a.self.now.batches.size - a.i) % 2 ^ 64) c.window-2.ensures ∙ gone_some (one_in a.self.now.words.now) a.self.now.batches.size a.i (omega arith) (omega arith)
