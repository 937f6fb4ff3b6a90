-- `packed::one_in` meets its contract: the lowest bit of a window. Assumes nothing.
use mathlib.Core.Path.{ap, ◌∙◌}
use Prim.Native.Nat.{ℕ, ◌%◌}
use Rattle.packed.proofs.Numbers.{number_first}
use Rattle.packed.proofs.one_in.Goals as goal

pub returns : goal.returns
returns c = ap (λ (k : ℕ). k % 2) c.window.ensures ∙ (number_first _ _ 63).0
