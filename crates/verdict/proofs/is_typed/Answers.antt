-- `verdict::is_typed` meets its contract: each return is a case of Typed.antt. Assumes nothing.
use Prim.Native.Nat.{ℕ}
use mathlib.Core.Path.{sym, ap, ◌∙◌}
use Rattle.verdict.specs.Sources.{member}
use Rattle.verdict.proofs.Typed.{typed_now, typed_measured, typed_never}
use Rattle.verdict.proofs.is_typed.Goals as goal

pub returns-then-verdict-eq-TYPED : goal.returns-then-verdict-eq-TYPED
returns-then-verdict-eq-TYPED c sorted = typed_now _ _ (sym c.alone-verdict.ensures ∙ c.if-verdict-eq-TYPED.true)

pub returns-then-verdict-ne-UNMEASURED : goal.returns-then-verdict-ne-UNMEASURED
returns-then-verdict-ne-UNMEASURED c sorted = typed_never _ _ (λ z. c.if-verdict-eq-TYPED.false (c.alone-verdict.ensures ∙ z)) (λ w. c.if-verdict-ne-UNMEASURED.true (c.alone-verdict.ensures ∙ w))

pub returns : goal.returns
returns c sorted =
    let table = c.args.table.now in
    c.has.ensures sorted ∙ ap (λ (x : ℕ). member x table) c.u32_at.ensures
    ∙ typed_measured _ table (sym c.alone-verdict.ensures ∙ c.if-verdict-ne-UNMEASURED.false)
