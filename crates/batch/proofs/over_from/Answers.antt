-- `batch::over_from` meets its contract: no batch before the first is over. Assumes nothing.
use Prim.Native.Nat.{ℕ, ◌+◌}
use mathlib.Core.Path.{◌≡◌, sym, ap, ◌∙◌}
use native.Mathlib.Omega.{arith}
use Rattle.std.specs.Prelude.{Some}
use Rattle.batch.specs.Batches.{first_over}
use Rattle.batch.specs.Forms.{start_of}
use Rattle.batch.proofs.Counting.{at_most, none_counted, first_within, over_at}
use Rattle.batch.proofs.over_from.Goals as goal

pub over_after-requires : goal.over_after-requires
over_after-requires g c =
    let found = c.requires.1 in
    let first : first_over (g.F.Form.lost c.args.form.now) (g.F.Form.extent c.args.form.now) c.args.batches.size c.args.batches.threshold ≡ Some c.in-Some.at.start =
    sym found.first_is ∙ ap start_of c.in-Some.is
    in
    (c.requires.0, record { within = omega (arith, c.requires.0.within, first_within _ _ _ _ _ first); held = found.held _ c.in-Some.is })

pub overflow_add-result : goal.overflow_add-result
overflow_add-result g c = omega (arith, at_most _ _ _ _ c.over_after.ensures, c.requires.0.most)

pub returns-in-Some : goal.returns-in-Some
returns-in-Some g c =
    let first : first_over (g.F.Form.lost c.args.form.now) (g.F.Form.extent c.args.form.now) c.args.batches.size c.args.batches.threshold ≡ Some c.in-Some.at.start =
    sym c.requires.1.first_is ∙ ap start_of c.in-Some.is
    in
    ap (λ (n : ℕ). 1 + n) c.over_after.ensures ∙ over_at _ _ _ _ _ first

pub returns-in-None : goal.returns-in-None
returns-in-None g c = sym (none_counted _ _ _ _ (sym c.requires.1.first_is ∙ ap start_of c.in-None.is))
