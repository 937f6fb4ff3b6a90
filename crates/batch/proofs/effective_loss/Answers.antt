-- `batch::effective_loss` meets its contract: an accepted trace is long enough for the batch. Assumes nothing.
use mathlib.Core.Path.{◌≡◌, sym, ◌∙◌}
use native.Mathlib.Omega.{arith}
use lib.ListN.{length}
use Rattle.settings.specs.Ranges.{limits}
use Rattle.settings.proofs.Bounds.{batch}
use Rattle.trace.specs.Trace.{judged}
use Rattle.trace.proofs.Judging.{accepted_trace}
use Rattle.batch.specs.Judging.{judged_for}
use Rattle.batch.proofs.Judging.{fit}
use Rattle.batch.proofs.effective_loss.Goals as goal
use Rattle.std.specs.Prelude.{Ok}

pub loss_of-requires : goal.loss_of-requires
loss_of-requires c =
    let taken : judged_for (judged c.args.trace.now) (length c.args.trace.now) c.args.batch c.args.threshold ≡ Ok (tt {0}) = sym c.judge.ensures ∙ c.in_ok-judge.was in
    let f = fit _ _ _ _ taken in
    let range = batch limits _ _ f.range in
    record { within = f.within; most = (accepted_trace _ f.good).most; low = omega (arith, range.second.most) }
