-- `resend::plan` meets its contract. Each return is one of the cases of Answering.antt. Assumes nothing.
use mathlib.Core.Path.{◌≡◌, sym, ◌∙◌}
use lib.ListN.{length}
use Rattle.settings.specs.Ranges.{limits}
use Rattle.settings.proofs.Bounds.{batch}
use Rattle.trace.specs.Trace.{judged}
use Rattle.batch.specs.Judging.{judged_for}
use Rattle.batch.proofs.Judging.{fit}
use Rattle.resend.specs.Answer.{Plannable}
use Rattle.resend.proofs.Answering.{refused, too_short, planned}
use Rattle.resend.proofs.plan.Goals as goal
use Rattle.std.specs.Prelude.{Ok, Err}
use Rattle.std.proofs.Common.{rules}

pub returns-then-out-trace : goal.returns-then-out-trace
returns-then-out-trace c =
    let taken : judged_for (judged c.args.trace.now) (length c.args.trace.now) c.args.batch c.args.threshold ≡ Ok (tt {0}) = sym c.judge.ensures ∙ c.in_ok-judge.was in
    let told = too_short _ _ _ _ _ _ taken c.if-out-trace.true in record { answer = told.0; buffer = told.1.0; best = told.1.1 }

pub fill_for-requires : goal.fill_for-requires
fill_for-requires c =
    let taken : judged_for (judged c.args.trace.now) (length c.args.trace.now) c.args.batch c.args.threshold ≡ Ok (tt {0}) = sym c.judge.ensures ∙ c.in_ok-judge.was in
    let asked : Plannable (judged c.args.trace.now) (length c.args.trace.now) c.args.batch c.args.threshold c.args.out.now = let f = fit _ _ _ _ taken in record { accepted = f.good; range = f.range; within = f.within; room = c.if-out-trace.false } in
    ((batch limits _ _ asked.range).first.least, c.if-out-trace.false)

pub returns : goal.returns
returns c =
    let taken : judged_for (judged c.args.trace.now) (length c.args.trace.now) c.args.batch c.args.threshold ≡ Ok (tt {0}) = sym c.judge.ensures ∙ c.in_ok-judge.was in
    let asked : Plannable (judged c.args.trace.now) (length c.args.trace.now) c.args.batch c.args.threshold c.args.out.now = let f = fit _ _ _ _ taken in record { accepted = f.good; range = f.range; within = f.within; room = c.if-out-trace.false } in
    let told = planned _ _ _ _ _ _ _ _ asked c.fill_for.ensures.count c.fill_for.ensures.buffer in record { answer = told.0; buffer = told.1.0; best = told.1.1 }

pub returns-in_err-judge : goal.returns-in_err-judge
returns-in_err-judge c =
    let is : c.from_residual.result ≡ Err c.in_err-judge.field-0.0 = search rules in
    let told = refused _ _ _ _ _ _ _ (sym c.judge.ensures ∙ c.in_err-judge.was) in record { answer = is ∙ told.0; buffer = told.1.0; best = rw is told.1.1 }
