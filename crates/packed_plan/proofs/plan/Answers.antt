-- `packed_plan::plan` meets its contract: each return is one of the cases of the byte form. Assumes nothing.
use Prim.Native.Nat.{ℕ}
use mathlib.Core.Path.{◌≡◌, sym, ap, ◌∙◌}
use mathlib.Core.List.{List, ◌++◌}
use lib.ListN.{drop}
use Rattle.settings.specs.Ranges.{limits}
use Rattle.settings.proofs.Bounds.{batch}
use Rattle.batch.specs.Judging.{judged_for}
use Rattle.batch.proofs.Judging.{fit}
use Rattle.resend.specs.Plans.{marks}
use Rattle.resend.specs.Greedy.{plan_of}
use Rattle.resend.specs.Answer.{Plannable}
use Rattle.resend.proofs.Answering.{promised, refused, too_short, planned}
use Rattle.resend.proofs.Same.{same_plan}
use Rattle.packed.specs.Words.{one_in}
use Rattle.packed.specs.Judging.{judged_packed}
use Rattle.packed.proofs.Laws.{accepted_packed}
use Rattle.packed.proofs.Windows.{one_needed}
use Rattle.packed_plan.proofs.plan.Goals as goal
use Rattle.std.proofs.Common.{rules}
use Rattle.std.specs.Prelude.{Ok, Err}
use Rattle.refusal.specs.Answer.{Judged}

pub returns-then-out-packets : goal.returns-then-out-packets
returns-then-out-packets c =
    let taken : judged_for (judged_packed c.args.words.now c.args.packets) c.args.packets c.args.batch c.args.threshold ≡ Ok (tt {0}) = let a = c.args in
    ap (λ (v : Judged). judged_for v a.packets a.batch a.threshold) (sym c.judge.ensures) ∙ sym c.judge_for.ensures
    ∙ c.in_ok-judge_for.was in
    let told = too_short _ _ _ _ _ _ taken c.if-out-packets.true in record { answer = told.0; buffer = told.1.0; best = told.1.1 }

pub fill-requires : goal.fill-requires
fill-requires c = c.if-out-packets.false

pub invariant_of-packed : goal.invariant_of-packed
invariant_of-packed c =
    let taken : judged_for (judged_packed c.args.words.now c.args.packets) c.args.packets c.args.batch c.args.threshold ≡ Ok (tt {0}) = let a = c.args in
    ap (λ (v : Judged). judged_for v a.packets a.batch a.threshold) (sym c.judge.ensures) ∙ sym c.judge_for.ensures
    ∙ c.in_ok-judge_for.was in
    let asked : Plannable (judged_packed c.args.words.now c.args.packets) c.args.packets c.args.batch c.args.threshold c.args.out.now = let f = fit _ _ _ _ taken in record { accepted = f.good; range = f.range; within = f.within; room = c.if-out-packets.false } in
    let a = asked in record { most = (accepted_packed _ _ a.accepted).most; least = (batch limits _ _ a.range).first.least }

pub returns : goal.returns
returns c =
    let taken : judged_for (judged_packed c.args.words.now c.args.packets) c.args.packets c.args.batch c.args.threshold ≡ Ok (tt {0}) = let a = c.args in
    ap (λ (v : Judged). judged_for v a.packets a.batch a.threshold) (sym c.judge.ensures) ∙ sym c.judge_for.ensures
    ∙ c.in_ok-judge_for.was in
    let asked : Plannable (judged_packed c.args.words.now c.args.packets) c.args.packets c.args.batch c.args.threshold c.args.out.now = let f = fit _ _ _ _ taken in record { accepted = f.good; range = f.range; within = f.within; room = c.if-out-packets.false } in
    let a = c.args in
    let room = asked in
    let plan-is = ap (λ (w : List ℕ). plan_of (one_in w) a.batch a.threshold a.packets) c.needed-words.ensures in
    let made = planned _ _ _ _ _ _ _ _ room (c.fill.ensures.count ∙ ap marks plan-is) (c.fill.ensures.buffer ∙ ap (λ (p : List ℕ). p ++ drop a.packets a.out.now) plan-is) in
    let same = same_plan (judged_packed a.words.now a.packets) _ (one_in a.words.now) a.packets a.batch a.threshold a.out.now (one_needed a.words.now a.packets) in let told = promised _ _ _ _ _ _ _ _ (made.0 ∙ same.0) (made.1.0 ∙ same.1) in record { answer = told.0; buffer = told.1.0; best = told.1.1 }

pub returns-in_err-judge_for : goal.returns-in_err-judge_for
returns-in_err-judge_for c =
    let a = c.args in
    let is : c.from_residual.result ≡ Err c.in_err-judge_for.field-0.0 = search rules in
    let told = refused _ _ _ _ _ _ _
    (ap (λ (v : Judged). judged_for v a.packets a.batch a.threshold) (sym c.judge.ensures) ∙ sym c.judge_for.ensures ∙ c.in_err-judge_for.was) in
    record { answer = is ∙ told.0; buffer = told.1.0; best = rw is told.1.1 }
