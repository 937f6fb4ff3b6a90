-- `packed_loss::effective_loss` meets its contract: each return is one of the cases of the byte form. Assumes nothing.
use Prim.Native.Nat.{ℕ}
use mathlib.Core.Path.{◌≡◌, sym, ap, ◌∙◌}
use mathlib.Core.List.{List}
use native.Mathlib.Omega.{arith}
use Rattle.settings.specs.Ranges.{limits}
use Rattle.settings.proofs.Bounds.{batch}
use Rattle.batch.specs.Judging.{judged_for}
use Rattle.batch.specs.Loss.{loss_of}
use Rattle.batch.proofs.Judging.{fit}
use Rattle.batch.proofs.Answering.{refused, measured}
use Rattle.batch.proofs.Same.{same_loss}
use Rattle.packed.specs.Words.{one_in}
use Rattle.packed.specs.Judging.{judged_packed}
use Rattle.packed.proofs.Laws.{accepted_packed}
use Rattle.packed.proofs.Windows.{one_needed}
use Rattle.packed_loss.proofs.effective_loss.Goals as goal
use Rattle.std.proofs.Common.{rules}
use Rattle.std.specs.Prelude.{Ok, Err}
use Rattle.refusal.specs.Answer.{Judged}

pub loss_of-requires : goal.loss_of-requires
loss_of-requires c =
    let taken : judged_for (judged_packed c.args.words.now c.args.packets) c.args.packets c.args.batch c.args.threshold ≡ Ok (tt {0}) = let a = c.args in
    ap (λ (v : Judged). judged_for v a.packets a.batch a.threshold) (sym c.judge.ensures) ∙ sym c.judge_for.ensures
    ∙ c.in_ok-judge_for.was in
    let f = fit _ _ _ _ taken in
    let range = batch limits _ _ f.range in
    record { within = f.within; most = (accepted_packed _ _ f.good).most; low = omega (arith, range.second.most) }

pub invariant_of-loss_of : goal.invariant_of-loss_of
invariant_of-loss_of c =
    let taken : judged_for (judged_packed c.args.words.now c.args.packets) c.args.packets c.args.batch c.args.threshold ≡ Ok (tt {0}) = let a = c.args in
    ap (λ (v : Judged). judged_for v a.packets a.batch a.threshold) (sym c.judge.ensures) ∙ sym c.judge_for.ensures
    ∙ c.in_ok-judge_for.was in
    record { most = (accepted_packed _ _ (fit _ _ _ _ taken).good).most }

pub returns : goal.returns
returns c =
    let taken : judged_for (judged_packed c.args.words.now c.args.packets) c.args.packets c.args.batch c.args.threshold ≡ Ok (tt {0}) = let a = c.args in
    ap (λ (v : Judged). judged_for v a.packets a.batch a.threshold) (sym c.judge.ensures) ∙ sym c.judge_for.ensures
    ∙ c.in_ok-judge_for.was in
    let a = c.args in
    let lost = ap (λ (w : List ℕ). loss_of (one_in w) a.packets a.batch a.threshold) c.needed-words.ensures in
    measured _ _ _ _ _ _ taken (c.loss_of.ensures ∙ lost)
    ∙ same_loss _ _ _ _ _ _ (one_needed a.words.now a.packets)

pub returns-in_err-judge_for : goal.returns-in_err-judge_for
returns-in_err-judge_for c =
    let a = c.args in
    let is : c.from_residual.result ≡ Err c.in_err-judge_for.field-0.0 = search rules in
    is
    ∙ refused _ _ _ _ _ _
    (ap (λ (v : Judged). judged_for v a.packets a.batch a.threshold) (sym c.judge.ensures) ∙ sym c.judge_for.ensures ∙ c.in_err-judge_for.was)
