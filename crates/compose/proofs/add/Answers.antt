-- `compose::add` meets its contract: judged, then written behind the packet, then its length field. Assumes nothing.
use Rattle.std.proofs.Common.{rules, ◌≡◌, ℕ, length, Err}
use mathlib.Core.Path.{sym, ap, ap₂, ◌∙◌}
use native.Mathlib.Omega.{arith}
use Rattle.refusal.specs.Answer.{Judged}
use Rattle.encode.specs.Words.{words_of}
use Rattle.compose.specs.Writing.{append_answer, add_answer}
use Rattle.compose.proofs.Adding.{Fit, fit, not_added, added}
use Rattle.compose.proofs.add.Goals as goal

pub overflow_sub-size : goal.overflow_sub-size
overflow_sub-size c =
    let fits : Fit c.args.out.now c.judge_block.result (length c.as_slice-count.result.now) c.in_ok-size.size = fit _ _ _ _ (sym c.judge_append.ensures ∙ c.in_ok-size.was) in
    omega (arith, fits.is)

pub overflow_sub-size-2 : goal.overflow_sub-size-2
overflow_sub-size-2 c =
    let fits : Fit c.args.out.now c.judge_block.result (length c.as_slice-count.result.now) c.in_ok-size.size = fit _ _ _ _ (sym c.judge_append.ensures ∙ c.in_ok-size.was) in
    omega (arith, fits.is)

pub overflow_cast-size : goal.overflow_cast-size
overflow_cast-size c =
    let fits : Fit c.args.out.now c.judge_block.result (length c.as_slice-count.result.now) c.in_ok-size.size = fit _ _ _ _ (sym c.judge_append.ensures ∙ c.in_ok-size.was) in
    omega (arith, fits.is, fits.few)

pub returns : goal.returns
returns c =
    let counted : length c.as_slice-count.result.now ≡ length (words_of c.args.b) = ap length (c.as_slice-count.ensures ∙ c.words-words.ensures) in
    let answer : add_answer c.args.out.now c.args.b ≡ c.judge_append.result = sym (c.judge_append.ensures ∙ ap₂ (λ (own : Judged) (n : ℕ). append_answer c.args.out.now own n) c.judge_block.ensures counted) in
    let fits : Fit c.args.out.now c.judge_block.result (length c.as_slice-count.result.now) c.in_ok-size.size = fit _ _ _ _ (sym c.judge_append.ensures ∙ c.in_ok-size.was) in
    let told = added _ c.args.b _ _ _ _ _ counted fits (answer ∙ c.in_ok-size.was) c.write.ensures c.put_u16.ensures in record { answer = told.0; buffer = told.1 }

pub returns-in_err-size : goal.returns-in_err-size
returns-in_err-size c =
    let counted : length c.as_slice-count.result.now ≡ length (words_of c.args.b) = ap length (c.as_slice-count.ensures ∙ c.words-words.ensures) in
    let answer : add_answer c.args.out.now c.args.b ≡ c.judge_append.result = sym (c.judge_append.ensures ∙ ap₂ (λ (own : Judged) (n : ℕ). append_answer c.args.out.now own n) c.judge_block.ensures counted) in
    let is : c.from_residual.result ≡ Err c.in_err-size.field-0.0 = search rules in
    let told = not_added _ c.args.b _ (answer ∙ c.in_err-size.was) in record { answer = is ∙ told.0; buffer = told.1 }
