-- `runs::add` meets its contract: judged, then written behind the packet, then its length field. Assumes nothing.
use Rattle.runs.proofs.Storing.{rle_long, not_added, added}
use Rattle.std.proofs.Common.{rules, Err, ◌≡◌, ℕ, ◌+◌, length, sym, ◌∙◌, ap₂, arith}
use Rattle.trace.proofs.Judging.{accepted_within}
use Rattle.compose.specs.Writing.{append_answer}
use Rattle.compose.proofs.Adding.{Fit, fit}
use Rattle.runs.specs.Writing.{rle_words, add_answer}
use Rattle.runs.proofs.add.Goals as goal
use Rattle.refusal.specs.Answer.{Judged}

pub overflow_sub-size : goal.overflow_sub-size
overflow_sub-size c =
    let fits : Fit c.args.out.now c.judge_within-own.result (3 + c.word_count-count.result) c.in_ok-size.size = fit _ _ _ _ (sym c.judge_append.ensures ∙ c.in_ok-size.was) in
    omega (arith, fits.is)

pub write-requires : goal.write-requires
write-requires c =
    let counted : 3 + c.word_count-count.result ≡ length (rle_words c.args.source c.args.begin c.args.trace.now) = let args = c.args in omega (arith, c.word_count-count.ensures, rle_long args.source args.begin args.trace.now) in
    let fits : Fit c.args.out.now c.judge_within-own.result (3 + c.word_count-count.result) c.in_ok-size.size = fit _ _ _ _ (sym c.judge_append.ensures ∙ c.in_ok-size.was) in
    let told = fits in
    let words = counted in
    let is = told.is in
    let room = told.room in
    (omega arith, accepted_within _ _ _ (sym c.judge_within-own.ensures ∙ told.accepted))

pub overflow_sub-size-2 : goal.overflow_sub-size-2
overflow_sub-size-2 c =
    let fits : Fit c.args.out.now c.judge_within-own.result (3 + c.word_count-count.result) c.in_ok-size.size = fit _ _ _ _ (sym c.judge_append.ensures ∙ c.in_ok-size.was) in
    omega (arith, fits.is)

pub overflow_cast-size : goal.overflow_cast-size
overflow_cast-size c =
    let fits : Fit c.args.out.now c.judge_within-own.result (3 + c.word_count-count.result) c.in_ok-size.size = fit _ _ _ _ (sym c.judge_append.ensures ∙ c.in_ok-size.was) in
    omega (arith, fits.is, fits.few)

pub returns : goal.returns
returns c =
    let counted : 3 + c.word_count-count.result ≡ length (rle_words c.args.source c.args.begin c.args.trace.now) = let args = c.args in omega (arith, c.word_count-count.ensures, rle_long args.source args.begin args.trace.now) in
    let answer : add_answer c.args.out.now c.args.source c.args.begin c.args.trace.now ≡ c.judge_append.result = sym (c.judge_append.ensures ∙ ap₂ (λ (own : Judged) (n : ℕ). append_answer c.args.out.now own n) c.judge_within-own.ensures counted) in
    let fits : Fit c.args.out.now c.judge_within-own.result (3 + c.word_count-count.result) c.in_ok-size.size = fit _ _ _ _ (sym c.judge_append.ensures ∙ c.in_ok-size.was) in
    let told = added _ _ _ _ _ _ _ _ _ counted fits (answer ∙ c.in_ok-size.was) c.write.ensures c.put_u16.ensures in record { answer = told.0; buffer = told.1 }

pub returns-in_err-size : goal.returns-in_err-size
returns-in_err-size c =
    let counted : 3 + c.word_count-count.result ≡ length (rle_words c.args.source c.args.begin c.args.trace.now) = let args = c.args in omega (arith, c.word_count-count.ensures, rle_long args.source args.begin args.trace.now) in
    let answer : add_answer c.args.out.now c.args.source c.args.begin c.args.trace.now ≡ c.judge_append.result = sym (c.judge_append.ensures ∙ ap₂ (λ (own : Judged) (n : ℕ). append_answer c.args.out.now own n) c.judge_within-own.ensures counted) in
    let is : c.from_residual.result ≡ Err c.in_err-size.field-0.0 = search rules in
    let told = not_added _ _ _ _ _ (answer ∙ c.in_err-size.was) in record { answer = is ∙ told.0; buffer = told.1 }
