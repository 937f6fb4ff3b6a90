-- One more digit of `body::number_in`. The bounds of the digit are left to `omega`, so that no answer names the test.
-- Assumes nothing.
use Rattle.std.proofs.Common.{◌≤◌, ◌∙◌, get_or, arith}
use Rattle.std.proofs.lemmas.Grind.{common_steps}
use Rattle.body.proofs.Digits.{goes_on, grows}
use Rattle.body.proofs.number_in.Goals as goal

pub loop-c-preserved : goal.loop-c-preserved
loop-c-preserved c =
    let low : 48 ≤ get_or c.args.text.now c.loop-c.c-index 0 = grind (arith, common_steps) in
    let high : get_or c.args.text.now c.loop-c.c-index 0 ≤ 57 = grind (arith, common_steps) in
    let on = goes_on c.args.text.now c.loop-c.n c.loop-c.c-index c.loop-c-test.true low high in
    (grows _ _ c.loop-c.c-index c.loop-c.invariant.0 (omega arith), c.loop-c.invariant.1 ∙ on)
