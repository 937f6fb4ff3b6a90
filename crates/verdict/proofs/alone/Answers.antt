-- `verdict::alone` meets its contract: each arm is a case of OwnBytes.antt. Assumes nothing.
use mathlib.Core.Path.{◌∙◌}
use native.Mathlib.Omega.{arith}
use Rattle.verdict.proofs.OwnBytes.{of_rle, of_measurement, of_loss_lem, of_discard, of_effective, of_streams, of_others, of_few}
use Rattle.verdict.proofs.alone.Goals as goal

pub returns-then-bytes-lt4 : goal.returns-then-bytes-lt4
returns-then-bytes-lt4 c = of_few _ (omega arith)

pub returns-in-1 : goal.returns-in-1
returns-in-1 c = c.rle_verdict.ensures ∙ of_rle _ (omega arith) c.in-1.is

pub returns-in-14 : goal.returns-in-14
returns-in-14 c = c.size_verdict.ensures ∙ of_measurement _ (omega arith) c.in-14.is

pub returns-in-17 : goal.returns-in-17
returns-in-17 c = c.summary_verdict.ensures ∙ of_loss_lem _ (omega arith) c.in-17.is

pub returns-in-18 : goal.returns-in-18
returns-in-18 c = c.summary_verdict-in-18.ensures ∙ of_discard _ (omega arith) c.in-18.is

pub returns-in-240 : goal.returns-in-240
returns-in-240 c = c.size_verdict-in-240.ensures ∙ of_effective _ (omega arith) c.in-240.is

pub returns-in-241 : goal.returns-in-241
returns-in-241 c = c.size_verdict-in-241.ensures ∙ of_streams _ (omega arith) c.in-241.is

pub returns-in_default : goal.returns-in_default
returns-in_default c = let r = c.in_default.in_default-own.rest in of_others _ (omega arith) r.0.0.0.0.0.1 r.0.0.0.0.1 r.0.0.0.1 r.0.0.1 r.0.1 r.1
