-- `trace::judge_within` meets its contract. Each return is one of the cases of Judging.antt. Assumes nothing.
use Rattle.std.proofs.Common.{◌≡◌, true, length}
use mathlib.Core.Path.{sym, ◌∙◌}
use Rattle.trace.specs.Trace.{packets_within}
use Rattle.trace.proofs.Judging.{out_of_range, bad_byte, all_good}
use Rattle.trace.proofs.judge_within.Goals as goal

pub returns-then-not-in_range : goal.returns-then-not-in_range
returns-then-not-in_range c = out_of_range _ _ _ (sym c.in_range.ensures ∙ c.if-not-in_range.true)

pub returns-in-Some : goal.returns-in-Some
returns-in-Some c =
    let range : packets_within c.args.limit (length c.args.trace.now) ≡ true = sym c.in_range.ensures ∙ c.if-not-in_range.false in
    bad_byte _ _ _ range _ (sym c.first_bad.ensures ∙ c.in-Some.is)

pub returns-in-None : goal.returns-in-None
returns-in-None c =
    let range : packets_within c.args.limit (length c.args.trace.now) ≡ true = sym c.in_range.ensures ∙ c.if-not-in_range.false in
    all_good _ _ _ range (sym c.first_bad.ensures ∙ c.in-None.is)
