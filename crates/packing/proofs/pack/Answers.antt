-- `packing::pack` meets its contract: each return is one of the cases of Answers.antt. Assumes nothing.
use mathlib.Core.Path.{◌≡◌, sym, ap, ◌∙◌}
use native.Mathlib.Omega.{arith}
use Rattle.trace.specs.Trace.{judged}
use Rattle.trace.proofs.Judging.{accepted_trace}
use Rattle.packing.proofs.Answers.{trace_packets, pack_refused, pack_short, pack_done}
use Rattle.packing.proofs.pack.Goals as goal
use Rattle.std.proofs.Common.{rules}
use Rattle.std.specs.Prelude.{Ok, Err}

pub returns-then-out-n : goal.returns-then-out-n
returns-then-out-n c =
    let accepted : judged c.args.trace.now ≡ Ok (tt {0}) = sym c.judge.ensures ∙ c.in_ok-judge.was in
    let told = pack_short _ _ _ accepted (omega (arith, c.words_for-n.ensures)) in record { answer = told.0; buffer = told.1 }

pub invariant_of-chosen : goal.invariant_of-chosen
invariant_of-chosen c =
    let accepted : judged c.args.trace.now ≡ Ok (tt {0}) = sym c.judge.ensures ∙ c.in_ok-judge.was in
    record { packets = trace_packets _ (accepted_trace _ accepted) }

pub put_words-requires : goal.put_words-requires
put_words-requires c = omega (arith, c.words_for-n.ensures)

pub returns : goal.returns
returns c =
    let accepted : judged c.args.trace.now ≡ Ok (tt {0}) = sym c.judge.ensures ∙ c.in_ok-judge.was in
    let args = c.args in
    let done = pack_done args.event args.trace.now args.out.now accepted (omega arith) in record { answer = ap Ok c.words_for-n.ensures ∙ done.0; buffer = c.put_words.ensures ∙ done.1 }

pub returns-in_err-judge : goal.returns-in_err-judge
returns-in_err-judge c =
    let is : c.from_residual.result ≡ Err c.in_err-judge.field-0.0 = search rules in
    let told = pack_refused _ _ _ _ (sym c.judge.ensures ∙ c.in_err-judge.was) in record { answer = is ∙ told.0; buffer = told.1 }
