-- `packing::unpack` meets its contract: each return is one of the cases of Answers.antt. Assumes nothing.
use mathlib.Core.Path.{◌≡◌, sym, ◌∙◌}
use native.Mathlib.Omega.{arith}
use Rattle.packed.specs.Judging.{judged_packed}
use Rattle.packed.proofs.Laws.{accepted_packed}
use Rattle.packing.proofs.Answers.{unpack_refused, unpack_short, unpack_done}
use Rattle.packing.proofs.unpack.Goals as goal
use Rattle.std.proofs.Common.{rules}
use Rattle.std.specs.Prelude.{Ok, Err}

pub returns-then-out-packets : goal.returns-then-out-packets
returns-then-out-packets c =
    let accepted : judged_packed c.args.words.now c.args.packets ≡ Ok (tt {0}) = sym c.judge.ensures ∙ c.in_ok-judge.was in
    let told = unpack_short _ _ _ accepted (omega arith) in record { answer = told.0; buffer = told.1 }

pub put_packets-requires : goal.put_packets-requires
put_packets-requires c =
    let accepted : judged_packed c.args.words.now c.args.packets ≡ Ok (tt {0}) = sym c.judge.ensures ∙ c.in_ok-judge.was in
    ((accepted_packed _ _ accepted).enough, omega arith)

pub returns : goal.returns
returns c =
    let accepted : judged_packed c.args.words.now c.args.packets ≡ Ok (tt {0}) = sym c.judge.ensures ∙ c.in_ok-judge.was in
    let args = c.args in
    let done = unpack_done args.words.now args.packets args.out.now accepted (omega arith) in record { answer = done.0; buffer = c.put_packets.ensures ∙ done.1 }

pub returns-in_err-judge : goal.returns-in_err-judge
returns-in_err-judge c =
    let is : c.from_residual.result ≡ Err c.in_err-judge.field-0.0 = search rules in
    let told = unpack_refused _ _ _ _ (sym c.judge.ensures ∙ c.in_err-judge.was) in record { answer = is ∙ told.0; buffer = told.1 }
