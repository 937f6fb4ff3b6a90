-- `unroll::read_out` meets its contract. The loop's invariant is `ReadingOut`. Assumes nothing.
use Prim.Native.Nat.{min}
use mathlib.Core.Path.{◌≡◌, ◌∙◌}
use native.Mathlib.Omega.{arith}
use lib.ListN.{length}
use Rattle.wire.specs.BigEndian.{be16}
use Rattle.unroll.proofs.ReadingOut.{reading_more, reading_all}
use Rattle.unroll.proofs.read_out.Goals as goal

pub loop-pair-preserved : goal.loop-pair-preserved
unfolding be16
loop-pair-preserved c =
    let held = c.loop-pair.invariant in
    let steps = c.in-Some.ensures.steps in
    let two : length c.in-Some.pair.now ≡ 2 = steps.1.1 ∙ held.0 in
    let chunk : c.from_be_bytes.result ≡ be16 c.in-Some.pair.now 0 = omega (arith, c.from_be_bytes.ensures) in
    (steps.0 ∙ held.0, reading_more _ _ _ _ _ _ held.1 _ _ _ _ _ steps.1.0 two chunk c.put_chunk-at.ensures.answer c.put_chunk-at.ensures.buffer)

pub returns : goal.returns
returns c =
    let args = c.args in
    let held = c.loop-pair.invariant in
    let end : c.min-end.result ≡ min args.packets (length args.out.now) = c.min-end.ensures in
    let told = reading_all _ _ _ _ _ _ held.1 (omega (arith, c.in-None.ensures.steps.1.0, held.0)) in
    record { answer = rw (← end) told.0; buffer = rw (← end) told.1 }
