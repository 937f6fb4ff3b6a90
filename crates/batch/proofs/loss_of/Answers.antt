-- `batch::loss_of` meets its contract: K is at most N, so the index fits 16 bits. Assumes nothing.
use Prim.Native.Nat.{◌≤◌}
use mathlib.Core.Path.{◌≡◌, ◌∙◌}
use native.Mathlib.Omega.{arith}
use Rattle.std.proofs.Common.{rules}
use Rattle.batch.specs.Batches.{batches}
use Rattle.batch.specs.Forms.{start_of}
use Rattle.batch.proofs.Answering.{loss_is}
use Rattle.batch.proofs.Counting.{over_most, index_fits}
use Rattle.batch.proofs.loss_of.Goals as goal

pub overflow_mul-result : goal.overflow_mul-result
overflow_mul-result g c =
    let most : c.over_from-over.result ≤ batches (g.F.Form.extent c.args.form.now) c.args.batches.size = rw c.over_from-over.ensures (over_most _ _ _ _) in
    omega (arith, most, c.requires.within, c.requires.most)

pub overflow_cast-result : goal.overflow_cast-result
overflow_cast-result g c =
    let most : c.over_from-over.result ≤ batches (g.F.Form.extent c.args.form.now) c.args.batches.size = rw c.over_from-over.ensures (over_most _ _ _ _) in
    index_fits _ _ _ (omega (arith, most, c.packets.ensures)) (omega arith)

pub returns : goal.returns
returns g c =
    let first : c.map.result ≡ start_of c.first_over-first.result = search rules in
    rw c.packets.ensures (loss_is _ _ _ _ _ _ c.over_from-over.ensures (first ∙ c.first_over-first.ensures.first_is))
