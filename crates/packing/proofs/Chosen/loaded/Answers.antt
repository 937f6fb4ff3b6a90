-- `packing::Chosen::loaded` meets its contract: the bytes are the packets in order. Assumes nothing.
use Prim.Native.Nat.{ℕ, ◌+◌, ◌-◌}
use mathlib.Core.Path.{◌≡◌, ap, ◌∙◌}
use native.Mathlib.Omega.{arith}
use lib.ListN.{take, drop}
use lib.Seq.{take_all}
use Rattle.std.proofs.lemmas.List.{length-take}
use Rattle.packing.proofs.Octets.{loaded_is}
use Rattle.packing.proofs.Chosen.loaded.Goals as goal

pub returns : goal.returns
returns c =
    let s = c.args.self.now.trace.now in
    let i = c.args.i in
    let first = rw c.unwrap.ensures at c.first_chunk.ensures.cases in
    let size : i + 8 - i ≡ 8 = omega arith in
    let part = ap (λ (k : ℕ). take 8 (take k (drop i s))) size ∙ take_all 8 (take 8 (drop i s)) (omega (arith, length-take 8 (drop i s))) in
    c.from_le_bytes.ensures ∙ loaded_is s i c.unwrap.result.now (first.same ∙ part)
