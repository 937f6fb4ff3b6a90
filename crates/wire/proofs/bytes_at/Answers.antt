-- `wire::bytes_at` meets its contract: the two tests say whether the bytes lie inside. Assumes nothing.
use Prim.Native.Nat.{ℕ, ◌+◌, ◌-◌}
use mathlib.Core.Path.{◌≡◌, sym, ap, ◌∙◌}
use native.Mathlib.Omega.{arith}
use lib.ListN.{take, drop}
use lib.Seq.{take_all}
use Rattle.std.proofs.lemmas.List.{length-take}
use Rattle.wire.proofs.Numbers.{zeros_past, bytes_inside}
use Rattle.wire.proofs.bytes_at.Goals as goal

pub returns-then-s : goal.returns-then-s
returns-then-s g c = zeros_past _ _ c.args.i _ (grind arith) (grind arith)

pub returns : goal.returns
returns g c =
    let s = c.args.s.now in
    let i = c.args.i in
    let first = rw c.unwrap.ensures at c.first_chunk.ensures.cases in
    let size : i + g.row.N - i ≡ g.row.N = omega arith in
    let part = ap (λ (k : ℕ). take g.row.N (take k (drop i s))) size ∙ take_all g.row.N (take g.row.N (drop i s)) (omega (arith, length-take g.row.N (drop i s))) in
    first.same ∙ part ∙ sym (bytes_inside g.row.N s i (omega arith))
