-- `compare::packets` meets its contract: tables by the packets' size. Assumes nothing.
use Prim.Native.Nat.{◌≤◌}
use native.Mathlib.Omega.{arith}
use borrow.Author.Tests.{leb-true}
use lib.Dec.{leb}
use lib.ListN.{length}
use Rattle.refusal.proofs.Tests.{and_left, and_right}
use Rattle.compare.proofs.packets.Goals as goal

pub with_tables-requires : goal.with_tables-requires
with_tables-requires c =
    let a = c.args in
    let both = c.if-first-second.true in
    let first : length a.first.now ≤ 2048 = leb-true (length a.first.now) 2048 (and_left (leb (length a.first.now) 2048) (leb (length a.second.now) 2048) both) in
    let second : length a.second.now ≤ 2048 = leb-true (length a.second.now) 2048 (and_right (leb (length a.first.now) 2048) (leb (length a.second.now) 2048) both) in
    let far : length a.first.now ≤ 262144 = omega arith in
    let other-far : length a.second.now ≤ 262144 = omega arith in
    (λ sender es p. (first, far), λ sender es p. (second, other-far))
