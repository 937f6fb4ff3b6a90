-- `frame::block_at` meets its contract: the part from the block to the next, and none where it is not whole. Assumes nothing.
use Prim.Native.Nat.{ℕ, ◌+◌, ◌-◌}
use mathlib.Core.Path.{◌≡◌, refl, sym, ap, ◌∙◌}
use native.Mathlib.Omega.{arith}
use lib.ListN.{take, drop}
use Rattle.frame.specs.Frames.{body_length}
use Rattle.frame.proofs.Blocks.{no_block, one_block}
use Rattle.frame.proofs.block_at.Goals as goal

pub returns-then-s-at : goal.returns-then-s-at
returns-then-s-at c = let b = no_block c.args.s.now c.args.at (omega arith) in record { part = sym b.0; place = (refl, omega (arith, b.1)) }

pub returns-then-s-next : goal.returns-then-s-next
returns-then-s-next c = let b = no_block c.args.s.now c.args.at (omega (arith, c.next_block-next.ensures)) in record { part = sym b.0; place = (refl, omega (arith, b.1)) }

pub returns : goal.returns
returns c =
    let s = c.args.s.now in
    let at = c.args.at in
    let b = one_block s at (omega arith) in
    let size : c.next_block-next.result - at ≡ 4 + body_length s at = omega arith in record { part = ap (λ (n : ℕ). take n (drop at s)) size ∙ sym b.0; place = (refl, omega (arith, b.1)) }
