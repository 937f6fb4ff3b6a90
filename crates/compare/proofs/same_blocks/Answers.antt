-- `compare::same_blocks` meets its contract: what is left of the blocks is the same exactly where all of them is, a word a turn. Assumes nothing.
use Prim.Native.Nat.{◌+◌, ◌≤◌}
use mathlib.Core.Path.{refl, sym, ◌∙◌}
use native.Mathlib.Omega.{arith}
use lib.ListN.{length}
use Rattle.compare.proofs.Same.{same_long, word_on, word_off, same_end}
use Rattle.compare.proofs.same_blocks.Goals as goal

pub returns-then-x-y : goal.returns-then-x-y
returns-then-x-y c = same_long _ _ c.if-x-y.true

pub overflow_sub-last : goal.overflow_sub-last
overflow_sub-last c = let some = c.requires.0.some in omega arith

pub loop-i-init : goal.loop-i-init
loop-i-init c = let some = c.requires.0.some in (omega arith, omega arith, refl, c.if-x-y.false, refl)

pub returns-then-u32_at : goal.returns-then-u32_at
returns-then-u32_at c =
    let within : (c.loop-i.i + 4 ≤ length c.args.x.now) × (c.loop-i.i + 4 ≤ length c.args.y.now) = let w = c.requires.0.size in (omega arith, omega arith) in
    let l = c.loop-i in
    sym (l.invariant.4 ∙ word_off _ _ l.i within.0 within.1 (λ e. c.if-u32_at.true (c.u32_at.ensures ∙ e ∙ sym c.u32_at-in-loop-i.ensures)))

pub loop-i-preserved : goal.loop-i-preserved
loop-i-preserved c =
    let within : (c.loop-i.i + 4 ≤ length c.args.x.now) × (c.loop-i.i + 4 ≤ length c.args.y.now) = let w = c.requires.0.size in (omega arith, omega arith) in
    let l = c.loop-i in
    let inside = within in
    (l.invariant.0, inside.0, omega arith, l.invariant.3, l.invariant.4 ∙ word_on _ _ l.i inside.0 inside.1 (λ j. omega (arith, c.type_inv.x j)) (λ j. omega (arith, c.type_inv.y j)) (sym c.u32_at.ensures ∙ c.if-u32_at.false ∙ c.u32_at-in-loop-i.ensures))

pub returns : goal.returns
returns c =
    let w = c.requires.0.size in
    sym (c.loop-i.invariant.4 ∙ same_end _ _ c.loop-i.i (omega arith) (omega arith))
