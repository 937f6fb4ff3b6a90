-- `compare::list` meets its contract: the senders, then the walk of Walking.antt. Assumes nothing.
use Prim.Native.Nat.{◌<◌}
use mathlib.Core.Path.{◌∙◌}
use mathlib.Core.Logic.{◌⊎◌}
use native.Mathlib.Omega.{arith}
use lib.ListN.{length}
use Rattle.wire.specs.BigEndian.{u32_at}
use Rattle.difference.specs.Differences.{senders, where_unequal}
use Rattle.difference.specs.Numbers.{Adds}
use Rattle.difference.proofs.Writing.{adds_length}
use Rattle.compare.proofs.Walking.{Within, walk_start, walk_all, walk_few, walk_steps, walk_end, walk_on, walk_blocks, walk_within, goes_on, ended}
use Rattle.compare.proofs.list.Goals as goal

pub loop-at-init : goal.loop-at-init
loop-at-init c =
    let sent : Adds (where_unequal (u32_at c.args.first.now 4) (u32_at c.args.second.now 4) (senders (u32_at c.args.first.now 4) (u32_at c.args.second.now 4))) c.args.out.now c.put_sender-n.new.out 0 c.put_sender-n.result = rw (← c.u32_at.ensures, ← c.u32_at-2.ensures) c.put_sender-n.ensures in
    let ready = c.requires in record { ready = ready; walk = walk_start _ _ _ _ ready _ _ _ sent }

pub overflow_cast-n : goal.overflow_cast-n
overflow_cast-n c = let i = c.loop-at.invariant in omega (arith, walk_few _ _ _ _ i.ready _ _ _ _ _ _ _ i.walk)

pub put_block-n-requires : goal.put_block-n-requires
put_block-n-requires c =
    let i = c.loop-at.invariant in
    walk_blocks _ _ _ _ i.ready _ _ _ _ _ _ _ i.walk _ _ c.block_at-x.ensures.part c.block_at-y.ensures.part

pub overflow_add-at : goal.overflow_add-at
overflow_add-at c =
    let more : (c.loop-at.at < length c.args.first.now) ⊎ (c.loop-at.bt < length c.args.second.now) = goes_on _ _ _ _ c.loop-at-test.true in
    let within : Within c.args.first.now c.args.second.now c.loop-at.at c.loop-at.bt c.block_at-x.result.now c.block_at-y.result.now = let i = c.loop-at.invariant in walk_within _ _ _ _ i.ready _ _ _ _ _ _ _ i.walk _ _ c.block_at-x.ensures.part c.block_at-y.ensures.part more in
    omega (arith, within, c.type_inv.first 0)

pub overflow_add-bt : goal.overflow_add-bt
overflow_add-bt c =
    let more : (c.loop-at.at < length c.args.first.now) ⊎ (c.loop-at.bt < length c.args.second.now) = goes_on _ _ _ _ c.loop-at-test.true in
    let within : Within c.args.first.now c.args.second.now c.loop-at.at c.loop-at.bt c.block_at-x.result.now c.block_at-y.result.now = let i = c.loop-at.invariant in walk_within _ _ _ _ i.ready _ _ _ _ _ _ _ i.walk _ _ c.block_at-x.ensures.part c.block_at-y.ensures.part more in
    omega (arith, within, c.type_inv.second 0)

pub overflow_add-k : goal.overflow_add-k
overflow_add-k c = let i = c.loop-at.invariant in omega (arith, walk_steps _ _ _ _ i.ready _ _ _ _ _ _ _ i.walk)

pub loop-at-smaller : goal.loop-at-smaller
loop-at-smaller c =
    let more : (c.loop-at.at < length c.args.first.now) ⊎ (c.loop-at.bt < length c.args.second.now) = goes_on _ _ _ _ c.loop-at-test.true in
    let within : Within c.args.first.now c.args.second.now c.loop-at.at c.loop-at.bt c.block_at-x.result.now c.block_at-y.result.now = let i = c.loop-at.invariant in walk_within _ _ _ _ i.ready _ _ _ _ _ _ _ i.walk _ _ c.block_at-x.ensures.part c.block_at-y.ensures.part more in
    omega (arith, within)

pub loop-at-preserved : goal.loop-at-preserved
loop-at-preserved c =
    let more : (c.loop-at.at < length c.args.first.now) ⊎ (c.loop-at.bt < length c.args.second.now) = goes_on _ _ _ _ c.loop-at-test.true in
    let i = c.loop-at.invariant in
    record { ready = i.ready; walk = walk_on _ _ _ _ i.ready _ _ _ _ _ _ _ i.walk _ _ c.block_at-x.ensures.part c.block_at-y.ensures.part _ _ c.put_block-n.ensures more }

pub shape_of-out : goal.shape_of-out
shape_of-out c =
    let sent : Adds (where_unequal (u32_at c.args.first.now 4) (u32_at c.args.second.now 4) (senders (u32_at c.args.first.now 4) (u32_at c.args.second.now 4))) c.args.out.now c.put_sender-n.new.out 0 c.put_sender-n.result = rw (← c.u32_at.ensures, ← c.u32_at-2.ensures) c.put_sender-n.ensures in
    adds_length _ _ _ _ _ c.loop-at.invariant.walk.adds ∙ adds_length _ _ _ _ _ sent

pub returns : goal.returns
returns c =
    let sent : Adds (where_unequal (u32_at c.args.first.now 4) (u32_at c.args.second.now 4) (senders (u32_at c.args.first.now 4) (u32_at c.args.second.now 4))) c.args.out.now c.put_sender-n.new.out 0 c.put_sender-n.result = rw (← c.u32_at.ensures, ← c.u32_at-2.ensures) c.put_sender-n.ensures in
    let i = c.loop-at.invariant in
    let past = ended _ _ _ _ c.loop-at-test.false in
    walk_all _ _ _ _ i.ready _ _ _ _ _ sent (walk_end _ _ _ _ i.ready _ _ _ _ _ _ _ i.walk past.0 past.1)
