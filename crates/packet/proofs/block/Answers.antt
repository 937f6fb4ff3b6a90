-- `packet::block` meets its contract: the block at the place of number index, judged among all. Assumes nothing.
use mathlib.Core.Path.{◌≡◌, sym, ◌∙◌}
use native.Mathlib.Omega.{arith}
use Rattle.std.proofs.Common.{Some}
use Rattle.frame.proofs.Blocks.{block_next}
use Rattle.packet.proofs.Chosen.{blocks_whole, here_at, located_fits, located_answer}
use Rattle.packet.proofs.block.Goals as goal

pub bounds-bytes-0 : goal.bounds-bytes-0
bounds-bytes-0 c =
    let at : c.in_ok-located.located.at ≡ Some c.in_ok-at.at = grind arith in
    let here = here_at _ _ _ _ (sym c.locate.ensures ∙ c.in_ok-located.was) at in
    omega (arith, block_next _ _ _ (located_fits _ _ _ _ _ here) c.block_at-bytes.ensures.part)

pub judge-requires : goal.judge-requires
judge-requires c =
    let at : c.in_ok-located.located.at ≡ Some c.in_ok-at.at = grind arith in
    let here = here_at _ _ _ _ (sym c.locate.ensures ∙ c.in_ok-located.was) at in
    blocks_whole _ _ here.blocks here.packet

pub returns : goal.returns
returns c =
    let at : c.in_ok-located.located.at ≡ Some c.in_ok-at.at = grind arith in
    let here = here_at _ _ _ _ (sym c.locate.ensures ∙ c.in_ok-located.was) at in
    located_answer _ _ _ _ _ here _ c.block_at-bytes.ensures.part _ _ c.read_bytes.ensures c.judge.ensures
