-- `runs::read_out` meets its contract: the block at the place of number index, or why there is none. Assumes nothing.
use Rattle.std.proofs.Common.{◌≡◌, sym, ◌∙◌, arith, Some}
use Rattle.packet.proofs.Chosen.{here_at}
use Rattle.runs.proofs.ReadOut.{read_at}
use Rattle.runs.proofs.read_out.Goals as goal

pub returns : goal.returns
returns c =
    let at : c.in_ok-located.located.at ≡ Some c.in_ok-at.at = grind arith in
    let here = here_at _ _ _ _ (sym c.locate.ensures ∙ c.in_ok-located.was) at in
    let told = read_at _ _ _ _ _ _ here _ c.block_at.ensures.part _ _ (c.read_out_block.ensures.answer, c.read_out_block.ensures.buffer) in record { answer = told.0; buffer = told.1 }
