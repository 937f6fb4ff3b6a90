-- `packet::body_part` meets its contract: from the block's offset plus four to the next block. Assumes nothing.
use mathlib.Core.Path.{◌≡◌, sym, ◌∙◌}
use native.Mathlib.Omega.{arith}
use Rattle.std.proofs.Common.{Some}
use Rattle.frame.proofs.Blocks.{block_next}
use Rattle.packet.proofs.Chosen.{here_at, located_fits, located_part}
use Rattle.packet.proofs.body_part.Goals as goal

pub overflow_add-result : goal.overflow_add-result
overflow_add-result c =
    let at : c.in-Ok-Some.field-0.at ≡ Some c.in-Ok-Some.at = cc in
    let here = here_at _ _ _ _ (sym c.locate.ensures ∙ c.in-Ok-Some.is) at in
    omega (arith, located_fits _ _ _ _ _ here)

pub overflow_sub-result : goal.overflow_sub-result
overflow_sub-result c =
    let at : c.in-Ok-Some.field-0.at ≡ Some c.in-Ok-Some.at = cc in
    let here = here_at _ _ _ _ (sym c.locate.ensures ∙ c.in-Ok-Some.is) at in
    omega (arith, block_next _ _ _ (located_fits _ _ _ _ _ here) c.block_at-bytes.ensures.part)

pub returns : goal.returns
returns c =
    let at : c.in-Ok-Some.field-0.at ≡ Some c.in-Ok-Some.at = cc in
    let here = here_at _ _ _ _ (sym c.locate.ensures ∙ c.in-Ok-Some.is) at in
    located_part _ _ _ _ _ here _ c.block_at-bytes.ensures.part
