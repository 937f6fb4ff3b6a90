-- What is left of `listing::put_line`: the block is there, and what is put is its line. Assumes nothing.
use Rattle.std.proofs.Common.{arith, ap, ◌∙◌}
use Rattle.frame.proofs.Blocks.{block_next}
use Rattle.text.specs.Page.{put_in}
use Rattle.listing.proofs.Walking.{line_text, line_fits, added}
use Rattle.listing.proofs.put_line.Goals as goal

pub bounds-bytes-0 : goal.bounds-bytes-0
bounds-bytes-0 c = omega (arith, block_next _ _ _ c.requires.0 c.block_at-bytes.ensures.part)

pub overflow_sub-bytes : goal.overflow_sub-bytes
overflow_sub-bytes c = omega (arith, block_next _ _ _ c.requires.0 c.block_at-bytes.ensures.part)

pub returns : goal.returns
returns c =
    let text = line_text _ _ c.args.k _ _ _ _ c.requires.0 c.block_at-bytes.ensures.part c.requires.1 c.read_bytes.ensures c.judged-read.ensures in
    added _ _ _ (c.put_block.ensures ∙ ap (put_in _) text) c.requires.2 (line_fits _ _ _)
