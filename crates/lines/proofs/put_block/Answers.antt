-- `lines::put_block`: what is put, one after the other, is the line of each kind of block. Assumes nothing.
use Rattle.text.proofs.Joined.{joined_in_page}
use Rattle.lines.proofs.put_block.Goals as goal
use Rattle.lines.proofs.put_block.Goals.{in-Typed, in-Rle, in-Unknown, in-Dropped}

pub returns : goal.returns
returns c =
    elim c.match-read.branch [
      | in-Typed w ↦ rw (w.in-Typed.is, ← joined_in_page, ← joined_in_page) (cc)
      | in-Rle w ↦ rw (w.in-Rle.is, ← joined_in_page, ← joined_in_page) (cc)
      | in-Unknown w ↦ rw (w.in-Unknown.is, ← joined_in_page, ← joined_in_page, ← joined_in_page) (cc)
      | in-Dropped w ↦ rw (w.in-Dropped.is, ← joined_in_page, ← joined_in_page, ← joined_in_page, ← w.from.ensures) (cc)
    ]
