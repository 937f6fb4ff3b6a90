-- `fields::put_counts`: its numbers, put one after the other, are their text. Assumes nothing.
use Rattle.fields.proofs.Pieces.{put_first, put_last}
use Rattle.fields.proofs.put_counts.Goals as goal

pub returns : goal.returns
returns c = simp (put_first, put_last) (cc)
