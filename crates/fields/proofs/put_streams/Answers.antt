-- `fields::put_streams`: its pieces, put one after the other, are its text. Assumes nothing.
use Rattle.fields.specs.Fields.{typed_text}
use Rattle.fields.proofs.Pieces.{put_first, put_last}
use Rattle.fields.proofs.put_streams.Goals as goal

pub returns : goal.returns
unfolding typed_text
returns c = rw c.put_counts.ensures (simp (put_first, put_last) (cc))
