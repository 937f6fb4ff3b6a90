-- `fields::put_measurement`: its pieces, put one after the other, are its text. Assumes nothing.
use Rattle.fields.specs.Fields.{typed_text}
use Rattle.fields.proofs.Pieces.{put_first, put_last}
use Rattle.fields.proofs.put_measurement.Goals as goal

pub returns : goal.returns
unfolding typed_text
returns c = simp (put_first, put_last) (cc)
