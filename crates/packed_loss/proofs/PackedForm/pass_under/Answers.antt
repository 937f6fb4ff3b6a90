-- `packed_loss`'s strides pass by no batch over the threshold. Assumes nothing.
use Rattle.packed_loss.proofs.Settling.{passed}
use Rattle.packed_loss.proofs.PackedForm.pass_under.Goals as goal

pub returns : goal.returns
returns c = passed _ _ _ _ _ _ _ _ _ c.requires.1.held c.requires.2 c.go_on-passed.ensures
