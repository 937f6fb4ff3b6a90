-- What is left of `text::Page::put`: the page of the definition, where nothing fits and where something does. Assumes nothing.
use Rattle.text.proofs.Room.{put_none, put_some}
use Rattle.text.proofs.Page.put.Goals as goal

pub returns-then-bytes-self : goal.returns-then-bytes-self
returns-then-bytes-self c = put_none _ _ c.if-bytes-self.true

pub returns : goal.returns
returns c = put_some _ _ _ _ c.min-n.ensures c.copy_from_slice.ensures.after
