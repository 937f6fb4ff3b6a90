-- What is left of `text::Page::put_hex`: the digits that `io` promises are those of the definition. Assumes nothing.
use Rattle.std.proofs.Common.{ap, ◌∙◌}
use Rattle.text.specs.Page.{put_in}
use Rattle.text.proofs.Digits.{hex_is}
use Rattle.text.proofs.Page.put_hex.Goals as goal

pub returns : goal.returns
returns c = c.put.ensures ∙ ap (put_in _) (c.hex-k.ensures.digits ∙ hex_is _ _ c.ranges.n.fits c.hex-k.ensures.len)
