-- What is left of `text::Page::put_decimal`: the digits that `io` promises are those of the definition. Assumes nothing.
use Rattle.std.proofs.Common.{ap, ◌∙◌}
use Rattle.text.specs.Page.{put_in}
use Rattle.text.proofs.Digits.{decimal_is}
use Rattle.text.proofs.Page.put_decimal.Goals as goal

pub returns : goal.returns
returns c = c.put.ensures ∙ ap (put_in _) (c.decimal-k.ensures.digits ∙ decimal_is _ _ c.ranges.n.fits c.decimal-k.ensures.len)
