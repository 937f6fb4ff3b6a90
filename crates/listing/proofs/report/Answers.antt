-- What is left of `listing::report`: the table is as the survey says, and the refusal's line ends inside the page.
-- Assumes nothing.
use Rattle.listing.proofs.Walking.{surveyed, still_roomy}
use Rattle.listing.proofs.report.Goals as goal

pub list_blocks-requires : goal.list_blocks-requires
list_blocks-requires g c =
    let told = surveyed _ _ _ _ c.in-Ok.ensures.answer c.list.ensures.buffer in
    (told.listed, told.all, c.requires)

pub send-requires : goal.send-requires
send-requires g c = (still_roomy _ _ _ c.put_refusal.ensures c.requires).inside
