-- `frame::locate` meets its contract: header and walk together, by the cases of Locating.antt. Assumes nothing.
use mathlib.Core.Path.{sym, ap, ◌∙◌}
use Rattle.std.proofs.lemmas.Result.{err_from_is_err_and}
use Rattle.frame.proofs.Locating.{header_refused, walked, placed, placed_is}
use Rattle.frame.proofs.locate.Goals as goal

pub returns : goal.returns
returns c =
    let m = placed_is c.walk.result c.map_err.result c.map_err.ensures.cases in
    walked _ _ _ _ (sym c.read_header.ensures ∙ c.in_ok-header.was) _ (sym c.in_ok-walked.was ∙ m ∙ ap placed c.walk.ensures)

pub returns-in_err-header : goal.returns-in_err-header
returns-in_err-header c =
    let p = err_from_is_err_and c.from_residual.result c.from_residual.ensures.1 in
    rw (p.1, p.2) (header_refused _ _ _ _ (sym c.read_header.ensures ∙ c.in_err-header.was))

pub returns-in_err-walked : goal.returns-in_err-walked
returns-in_err-walked c =
    let p = err_from_is_err_and c.from_residual-in_err-walked.result c.from_residual-in_err-walked.ensures.1 in
    let m = placed_is c.walk.result c.map_err.result c.map_err.ensures.cases in
    rw (p.1, p.2) (walked _ _ _ _ (sym c.read_header.ensures ∙ c.in_ok-header.was) _ (sym c.in_err-walked.was ∙ m ∙ ap placed c.walk.ensures))
