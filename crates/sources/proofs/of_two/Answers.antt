-- `sources::of_two` meets its contract: both headers, and where the second's is bad the first packet as a whole; then side by side
-- and each packet to its end, by the cases of Judging.antt. Assumes nothing.
use mathlib.Core.Path.{sym, ◌∙◌}
use Rattle.std.proofs.lemmas.Result.{err_from_is_err_and}
use Rattle.frame.proofs.Locating.{located}
use Rattle.sources.proofs.Judging.{head_refused, headed, headed_room, ended_whole, ended_past, first_bad_lem, first_past_lem, second_bad, second_past, both_good}
use Rattle.sources.proofs.of_two.Goals as goal

pub returns-in-Err : goal.returns-in-Err
returns-in-Err c =
    let here = located _ _ 0 _ _ _ (sym c.locate.ensures ∙ c.in_ok-locate.was) in
    second_bad _ _ _ _ _ _ here.packet _ (head_refused _ _ (sym c.read_header.ensures ∙ c.in-Err.is))

pub returns-in_err-read_header : goal.returns-in_err-read_header
returns-in_err-read_header c =
    let p = err_from_is_err_and c.from_residual-in_err-read_header.result c.from_residual-in_err-read_header.ensures.1 in
    rw (p.1, p.2) (first_bad_lem _ _ _ _ _ (head_refused _ _ (sym c.read_header-2.ensures ∙ c.in_err-read_header.was)))

pub both-requires : goal.both-requires
both-requires c =
    let first = headed _ _ _ c.read_header-2.ensures c.in_ok-read_header.was in
    let second = headed _ _ _ c.read_header.ensures c.in_default.is in
    (headed_room _ first, headed_room _ second)

pub returns-in_err-j : goal.returns-in_err-j
returns-in_err-j c =
    let p = err_from_is_err_and c.from_residual-in_err-j.result c.from_residual-in_err-j.ensures.1 in
    let first = headed _ _ _ c.read_header-2.ensures c.in_ok-read_header.was in
    rw (p.1, p.2) (first_past_lem _ _ _ _ first _ (ended_past _ _ _ _ c.finish.ensures c.in_err-j.was))

pub returns-in_err-k : goal.returns-in_err-k
returns-in_err-k c =
    let p = err_from_is_err_and c.from_residual-in_err-k.result c.from_residual-in_err-k.ensures.1 in
    let first = headed _ _ _ c.read_header-2.ensures c.in_ok-read_header.was in
    let second = headed _ _ _ c.read_header.ensures c.in_default.is in
    let one = ended_whole _ _ _ _ c.finish.ensures c.in_ok-j.was in
    rw (p.1, p.2) (second_past _ _ _ _ first second _ one _ (ended_past _ _ _ _ c.finish-2.ensures c.in_err-k.was))

pub returns : goal.returns
returns c =
    let first = headed _ _ _ c.read_header-2.ensures c.in_ok-read_header.was in
    let second = headed _ _ _ c.read_header.ensures c.in_default.is in
    both_good _ _ _ _ first second _ (ended_whole _ _ _ _ c.finish.ensures c.in_ok-j.was) _ (ended_whole _ _ _ _ c.finish-2.ensures c.in_ok-k.was)
