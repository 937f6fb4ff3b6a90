-- `compare::with_tables` meets its contract: a packet refused, or both good with their tables. Assumes nothing.
use mathlib.Core.Logic.{⊎_elim}
use Rattle.std.proofs.lemmas.Result.{err_from_is_err_and}
use Rattle.sources.proofs.Judging.{sources_mean, refused_means}
use Rattle.compare.proofs.Answering.{first_refused, second_refused, ready, still_holds}
use Rattle.compare.proofs.with_tables.Goals as goal

pub slice_bounds-good_packets-end : goal.slice_bounds-good_packets-end
slice_bounds-good_packets-end c =
    let gathered = sources_mean _ _ _ _ _ _ (rw c.in_ok-j.was at c.of_two.ensures) in
    gathered.first_fits

pub slice_bounds-good_packets-end-3 : goal.slice_bounds-good_packets-end-3
slice_bounds-good_packets-end-3 c =
    let gathered = sources_mean _ _ _ _ _ _ (rw c.in_ok-j.was at c.of_two.ensures) in
    gathered.second_fits

pub good_packets-requires : goal.good_packets-requires
good_packets-requires c =
    let gathered = sources_mean _ _ _ _ _ _ (rw c.in_ok-j.was at c.of_two.ensures) in
    ready _ _ _ _ _ _ gathered (still_holds c.args.first.now c.args.table.now c.of_two.new.table c.requires.0 c.of_two.auto.table) (still_holds c.args.second.now c.args.other.now c.of_two.new.other c.requires.1 c.of_two.auto.other)

pub returns-in_err-j : goal.returns-in_err-j
returns-in_err-j c =
    let p = err_from_is_err_and c.from_residual.result c.from_residual.ensures.1 in
    rw (p.1, p.2)
    (⊎_elim (λ q. first_refused _ _ _ _ q) (λ q. second_refused _ _ _ _ _ _ q.first_packet q.second_packet) (refused_means _ _ _ _ _ (rw c.in_err-j.was at c.of_two.ensures)))
