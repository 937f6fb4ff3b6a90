-- `survey::list` meets its contract: the packet opened, the room tested, then mark, sort, settle and spread. Assumes
-- nothing.
use mathlib.Core.Path.{sym, ap, ◌∙◌}
use mathlib.Core.List.{List, ◌++◌}
use Prim.Native.Nat.{ℕ}
use native.Mathlib.Omega.{arith}
use Rattle.std.proofs.lemmas.Result.{err_from_is_err_and}
use Rattle.frame.specs.declared.Extent.TheVariants.{Whole}
use Rattle.frame.proofs.Numbering.{packet_short_lem}
use Rattle.frame.proofs.Locating.{Here, located, located_bad}
use Rattle.packet.specs.Steps.{blocks_of}
use Rattle.survey.specs.Packed.{packing, Room}
use Rattle.survey.proofs.Listing.{list_refused, list_short, list_room, list_done, marked_fits, past_sorted, sorted_table, spread_all}
use Rattle.survey.proofs.list.Goals as goal

pub returns-then-out-count : goal.returns-then-out-count
returns-then-out-count c =
    let ready : Here Whole c.args.packet.now 0 c.in_ok-located.located.sender c.in_ok-located.located.count c.in_ok-located.located.at = located _ _ 0 _ _ _ (sym c.locate.ensures ∙ c.in_ok-located.was) in
    let told = list_short _ _ _ _ _ ready (omega (arith, c.if-out-count.true)) in record { answer = told.0; buffer = told.1 }

pub mark-k-requires : goal.mark-k-requires
mark-k-requires c =
    let ready : Here Whole c.args.packet.now 0 c.in_ok-located.located.sender c.in_ok-located.located.count c.in_ok-located.located.at = located _ _ 0 _ _ _ (sym c.locate.ensures ∙ c.in_ok-located.was) in
    let room : Room c.args.packet.now c.args.out.now c.in_ok-located.located.count = list_room _ _ _ _ _ ready
    (packet_short_lem _ _ _ ready.packet (omega (arith, c.type_inv.packet 2)) (omega (arith, c.type_inv.packet 3)))
    (omega (arith, c.if-out-count.false)) in
    room

pub slice_bounds-sort-end : goal.slice_bounds-sort-end
slice_bounds-sort-end c =
    let ready : Here Whole c.args.packet.now 0 c.in_ok-located.located.sender c.in_ok-located.located.count c.in_ok-located.located.at = located _ _ 0 _ _ _ (sym c.locate.ensures ∙ c.in_ok-located.was) in
    let room : Room c.args.packet.now c.args.out.now c.in_ok-located.located.count = list_room _ _ _ _ _ ready
    (packet_short_lem _ _ _ ready.packet (omega (arith, c.type_inv.packet 2)) (omega (arith, c.type_inv.packet 3)))
    (omega (arith, c.if-out-count.false)) in
    marked_fits _ _ _ _ _ room c.mark-k.auto.out c.mark-k.ensures

pub settle-requires : goal.settle-requires
settle-requires c =
    let ready : Here Whole c.args.packet.now 0 c.in_ok-located.located.sender c.in_ok-located.located.count c.in_ok-located.located.at = located _ _ 0 _ _ _ (sym c.locate.ensures ∙ c.in_ok-located.was) in
    let room : Room c.args.packet.now c.args.out.now c.in_ok-located.located.count = list_room _ _ _ _ _ ready
    (packet_short_lem _ _ _ ready.packet (omega (arith, c.type_inv.packet 2)) (omega (arith, c.type_inv.packet 3)))
    (omega (arith, c.if-out-count.false)) in
    sorted_table _ _ _ _ _ room c.mark-k.auto.out c.mark-k.ensures _ c.sort.ensures.sorted c.sort.ensures.permuted

pub returns : goal.returns
returns c =
    let ready : Here Whole c.args.packet.now 0 c.in_ok-located.located.sender c.in_ok-located.located.count c.in_ok-located.located.at = located _ _ 0 _ _ _ (sym c.locate.ensures ∙ c.in_ok-located.was) in
    let room : Room c.args.packet.now c.args.out.now c.in_ok-located.located.count = list_room _ _ _ _ _ ready
    (packet_short_lem _ _ _ ready.packet (omega (arith, c.type_inv.packet 2)) (omega (arith, c.type_inv.packet 3)))
    (omega (arith, c.if-out-count.false)) in
    let told = list_done _ _ _ _ _ ready _ room.fits
    (c.spread.ensures ∙ spread_all c.args.packet.now c.args.out.now _ _ room.counted
    (c.settle.ensures ∙ ap (λ (l : List ℕ). packing (blocks_of c.args.packet.now) (blocks_of c.args.packet.now) ++ l)
    (past_sorted _ _ _ _ _ room c.mark-k.auto.out c.mark-k.ensures _ c.sort.ensures.sorted c.sort.ensures.permuted))) in record { answer = told.0; buffer = told.1 }

pub returns-in_err-located : goal.returns-in_err-located
returns-in_err-located c =
    let p = err_from_is_err_and c.from_residual.result c.from_residual.ensures.1 in
    let told = list_refused _ _ _ (located_bad _ _ 0 _ (sym c.locate.ensures ∙ c.in_err-located.was)) in
    rw (p.1, p.2) (record { answer = told.0; buffer = told.1 })
