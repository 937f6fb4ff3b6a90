-- `compare::good_packets` meets its contract: each return is a case of Answering.antt. Assumes nothing.
use mathlib.Core.Path.{refl}
use Rattle.compare.proofs.Answering.{enough, listed, counted, short, room_for}
use Rattle.compare.proofs.good_packets.Goals as goal

pub returns-then-first-room : goal.returns-then-first-room
returns-then-first-room c = listed _ _ _ _ c.requires c.args.out.now _ _ (enough _ _ _ _ c.requires c.args.out.now _ refl c.if-first-room.true) c.list.ensures

pub returns-then-room-list : goal.returns-then-room-list
returns-then-room-list c =
    let count = counted _ _ _ _ c.requires c.args.out.now _ _ c.list-2.ensures in
    rw count.0 (short _ _ _ _ c.requires c.args.out.now _ _ count.1 refl c.if-room-list.true)

pub returns : goal.returns
returns c =
    let count = counted _ _ _ _ c.requires c.args.out.now _ _ c.list-2.ensures in
    listed _ _ _ _ c.requires c.args.out.now _ _ (room_for _ _ _ _ c.requires c.args.out.now _ _ count.1 refl c.if-room-list.false) (rw count.0 at c.list-3.ensures)
