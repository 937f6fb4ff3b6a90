-- What the calls on a packet answer, from its sender and its list of blocks: document 01, "The packet", and
-- the order line "packets 1, 2, 3, 4, 5, 6, then 7".
use Rattle.std.specs.Prelude.{ℕ, ◌+◌, List, [], length, Option, Some, None, Result, Ok, Err}
use Rattle.refusal.specs.Table.{no_such_block}
use Rattle.refusal.specs.declared.Refusal.{Refusal}
use Rattle.block.specs.declared.BlockRead.{BlockRead}
use Rattle.frame.specs.Frames.{Entry}
use Rattle.frame.specs.Packet.{Packet, good, bad, numbered}
use Rattle.packet.specs.declared.PacketHead.{PacketHead}
use Rattle.packet.specs.declared.BlockAt.{BlockAt}
use Rattle.packet.specs.declared.Part.{Part}
use Rattle.packet.specs.Blocks.{read_in}

-- the sender and the number of blocks
abbrev pub sent : ℕ → ℕ → Result PacketHead Refusal
sent sender blocks = Ok (record { sender = sender; blocks = blocks })

abbrev pub head_of : Packet → Result PacketHead Refusal
head_of (good sender es) = sent sender (length es)
head_of (bad r) = Err r

-- block number k of the packet, or none
abbrev pub chosen : Packet → ℕ → Option Entry
chosen (good sender es) k = numbered es k
chosen (bad r) k = None

-- it read among all blocks of the packet: its type, and what it is
abbrev pub answered : ℕ → BlockRead → Result BlockAt Refusal
answered kind read = Ok (record { kind = kind; read = read })

abbrev pub found : List Entry → Option Entry → Result BlockAt Refusal
found es None = Err no_such_block
found es (Some e) = answered e.kind (read_in es e)

abbrev pub block_of : Packet → ℕ → Result BlockAt Refusal
block_of (good sender es) k = found es (numbered es k)
block_of (bad r) k = Err r

-- its body, empty where block k is refused
abbrev pub body_in : Option Entry → List ℕ
body_in None = []
body_in (Some e) = e.body

abbrev pub body_of : Packet → ℕ → List ℕ
body_of p k = body_in (chosen p k)

-- where that begins: the block's place plus four, 0 where block k is refused
abbrev pub start_in : Option Entry → ℕ
start_in None = 0
start_in (Some e) = e.place + 4

abbrev pub body_start : Packet → ℕ → ℕ
body_start p k = start_in (chosen p k)

abbrev pub part_of : Packet → ℕ → Part
part_of p k = record { start = body_start p k; length = length (body_of p k) }
