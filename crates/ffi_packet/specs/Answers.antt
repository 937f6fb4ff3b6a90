-- What the boundary's structs hold for each answer about a packet: the paper's number and place where the call
-- refused, 0 and 0 where it answered; and the values, 0 where it refused.
use Rattle.packet.specs.declared.PacketHead.{PacketHead}
use Rattle.ffi_answer.specs.Answers.{none, refusal_out}
use Rattle.ffi_packet.specs.declared.Packet.{Packet}
use Rattle.ffi_packet.specs.declared.Comparison.{Comparison}
use Rattle.std.specs.Prelude.{Result, Ok, Err, ℕ}
use Rattle.refusal.specs.declared.Refusal.{Refusal}

abbrev pub packet_out : Result PacketHead Refusal → Packet
packet_out (Ok head) = record { refusal = none; sender = head.sender; blocks = head.blocks }
packet_out (Err r) = record { refusal = refusal_out r; sender = 0; blocks = 0 }

abbrev pub compared_out : Result ℕ Refusal → Comparison
compared_out (Ok n) = record { refusal = none; differences = n }
compared_out (Err r) = record { refusal = refusal_out r; differences = 0 }
