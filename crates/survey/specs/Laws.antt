-- What callers may lean on, as a statement about the definitions that the call promises. Proved in proofs/.
use Rattle.std.specs.Prelude.{ℕ, ◌≡◌, List}
use Rattle.frame.specs.Packet.{Packet}
use Rattle.packet.specs.Reserved.{cleared_packet}
use Rattle.survey.specs.Survey.{list_of, list_answer}

-- Packets that are equal once their reserved bits are cleared have the same answer and the same list.
abbrev pub ReservedListed : Type 0
ReservedListed =
    (p p' : Packet) → cleared_packet p ≡ cleared_packet p' →
    (list_of p ≡ list_of p') × ((out : List ℕ) → list_answer p out ≡ list_answer p' out)
