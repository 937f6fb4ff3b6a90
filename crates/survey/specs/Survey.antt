-- All blocks of a packet in one pass: for each its place and its verdict.
use Rattle.std.specs.Prelude.{ℕ, ◌*◌, List, [], ◌∷◌, leb, length, Ok, Err}
use Rattle.refusal.specs.Table.{buffer_short}
use Rattle.refusal.specs.Answer.{unless}
use Rattle.frame.specs.Frames.{Entry}
use Rattle.frame.specs.Packet.{Packet, good, bad}
use Rattle.packet.specs.Blocks.{read_in}
use Rattle.verdict.specs.Verdict.{verdict_of}
use Rattle.refusal.specs.Answer.{Written}

-- all blocks: for each its place and its verdict
unfoldable pub listing : List Entry → List Entry → List ℕ
listing all [] = []
listing all (e ∷ es) = e.place ∷ verdict_of (read_in all e) ∷ listing all es

abbrev pub list_of : Packet → List ℕ
list_of (good sender es) = listing es es
list_of (bad r) = []

abbrev pub list_answer : Packet → List ℕ → Written
list_answer (good sender es) out =
    unless (leb (2 * length es) (length out)) (Err buffer_short)
    (Ok (2 * length es))
list_answer (bad r) out = Err r
