-- A trace: document 01, "The trace and its figures". "One byte a packet: 0 received, 1 lost, 2 discarded.
-- From 1 to 65,536 packets." What a call counts is a parameter, the event: document 02, ticket 7, "the caller chooses
-- what counts as a loss: lost only, discarded only, or either".
use Rattle.std.specs.Prelude.{ℕ, suc, Bool, cond, ◌&&◌, ◌||◌, List, [], ◌∷◌, map, eqb, leb, length, get_or, Ok, Err}
use Rattle.refusal.specs.Table.{trace_length, trace_byte}
use Rattle.refusal.specs.Answer.{unless}
use Rattle.trace.specs.Sum.{bit}
use Rattle.trace.specs.declared.Event.{Event}
use Rattle.trace.specs.declared.Event.TheVariants.{Lost, Discarded, Either}
use Rattle.refusal.specs.Answer.{Judged}

abbrev pub received : ℕ
received = 0

abbrev pub lost : ℕ
lost = 1

abbrev pub discarded : ℕ
discarded = 2

abbrev pub packet_max : ℕ
packet_max = 2

abbrev pub trace_min : ℕ
trace_min = 1

abbrev pub trace_max : ℕ
trace_max = 65_536

-- whether an event counts a packet
unfoldable pub counts_as : Event → ℕ → Bool
counts_as Lost packet = eqb packet lost
counts_as Discarded packet = eqb packet discarded
counts_as Either packet = eqb packet lost || eqb packet discarded

-- whether packet i of a trace is counted
abbrev pub counted_at : Event → List ℕ → ℕ → Bool
counted_at event s i = counts_as event (get_or s i 0)

-- a trace with the counted packets as 1 and the others as 0
abbrev pub flagged : Event → List ℕ → List ℕ
flagged event s = map (λ packet. bit (counts_as event packet)) s

-- "trace empty or over 65,536" is not so of so many packets, nor over another limit
unfoldable pub packets_within : ℕ → ℕ → Bool
packets_within limit packets = leb trace_min packets && leb packets limit

abbrev pub length_within : ℕ → List ℕ → Bool
length_within limit s = packets_within limit (length s)

abbrev pub length_in_range : List ℕ → Bool
length_in_range s = length_within trace_max s

-- where the first byte above `highest` stands; the length, where there is none
unfoldable pub first_above : ℕ → List ℕ → ℕ
first_above highest [] = 0
first_above highest (packet ∷ s) = cond (leb packet highest) (suc (first_above highest s)) 0

abbrev pub first_bad : List ℕ → ℕ
first_bad s = first_above packet_max s

-- A trace by itself: 10 and 9 of the order line "Traces: 15, 10, 9, 14, 8".
unfoldable pub judged_within : ℕ → ℕ → List ℕ → Judged
judged_within limit highest s =
    unless (length_within limit s) (Err trace_length)
    (unless (leb (length s) (first_above highest s)) (Err (trace_byte (first_above highest s)))
    (Ok tt))

abbrev pub judged : List ℕ → Judged
judged s = judged_within trace_max packet_max s
