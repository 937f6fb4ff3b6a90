-- What callers may lean on, as statements about the definitions that `judge` promises. Proved in proofs/.
use Rattle.std.specs.Prelude.{ℕ, ◌<◌, ◌≤◌, ◌≡◌, List, length, get_or, Ok}
use Rattle.trace.specs.Trace.{packet_max, trace_min, trace_max, first_above, judged_within}

-- "An accepted trace has 1 to 65,536 bytes, each 0, 1 or 2."; with other limits, as many packets and as high bytes as these say.
pub record IsWithin (limit highest : ℕ) (s : List ℕ) : Type 0 where
  pub some : trace_min ≤ length s
  pub most : length s ≤ limit
  pub each : (i : ℕ) → i < length s → get_or s i 0 ≤ highest

abbrev pub IsTrace : List ℕ → Type 0
IsTrace s = IsWithin trace_max packet_max s

abbrev pub AcceptedWithin : ℕ → ℕ → Type 0
AcceptedWithin limit highest = (s : List ℕ) → judged_within limit highest s ≡ (Ok tt) → IsWithin limit highest s

abbrev pub AcceptedTrace : Type 0
AcceptedTrace = AcceptedWithin trace_max packet_max

abbrev pub WithinAccepted : ℕ → ℕ → Type 0
WithinAccepted limit highest = (s : List ℕ) → IsWithin limit highest s → judged_within limit highest s ≡ (Ok tt)

abbrev pub TraceAccepted : Type 0
TraceAccepted = WithinAccepted trace_max packet_max

-- The place of refusal 9 is that of the first bad byte: it is bad, and none before it is.
pub record FirstAboveAt (highest : ℕ) (s : List ℕ) (place : ℕ) : Type 0 where
  pub bad : highest < get_or s place 0
  pub before : (i : ℕ) → i < place → get_or s i 0 ≤ highest

abbrev pub FirstAbove : ℕ → Type 0
FirstAbove highest = (s : List ℕ) → first_above highest s < length s → FirstAboveAt highest s (first_above highest s)

abbrev pub FirstBad : Type 0
FirstBad = FirstAbove packet_max
