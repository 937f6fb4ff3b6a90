-- What callers may lean on, as statements about the definitions that the calls promise. Proved in proofs/.
use Rattle.std.specs.Prelude.{ℕ, ◌≤◌, ◌≡◌, true, false, List, T, ltb, eqb, pos, Float}
use Rattle.std.specs.Float.{binary32}
use Rattle.std.specs.Float.Ieee.{of_int, to_bits, lt, le, eq}
use Rattle.std.specs.Float.Ieee.Exact.{HasValue}
use Rattle.block.specs.Reading.{rate_max, rate_good, read_block}
use Rattle.block.specs.declared.Block.{Block}
use Rattle.block.specs.declared.Block.TheVariants.{Measured, Loss, Discard, Effective, Streams}
use Rattle.block.specs.declared.BlockRead.TheVariants.{Typed}
use Rattle.dials.specs.declared.Panel.{Panel}
use Rattle.dials.specs.Position.{rate_bits, position}
use Rattle.dials.specs.Panel.{needle_of, dark, shown, panel_of, lamp_of}

-- The f32 of a rate is exactly the rate divided by 32,768, and it has the bits of the definition.
abbrev pub PositionValue : Type 0
PositionValue = (rate : ℕ) → rate ≤ rate_max → HasValue (position rate) false rate 32768

abbrev pub PositionBits : Type 0
PositionBits = (rate : ℕ) → rate ≤ rate_max → to_bits binary32 (position rate) ≡ rate_bits rate

-- "a fraction from 0 to 1": 0.0 at rate 0, 1.0 at 32,768, and every other between them
abbrev pub whole : ℕ → Float
whole n = of_int binary32 (pos n)

abbrev pub PositionEnds : Type 0
PositionEnds = (position 0 ≡ whole 0) × (position rate_max ≡ whole 1)

abbrev pub PositionRange : Type 0
PositionRange = (rate : ℕ) → rate ≤ rate_max → T (le (whole 0) (position rate)) × T (le (position rate) (whole 1))

-- Positions stand in the order of their rates, as the machine compares them, and two rates have two positions.
abbrev pub PositionOrder : Type 0
PositionOrder = (m n : ℕ) → m ≤ rate_max → n ≤ rate_max → (lt (position m) (position n) ≡ ltb m n) × (eq (position m) (position n) ≡ eqb m n)

-- A needle tells its rate: two rates that reading lets through, unavailable among them, with one needle are one rate.
abbrev pub NeedleTells : Type 0
NeedleTells = (m n : ℕ) → rate_good m ≡ true → rate_good n ≡ true → needle_of m ≡ needle_of n → m ≡ n

-- each needle by its own rate, where a block has rates
abbrev pub needles : Block → Panel
needles (Measured m) = dark
needles (Loss l) = shown l.burst_rate l.gap_rate
needles (Discard d) = shown d.burst_rate d.gap_rate
needles (Effective e) = dark
needles (Streams t) = dark

-- A 17 or 18 that was read as typed is shown.
abbrev pub TypedShown : Type 0
TypedShown = (type specific : ℕ) (body : List ℕ) (b : Block) → read_block type specific body ≡ Typed b → panel_of b ≡ needles b

-- The lamp is off exactly when both needles are dark.
abbrev pub LampOffExactly : Type 0
LampOffExactly = (p : Panel) → (lamp_of p ≡ false → p ≡ dark) × (p ≡ dark → lamp_of p ≡ false)
