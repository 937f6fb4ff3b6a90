-- The panel setting of a block: document 02, ticket 4. "The panel shows only a block 17 or 18 that refusal 16 lets through;
-- anything else, dropped blocks included, leaves both needles dark. The lamp is on exactly when at least one needle is lit."
use Rattle.std.specs.Prelude.{ℕ, Bool, true, false, cond, ◌||◌, leb, Result, Ok, Err}
use Rattle.refusal.specs.declared.Refusal.{Refusal}
use Rattle.refusal.specs.Answer.{unless}
use Rattle.block.specs.Reading.{rate_max, summary_good}
use Rattle.block.specs.declared.Block.{Block}
use Rattle.block.specs.declared.Block.TheVariants.{Measured, Loss, Discard, Effective, Streams}
use Rattle.block.specs.declared.BlockRead.{BlockRead}
use Rattle.block.specs.declared.BlockRead.TheVariants.{Typed, Rle, Unknown, Dropped}
use Rattle.packet.specs.declared.BlockAt.{BlockAt}
use Rattle.dials.specs.declared.Needle.{Needle}
use Rattle.dials.specs.declared.Needle.TheVariants.{Lit, Dark}
use Rattle.dials.specs.declared.Panel.{Panel}
use Rattle.dials.specs.Position.{position}

-- "A needle is either lit at its position or dark when the rate is unavailable." A number that is no rate has no position either.
unfoldable pub needle_of : ℕ → Needle
needle_of rate = cond (leb rate rate_max) (Lit (position rate)) Dark

abbrev pub dark : Panel
dark = record { burst = Dark; gap = Dark }

abbrev pub shown : ℕ → ℕ → Panel
shown burst gap = record { burst = needle_of burst; gap = needle_of gap }

-- a 17 or 18 with this interval flag and these rates
unfoldable pub summary_panel : ℕ → ℕ → ℕ → Panel
summary_panel flag burst gap = unless (summary_good flag burst gap) dark (shown burst gap)

-- of a block given as a value
abbrev pub panel_of : Block → Panel
panel_of (Measured m) = dark
panel_of (Loss l) = summary_panel l.flag l.burst_rate l.gap_rate
panel_of (Discard d) = summary_panel d.flag d.burst_rate d.gap_rate
panel_of (Effective e) = dark
panel_of (Streams t) = dark

-- of what was read
abbrev pub panel_read : BlockRead → Panel
panel_read (Typed b) = panel_of b
panel_read (Rle r) = dark
panel_read Unknown = dark
panel_read (Dropped reason) = dark

-- of a block of a packet
abbrev pub panel_at : Result BlockAt Refusal → Panel
panel_at (Ok block) = panel_read block.read
panel_at (Err r) = dark

abbrev pub is_lit : Needle → Bool
is_lit (Lit x) = true
is_lit Dark = false

abbrev pub lamp_of : Panel → Bool
lamp_of p = is_lit p.burst || is_lit p.gap
