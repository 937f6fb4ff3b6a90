-- What the boundary's structs hold for a panel, and the panel of a block that the boundary handed out before.
use Rattle.std.specs.Prelude.{ℕ, Bool, cond, ◌&&◌, ◌||◌, eqb, get_or}
use Rattle.std.specs.Float.{binary32}
use Rattle.std.specs.Float.Ieee.{of_bits}
use Rattle.refusal.specs.Answer.{unless}
use Rattle.block.specs.Types.{loss_type, discard_type}
use Rattle.dials.specs.Panel.{dark, summary_panel, lamp_of}
use Rattle.dials.specs.declared.Needle.{Needle}
use Rattle.dials.specs.declared.Needle.TheVariants.{Lit, Dark}
use Rattle.dials.specs.declared.Panel.{Panel}
use Rattle.ffi_block.specs.declared.BlockFields.{BlockFields}
use Rattle.ffi_panel.specs.declared.NeedleFields.{NeedleFields}
use Rattle.ffi_panel.specs.declared.PanelFields.{PanelFields}

-- 1 for yes, 0 for no
abbrev pub told : Bool → ℕ
told t = cond t 1 0

-- a dark needle has position 0.0
abbrev pub needle_out : Needle → NeedleFields
needle_out (Lit x) = record { lit = 1; position = x }
needle_out Dark = record { lit = 0; position = of_bits binary32 0 }

abbrev pub panel_out : Panel → PanelFields
panel_out p = record { burst = needle_out p.burst; gap = needle_out p.gap; lamp = told (lamp_of p) }

-- the verdict of a typed block, and where the boundary has the interval flag and the rates of a 17 and of an 18
abbrev pub typed : ℕ
typed = 0

abbrev pub flag_at : ℕ
flag_at = 0

abbrev pub burst_rate_at : ℕ
burst_rate_at = 2

abbrev pub gap_rate_at : ℕ
gap_rate_at = 3

-- whether a block as the boundary hands it out is a 17 or 18 that was read as typed
abbrev pub summary_in : BlockFields → Bool
summary_in b = eqb b.refusal.number 0 && eqb b.verdict typed && (eqb b.block_type loss_type || eqb b.block_type discard_type)

-- its panel, by its interval flag and rates; every other is dark
unfoldable pub panel_in : BlockFields → Panel
panel_in b = unless (summary_in b) dark (summary_panel (get_or b.fields flag_at 0) (get_or b.fields burst_rate_at 0) (get_or b.fields gap_rate_at 0))
