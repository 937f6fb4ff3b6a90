-- What callers may lean on: a block handed out at the boundary and handed in again has the panel of what was read. Proved in
-- proofs/.
use Rattle.std.specs.Prelude.{ℕ, ◌≡◌, List}
use Rattle.block.specs.Reading.{read_block}
use Rattle.dials.specs.Panel.{panel_read}
use Rattle.ffi_block.specs.Answers.{read_out}
use Rattle.ffi_panel.specs.Answers.{panel_in}

abbrev pub PanelOfRead : Type 0
PanelOfRead = (type specific : ℕ) (body : List ℕ) → panel_in (read_out type (read_block type specific body)) ≡ panel_read (read_block type specific body)
