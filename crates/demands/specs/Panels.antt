-- The front panel, document 02, ticket 4, said of blocks given as values and of what the calls on a packet answer.
use Rattle.std.specs.Prelude.{ℕ, ◌≤◌, ◌≡◌, List, Err}
use Rattle.refusal.specs.Answer.{unless}
use Rattle.refusal.specs.declared.Refusal.{Refusal}
use Rattle.block.specs.Reading.{rate_max, unavailable}
use Rattle.block.specs.declared.LossRle.{LossRle}
use Rattle.block.specs.declared.Block.{Block}
use Rattle.block.specs.declared.BlockRead.TheVariants.{Typed, Rle, Unknown, Dropped}
use Rattle.encode.specs.Words.{writable}
use Rattle.frame.specs.Packet.{packet_of}
use Rattle.packet.specs.Answers.{block_of, answered}
use Rattle.dials.specs.Position.{position}
use Rattle.dials.specs.declared.Needle.TheVariants.{Lit, Dark}
use Rattle.dials.specs.Panel.{needle_of, dark, panel_of, panel_at}
use Rattle.dials.specs.Laws.{PositionValue, PositionBits, PositionEnds, PositionRange, PositionOrder, NeedleTells, needles, LampOffExactly}
use Rattle.ffi_block.specs.Answers.{block_out}
use Rattle.ffi_panel.specs.Answers.{panel_in}
use Rattle.ffi_panel.specs.Laws.{PanelOfRead}
use Rattle.block.specs.declared.Reason.{Reason}

-- "a fraction from 0 to 1 as an f32: a rate divided by 32,768, which is exact, so its bits follow from the rate"
pub record PositionsExact : Type 0 where
  pub value : PositionValue
  pub bits : PositionBits
  pub ends : PositionEnds
  pub range : PositionRange
  pub order : PositionOrder

-- block k of the packet s
pub record InPacket (s : List ℕ) (k type : ℕ) : Type 0 where
  pub typed : (b : Block) → block_of (packet_of s) k ≡ answered type (Typed b) → panel_at (block_of (packet_of s) k) ≡ needles b
  pub rle : (r : LossRle) → block_of (packet_of s) k ≡ answered type (Rle r) → panel_at (block_of (packet_of s) k) ≡ dark
  pub unknown : block_of (packet_of s) k ≡ answered type Unknown → panel_at (block_of (packet_of s) k) ≡ dark
  pub dropped : (reason : Reason) → block_of (packet_of s) k ≡ answered type (Dropped reason) → panel_at (block_of (packet_of s) k) ≡ dark
  pub refused : (r : Refusal) → block_of (packet_of s) k ≡ Err r → panel_at (block_of (packet_of s) k) ≡ dark

pub record PanelsShown : Type 0 where
  pub positions : PositionsExact
  -- "A needle is either lit at its position or dark when the rate is unavailable.": so no two rates have one needle
  pub lit : (rate : ℕ) → rate ≤ rate_max → needle_of rate ≡ Lit (position rate)
  pub unavailable_dark : needle_of unavailable ≡ Dark
  pub needle : NeedleTells
  -- "The panel shows only a block 17 or 18 that refusal 16 lets through;"
  pub let_through : (b : Block) → panel_of b ≡ unless (writable b) dark (needles b)
  -- "anything else, dropped blocks included, leaves both needles dark."
  pub in_packet : (s : List ℕ) (k type : ℕ) → InPacket s k type
  -- "The lamp is on exactly when at least one needle is lit."
  pub lamp : LampOffExactly
  -- at the boundary a block that was handed out has the panel of what was read
  pub of_read : PanelOfRead
  pub of_block_lem : (s : List ℕ) (k : ℕ) → panel_in (block_out (block_of (packet_of s) k)) ≡ panel_at (block_of (packet_of s) k)
