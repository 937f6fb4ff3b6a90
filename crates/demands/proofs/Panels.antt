-- The front panel shows what was read: `PanelsShown` of specs/Panels.antt. Assumes nothing.
use Prim.Native.Nat.{ℕ}
use mathlib.Core.Path.{◌≡◌, refl, sym, ap, ◌∙◌}
use mathlib.Core.Bool.{Bool, true, false, ◌&&◌, ◌||◌}
use mathlib.Core.Logic.{◌⊎◌, inl, inr}
use mathlib.Core.List.{List}
use native.Mathlib.Omega.{arith}
use lib.Dec.{eqb}
use Rattle.refusal.specs.Answer.{unless}
use Rattle.refusal.specs.Table.{no_such_block}
use Rattle.refusal.specs.declared.Refusal.{Refusal}
use Rattle.block.specs.Types.{loss_type, discard_type}
use Rattle.block.specs.Reading.{unavailable}
use Rattle.block.specs.declared.Block.{Block}
use Rattle.block.specs.declared.Block.TheVariants.{Measured, Loss, Discard, Effective, Streams}
use Rattle.block.specs.declared.BlockRead.TheVariants.{Typed, Dropped}
use Rattle.encode.specs.Words.{writable}
use Rattle.frame.specs.Frames.{Entry}
use Rattle.frame.specs.Packet.{Packet, good, bad, numbered, packet_of}
use Rattle.packet.specs.Answers.{found, block_of, answered}
use Rattle.packet.specs.Blocks.{read_alone, read_in}
use Rattle.packet.proofs.Judging.{own_but_unmeasured}
use Rattle.packet.proofs.Named.{answered_parts}
use Rattle.dials.specs.Panel.{dark, summary_panel, panel_of, panel_read, panel_at}
use Rattle.dials.specs.Laws.{needles}
use Rattle.dials.proofs.Value.{position_value, position_bits}
use Rattle.dials.proofs.Order.{position_ends, position_range, position_order}
use Rattle.dials.proofs.Panels.{lit, unlit, needle_tells, typed_shown, lamp_off_exactly}
use Rattle.ffi_block.specs.Answers.{read_out, block_out}
use Rattle.ffi_panel.specs.Answers.{panel_in}
use Rattle.ffi_panel.proofs.Panels.{no_summary_lem, panel_of_read}
use Rattle.demands.specs.Panels.{InPacket, PanelsShown}
use Rattle.block.specs.declared.Reason.TheVariants.{Unmeasured}
use Rattle.refusal.specs.Table.{refusal_number}
use Rattle.std.specs.Prelude.{Ok, Err, Option, Some, None}

let_through : (b : Block) → panel_of b ≡ unless (writable b) dark (needles b)
unfolding summary_panel
let_through (Measured m) = refl
let_through (Loss l) = refl
let_through (Discard d) = refl
let_through (Effective e) = refl
let_through (Streams t) = refl

-- ---- a block of a packet is read as by itself, or dropped for D4

module _ (es : List Entry) (e : Entry) where
  typed_in : (b : Block) → read_in es e ≡ Typed b → panel_of b ≡ needles b
  unfolding read_alone
  typed_in b h = go (own_but_unmeasured es e)
    where
      go : (read_in es e ≡ read_alone e) ⊎ (read_in es e ≡ Dropped Unmeasured) → panel_of b ≡ needles b
      go (inl own) = typed_shown e.kind e.specific e.body b (sym own ∙ h)
      go (inr d) = let z : ◌≡◌ {A = ℕ} 0 1 = cc in absurd (omega arith)

  handed_in : panel_in (read_out e.kind (read_in es e)) ≡ panel_read (read_in es e)
  unfolding read_alone
  handed_in = go (own_but_unmeasured es e)
    where
      go : (read_in es e ≡ read_alone e) ⊎ (read_in es e ≡ Dropped Unmeasured) → panel_in (read_out e.kind (read_in es e)) ≡ panel_read (read_in es e)
      go (inl own) = rw own (panel_of_read e.kind e.specific e.body)
      go (inr d) = rw d (no_summary_lem _ refl)

typed_at : (p : Packet) (k type : ℕ) (b : Block) → block_of p k ≡ answered type (Typed b) → panel_of b ≡ needles b
typed_at (bad r) k type b h = let z : ◌≡◌ {A = ℕ} 0 1 = cc in absurd (omega arith)
typed_at (good sender es) k type b h = go (numbered es k) h
  where
    go : (n : Option Entry) → found es n ≡ answered type (Typed b) → panel_of b ≡ needles b
    go None h = let z : ◌≡◌ {A = ℕ} 0 1 = cc in absurd (omega arith)
    go (Some e) h = typed_in es e b (answered_parts e.kind type (read_in es e) (Typed b) h).1

-- a refused block has no verdict that is typed, whatever its number
refused_in : (r : Refusal) → panel_in (block_out (Err r)) ≡ dark
refused_in r = no_summary_lem (block_out (Err r)) (untyped (eqb (refusal_number r) 0) (eqb 0 loss_type || eqb 0 discard_type))
  where
    untyped : (a b : Bool) → (a && false && b) ≡ false
    untyped true b = refl
    untyped false b = refl

of_block_lem : (p : Packet) (k : ℕ) → panel_in (block_out (block_of p k)) ≡ panel_at (block_of p k)
of_block_lem (bad r) k = refused_in r
of_block_lem (good sender es) k = go (numbered es k)
  where
    go : (n : Option Entry) → panel_in (block_out (found es n)) ≡ panel_at (found es n)
    go None = refused_in no_such_block
    go (Some e) = handed_in es e

in_packet : (s : List ℕ) (k type : ℕ) → InPacket s k type
in_packet s k type =
    record {
      typed = λ b h. ap panel_at h ∙ typed_at (packet_of s) k type b h;
      rle = λ r h. ap panel_at h;
      unknown = λ h. ap panel_at h;
      dropped = λ reason h. ap panel_at h;
      refused = λ r h. ap panel_at h;
    }

pub panels_shown : PanelsShown
panels_shown =
    record {
      positions = record { value = position_value; bits = position_bits; ends = position_ends; range = position_range; order = position_order };
      needle = needle_tells;
      lit = lit;
      unavailable_dark = unlit unavailable (omega arith);
      let_through = let_through;
      in_packet = in_packet;
      lamp = lamp_off_exactly;
      of_read = panel_of_read;
      of_block_lem = λ s k. of_block_lem (packet_of s) k;
    }
