-- The cases of a panel at the boundary, and that a block handed out and in again has the panel of what was read. Assumes nothing.
use mathlib.Core.Path.{◌≡◌, refl}
use Prim.Native.Nat.{ℕ, ◌≤◌}
use mathlib.Core.Bool.{Bool, true, false}
use lib.ListN.{get_or}
use mir.Val.{bool_byte}
use Rattle.refusal.proofs.Tests.{fails}
use Rattle.block.specs.Reading.{summary_good}
use Rattle.block.specs.declared.BlockRead.TheVariants.{Unknown, Dropped}
use Rattle.block.specs.declared.Reason.{Reason}
use Rattle.block.specs.declared.Reason.TheVariants.{BadSize, BadFlag, BadRate, Unmeasured, BadChunks}
use Rattle.block.proofs.Good.{good_fits}
use Rattle.block.proofs.Cases.{answers}
use Rattle.dials.specs.Panel.{dark, summary_panel, panel_read}
use Rattle.dials.proofs.Panels.{bad}
use Rattle.ffi_block.specs.Answers.{read_out}
use Rattle.ffi_block.specs.declared.BlockFields.{BlockFields}
use Rattle.ffi_panel.specs.Answers.{told, flag_at, burst_rate_at, gap_rate_at, summary_in, panel_in}
use Rattle.ffi_panel.specs.Laws.{PanelOfRead}

pub byte_told : (t : Bool) → bool_byte t ≡ told t
byte_told true = refl
byte_told false = refl

-- ---- numbers that no block can hold

pub wide : (flag burst gap : ℕ) → ((flag ≤ 3) × (burst ≤ 65535) × (gap ≤ 65535) → ⊥) → summary_panel flag burst gap ≡ dark
wide flag burst gap none = bad flag burst gap (fails (summary_good flag burst gap) (λ good. none (good_fits flag burst gap good)))

-- ---- a block handed in

pub no_summary_lem : (b : BlockFields) → summary_in b ≡ false → panel_in b ≡ dark
unfolding panel_in
no_summary_lem b h = rw h

pub summary : (b : BlockFields) → summary_in b ≡ true → panel_in b ≡ summary_panel (get_or b.fields flag_at 0) (get_or b.fields burst_rate_at 0) (get_or b.fields gap_rate_at 0)
unfolding panel_in
summary b h = rw h

-- ---- the law

-- dropped: its verdict is the reason
dropped : (type : ℕ) (reason : Reason) → panel_in (read_out type (Dropped reason)) ≡ dark
dropped type BadSize = no_summary_lem _ refl
dropped type BadFlag = no_summary_lem _ refl
dropped type BadRate = no_summary_lem _ refl
dropped type Unmeasured = no_summary_lem _ refl
dropped type BadChunks = no_summary_lem _ refl

pub panel_of_read : PanelOfRead
panel_of_read type specific body =
    answers specific body (λ t a. panel_in (read_out t a) ≡ panel_read a)
    (λ t. no_summary_lem (read_out t Unknown) refl)
    (λ t reason own. dropped t reason)
    (λ g. no_summary_lem _ refl)
    (λ s. no_summary_lem _ refl)
    (λ s g. summary _ refl)
    (λ s g. summary _ refl)
    (λ s. no_summary_lem _ refl)
    (λ s. no_summary_lem _ refl)
    type
