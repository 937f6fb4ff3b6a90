-- What an answer says: why a block read by itself is dropped, `OwnReasons`, and what a block measures, `MeasuresExactly`
-- of specs/Laws.antt; and what `measured_by` finds in a block's bytes. Assumes nothing.
use Rattle.std.proofs.Common.{◌≡◌, ℕ, ◌+◌, ◌*◌, Bool, true, false, leb, List, length, get_or, drop, refl, ap, arith, length-drop}
use Rattle.refusal.specs.Answer.{unless}
use Rattle.wire.specs.BigEndian.{be16, be32, u32_at}
use Rattle.block.specs.declared.Block.{Block}
use Rattle.block.specs.declared.Block.TheVariants.{Measured, Loss, Discard, Effective, Streams}
use Rattle.block.specs.declared.BlockRead.{BlockRead}
use Rattle.block.specs.declared.BlockRead.TheVariants.{Typed, Rle, Unknown, Dropped}
use Rattle.block.specs.Types.{measurement_type, measurement_words}
use Rattle.block.specs.Layouts.{measurement_in}
use Rattle.block.specs.Reading.{read_measurement, read_block, read_bytes, measures_of}
use Rattle.block.specs.Laws.{OwnReason, OwnReasons, MeasuredFor, MeasuresExactly}
use Rattle.block.proofs.Cells.{in_cells}
use Rattle.block.proofs.Cases.{answers}
use Rattle.std.specs.Prelude.{Some, None}

pub own_reasons : OwnReasons
own_reasons type specific body reason =
    answers specific body (λ t a. a ≡ Dropped reason → OwnReason reason)
    (λ t h. let z : ◌≡◌ {A = ℕ} 0 1 = cc in absurd (omega arith))
    (λ t r own h. let e : r ≡ reason = cc in rw (← e) own)
    (λ good h. let z : ◌≡◌ {A = ℕ} 0 1 = cc in absurd (omega arith))
    (λ s. typed _) (λ s g. typed _) (λ s g. typed _) (λ s. typed _) (λ s. typed _)
    type
  where
    typed : (b : Block) → Typed b ≡ Dropped reason → OwnReason reason
    typed b h = let z : ◌≡◌ {A = ℕ} 0 1 = cc in absurd (omega arith)

-- no source: a type other than 14, or another size
pub measures_nothing : (bytes : List ℕ) → (length bytes ≡ 4 + 4 * measurement_words → get_or bytes 0 0 ≡ measurement_type → ⊥) →
    None ≡ measures_of (read_bytes bytes)
unfolding read_bytes
measures_nothing bytes other = go (leb 4 (length bytes))
  where
    go : (t : Bool) → None ≡ measures_of (unless t Unknown (read_block (get_or bytes 0 0) (get_or bytes 1 0) (drop 4 bytes)))
    go false = refl
    go true =
        answers (get_or bytes 1 0) (drop 4 bytes) (λ t a. t ≡ get_or bytes 0 0 → None ≡ measures_of a)
        (λ t h. refl) (λ t r own h. refl) (λ good h. refl)
        (λ s h. absurd (other (omega (arith, length-drop 4 bytes)) (omega arith)))
        (λ s g h. refl) (λ s g h. refl) (λ s h. refl) (λ s h. refl)
        (get_or bytes 0 0) refl

pub measures_source : (bytes : List ℕ) → length bytes ≡ 4 + 4 * measurement_words → get_or bytes 0 0 ≡ measurement_type →
    Some (u32_at bytes 4) ≡ measures_of (read_bytes bytes)
unfolding read_bytes read_block read_measurement measurement_in u32_at be32 be16
measures_source bytes size first = rw (first, in_cells (4 + 4 * measurement_words) bytes size)

pub measures_exactly : MeasuresExactly
measures_exactly answer x = (measured answer, λ f. rw f.typed (ap Some f.source))
  where
    none : (a : BlockRead) → None ≡ Some x → MeasuredFor a x
    none a h = let z : ◌≡◌ {A = ℕ} 0 1 = cc in absurd (omega arith)

    measured : (a : BlockRead) → measures_of a ≡ Some x → MeasuredFor a x
    measured (Typed (Measured m)) h = record { block = m; typed = refl; source = cc }
    measured (Typed (Loss l)) h = none _ h
    measured (Typed (Discard d)) h = none _ h
    measured (Typed (Effective e)) h = none _ h
    measured (Typed (Streams t)) h = none _ h
    measured (Rle r) h = none _ h
    measured Unknown h = none _ h
    measured (Dropped reason) h = none _ h
