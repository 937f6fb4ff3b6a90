-- Reserved bits and bytes are ignored: `ReservedIgnored` of specs/Laws.antt. A block reads as it does with them cleared.
-- Assumes nothing.
use Rattle.std.proofs.Common.{◌≡◌, ℕ, ◌*◌, ◌/◌, ◌%◌, Bool, true, false, cond, eqb, List, length, set, sym, refl, ◌∙◌, ap₂, arith, length-set, eq-eqb, ne_eqb}
use native.Mathlib.Decide.{ℕ_discrete}
use Rattle.wire.specs.BigEndian.{be16, be32}
use Rattle.block.specs.declared.BlockRead.{BlockRead}
use Rattle.block.specs.Types.{rle_type, measurement_type, loss_type, discard_type, effective_type, streams_type, measurement_words, effective_words}
use Rattle.block.specs.Layouts.{measurement_in, loss_in, discard_in, effective_in}
use Rattle.block.specs.Reading.{sized, read_measurement, read_loss, read_discard, read_effective, read_rle, read_block}
use Rattle.block.specs.Reserved.{cleared_byte, cleared_body}
use Rattle.block.specs.Laws.{ReservedIgnored}
use Rattle.block.proofs.Cells.{in_cells}

pub cleared_size : (type : ℕ) (body : List ℕ) → length (cleared_body type body) ≡ length body
cleared_size type body = go (eqb type measurement_type) (eqb type effective_type)
  where
    go : (m e : Bool) → length (cond m (set (set body 4 0) 5 0) (cond e (set (set body 6 0) 7 0) body)) ≡ length body
    go true e = simp length-set
    go false true = simp length-set
    go false false = refl

-- bodies of one length whose answers agree where it is the right one
same_sized : (words : ℕ) (s t : List ℕ) (a b : BlockRead) → length s ≡ length t → (length t ≡ 4 * words → a ≡ b) → sized words s a ≡ sized words t b
same_sized words s t a b long same = go (ℕ_discrete (length t) (4 * words))
  where
    go : Dec (length t ≡ 4 * words) → sized words s a ≡ sized words t b
    go (yes e) = rw (long, eq-eqb (length t) (4 * words) e) (same e)
    go (no e) = rw (long, ne_eqb (length t) (4 * words) e)

pub read_cleared : (type specific : ℕ) (body : List ℕ) → read_block type (cleared_byte type specific) (cleared_body type body) ≡ read_block type specific body
unfolding read_block read_measurement read_loss read_discard read_effective read_rle measurement_in loss_in discard_in effective_in be32 be16
read_cleared type specific body =
    go (ℕ_discrete type rle_type) (ℕ_discrete type measurement_type) (ℕ_discrete type loss_type) (ℕ_discrete type discard_type) (ℕ_discrete type effective_type) (ℕ_discrete type streams_type)
  where
    flag : specific / 64 * 64 / 64 ≡ specific / 64
    flag = omega arith

    thinning : specific % 16 % 16 ≡ specific % 16
    thinning = omega arith

    go : Dec (type ≡ rle_type) → Dec (type ≡ measurement_type) → Dec (type ≡ loss_type) → Dec (type ≡ discard_type) → Dec (type ≡ effective_type) → Dec (type ≡ streams_type) →
        read_block type (cleared_byte type specific) (cleared_body type body) ≡ read_block type specific body
    go (yes e) m l d f s = rw (e, thinning)
    go (no r) (yes e) l d f s =
        rw e (same_sized measurement_words (cleared_body measurement_type body) body _ _ (cleared_size measurement_type body) (λ size. rw (in_cells (4 * measurement_words) body size)))
    go (no r) (no m) (yes e) d f s = rw (e, flag)
    go (no r) (no m) (no l) (yes e) f s = rw (e, flag)
    go (no r) (no m) (no l) (no d) (yes e) s =
        rw e (same_sized effective_words (cleared_body effective_type body) body _ _ (cleared_size effective_type body) (λ size. rw (in_cells (4 * effective_words) body size)))
    go (no r) (no m) (no l) (no d) (no f) (yes e) = rw e
    go (no r) (no m) (no l) (no d) (no f) (no s) =
        rw (ne_eqb type rle_type r, ne_eqb type measurement_type m, ne_eqb type loss_type l, ne_eqb type discard_type d, ne_eqb type effective_type f, ne_eqb type streams_type s)

pub reserved_ignored : ReservedIgnored
reserved_ignored type specific specific' body body' byte rest =
    sym (read_cleared type specific body) ∙ ap₂ (read_block type) byte rest ∙ read_cleared type specific' body'
