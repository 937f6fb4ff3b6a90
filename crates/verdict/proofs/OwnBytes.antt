-- The verdict of a block from its bytes is that of what reading them gives, where nothing is measured. Assumes nothing.
use Prim.Native.Nat.{ℕ, ◌+◌, ◌-◌, ◌*◌, ◌<◌, ◌≤◌}
use mathlib.Core.Path.{◌≡◌, refl, sym, ap, ap₂, ◌∙◌}
use mathlib.Core.Bool.{Bool, true, false}
use mathlib.Core.List.{List, []}
use native.Mathlib.Omega.{arith}
use native.Mathlib.Decide.{ℕ_discrete}
use borrow.Author.Tests.{eq-eqb, ne_eqb, le-leb, lt-leb}
use lib.Dec.{eqb}
use lib.ListN.{length, get_or, take, drop, length-drop}
use lib.Seq.{get_or-drop, take_all}
use Rattle.refusal.specs.Answer.{unless}
use Rattle.wire.specs.BigEndian.{be16, u16_at}
use Rattle.wire.proofs.Numbers.{u16_inside}
use Rattle.block.specs.Types.{rle_type, measurement_type, loss_type, discard_type, effective_type, streams_type, measurement_words, loss_words, discard_words, effective_words, streams_words, bad_flag, bad_rate, unmeasured}
use Rattle.block.specs.Layouts.{flag_in, thinning_in, rle_in}
use Rattle.block.specs.Reading.{flag_good, rates_good, sized, summary_read, needs_of, read_measurement, read_loss, read_discard, read_effective, read_streams, rle_sized, rle_covered, read_rle, read_block, read_bytes}
use Rattle.block.specs.declared.LossRle.{LossRle}
use Rattle.block.specs.declared.Block.{Block}
use Rattle.block.specs.declared.BlockRead.{BlockRead}
use Rattle.block.specs.declared.BlockRead.TheVariants.{Typed, Rle, Dropped}
use Rattle.packet.specs.Blocks.{measured, read_among}
use Rattle.verdict.specs.Verdict.{verdict_of}
use Rattle.verdict.specs.Alone.{size_verdict, summary_verdict}
use Rattle.std.specs.Prelude.{Some, None}
use Rattle.block.specs.declared.Reason.TheVariants.{BadSize, BadFlag, BadRate, BadChunks}

-- a type 1 needs nothing of its packet, whatever its size, thinning and chunks come to
abbrev rle_answer : Bool → Bool → Bool → LossRle → BlockRead
rle_answer s t c r = unless s (Dropped BadSize) (unless t (Dropped BadFlag) (unless c (Dropped BadChunks) (Rle r)))

rle_is : (s t c : Bool) (r : LossRle) → verdict_of (rle_answer s t c r) ≡ verdict_of (read_among [] (rle_answer s t c r))
rle_is false t c r = refl
rle_is true false c r = refl
rle_is true true false r = refl
rle_is true true true r = refl

module _ (bytes : List ℕ) (some : 4 ≤ length bytes) where
  abbrev body : List ℕ
  body = drop 4 bytes

  size_is : (words : ℕ) (b : Block) → needs_of b ≡ None → size_verdict (length bytes) (4 + 4 * words) ≡ verdict_of (read_among [] (sized words body (Typed b)))
  size_is words b n = go (ℕ_discrete (length bytes) (4 + 4 * words))
    where
      go : Dec (length bytes ≡ 4 + 4 * words) → size_verdict (length bytes) (4 + 4 * words) ≡ verdict_of (read_among [] (sized words body (Typed b)))
      go (yes e) = rw (eq-eqb (length bytes) (4 + 4 * words) e, eq-eqb (length body) (4 * words) (omega (arith, length-drop 4 bytes)), n)
      go (no e) = rw (ne_eqb (length bytes) (4 + 4 * words) e, ne_eqb (length body) (4 * words) (λ h. e (omega (arith, length-drop 4 bytes))))

  half : (i : ℕ) → 4 + i + 2 ≤ length bytes → u16_at bytes (4 + i) ≡ be16 body i
  unfolding be16
  half i h =
      let next : 4 + i + 1 ≡ 4 + (i + 1) = omega arith in
      u16_inside bytes (4 + i) h ∙ ap₂ (λ (x y : ℕ). x * 256 + y) (sym (get_or-drop 4 bytes i 0)) (ap (λ (k : ℕ). get_or bytes k 0) next ∙ sym (get_or-drop 4 bytes (i + 1) 0))

  summary_is : (words flag : ℕ) (b : Block) (source : ℕ) → 2 ≤ words → needs_of b ≡ Some source →
      summary_verdict bytes (4 + 4 * words) flag ≡ verdict_of (read_among [] (sized words body (summary_read flag (be16 body 4) (be16 body 6) b)))
  unfolding summary_read measured
  summary_is words flag b source w n = go (ℕ_discrete (length bytes) (4 + 4 * words))
    where
      tests : (f r : Bool) → unless f bad_flag (unless r bad_rate unmeasured) ≡ verdict_of (read_among [] (unless f (Dropped BadFlag) (unless r (Dropped BadRate) (Typed b))))
      tests false r = refl
      tests true false = refl
      tests true true = rw n

      go : Dec (length bytes ≡ 4 + 4 * words) → summary_verdict bytes (4 + 4 * words) flag ≡ verdict_of (read_among [] (sized words body (summary_read flag (be16 body 4) (be16 body 6) b)))
      go (yes e) =
          rw (eq-eqb (length bytes) (4 + 4 * words) e, eq-eqb (length body) (4 * words) (omega (arith, length-drop 4 bytes)), half 4 (omega arith), half 6 (omega arith))
          (tests (flag_good flag) (rates_good (be16 body 4) (be16 body 6)))
      go (no e) = rw (ne_eqb (length bytes) (4 + 4 * words) e, ne_eqb (length body) (4 * words) (λ h. e (omega (arith, length-drop 4 bytes))))

  -- the cases of a type
  abbrev Is : ℕ → Type 0
  Is verdict = verdict ≡ verdict_of (read_among [] (read_bytes bytes))

  -- the body as the part behind the first word
  pub of_rle : get_or bytes 0 0 ≡ rle_type → Is (verdict_of (read_rle (get_or bytes 1 0) (take (length bytes - 4) body)))
  unfolding read_bytes read_block read_rle
  of_rle k =
      let rest = take_all (length bytes - 4) body (rw (length-drop 4 bytes) (omega arith)) in
      rw (rest, le-leb 4 (length bytes) some, k) (rle_is (rle_sized body) (eqb (thinning_in (get_or bytes 1 0)) 0) (rle_covered body) (rle_in body))

  pub of_measurement : get_or bytes 0 0 ≡ measurement_type → Is (size_verdict (length bytes) (4 + 4 * measurement_words))
  unfolding read_bytes read_block read_measurement
  of_measurement k = rw (le-leb 4 (length bytes) some, k) (size_is measurement_words _ refl)

  pub of_loss_lem : get_or bytes 0 0 ≡ loss_type → Is (summary_verdict bytes (4 + 4 * loss_words) (flag_in (get_or bytes 1 0)))
  unfolding read_bytes read_block read_loss
  of_loss_lem k = rw (le-leb 4 (length bytes) some, k) (summary_is loss_words (flag_in (get_or bytes 1 0)) _ _ (omega arith) refl)

  pub of_discard : get_or bytes 0 0 ≡ discard_type → Is (summary_verdict bytes (4 + 4 * discard_words) (flag_in (get_or bytes 1 0)))
  unfolding read_bytes read_block read_discard
  of_discard k = rw (le-leb 4 (length bytes) some, k) (summary_is discard_words (flag_in (get_or bytes 1 0)) _ _ (omega arith) refl)

  pub of_effective : get_or bytes 0 0 ≡ effective_type → Is (size_verdict (length bytes) (4 + 4 * effective_words))
  unfolding read_bytes read_block read_effective
  of_effective k = rw (le-leb 4 (length bytes) some, k) (size_is effective_words _ refl)

  pub of_streams : get_or bytes 0 0 ≡ streams_type → Is (size_verdict (length bytes) (4 + 4 * streams_words))
  unfolding read_bytes read_block read_streams
  of_streams k = rw (le-leb 4 (length bytes) some, k) (size_is streams_words _ refl)

  pub of_others : (get_or bytes 0 0 ≡ rle_type → ⊥) → (get_or bytes 0 0 ≡ measurement_type → ⊥) → (get_or bytes 0 0 ≡ loss_type → ⊥) → (get_or bytes 0 0 ≡ discard_type → ⊥) →
      (get_or bytes 0 0 ≡ effective_type → ⊥) → (get_or bytes 0 0 ≡ streams_type → ⊥) → Is 255
  unfolding read_bytes read_block
  of_others r a b c d e = rw (le-leb 4 (length bytes) some, ne_eqb _ _ r, ne_eqb _ _ a, ne_eqb _ _ b, ne_eqb _ _ c, ne_eqb _ _ d, ne_eqb _ _ e)

-- fewer than four bytes
pub of_few : (bytes : List ℕ) → length bytes < 4 → 255 ≡ verdict_of (read_among [] (read_bytes bytes))
unfolding read_bytes
of_few bytes h = rw (lt-leb 4 (length bytes) h)
