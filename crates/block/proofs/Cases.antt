-- What reading a block by itself can answer, as two laws over any property: of the type and the answer, and of the
-- type and the typed block. Every law about what is read goes by one of them. Assumes nothing.
use Rattle.std.proofs.Common.{◌≡◌, ℕ, ◌*◌, Bool, true, false, cond, ◌&&◌, eqb, List, ◌∷◌, length, refl, arith, eqb-true, le-leb}
use Rattle.refusal.specs.Answer.{unless}
use Rattle.refusal.proofs.Tests.{and_left, and_right}
use Rattle.wire.specs.BigEndian.{be16}
use Rattle.block.specs.declared.Block.{Block}
use Rattle.block.specs.declared.Block.TheVariants.{Measured, Loss, Discard, Effective, Streams}
use Rattle.block.specs.declared.BlockRead.{BlockRead}
use Rattle.block.specs.declared.BlockRead.TheVariants.{Typed, Rle, Unknown, Dropped}
use Rattle.block.specs.Types.{rle_type, measurement_type, loss_type, discard_type, effective_type, streams_type, measurement_words, loss_words, discard_words, effective_words, streams_words}
use Rattle.block.specs.Layouts.{measurement_in, flag_in, loss_in, discard_in, effective_in, streams_in, thinning_in, rle_in}
use Rattle.block.specs.Reading.{flag_good, rate_good, summary_good, sized, summary_read, read_measurement, read_loss, read_discard, read_effective, read_streams, rle_sized, rle_covered, read_rle, read_block, read_bytes}
use Rattle.block.specs.Laws.{OwnReason}
use Rattle.block.specs.declared.Reason.{Reason}
use Rattle.block.specs.declared.Reason.TheVariants.{BadSize, BadFlag, BadRate, BadChunks}

-- the flag and the rates that stand in a 17 or 18 are good
abbrev pub Good : ℕ → List ℕ → Type 0
Good specific body = summary_good (flag_in specific) (be16 body 4) (be16 body 6) ≡ true

-- a type 1 with nothing to drop it for
abbrev pub GoodRle : ℕ → List ℕ → Type 0
GoodRle specific body = (rle_sized body ≡ true) × (eqb (thinning_in specific) 0 ≡ true) × (rle_covered body ≡ true)

-- four bytes, then a body
pub bytes_read : (type specific high low : ℕ) (body : List ℕ) → read_bytes (type ∷ specific ∷ high ∷ low ∷ body) ≡ read_block type specific body
unfolding read_bytes
bytes_read type specific high low body = rw (le-leb 4 (length (type ∷ specific ∷ high ∷ low ∷ body)) (omega arith))

pub good_typed : (flag burst gap : ℕ) (b : Block) → summary_good flag burst gap ≡ true → summary_read flag burst gap b ≡ Typed b
unfolding summary_read summary_good
good_typed flag burst gap b good =
    let rates : Bool = rate_good burst && rate_good gap in
    rw (and_left (flag_good flag) rates good, and_right (flag_good flag) rates good)

module _ (specific : ℕ) (body : List ℕ) (P : ℕ → BlockRead → Type 0)
    (unknown : (type : ℕ) → P type Unknown)
    (dropped : (type : ℕ) (reason : Reason) → OwnReason reason → P type (Dropped reason))
    (rle : GoodRle specific body → P rle_type (Rle (rle_in body)))
    (measured : length body ≡ 4 * measurement_words → P measurement_type (Typed (Measured (measurement_in body))))
    (loss : length body ≡ 4 * loss_words → Good specific body → P loss_type (Typed (Loss (loss_in specific body))))
    (discard : length body ≡ 4 * discard_words → Good specific body → P discard_type (Typed (Discard (discard_in specific body))))
    (effective : length body ≡ 4 * effective_words → P effective_type (Typed (Effective (effective_in body))))
    (streams : length body ≡ 4 * streams_words → P streams_type (Typed (Streams (streams_in body)))) where
  by_type : (type this : ℕ) (a rest : BlockRead) → P this a → P type rest → P type (cond (eqb type this) a rest)
  by_type type this a rest here there = go (eqb type this) (eqb-true type this)
    where
      go : (t : Bool) → (t ≡ true → type ≡ this) → P type (cond t a rest)
      go true is = rw (is refl) here
      go false is = there

  by_size : (type words : ℕ) (a : BlockRead) → (length body ≡ 4 * words → P type a) → P type (sized words body a)
  by_size type words a good = go (eqb (length body) (4 * words)) (eqb-true (length body) (4 * words))
    where
      go : (t : Bool) → (t ≡ true → length body ≡ 4 * words) → P type (unless t (Dropped BadSize) a)
      go true is = good (is refl)
      go false is = dropped type BadSize (omega arith, omega arith, λ e. let z : ◌≡◌ {A = ℕ} 0 1 = cc in omega arith)

  by_summary : (type : ℕ) (b : Block) → (Good specific body → P type (Typed b)) → P type (summary_read (flag_in specific) (be16 body 4) (be16 body 6) b)
  unfolding summary_read summary_good
  by_summary type b good = go (flag_good (flag_in specific)) (rate_good (be16 body 4) && rate_good (be16 body 6)) good
    where
      go : (f r : Bool) → ((f && r) ≡ true → P type (Typed b)) → P type (unless f (Dropped BadFlag) (unless r (Dropped BadRate) (Typed b)))
      go false r is = dropped type BadFlag (omega arith, omega arith, λ e. let z : ◌≡◌ {A = ℕ} 0 1 = cc in omega arith)
      go true false is = dropped type BadRate (omega arith, omega arith, λ e. let z : ◌≡◌ {A = ℕ} 0 1 = cc in omega arith)
      go true true is = is refl

  by_rle : P rle_type (read_rle specific body)
  unfolding read_rle
  by_rle = go (rle_sized body) (eqb (thinning_in specific) 0) (rle_covered body) rle
    where
      go : (s t c : Bool) → ((s ≡ true) × (t ≡ true) × (c ≡ true) → P rle_type (Rle (rle_in body))) →
          P rle_type (unless s (Dropped BadSize) (unless t (Dropped BadFlag) (unless c (Dropped BadChunks) (Rle (rle_in body)))))
      go false t c is = dropped rle_type BadSize (omega arith, omega arith, λ e. let z : ◌≡◌ {A = ℕ} 0 1 = cc in omega arith)
      go true false c is = dropped rle_type BadFlag (omega arith, omega arith, λ e. let z : ◌≡◌ {A = ℕ} 0 1 = cc in omega arith)
      go true true false is = dropped rle_type BadChunks (omega arith, omega arith, λ e. let z : ◌≡◌ {A = ℕ} 0 1 = cc in omega arith)
      go true true true is = is (refl, refl, refl)

  pub answers : (type : ℕ) → P type (read_block type specific body)
  unfolding read_block read_measurement read_loss read_discard read_effective read_streams
  answers type =
      by_type type rle_type _ _ by_rle
      (by_type type measurement_type _ _ (by_size measurement_type measurement_words _ measured)
      (by_type type loss_type _ _ (by_size loss_type loss_words _ (λ size. by_summary loss_type _ (loss size)))
      (by_type type discard_type _ _ (by_size discard_type discard_words _ (λ size. by_summary discard_type _ (discard size)))
      (by_type type effective_type _ _ (by_size effective_type effective_words _ effective)
      (by_type type streams_type _ _ (by_size streams_type streams_words _ streams) (unknown type))))))

module _ (specific : ℕ) (body : List ℕ) (Q : ℕ → Block → Type 0)
    (measured : length body ≡ 4 * measurement_words → Q measurement_type (Measured (measurement_in body)))
    (loss : length body ≡ 4 * loss_words → Good specific body → Q loss_type (Loss (loss_in specific body)))
    (discard : length body ≡ 4 * discard_words → Good specific body → Q discard_type (Discard (discard_in specific body)))
    (effective : length body ≡ 4 * effective_words → Q effective_type (Effective (effective_in body)))
    (streams : length body ≡ 4 * streams_words → Q streams_type (Streams (streams_in body))) where
  pub typed_answers : (type : ℕ) (b : Block) → read_block type specific body ≡ Typed b → Q type b
  typed_answers type b =
      answers specific body (λ t a. a ≡ Typed b → Q t b)
      (λ t h. let z : ◌≡◌ {A = ℕ} 0 1 = cc in absurd (omega arith))
      (λ t reason own h. let z : ◌≡◌ {A = ℕ} 0 1 = cc in absurd (omega arith))
      (λ good h. let z : ◌≡◌ {A = ℕ} 0 1 = cc in absurd (omega arith))
      (λ s. same _ _ (measured s))
      (λ s g. same _ _ (loss s g))
      (λ s g. same _ _ (discard s g))
      (λ s. same _ _ (effective s))
      (λ s. same _ _ (streams s))
      type
    where
      same : (t : ℕ) (a : Block) → Q t a → Typed a ≡ Typed b → Q t b
      same t a q h = let e : b ≡ a = cc in rw e q
