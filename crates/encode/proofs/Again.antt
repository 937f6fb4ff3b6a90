-- A block read and written again has the same bytes but for reserved bits, and what was read as typed can be written:
-- `WrittenAgain` and `TypedWritable` of specs/Laws.antt. Both follow from what a typed block holds of its bytes, `Held`.
-- Assumes nothing.
use Prim.Native.Nat.{ℕ, zero, suc, ◌+◌, ◌*◌, ◌/◌, ◌<◌}
use mathlib.Core.Path.{◌≡◌, refl, ap, ap₂, ◌∙◌}
use mathlib.Core.Bool.{Bool, true, false, cond}
use mathlib.Core.List.{List, [], ◌∷◌, ◌++◌}
use native.Mathlib.Omega.{arith}
use native.Mathlib.Decide.{ℕ_discrete, dec_lt}
use lib.Dec.{eqb}
use lib.ListN.{length, get_or, drop, set}
use lib.Seq.{get_or-set_same, get_or-set_other, set_out}
use Rattle.wire.specs.BigEndian.{be16, be32, bytes16}
use Rattle.block.specs.Types.{measurement_type, effective_type, measurement_words, loss_words, discard_words, effective_words, streams_words}
use Rattle.block.specs.Layouts.{measurement_in, loss_in, discard_in, effective_in, streams_in}
use Rattle.block.specs.Reading.{read_block}
use Rattle.block.specs.Reserved.{cleared_byte, cleared_body}
use Rattle.block.specs.declared.Block.{Block}
use Rattle.block.specs.declared.BlockRead.TheVariants.{Typed}
use Rattle.block.proofs.Cells.{in_cells}
use Rattle.block.proofs.Cases.{typed_answers}
use Rattle.block.proofs.Reserved.{cleared_size}
use Rattle.encode.specs.Words.{type_of, specific_of, body_words, in_bytes, writable}
use Rattle.encode.specs.Laws.{Half, Word, Fits, Bytes, WrittenAgain, TypedWritable}
use Rattle.encode.proofs.Framing.{four_bytes, framed_bytes}

-- the first n words of a body
abbrev words_in : List ℕ → ℕ → List ℕ
words_in s zero = []
words_in s (suc n) = be32 s 0 ∷ words_in (drop 4 s) n

words_bytes : (s : List ℕ) (n : ℕ) → Bytes s → length s ≡ 4 * n → in_bytes (words_in s n) ≡ s
unfolding be32 be16
words_bytes [] zero b e = refl
words_bytes (w ∷ s) zero b e = absurd (omega arith)
words_bytes [] (suc n) b e = absurd (omega arith)
words_bytes (w ∷ []) (suc n) b e = absurd (omega arith)
words_bytes (w ∷ x ∷ []) (suc n) b e = absurd (omega arith)
words_bytes (w ∷ x ∷ y ∷ []) (suc n) b e = absurd (omega arith)
words_bytes (w ∷ x ∷ y ∷ z ∷ s) (suc n) b e =
    ap₂ (λ (p q : List ℕ). p ++ q) (four_bytes w x y z (b 0) (b 1) (b 2) (b 3)) (words_bytes s n (λ i. b (suc (suc (suc (suc i))))) (omega arith))

bytes_set : (s : List ℕ) (p : ℕ) → Bytes s → Bytes (set s p 0)
bytes_set s p b i = go (ℕ_discrete i p) (dec_lt p (length s))
  where
    go : Dec (i ≡ p) → Dec (p < length s) → get_or (set s p 0) i 0 < 256
    go (yes e) (yes inside) = rw (e, get_or-set_same s p 0 0 inside) (omega arith)
    go (yes e) (no outside) = rw (set_out s p 0 (omega arith)) (b i)
    go (no other) d = rw (get_or-set_other s p i 0 0 other) (b i)

cleared_bytes_lem : (type : ℕ) (body : List ℕ) → Bytes body → Bytes (cleared_body type body)
cleared_bytes_lem type body b = go (eqb type measurement_type) (eqb type effective_type)
  where
    go : (m e : Bool) → Bytes (cond m (set (set body 4 0) 5 0) (cond e (set (set body 6 0) 7 0) body))
    go true e = bytes_set (set body 4 0) 5 (bytes_set body 4 b)
    go false true = bytes_set (set body 6 0) 7 (bytes_set body 6 b)
    go false false = b

-- what a typed block holds of the type, byte and body that it was read from
record Held (type specific : ℕ) (body : List ℕ) (b : Block) : Type 0 where
  pub passes : writable b ≡ true
  pub fits : Fits b
  pub kind : type_of b ≡ type
  pub byte : specific_of b ≡ cleared_byte type specific
  pub size : length body ≡ 4 * length (body_words b)
  pub words : body_words b ≡ words_in (cleared_body type body) (length (body_words b))

held : (type specific : ℕ) (body : List ℕ) (b : Block) → specific < 256 → Bytes body → read_block type specific body ≡ Typed b →
    Held type specific body b
unfolding measurement_in loss_in discard_in effective_in streams_in be32 be16
held type specific body b small bytes =
    typed_answers specific body (λ t r. Held t specific body r)
    (λ s. record { passes = refl; fits = (word 0, half 6, word 8, word 12, word 16, word 20, word 24); kind = refl; byte = refl; size = s; words = rw (in_cells (4 * measurement_words) body s) })
    (λ s g. record { passes = g; fits = (word 0, half 4, half 6, half 8, half 10); kind = refl; byte = omega arith; size = s; words = rw (in_cells (4 * loss_words) body s) })
    (λ s g. record { passes = g; fits = (word 0, half 4, half 6); kind = refl; byte = omega arith; size = s; words = rw (in_cells (4 * discard_words) body s) })
    (λ s. record { passes = refl; fits = (word 0, half 4); kind = refl; byte = refl; size = s; words = rw (in_cells (4 * effective_words) body s) })
    (λ s. record { passes = refl; fits = (word 0, half 4, half 6, word 8, word 12, word 16, word 20, word 24, word 28, word 32, word 36, word 40); kind = refl; byte = refl; size = s; words = rw (in_cells (4 * streams_words) body s) })
    type b
  where
    half : (i : ℕ) → Half (be16 body i)
    half i = omega (arith, bytes i, bytes (i + 1))

    word : (i : ℕ) → Word (be32 body i)
    word i = omega (arith, half i, half (i + 2))

pub typed_writable : TypedWritable
typed_writable type specific body b small bytes read =
    let h = held type specific body b small bytes read in
    (h.passes, h.fits, h.kind)

pub written_again : WrittenAgain
written_again type specific body b small bytes read =
    let h = held type specific body b small bytes read in
    let cleared : List ℕ = cleared_body type body in
    let long : length cleared ≡ 4 * length (body_words b) = cleared_size type body ∙ h.size in
    let count : length cleared / 4 ≡ length (body_words b) = omega arith in
    framed_bytes b ∙ rw (count, h.kind, h.byte) (ap (λ (x : List ℕ). (type ∷ cleared_byte type specific ∷ bytes16 (length (body_words b))) ++ x) (ap in_bytes h.words ∙ words_bytes cleared (length (body_words b)) (cleared_bytes_lem type body bytes) long))
