-- A block's words as bytes: the four of its first word, then the body. Assumes nothing.
use Prim.Native.Nat.{ℕ, ◌+◌, ◌*◌, ◌/◌, ◌%◌, ◌<◌, ◌≤◌}
use mathlib.Core.Path.{◌≡◌, ap, ◌∙◌}
use mathlib.Core.List.{List, [], ◌∷◌, ◌++◌}
use native.Mathlib.Omega.{arith}
use lib.ListN.{length}
use Rattle.wire.specs.BigEndian.{bytes16, bytes32}
use Rattle.block.specs.declared.Block.{Block}
use Rattle.block.specs.declared.Block.TheVariants.{Measured, Loss, Discard, Effective, Streams}
use Rattle.encode.specs.Words.{type_of, specific_of, body_words, block_words, words_of, in_bytes, bytes_of}

-- the bytes of a word that four bytes make
pub four_bytes : (a b c d : ℕ) → a < 256 → b < 256 → c < 256 → d < 256 →
    bytes32 ((a * 256 + b) * 65536 + (c * 256 + d)) ≡ a ∷ b ∷ c ∷ d ∷ []
four_bytes a b c d p q r s = λ j. e₁ j ∷ e₂ j ∷ e₃ j ∷ e₄ j ∷ []
  where
    n : ℕ
    n = (a * 256 + b) * 65536 + (c * 256 + d)

    e₁ : n / 16777216 ≡ a
    e₁ = omega arith

    e₂ : n / 65536 % 256 ≡ b
    e₂ = omega arith

    e₃ : n / 256 % 256 ≡ c
    e₃ = omega arith

    e₄ : n % 256 ≡ d
    e₄ = omega arith

pub framed_words : (type specific : ℕ) (body : List ℕ) → type < 256 → specific < 256 → length body < 65536 →
    in_bytes (block_words type specific body) ≡ (type ∷ specific ∷ bytes16 (length body)) ++ in_bytes body
framed_words type specific body t s small =
    let parts : length body ≡ length body / 256 * 256 + length body % 256 = omega arith in
    ap (λ (n : ℕ). bytes32 ((type * 256 + specific) * 65536 + n) ++ in_bytes body) parts
    ∙ ap (λ (x : List ℕ). x ++ in_bytes body) (four_bytes type specific (length body / 256) (length body % 256) t s (omega arith) (omega arith))

-- type and type-specific byte are bytes, and no block has more than twelve words
small : (b : Block) → (type_of b < 256) × (specific_of b < 256) × (length (words_of b) ≤ 12)
small (Measured m) = (omega arith, omega arith, omega arith)
small (Loss l) = (omega arith, omega arith, omega arith)
small (Discard d) = (omega arith, omega arith, omega arith)
small (Effective e) = (omega arith, omega arith, omega arith)
small (Streams t) = (omega arith, omega arith, omega arith)

pub type_small : (b : Block) → type_of b < 256
type_small b = (small b).0

pub specific_small : (b : Block) → specific_of b < 256
specific_small b = (small b).1

pub few_words : (b : Block) → length (words_of b) ≤ 12
few_words b = (small b).2

pub framed_bytes : (b : Block) → bytes_of b ≡ (type_of b ∷ specific_of b ∷ bytes16 (length (body_words b))) ++ in_bytes (body_words b)
unfolding bytes_of
framed_bytes b =
    framed_words (type_of b) (specific_of b) (body_words b) (type_small b) (specific_small b) (omega (arith, few_words b))
