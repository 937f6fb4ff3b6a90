-- Two lists compared number by number, and blocks word by word: the turns of the loops. Assumes nothing.
use Prim.Native.Nat.{ℕ, ◌+◌, ◌*◌, ◌<◌, ◌≤◌}
use mathlib.Core.Path.{◌≡◌, refl, sym, ap, ◌∙◌}
use mathlib.Core.Bool.{Bool, true, false, beq}
use mathlib.Core.List.{List}
use native.Mathlib.Omega.{arith}
use native.Mathlib.Numerals.{add-one}
use borrow.Author.Tests.{eq-eqb, ne_eqb}
use lib.ListN.{length, get_or, drop, drop_of_length-le}
use lib.Seq.{drop-cons, get_or-drop}
use Rattle.wire.specs.BigEndian.{be16, be32, u32_at}
use Rattle.wire.proofs.Numbers.{u32_inside}
use Rattle.compare.specs.Differences.{same_numbers}
use Rattle.compare.proofs.Nothing.{same_bytes}

-- lists that are not as long
pub same_long : (x y : List ℕ) → (length x ≡ length y → ⊥) → false ≡ same_numbers x y
same_long x y n = go (same_numbers x y) refl
  where
    go : (t : Bool) → same_numbers x y ≡ t → false ≡ t
    go true h = absurd (n (ap length (same_bytes x y h)))
    go false h = refl

-- one number more
pub same_on : (x y : List ℕ) (i : ℕ) → i < length x → i < length y → get_or x i 0 ≡ get_or y i 0 → same_numbers (drop i x) (drop i y) ≡ same_numbers (drop (i + 1) x) (drop (i + 1) y)
unfolding same_numbers
same_on x y i l m e = rw (drop-cons x i 0 l, drop-cons y i 0 m, eq-eqb (get_or x i 0) (get_or y i 0) e, add-one i)

pub same_off : (x y : List ℕ) (i : ℕ) → i < length x → i < length y → (get_or x i 0 ≡ get_or y i 0 → ⊥) → same_numbers (drop i x) (drop i y) ≡ false
unfolding same_numbers
same_off x y i l m e = rw (drop-cons x i 0 l, drop-cons y i 0 m, ne_eqb (get_or x i 0) (get_or y i 0) e)

pub same_end : (x y : List ℕ) (i : ℕ) → length x ≤ i → length y ≤ i → same_numbers (drop i x) (drop i y) ≡ true
unfolding same_numbers
same_end x y i l m = rw (drop_of_length-le x l, drop_of_length-le y m)

-- one word more of bytes
word_is : (x : List ℕ) (i : ℕ) → i + 4 ≤ length x → u32_at x i ≡ (get_or x i 0 * 256 + get_or x (i + 1) 0) * 65536 + (get_or x (i + 2) 0 * 256 + get_or x (i + 2 + 1) 0)
unfolding be32 be16
word_is x i h = u32_inside x i h

module _ (x y : List ℕ) (i : ℕ) (l : i + 4 ≤ length x) (m : i + 4 ≤ length y) where
  pub word_on : ((j : ℕ) → get_or x j 0 < 256) → ((j : ℕ) → get_or y j 0 < 256) → u32_at x i ≡ u32_at y i →
      same_numbers (drop i x) (drop i y) ≡ same_numbers (drop (i + 4) x) (drop (i + 4) y)
  word_on p q e =
      let a = word_is x i l in
      let b = word_is y i m in
      let p₀ = p i in
      let p₁ = p (i + 1) in
      let p₂ = p (i + 2) in
      let p₃ = p (i + 2 + 1) in
      let q₀ = q i in
      let q₁ = q (i + 1) in
      let q₂ = q (i + 2) in
      let q₃ = q (i + 2 + 1) in
      let two : i + 1 + 1 ≡ i + 2 = omega arith in
      let four : i + 2 + 1 + 1 ≡ i + 4 = omega arith in
      same_on x y i (omega arith) (omega arith) (omega arith)
      ∙ same_on x y (i + 1) (omega arith) (omega arith) (omega arith)
      ∙ ap (λ (k : ℕ). same_numbers (drop k x) (drop k y)) two
      ∙ same_on x y (i + 2) (omega arith) (omega arith) (omega arith)
      ∙ same_on x y (i + 2 + 1) (omega arith) (omega arith) (omega arith)
      ∙ ap (λ (k : ℕ). same_numbers (drop k x) (drop k y)) four

  pub word_off : (u32_at x i ≡ u32_at y i → ⊥) → same_numbers (drop i x) (drop i y) ≡ false
  word_off n = go (same_numbers (drop i x) (drop i y)) refl
    where
      byte : drop i x ≡ drop i y → (j k : ℕ) → i + j ≡ k → get_or x k 0 ≡ get_or y k 0
      byte e j k h = ap (λ (w : ℕ). get_or x w 0) (sym h) ∙ sym (get_or-drop i x j 0) ∙ ap (λ (w : List ℕ). get_or w j 0) e ∙ get_or-drop i y j 0 ∙ ap (λ (w : ℕ). get_or y w 0) h

      go : (t : Bool) → same_numbers (drop i x) (drop i y) ≡ t → t ≡ false
      go true h =
          let e = same_bytes (drop i x) (drop i y) h in
          absurd (n (word_is x i l ∙ rw (byte e 0 i (omega arith), byte e 1 (i + 1) refl, byte e 2 (i + 2) refl, byte e 3 (i + 2 + 1) (omega arith)) (sym (word_is y i m))))
      go false h = refl

-- what a comparison of two tests says
pub beq_same : (a b : Bool) → beq a b ≡ true → a ≡ b
beq_same true true h = refl
beq_same true false h = sym h
beq_same false true h = h
beq_same false false h = refl

pub beq_apart : (a b : Bool) → beq a b ≡ false → a ≡ b → ⊥
beq_apart true true h e = let z : ◌≡◌ {A = ℕ} 0 1 = cc in omega arith
beq_apart true false h e = let z : ◌≡◌ {A = ℕ} 0 1 = cc in omega arith
beq_apart false true h e = let z : ◌≡◌ {A = ℕ} 0 1 = cc in omega arith
beq_apart false false h e = let z : ◌≡◌ {A = ℕ} 0 1 = cc in omega arith
