-- Laws of tests, for the proofs of every crate above: a conjunction's parts, a test at every number below a
-- limit, and tests that agree. Assumes nothing.
use Prim.Native.Nat.{ℕ, zero, suc, ◌<◌, ◌≤◌}
use mathlib.Core.Path.{◌≡◌, refl, sym}
use mathlib.Core.Bool.{Bool, true, false, ◌&&◌}
use native.Mathlib.Omega.{arith}
use native.Mathlib.Decide.{ℕ_discrete}
use borrow.Author.Tests.{leb-true, le-leb}
use lib.Dec.{leb}
use Rattle.refusal.specs.Answer.{unless}

pub and_left : (a b : Bool) → (a && b) ≡ true → a ≡ true
and_left true b h = refl
and_left false b h = h

pub and_right : (a b : Bool) → (a && b) ≡ true → b ≡ true
and_right true b h = h
and_right false true h = refl
and_right false false h = h

pub both : (a b : Bool) → a ≡ true → b ≡ true → (a && b) ≡ true
both a b p q = rw (p, q)

-- an answer that is not the one of a failed test: the test held, and the rest gave it
pub passed : {A : Type 0} (t : Bool) (failed rest x : A) → (failed ≡ x → ⊥) → unless t failed rest ≡ x → (t ≡ true) × (rest ≡ x)
passed true failed rest x other h = (refl, h)
passed false failed rest x other h = absurd (other h)

-- a test of every number below a limit, for the checker to compute
unfoldable pub below : ℕ → (ℕ → Bool) → Bool
below zero p = true
below (suc n) p = p n && below n p

pub below_at : (n : ℕ) (p : ℕ → Bool) → below n p ≡ true → (i : ℕ) → i < n → p i ≡ true
unfolding below
below_at zero p h i l = absurd (omega arith)
below_at (suc n) p h i l = go (below_at n p (and_right (p n) (below n p) h) i) (ℕ_discrete i n)
  where
    go : (i < n → p i ≡ true) → Dec (i ≡ n) → p i ≡ true
    go lower (yes e) = rw e (and_left (p n) (below n p) h)
    go lower (no other) = lower (omega arith)

-- a test that cannot pass, and two tests that pass together
pub fails : (b : Bool) → (b ≡ true → ⊥) → b ≡ false
fails true h = absurd (h refl)
fails false h = refl

pub same_test : (a b : Bool) → (a ≡ true → b ≡ true) → (b ≡ true → a ≡ true) → a ≡ b
same_test true b there back = sym (there refl)
same_test false b there back = sym (fails b (λ h. let e = back h in let z : ◌≡◌ {A = ℕ} 0 1 = cc in omega arith))

pub same_leb : (a b c d : ℕ) → (a ≤ b → c ≤ d) → (c ≤ d → a ≤ b) → leb a b ≡ leb c d
same_leb a b c d there back =
    same_test (leb a b) (leb c d) (λ h. le-leb c d (there (leb-true a b h))) (λ h. le-leb a b (back (leb-true c d h)))

-- the parts of a chain of six
pub six : (a b c d e f : Bool) → (a && b && c && d && e && f) ≡ true →
    (a ≡ true) × (b ≡ true) × (c ≡ true) × (d ≡ true) × (e ≡ true) × (f ≡ true)
six a b c d e f h =
    let h₅ = and_left (a && b && c && d && e) f h in
    let h₄ = and_left (a && b && c && d) e h₅ in
    let h₃ = and_left (a && b && c) d h₄ in
    let h₂ = and_left (a && b) c h₃ in
    (and_left a b h₂, and_right a b h₂, and_right (a && b) c h₃, and_right (a && b && c) d h₄, and_right (a && b && c && d) e h₅, and_right (a && b && c && d && e) f h)
