-- Each difference of two lists of contents has its entry, where fields of one type are as many. Assumes nothing.
use Prim.Native.Nat.{ℕ, zero, suc, ◌+◌, ◌<◌, ◌≤◌}
use mathlib.Core.Path.{◌≡◌, refl, sym, ap, ◌∙◌, subst}
use mathlib.Core.Logic.{inl, inr}
use mathlib.Core.Bool.{Bool, true, false, cond}
use mathlib.Core.List.{List, [], ◌∷◌}
use native.Mathlib.Omega.{arith}
use borrow.Author.Tests.{eq-eqb, ne_eqb}
use lib.ListN.{length, get_or}
use Rattle.difference.specs.declared.Difference.{Difference}
use Rattle.difference.specs.Differences.{fields, whole_block, only_first, only_second, where_unequal, fields_from}
use Rattle.compare.specs.Differences.{Content, typed, bytes, same_numbers, between, only_seconds, blocks_from}
use Rattle.compare.proofs.Nothing.{same_bytes, AllSized}
use Rattle.compare.proofs.Members.{In, in_front, in_back}
use Rattle.compare.proofs.Sound.{at, Diff, field_at, block_at, first_at, second_at, shifted}

pub unequal_in : (a b : ℕ) (d : Difference) → (a ≡ b → ⊥) → In d (where_unequal a b d)
unequal_in a b d n = rw (ne_eqb a b n) (inl refl)

fields_has : (k f : ℕ) (us vs : List ℕ) (g : ℕ) → length us ≡ length vs → g < length us → (get_or us g 0 ≡ get_or vs g 0 → ⊥) →
    In (fields k (f + g) (get_or us g 0) (get_or vs g 0)) (fields_from k f us vs)
unfolding fields_from
fields_has k f [] vs g e l n = absurd (omega arith)
fields_has k f (u ∷ us) [] g e l n = absurd (omega arith)
fields_has k f (u ∷ us) (v ∷ vs) zero e l n =
    let same : f + 0 ≡ f = omega arith in
    rw same (in_front (fields k f u v) (where_unequal u v (fields k f u v)) (fields_from k (suc f) us vs) (unequal_in u v (fields k f u v) n))
fields_has k f (u ∷ us) (v ∷ vs) (suc g) e l n =
    let next : f + suc g ≡ suc f + g = omega arith in
    rw next (in_back (fields k (suc f + g) (get_or us g 0) (get_or vs g 0)) (where_unequal u v (fields k f u v)) (fields_from k (suc f) us vs) (fields_has k (suc f) us vs g (omega arith) (omega arith) n))

between_has : (k : ℕ) (x y : Content) → (x ≡ y → ⊥) → ((t : ℕ) (us vs : List ℕ) → x ≡ typed t us → y ≡ typed t vs → ⊥) → In (whole_block k) (between k x y)
between_has k (typed t us) (typed u vs) n m = rw (ne_eqb t u (λ e. m t us vs refl (ap (λ (w : ℕ). typed w vs) (sym e)))) (inl refl)
between_has k (typed t us) (bytes vs) n m = inl refl
between_has k (bytes us) (typed u vs) n m = inl refl
between_has k (bytes us) (bytes vs) n m = go (same_numbers us vs) refl
  where
    go : (same : Bool) → same_numbers us vs ≡ same → In (whole_block k) (cond same [] (whole_block k ∷ []))
    go true e = absurd (n (ap bytes (same_bytes us vs e)))
    go false e = inl refl

module _ (count : ℕ → ℕ) where
  has_field : (k : ℕ) (xs ys : List Content) → AllSized count xs → AllSized count ys → (j f t : ℕ) (us vs : List ℕ) → j < length xs → j < length ys →
      at xs j ≡ typed t us → at ys j ≡ typed t vs → f < length us → (get_or us f 0 ≡ get_or vs f 0 → ⊥) →
      In (fields (k + j) f (get_or us f 0) (get_or vs f 0)) (blocks_from k xs ys)
  unfolding blocks_from
  has_field k [] ys p q j f t us vs a b x y l n = absurd (omega arith)
  has_field k (c ∷ xs) [] p q j f t us vs a b x y l n = absurd (omega arith)
  has_field k (c ∷ xs) (e ∷ ys) p q zero f t us vs a b x y l n =
      let same : k + 0 ≡ k = omega arith in
      let index : 0 + f ≡ f = omega arith in
      let long : length us ≡ length vs = rw x at p.0 ∙ sym (rw y at q.0) in
      rw same (in_front (fields k f (get_or us f 0) (get_or vs f 0)) (between k c e) (blocks_from (suc k) xs ys) (rw (x, y, eq-eqb t t refl) (rw index at (fields_has k 0 us vs f long l n))))
  has_field k (c ∷ xs) (e ∷ ys) p q (suc j) f t us vs a b x y l n =
      rw (← shifted k j) (in_back (fields (suc k + j) f (get_or us f 0) (get_or vs f 0)) (between k c e) (blocks_from (suc k) xs ys) (has_field (suc k) xs ys p.1 q.1 j f t us vs (omega arith) (omega arith) x y l n))

  has_block : (k : ℕ) (xs ys : List Content) (j : ℕ) → j < length xs → j < length ys → (at xs j ≡ at ys j → ⊥) →
      ((t : ℕ) (us vs : List ℕ) → at xs j ≡ typed t us → at ys j ≡ typed t vs → ⊥) → In (whole_block (k + j)) (blocks_from k xs ys)
  unfolding blocks_from
  has_block k [] ys j a b n m = absurd (omega arith)
  has_block k (c ∷ xs) [] j a b n m = absurd (omega arith)
  has_block k (c ∷ xs) (e ∷ ys) zero a b n m =
      let same : k + 0 ≡ k = omega arith in rw same (in_front (whole_block k) (between k c e) (blocks_from (suc k) xs ys) (between_has k c e n m))
  has_block k (c ∷ xs) (e ∷ ys) (suc j) a b n m =
      rw (← shifted k j) (in_back (whole_block (suc k + j)) (between k c e) (blocks_from (suc k) xs ys) (has_block (suc k) xs ys j (omega arith) (omega arith) n m))

  has_first : (k : ℕ) (xs ys : List Content) (j : ℕ) → j < length xs → length ys ≤ j → In (only_first (k + j)) (blocks_from k xs ys)
  unfolding blocks_from
  has_first k [] ys j a b = absurd (omega arith)
  has_first k (c ∷ xs) [] zero a b = let same : k + 0 ≡ k = omega arith in rw same (inl refl)
  has_first k (c ∷ xs) [] (suc j) a b =
      inr (subst (λ (i : ℕ). In (only_first i) (blocks_from (suc k) xs [])) (shifted k j) (has_first (suc k) xs [] j (omega arith) (omega arith)))
  has_first k (c ∷ xs) (e ∷ ys) zero a b = absurd (omega arith)
  has_first k (c ∷ xs) (e ∷ ys) (suc j) a b =
      rw (← shifted k j) (in_back (only_first (suc k + j)) (between k c e) (blocks_from (suc k) xs ys) (has_first (suc k) xs ys j (omega arith) (omega arith)))

  has_seconds : (k : ℕ) (ys : List Content) (j : ℕ) → j < length ys → In (only_second (k + j)) (only_seconds k ys)
  unfolding only_seconds
  has_seconds k [] j b = absurd (omega arith)
  has_seconds k (e ∷ ys) zero b = let same : k + 0 ≡ k = omega arith in rw same (inl refl)
  has_seconds k (e ∷ ys) (suc j) b = inr (subst (λ (i : ℕ). In (only_second i) (only_seconds (suc k) ys)) (shifted k j) (has_seconds (suc k) ys j (omega arith)))

  has_second : (k : ℕ) (xs ys : List Content) (j : ℕ) → length xs ≤ j → j < length ys → In (only_second (k + j)) (blocks_from k xs ys)
  unfolding blocks_from
  has_second k [] ys j a b = has_seconds k ys j b
  has_second k (c ∷ xs) [] j a b = absurd (omega arith)
  has_second k (c ∷ xs) (e ∷ ys) zero a b = absurd (omega arith)
  has_second k (c ∷ xs) (e ∷ ys) (suc j) a b =
      rw (← shifted k j) (in_back (only_second (suc k + j)) (between k c e) (blocks_from (suc k) xs ys) (has_second (suc k) xs ys j (omega arith) (omega arith)))

  pub blocks_has : (k : ℕ) (xs ys : List Content) (d : Difference) → AllSized count xs → AllSized count ys → Diff k xs ys d → In d (blocks_from k xs ys)
  blocks_has k xs ys d p q (field_at j f t us vs a b x y l n is) = rw is (has_field k xs ys p q j f t us vs a b x y l n)
  blocks_has k xs ys d p q (block_at j a b n m is) = rw is (has_block k xs ys j a b n m)
  blocks_has k xs ys d p q (first_at j a b is) = rw is (has_first k xs ys j a b)
  blocks_has k xs ys d p q (second_at j a b is) = rw is (has_second k xs ys j a b)
