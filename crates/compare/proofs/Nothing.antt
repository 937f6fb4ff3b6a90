-- Nothing between two contents, or two lists of them, exactly where they are the same; fields of one type are as many.
-- Assumes nothing.
use Prim.Native.Nat.{ℕ, suc}
use mathlib.Core.Path.{◌≡◌, refl, sym, ap, ap₂, ◌∙◌}
use mathlib.Core.Bool.{Bool, true, false, cond}
use mathlib.Core.List.{List, [], ◌∷◌, ◌++◌}
use native.Mathlib.Omega.{arith}
use borrow.Author.Tests.{eqb-true, eq-eqb}
use lib.Dec.{eqb}
use lib.ListN.{length}
use Rattle.refusal.proofs.Tests.{and_left, and_right}
use Rattle.difference.specs.declared.Difference.{Difference}
use Rattle.difference.specs.Differences.{fields, whole_block, where_unequal, fields_from}
use Rattle.compare.specs.Differences.{Content, typed, bytes, same_numbers, between, only_seconds, blocks_from}

pub append_empty : (ds es : List Difference) → ds ++ es ≡ [] → (ds ≡ []) × (es ≡ [])
append_empty [] es h = (refl, h)
append_empty (d ∷ ds) es h = let z : ◌≡◌ {A = ℕ} 0 1 = cc in absurd (omega arith)

pub unequal_none : (a b : ℕ) (d : Difference) → where_unequal a b d ≡ [] → a ≡ b
unequal_none a b d = go (eqb a b) refl
  where
    go : (t : Bool) → eqb a b ≡ t → cond t [] (d ∷ []) ≡ [] → a ≡ b
    go true e h = eqb-true a b e
    go false e h = let z : ◌≡◌ {A = ℕ} 0 1 = cc in absurd (omega arith)

pub equal_none : (a b : ℕ) (d : Difference) → a ≡ b → where_unequal a b d ≡ []
equal_none a b d e = rw (eq-eqb a b e)

pub same_bytes : (us vs : List ℕ) → same_numbers us vs ≡ true → us ≡ vs
unfolding same_numbers
same_bytes [] [] h = refl
same_bytes [] (v ∷ vs) h = let z : ◌≡◌ {A = ℕ} 0 1 = cc in absurd (omega arith)
same_bytes (u ∷ us) [] h = let z : ◌≡◌ {A = ℕ} 0 1 = cc in absurd (omega arith)
same_bytes (u ∷ us) (v ∷ vs) h =
    ap₂ (λ (x : ℕ) (l : List ℕ). x ∷ l) (eqb-true u v (and_left (eqb u v) (same_numbers us vs) h)) (same_bytes us vs (and_right (eqb u v) (same_numbers us vs) h))

pub bytes_same : (us : List ℕ) → same_numbers us us ≡ true
unfolding same_numbers
bytes_same [] = refl
bytes_same (u ∷ us) = rw (eq-eqb u u refl, bytes_same us)

fields_none : (k f : ℕ) (us vs : List ℕ) → length us ≡ length vs → fields_from k f us vs ≡ [] → us ≡ vs
unfolding fields_from
fields_none k f [] [] e h = refl
fields_none k f [] (v ∷ vs) e h = absurd (omega arith)
fields_none k f (u ∷ us) [] e h = absurd (omega arith)
fields_none k f (u ∷ us) (v ∷ vs) e h =
    let p = append_empty (where_unequal u v (fields k f u v)) (fields_from k (suc f) us vs) h in
    ap₂ (λ (x : ℕ) (l : List ℕ). x ∷ l) (unequal_none u v (fields k f u v) p.0) (fields_none k (suc f) us vs (omega arith) p.1)

fields_self : (k f : ℕ) (us : List ℕ) → fields_from k f us us ≡ []
unfolding fields_from
fields_self k f [] = refl
fields_self k f (u ∷ us) = rw (equal_none u u (fields k f u u) refl, fields_self k (suc f) us)

-- as many fields as its type has
abbrev pub Sized : (ℕ → ℕ) → Content → Type 0
Sized count (typed t us) = length us ≡ count t
Sized count (bytes us) = ◌≡◌ {A = ℕ} 0 0

abbrev pub AllSized : (ℕ → ℕ) → List Content → Type 0
AllSized count [] = ◌≡◌ {A = ℕ} 0 0
AllSized count (x ∷ xs) = Sized count x × AllSized count xs

module _ (count : ℕ → ℕ) where
  pub between_none : (k : ℕ) (x y : Content) → Sized count x → Sized count y → between k x y ≡ [] → x ≡ y
  between_none k (typed t us) (typed u vs) p q h = go (eqb t u) refl h
    where
      go : (same : Bool) → eqb t u ≡ same → cond same (fields_from k 0 us vs) (whole_block k ∷ []) ≡ [] → typed t us ≡ typed u vs
      go true e n = let type = eqb-true t u e in ap₂ typed type (fields_none k 0 us vs (p ∙ ap count type ∙ sym q) n)
      go false e n = let z : ◌≡◌ {A = ℕ} 0 1 = cc in absurd (omega arith)
  between_none k (typed t us) (bytes vs) p q h = let z : ◌≡◌ {A = ℕ} 0 1 = cc in absurd (omega arith)
  between_none k (bytes us) (typed u vs) p q h = let z : ◌≡◌ {A = ℕ} 0 1 = cc in absurd (omega arith)
  between_none k (bytes us) (bytes vs) p q h = go (same_numbers us vs) refl h
    where
      go : (same : Bool) → same_numbers us vs ≡ same → cond same [] (whole_block k ∷ []) ≡ [] → bytes us ≡ bytes vs
      go true e n = ap bytes (same_bytes us vs e)
      go false e n = let z : ◌≡◌ {A = ℕ} 0 1 = cc in absurd (omega arith)

  pub blocks_none : (k : ℕ) (xs ys : List Content) → AllSized count xs → AllSized count ys → blocks_from k xs ys ≡ [] → xs ≡ ys
  unfolding blocks_from only_seconds
  blocks_none k [] [] p q h = refl
  blocks_none k [] (y ∷ ys) p q h = let z : ◌≡◌ {A = ℕ} 0 1 = cc in absurd (omega arith)
  blocks_none k (x ∷ xs) [] p q h = let z : ◌≡◌ {A = ℕ} 0 1 = cc in absurd (omega arith)
  blocks_none k (x ∷ xs) (y ∷ ys) p q h =
      let e = append_empty (between k x y) (blocks_from (suc k) xs ys) h in
      ap₂ (λ (c : Content) (l : List Content). c ∷ l) (between_none k x y p.0 q.0 e.0) (blocks_none (suc k) xs ys p.1 q.1 e.1)

pub between_self : (k : ℕ) (x : Content) → between k x x ≡ []
between_self k (typed t us) = rw (eq-eqb t t refl, fields_self k 0 us)
between_self k (bytes us) = rw (bytes_same us)

pub blocks_self : (k : ℕ) (xs : List Content) → blocks_from k xs xs ≡ []
unfolding blocks_from only_seconds
blocks_self k [] = refl
blocks_self k (x ∷ xs) = rw (between_self k x, blocks_self (suc k) xs)
