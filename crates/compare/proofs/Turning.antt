-- Contents compared the other way round: the same differences with kinds 3 and 4 and the readings exchanged. Assumes nothing.
use Prim.Native.Nat.{ℕ, suc}
use mathlib.Core.Path.{◌≡◌, refl, sym, ap₂, ◌∙◌}
use mathlib.Core.Bool.{Bool, true, false, cond}
use mathlib.Core.List.{List, [], ◌∷◌, ◌++◌, map, map-append}
use native.Mathlib.Decide.{ℕ_discrete}
use borrow.Author.Tests.{eq-eqb, ne_eqb}
use lib.Dec.{eqb}
use Rattle.difference.specs.declared.Difference.{Difference}
use Rattle.difference.specs.Differences.{fields, whole_block, where_unequal, fields_from}
use Rattle.compare.specs.Differences.{Content, typed, bytes, same_numbers, between, only_seconds, blocks_from}
use Rattle.compare.specs.Laws.{turned}

eqb_turned : (a b : ℕ) → eqb b a ≡ eqb a b
eqb_turned a b = go (ℕ_discrete a b)
  where
    go : Dec (a ≡ b) → eqb b a ≡ eqb a b
    go (yes e) = eq-eqb b a (sym e) ∙ sym (eq-eqb a b e)
    go (no ne) = ne_eqb b a (λ e. ne (sym e)) ∙ sym (ne_eqb a b ne)

pub unequal_turned : (a b : ℕ) (d : Difference) → where_unequal b a (turned d) ≡ map turned (where_unequal a b d)
unequal_turned a b d = rw (eqb_turned a b) (go (eqb a b))
  where
    go : (t : Bool) → cond t [] (turned d ∷ []) ≡ map turned (cond t [] (d ∷ []))
    go true = refl
    go false = refl

same_turned : (us vs : List ℕ) → same_numbers vs us ≡ same_numbers us vs
unfolding same_numbers
same_turned [] [] = refl
same_turned [] (v ∷ vs) = refl
same_turned (u ∷ us) [] = refl
same_turned (u ∷ us) (v ∷ vs) = rw (eqb_turned u v, same_turned us vs)

fields_turned : (k f : ℕ) (us vs : List ℕ) → fields_from k f vs us ≡ map turned (fields_from k f us vs)
unfolding fields_from
fields_turned k f [] [] = refl
fields_turned k f [] (v ∷ vs) = refl
fields_turned k f (u ∷ us) [] = refl
fields_turned k f (u ∷ us) (v ∷ vs) =
    ap₂ (λ (a b : List Difference). a ++ b) (unequal_turned u v (fields k f u v)) (fields_turned k (suc f) us vs)
    ∙ sym (map-append turned (where_unequal u v (fields k f u v)) (fields_from k (suc f) us vs))

between_turned : (k : ℕ) (x y : Content) → between k y x ≡ map turned (between k x y)
between_turned k (typed t us) (typed u vs) = rw (eqb_turned t u) (go (eqb t u))
  where
    go : (same : Bool) → cond same (fields_from k 0 vs us) (whole_block k ∷ []) ≡ map turned (cond same (fields_from k 0 us vs) (whole_block k ∷ []))
    go true = fields_turned k 0 us vs
    go false = refl
between_turned k (typed t us) (bytes vs) = refl
between_turned k (bytes us) (typed u vs) = refl
between_turned k (bytes us) (bytes vs) = rw (same_turned us vs) (go (same_numbers us vs))
  where
    go : (same : Bool) → cond same [] (whole_block k ∷ []) ≡ map turned (cond same [] (whole_block k ∷ []))
    go true = refl
    go false = refl

firsts_turned : (k : ℕ) (xs : List Content) → blocks_from k xs [] ≡ map turned (only_seconds k xs)
unfolding blocks_from only_seconds
firsts_turned k [] = refl
firsts_turned k (x ∷ xs) = rw (firsts_turned (suc k) xs)

seconds_turned : (k : ℕ) (xs : List Content) → only_seconds k xs ≡ map turned (blocks_from k xs [])
unfolding blocks_from only_seconds
seconds_turned k [] = refl
seconds_turned k (x ∷ xs) = rw (seconds_turned (suc k) xs)

pub blocks_turned : (k : ℕ) (xs ys : List Content) → blocks_from k ys xs ≡ map turned (blocks_from k xs ys)
unfolding blocks_from
blocks_turned k [] ys = firsts_turned k ys
blocks_turned k (x ∷ xs) [] = seconds_turned k (x ∷ xs)
blocks_turned k (x ∷ xs) (y ∷ ys) =
    ap₂ (λ (a b : List Difference). a ++ b) (between_turned k x y) (blocks_turned (suc k) xs ys)
    ∙ sym (map-append turned (between k x y) (blocks_from (suc k) xs ys))
