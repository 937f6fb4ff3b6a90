-- Each entry of two lists of contents compared is a difference of one pair, and the entries stand in order. Assumes nothing.
use Prim.Native.Nat.{ℕ, suc, ◌+◌, ◌<◌, ◌≤◌}
use mathlib.Core.Path.{◌≡◌, refl, sym, ap, ◌∙◌}
use mathlib.Core.Logic.{◌⊎◌, inl, inr}
use mathlib.Core.Bool.{Bool, true, false, cond}
use mathlib.Core.List.{List, [], ◌∷◌, ◌++◌}
use native.Mathlib.Omega.{arith}
use borrow.Author.Tests.{eqb-true, eqb-false}
use lib.Dec.{eqb}
use lib.ListN.{length, get_or}
use Rattle.difference.specs.declared.Difference.{Difference}
use Rattle.difference.specs.Differences.{kind_number, fields, whole_block, only_first, only_second, where_unequal, fields_from}
use Rattle.compare.specs.Differences.{Content, typed, bytes, same_numbers, between, only_seconds, blocks_from}
use Rattle.compare.specs.Laws.{row_of, Before, sender_first, block_first, field_first}
use Rattle.compare.proofs.Nothing.{bytes_same}
use Rattle.compare.proofs.Members.{In, in_either, Ordered, ordered_both}

abbrev pub at : List Content → ℕ → Content
at xs j = get_or xs j (bytes [])

-- a difference of contents number j, which is block k + j
pub data Diff (k : ℕ) (xs ys : List Content) (d : Difference) : Type 0 where
  field_at : (j f t : ℕ) (us vs : List ℕ) → j < length xs → j < length ys → at xs j ≡ typed t us → at ys j ≡ typed t vs →
      f < length us → (get_or us f 0 ≡ get_or vs f 0 → ⊥) → d ≡ fields (k + j) f (get_or us f 0) (get_or vs f 0) → Diff k xs ys d
  block_at : (j : ℕ) → j < length xs → j < length ys → (at xs j ≡ at ys j → ⊥) →
      ((t : ℕ) (us vs : List ℕ) → at xs j ≡ typed t us → at ys j ≡ typed t vs → ⊥) → d ≡ whole_block (k + j) → Diff k xs ys d
  first_at : (j : ℕ) → j < length xs → length ys ≤ j → d ≡ only_first (k + j) → Diff k xs ys d
  second_at : (j : ℕ) → length xs ≤ j → j < length ys → d ≡ only_second (k + j) → Diff k xs ys d

pub in_unequal : (a b : ℕ) (c d : Difference) → In d (where_unequal a b c) → (a ≡ b → ⊥) × (d ≡ c)
in_unequal a b c d h = go (eqb a b) refl h
  where
    go : (t : Bool) → eqb a b ≡ t → In d (cond t [] (c ∷ [])) → (a ≡ b → ⊥) × (d ≡ c)
    go true e i = absurd i
    go false e (inl s) = (eqb-false a b e, s)
    go false e (inr i) = absurd i

-- fields
record FieldAt (k f : ℕ) (us vs : List ℕ) (d : Difference) : Type 0 where
  index : ℕ
  within : index < length us
  unequal : get_or us index 0 ≡ get_or vs index 0 → ⊥
  is : d ≡ fields k (f + index) (get_or us index 0) (get_or vs index 0)

fields_in : (k f : ℕ) (us vs : List ℕ) (d : Difference) → In d (fields_from k f us vs) → FieldAt k f us vs d
unfolding fields_from
fields_in k f [] vs d h = absurd h
fields_in k f (u ∷ us) [] d h = absurd h
fields_in k f (u ∷ us) (v ∷ vs) d h = go (in_either d (where_unequal u v (fields k f u v)) (fields_from k (suc f) us vs) h) (fields_in k (suc f) us vs d)
  where
    go : In d (where_unequal u v (fields k f u v)) ⊎ In d (fields_from k (suc f) us vs) → (In d (fields_from k (suc f) us vs) → FieldAt k (suc f) us vs d) → FieldAt k f (u ∷ us) (v ∷ vs) d
    go (inl i) rest =
        let here = in_unequal u v (fields k f u v) d i in
        let same : f + 0 ≡ f = omega arith in
        record { index = 0; within = omega arith; unequal = here.0; is = rw same here.1 }
    go (inr i) rest =
        let later = rest i in
        let within = later.within in
        let next : f + suc later.index ≡ suc f + later.index = omega arith in
        record { index = suc later.index; within = omega arith; unequal = later.unequal; is = rw next later.is }

-- one pair
between_in : (k : ℕ) (x y : Content) (xs ys : List Content) (d : Difference) → In d (between k x y) → Diff k (x ∷ xs) (y ∷ ys) d
between_in k (typed t us) (typed u vs) xs ys d h = go (eqb t u) refl h
  where
    zero_more : k + 0 ≡ k
    zero_more = omega arith

    go : (same : Bool) → eqb t u ≡ same → In d (cond same (fields_from k 0 us vs) (whole_block k ∷ [])) → Diff k (typed t us ∷ xs) (typed u vs ∷ ys) d
    go true e i =
        let a = fields_in k 0 us vs d i in
        let index : 0 + a.index ≡ a.index = omega arith in
        field_at 0 a.index t us vs (omega arith) (omega arith) refl (ap (λ (n : ℕ). typed n vs) (sym (eqb-true t u e))) a.within a.unequal (rw zero_more (rw index at a.is))
    go false e (inl i) =
        let other = eqb-false t u e in
        block_at 0 (omega arith) (omega arith) (λ s. other cc) (λ w p q a b. other cc) (rw zero_more i)
    go false e (inr i) = absurd i
between_in k (typed t us) (bytes vs) xs ys d (inl h) =
    let zero_more : k + 0 ≡ k = omega arith in
    block_at 0 (omega arith) (omega arith) (λ s. let z : ◌≡◌ {A = ℕ} 0 1 = cc in omega arith) (λ w p q a b. let z : ◌≡◌ {A = ℕ} 0 1 = cc in omega arith) (rw zero_more h)
between_in k (typed t us) (bytes vs) xs ys d (inr h) = absurd h
between_in k (bytes us) (typed u vs) xs ys d (inl h) =
    let zero_more : k + 0 ≡ k = omega arith in
    block_at 0 (omega arith) (omega arith) (λ s. let z : ◌≡◌ {A = ℕ} 0 1 = cc in omega arith) (λ w p q a b. let z : ◌≡◌ {A = ℕ} 0 1 = cc in omega arith) (rw zero_more h)
between_in k (bytes us) (typed u vs) xs ys d (inr h) = absurd h
between_in k (bytes us) (bytes vs) xs ys d h = go (same_numbers us vs) refl h
  where
    zero_more : k + 0 ≡ k
    zero_more = omega arith

    go : (same : Bool) → same_numbers us vs ≡ same → In d (cond same [] (whole_block k ∷ [])) → Diff k (bytes us ∷ xs) (bytes vs ∷ ys) d
    go true e i = absurd i
    go false e (inl i) =
        block_at 0 (omega arith) (omega arith)
        (λ s. let l : vs ≡ us = cc in let r : same_numbers us vs ≡ true = ap (same_numbers us) l ∙ bytes_same us in let z : ◌≡◌ {A = ℕ} 0 1 = cc in omega arith)
        (λ w p q a b. let z : ◌≡◌ {A = ℕ} 0 1 = cc in omega arith) (rw zero_more i)
    go false e (inr i) = absurd i

-- a pair more in front
pub shifted : (k j : ℕ) → suc k + j ≡ k + suc j
shifted k j = omega arith

behind_both : (k : ℕ) (x y : Content) (xs ys : List Content) (d : Difference) → Diff (suc k) xs ys d → Diff k (x ∷ xs) (y ∷ ys) d
behind_both k x y xs ys d (field_at j f t us vs a b p q l n is) = field_at (suc j) f t us vs (omega arith) (omega arith) p q l n (rw (← shifted k j) is)
behind_both k x y xs ys d (block_at j a b n m is) = block_at (suc j) (omega arith) (omega arith) n m (rw (← shifted k j) is)
behind_both k x y xs ys d (first_at j a b is) = first_at (suc j) (omega arith) (omega arith) (rw (← shifted k j) is)
behind_both k x y xs ys d (second_at j a b is) = second_at (suc j) (omega arith) (omega arith) (rw (← shifted k j) is)

behind_first : (k : ℕ) (x : Content) (xs : List Content) (d : Difference) → Diff (suc k) xs [] d → Diff k (x ∷ xs) [] d
behind_first k x xs d (field_at j f t us vs a b p q l n is) = absurd (omega arith)
behind_first k x xs d (block_at j a b n m is) = absurd (omega arith)
behind_first k x xs d (first_at j a b is) = first_at (suc j) (omega arith) (omega arith) (rw (← shifted k j) is)
behind_first k x xs d (second_at j a b is) = absurd (omega arith)

seconds_in : (k : ℕ) (ys : List Content) (d : Difference) → In d (only_seconds k ys) → Diff k [] ys d
unfolding only_seconds
seconds_in k [] d h = absurd h
seconds_in k (y ∷ ys) d (inl e) = let zero_more : k + 0 ≡ k = omega arith in second_at 0 (omega arith) (omega arith) (rw zero_more e)
seconds_in k (y ∷ ys) d (inr h) = go (seconds_in (suc k) ys d h)
  where
    go : Diff (suc k) [] ys d → Diff k [] (y ∷ ys) d
    go (field_at j f t us vs a b p q l n is) = absurd (omega arith)
    go (block_at j a b n m is) = absurd (omega arith)
    go (first_at j a b is) = absurd (omega arith)
    go (second_at j a b is) = second_at (suc j) (omega arith) (omega arith) (rw (← shifted k j) is)

pub blocks_in_lem : (k : ℕ) (xs ys : List Content) (d : Difference) → In d (blocks_from k xs ys) → Diff k xs ys d
unfolding blocks_from
blocks_in_lem k [] ys d h = seconds_in k ys d h
blocks_in_lem k (x ∷ xs) [] d (inl e) = let zero_more : k + 0 ≡ k = omega arith in first_at 0 (omega arith) (omega arith) (rw zero_more e)
blocks_in_lem k (x ∷ xs) [] d (inr h) = behind_first k x xs d (blocks_in_lem (suc k) xs [] d h)
blocks_in_lem k (x ∷ xs) (y ∷ ys) d h = go (in_either d (between k x y) (blocks_from (suc k) xs ys) h) (blocks_in_lem (suc k) xs ys d)
  where
    go : In d (between k x y) ⊎ In d (blocks_from (suc k) xs ys) → (In d (blocks_from (suc k) xs ys) → Diff (suc k) xs ys d) → Diff k (x ∷ xs) (y ∷ ys) d
    go (inl i) rest = between_in k x y xs ys d i
    go (inr i) rest = behind_both k x y xs ys d (rest i)

-- the kind and block of an entry, and its order among them
pub from_block : (k : ℕ) (xs ys : List Content) (d : Difference) → Diff k xs ys d → (0 < kind_number d.kind) × (k ≤ d.block)
from_block k xs ys d (field_at j f t us vs a b p q l n is) = rw is (omega arith, omega arith)
from_block k xs ys d (block_at j a b n m is) = rw is (omega arith, omega arith)
from_block k xs ys d (first_at j a b is) = rw is (omega arith, omega arith)
from_block k xs ys d (second_at j a b is) = rw is (omega arith, omega arith)

in_one : (k : ℕ) (x y : Content) (d : Difference) → In d (between k x y) → (0 < kind_number d.kind) × (d.block ≡ k)
in_one k x y d h = go (between_in k x y [] [] d h)
  where
    go : Diff k (x ∷ []) (y ∷ []) d → (0 < kind_number d.kind) × (d.block ≡ k)
    go (field_at j f t us vs a b p q l n is) = rw is (omega arith, omega arith)
    go (block_at j a b n m is) = rw is (omega arith, omega arith)
    go (first_at j a b is) = absurd (omega arith)
    go (second_at j a b is) = absurd (omega arith)

ordered_unequal : (a b : ℕ) (d : Difference) → Ordered (where_unequal a b d)
ordered_unequal a b d = go (eqb a b)
  where
    go : (t : Bool) → Ordered (cond t [] (d ∷ []))
    go true = refl
    go false = (λ e i. absurd i, refl)

ordered_fields : (k f : ℕ) (us vs : List ℕ) → Ordered (fields_from k f us vs)
unfolding fields_from
ordered_fields k f [] vs = refl
ordered_fields k f (u ∷ us) [] = refl
ordered_fields k f (u ∷ us) (v ∷ vs) =
    ordered_both (where_unequal u v (fields k f u v)) (fields_from k (suc f) us vs) (ordered_unequal u v (fields k f u v)) (ordered_fields k (suc f) us vs)
    (λ d e i j. later d e (in_unequal u v (fields k f u v) d i).1 (fields_in k (suc f) us vs e j))
  where
    later : (d e : Difference) → d ≡ fields k f u v → FieldAt k (suc f) us vs e → Before (row_of d) (row_of e)
    later d e i a = rw (i, a.is) (field_first (omega arith) (omega arith) refl (omega arith))

ordered_between : (k : ℕ) (x y : Content) → Ordered (between k x y)
ordered_between k (typed t us) (typed u vs) = go (eqb t u)
  where
    go : (same : Bool) → Ordered (cond same (fields_from k 0 us vs) (whole_block k ∷ []))
    go true = ordered_fields k 0 us vs
    go false = (λ e i. absurd i, refl)
ordered_between k (typed t us) (bytes vs) = (λ e i. absurd i, refl)
ordered_between k (bytes us) (typed u vs) = (λ e i. absurd i, refl)
ordered_between k (bytes us) (bytes vs) = go (same_numbers us vs)
  where
    go : (same : Bool) → Ordered (cond same [] (whole_block k ∷ []))
    go true = refl
    go false = (λ e i. absurd i, refl)

ordered_seconds : (k : ℕ) (ys : List Content) → Ordered (only_seconds k ys)
unfolding only_seconds
ordered_seconds k [] = refl
ordered_seconds k (y ∷ ys) =
    (λ e i. let f = from_block (suc k) [] ys e (seconds_in (suc k) ys e i) in block_first (omega arith) f.0 f.1, ordered_seconds (suc k) ys)

pub ordered_blocks : (k : ℕ) (xs ys : List Content) → Ordered (blocks_from k xs ys)
unfolding blocks_from
ordered_blocks k [] ys = ordered_seconds k ys
ordered_blocks k (x ∷ xs) [] =
    (λ e i. let f = from_block (suc k) xs [] e (blocks_in_lem (suc k) xs [] e i) in block_first (omega arith) f.0 f.1, ordered_blocks (suc k) xs [])
ordered_blocks k (x ∷ xs) (y ∷ ys) =
    ordered_both (between k x y) (blocks_from (suc k) xs ys) (ordered_between k x y) (ordered_blocks (suc k) xs ys)
    (λ d e i j. let here = in_one k x y d i in let f = from_block (suc k) xs ys e (blocks_in_lem (suc k) xs ys e j) in block_first here.0 f.0 (omega arith))

pub ordered_all : (a b : ℕ) (c : Difference) (xs ys : List Content) → kind_number c.kind ≡ 0 → Ordered (where_unequal a b c ++ blocks_from 0 xs ys)
ordered_all a b c xs ys zero-kind =
    ordered_both (where_unequal a b c) (blocks_from 0 xs ys) (ordered_unequal a b c) (ordered_blocks 0 xs ys)
    (λ d e i j. let is = (in_unequal a b c d i).1 in let f = from_block 0 xs ys e (blocks_in_lem 0 xs ys e j) in sender_first (ap (λ (x : Difference). kind_number x.kind) is ∙ zero-kind) f.0)
