-- Which differences stand in a list: in a list put together, by their positions, and in order. Assumes nothing.
use Prim.Native.Nat.{ℕ, zero, suc, ◌+◌, ◌*◌, ◌<◌}
use mathlib.Core.Path.{◌≡◌, refl, sym, ◌∙◌}
use mathlib.Core.Logic.{◌⊎◌, inl, inr}
use mathlib.Core.List.{List, [], ◌∷◌, ◌++◌}
use native.Mathlib.Omega.{arith}
use lib.ListN.{length, get_or}
use Rattle.difference.specs.declared.Difference.{Difference}
use Rattle.difference.specs.Differences.{kind_number, whole_block}
use Rattle.difference.specs.Numbers.{numbers_of}
use Rattle.compare.specs.Laws.{Before, row_of, entry_in}

abbrev pub In : Difference → List Difference → Type 0
In d [] = ⊥
In d (e ∷ ds) = (d ≡ e) ⊎ In d ds

pub in_either : (d : Difference) (ds es : List Difference) → In d (ds ++ es) → In d ds ⊎ In d es
in_either d [] es h = inr h
in_either d (c ∷ ds) es (inl e) = inl (inl e)
in_either d (c ∷ ds) es (inr h) = go (in_either d ds es h)
  where
    go : In d ds ⊎ In d es → In d (c ∷ ds) ⊎ In d es
    go (inl a) = inl (inr a)
    go (inr b) = inr b

pub in_front : (d : Difference) (ds es : List Difference) → In d ds → In d (ds ++ es)
in_front d [] es h = absurd h
in_front d (c ∷ ds) es (inl e) = inl e
in_front d (c ∷ ds) es (inr h) = inr (in_front d ds es h)

pub in_back : (d : Difference) (ds es : List Difference) → In d es → In d (ds ++ es)
in_back d [] es h = h
in_back d (c ∷ ds) es h = inr (in_back d ds es h)

-- entry i of the numbers
abbrev nowhere : Difference
nowhere = whole_block 0

pub entry_is : (ds : List Difference) (rest : List ℕ) (i : ℕ) → i < length ds → entry_in (numbers_of ds ++ rest) i ≡ row_of (get_or ds i nowhere)
unfolding numbers_of
entry_is [] rest i l = absurd (omega arith)
entry_is (d ∷ ds) rest zero l = refl
entry_is (d ∷ ds) rest (suc i) l = moved (numbers_of ds ++ rest) ∙ entry_is ds rest i (omega arith)
  where
    moved : (l : List ℕ) → entry_in (kind_number d.kind ∷ d.block ∷ d.field ∷ d.first ∷ d.second ∷ l) (suc i) ≡ entry_in l i
    moved l =
        let n : 5 * suc i ≡ suc (suc (suc (suc (suc (5 * i))))) = omega arith in
        let n₁ : 5 * suc i + 1 ≡ suc (suc (suc (suc (suc (5 * i + 1))))) = omega arith in
        let n₂ : 5 * suc i + 2 ≡ suc (suc (suc (suc (suc (5 * i + 2))))) = omega arith in
        let n₃ : 5 * suc i + 3 ≡ suc (suc (suc (suc (suc (5 * i + 3))))) = omega arith in
        let n₄ : 5 * suc i + 4 ≡ suc (suc (suc (suc (suc (5 * i + 4))))) = omega arith in
        rw (n₁, n₂, n₃, n₄, n)

pub record At (ds : List Difference) (d : Difference) : Type 0 where
  pub index : ℕ
  pub within : index < length ds
  pub is : get_or ds index nowhere ≡ d

pub in_at : (ds : List Difference) (d : Difference) → In d ds → At ds d
in_at [] d h = absurd h
in_at (c ∷ ds) d (inl e) = record { index = 0; within = omega arith; is = sym e }
in_at (c ∷ ds) d (inr h) = let a = in_at ds d h in let l = a.within in record { index = suc a.index; within = omega arith; is = a.is }

pub at_in : (ds : List Difference) (i : ℕ) → i < length ds → In (get_or ds i nowhere) ds
at_in [] i l = absurd (omega arith)
at_in (d ∷ ds) zero l = inl refl
at_in (d ∷ ds) (suc i) l = inr (at_in ds i (omega arith))

-- in order
abbrev pub Ordered : List Difference → Type 0
Ordered [] = ◌≡◌ {A = ℕ} 0 0
Ordered (d ∷ ds) = ((e : Difference) → In e ds → Before (row_of d) (row_of e)) × Ordered ds

pub ordered_both : (ds es : List Difference) → Ordered ds → Ordered es → ((d e : Difference) → In d ds → In e es → Before (row_of d) (row_of e)) → Ordered (ds ++ es)
ordered_both [] es p q h = q
ordered_both (d ∷ ds) es p q h = (λ e i. go e (in_either e ds es i), ordered_both ds es p.1 q (λ c e a b. h c e (inr a) b))
  where
    go : (e : Difference) → In e ds ⊎ In e es → Before (row_of d) (row_of e)
    go e (inl a) = p.0 e a
    go e (inr b) = h d e (inl refl) b

pub ordered_at : (ds : List Difference) → Ordered ds → (i j : ℕ) → i < j → j < length ds → Before (row_of (get_or ds i nowhere)) (row_of (get_or ds j nowhere))
ordered_at [] p i j h l = absurd (omega arith)
ordered_at (d ∷ ds) p zero zero h l = absurd (omega arith)
ordered_at (d ∷ ds) p zero (suc j) h l = p.0 (get_or ds j nowhere) (at_in ds j (omega arith))
ordered_at (d ∷ ds) p (suc i) zero h l = absurd (omega arith)
ordered_at (d ∷ ds) p (suc i) (suc j) h l = ordered_at ds p.1 i j (omega arith) (omega arith)
