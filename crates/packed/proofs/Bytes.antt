-- Packets as the bytes of a trace: how many, each of them, one more behind, and the first that is lost. Assumes nothing.
use Prim.Native.Nat.{ℕ, zero, suc, ◌+◌, ◌%◌, ◌<◌, ◌≤◌}
use mathlib.Core.Path.{◌≡◌, refl, sym, ap, ap₂, ◌∙◌}
use mathlib.Core.Bool.{Bool, true, false}
use mathlib.Core.List.{List, ◌∷◌, ◌++◌}
use native.Mathlib.Omega.{arith}
use native.Mathlib.Nat.{add-zero, zero-add, suc-add, add-suc}
use lib.Count.{count_trailing_zeros}
use lib.ListN.{length, get_or}
use Rattle.trace.specs.Sum.{bit}
use Rattle.trace.specs.Trace.{received, first_above}
use Rattle.packed.specs.Words.{number_of, bytes_of}
use Rattle.packed.proofs.Numbers.{number_none, number_first}

pub length_bytes : (lost : ℕ → Bool) (i n : ℕ) → length (bytes_of lost i n) ≡ n
unfolding bytes_of
length_bytes lost i zero = refl
length_bytes lost i (suc n) = ap suc (length_bytes lost (suc i) n)

pub get_or_bytes : (lost : ℕ → Bool) (i n j : ℕ) → j < n → get_or (bytes_of lost i n) j 0 ≡ bit (lost (i + j))
unfolding bytes_of
get_or_bytes lost i zero j h = absurd (omega arith)
get_or_bytes lost i (suc n) zero h = ap (λ (k : ℕ). bit (lost k)) (sym (add-zero i))
get_or_bytes lost i (suc n) (suc j) h = get_or_bytes lost (suc i) n j (omega arith) ∙ ap (λ (k : ℕ). bit (lost k)) (suc-add i j ∙ sym (add-suc i j))

pub bytes_cut : (lost : ℕ → Bool) (i m n : ℕ) → bytes_of lost i (m + n) ≡ bytes_of lost i m ++ bytes_of lost (i + m) n
unfolding bytes_of
bytes_cut lost i zero n = rw (zero-add n, add-zero i)
bytes_cut lost i (suc m) n = rw (suc-add m n, bytes_cut lost (suc i) m n, suc-add i m, add-suc i m)

pub bytes_same : (lost lost' : ℕ → Bool) (i i' n : ℕ) → ((j : ℕ) → j < n → lost (i + j) ≡ lost' (i' + j)) → bytes_of lost i n ≡ bytes_of lost' i' n
unfolding bytes_of
bytes_same lost lost' i i' zero same = refl
bytes_same lost lost' i i' (suc n) same =
    let here : lost i ≡ lost' i' = ap lost (sym (add-zero i)) ∙ same 0 (omega arith) ∙ ap lost' (add-zero i') in
    let later = bytes_same lost lost' (suc i) (suc i') n
    (λ j h. ap lost (suc-add i j ∙ sym (add-suc i j)) ∙ same (suc j) (omega arith) ∙ ap lost' (add-suc i' j ∙ sym (suc-add i' j)))
    in
    ap₂ (λ (x : Bool) (l : List ℕ). bit x ∷ l) here later

-- the first lost packet: none
pub first_none : (lost : ℕ → Bool) (i n : ℕ) → number_of lost i n ≡ 0 → first_above received (bytes_of lost i n) ≡ n
unfolding bytes_of first_above
first_none lost i zero h = refl
first_none lost i (suc n) h =
    let parts = number_first lost i n in
    let here : bit (lost i) ≡ 0 = sym parts.0 ∙ rw h in
    let later : number_of lost (suc i) n ≡ 0 = sym parts.1 ∙ rw h in
    rw (here, first_none lost (suc i) n later)

-- and where there is one, as many zeros stand below its bit
pub record FirstLost (lost : ℕ → Bool) (k i n : ℕ) : Type 0 where
  pub zeros : count_trailing_zeros k (number_of lost i n) ≡ first_above received (bytes_of lost i n)
  pub within : first_above received (bytes_of lost i n) < n

pub first_lost : (lost : ℕ → Bool) (k n i : ℕ) → n ≤ k → (number_of lost i n ≡ 0 → ⊥) → FirstLost lost k i n
unfolding bytes_of first_above count_trailing_zeros bit
first_lost lost k zero i most some = absurd (some (number_none lost i))
first_lost lost zero (suc n) i most some = absurd (omega arith)
first_lost lost (suc k) (suc n) i most some = go (lost i) refl (first_lost lost k n (suc i) (omega arith))
  where
    go : (x : Bool) → lost i ≡ x → ((number_of lost (suc i) n ≡ 0 → ⊥) → FirstLost lost k (suc i) n) → FirstLost lost (suc k) i (suc n)
    go true e later =
        let parts = number_first lost i n in
        let here : number_of lost i (suc n) % 2 ≡ 1 = parts.0 ∙ rw e in
        record { zeros = rw (here, e); within = rw e (omega arith) }
    go false e later =
        let parts = number_first lost i n in
        let here : number_of lost i (suc n) % 2 ≡ 0 = parts.0 ∙ rw e in
        let rest = later (λ none. some (omega arith)) in
        record { zeros = rw (here, parts.1, e, rest.zeros); within = rw e (omega (arith, rest.within)) }
