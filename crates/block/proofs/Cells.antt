-- A list of known length, element by element: with every element in its place, what stands where computes. Assumes nothing.
use Rattle.std.proofs.Common.{◌≡◌, ℕ, zero, suc, List, [], ◌∷◌, length, get_or, drop, refl, ap, arith}

abbrev pub cells : ℕ → List ℕ → List ℕ
cells zero s = []
cells (suc n) s = get_or s 0 0 ∷ cells n (drop 1 s)

pub in_cells : (n : ℕ) (s : List ℕ) → length s ≡ n → s ≡ cells n s
in_cells zero [] e = refl
in_cells zero (x ∷ s) e = absurd (omega arith)
in_cells (suc n) [] e = absurd (omega arith)
in_cells (suc n) (x ∷ s) e = ap (λ (l : List ℕ). x ∷ l) (in_cells n s (omega arith))
