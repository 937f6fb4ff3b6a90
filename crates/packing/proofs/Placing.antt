-- A buffer filled from one place on, part by part: `Placing`, the loops that store packets and those that store words. Assumes
-- nothing.
use Prim.Native.Nat.{ℕ, ◌+◌, ◌<◌, ◌≤◌}
use mathlib.Core.Path.{◌≡◌, refl, sym, ap, ap₂, ◌∙◌}
use mathlib.Core.List.{List, [], ◌∷◌, ◌++◌}
use native.Mathlib.Omega.{arith}
use native.Mathlib.Nat.{zero-add}
use lib.ListN.{length, drop, set}
use lib.Seq.{sets-eq}
use Rattle.wire.specs.BigEndian.{placed}
use Rattle.wire.proofs.Placed.{placed_in, placed_none, placed_more, length_placed}

-- `front j` are the first j items of what is to be stored
pub record Fronts (front : ℕ → List ℕ) : Type 0 where
  pub none : front 0 ≡ []
  pub long : (j : ℕ) → length (front j) ≡ j

-- the first j of n items stand in `out` from `at` on, the rest of it is as it was
pub record Placing (front : ℕ → List ℕ) (old : List ℕ) (at n : ℕ) (out : List ℕ) (j : ℕ) : Type 0 where
  pub room : at + n ≤ length old
  pub within : j ≤ n
  pub is : out ≡ placed old at (front j)

-- one item stored
stored_1 : (s : List ℕ) (i a : ℕ) → i < length s → set s i a ≡ placed s i (a ∷ [])
stored_1 s i a h = let room : i + 1 ≤ length s = omega arith in sets-eq (a ∷ []) s i room ∙ sym (placed_in s i (a ∷ []) room)

module _ (front : ℕ → List ℕ) (fronts : Fronts front) (old : List ℕ) (at n : ℕ) where
  pub placing_none : at + n ≤ length old → Placing front old at n old 0
  placing_none room = record { room = room; within = omega arith; is = sym (ap (placed old at) fronts.none ∙ placed_none old at (omega arith)) }

  module _ (out : List ℕ) (j : ℕ) (g : Placing front old at n out j) where
    pub placing_long : length out ≡ length old
    placing_long =
        let room = g.room in
        let within = g.within in
        let long = fronts.long j in
        ap length g.is ∙ length_placed old at (front j) (omega arith)

    -- some more, and one more, stored at i
    pub placing_more : (xs out' : List ℕ) (m i : ℕ) → j + m ≤ n → length xs ≡ m → i ≡ at + j → front (j + m) ≡ front j ++ xs → out' ≡ placed out i xs →
        Placing front old at n out' (j + m)
    placing_more xs out' m i h few here next now =
        let room = g.room in
        let long = fronts.long j in
        let place : i ≡ at + length (front j) = omega arith in
        record {
          room = room;
          within = h;
          is =
              now ∙ ap₂ (λ (l : List ℕ) (k : ℕ). placed l k xs) g.is place ∙ placed_more old at (front j) xs (omega arith)
              ∙ ap (placed old at) (sym next);
        }

    pub placing_one : (x i : ℕ) → j < n → i ≡ at + j → front (j + 1) ≡ front j ++ (x ∷ []) → Placing front old at n (set out i x) (j + 1)
    placing_one x i h here next =
        let room = g.room in
        placing_more (x ∷ []) (set out i x) 1 i (omega arith) refl here next (stored_1 out i x (omega (arith, placing_long)))

    pub placing_all : n ≤ j → out ≡ placed old at (front n)
    placing_all h = let end : j ≡ n = omega (arith, g.within) in g.is ∙ ap (λ (k : ℕ). placed old at (front k)) end

-- a buffer filled from its front
module _ (front : ℕ → List ℕ) (fronts : Fronts front) (old : List ℕ) (n : ℕ) where
  pub placing_front : (out : List ℕ) (j : ℕ) → Placing front old 0 n out j → n ≤ j → out ≡ front n ++ drop n old
  placing_front out j g h =
      let room = g.room in
      let long = fronts.long n in
      placing_all front fronts old 0 n out j g h ∙ placed_in old 0 (front n) (omega arith)
      ∙ ap (λ (k : ℕ). front n ++ drop k old) (zero-add (length (front n)) ∙ long)
