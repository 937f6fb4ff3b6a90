-- Packets stored one after the other: `Filling`, the loop of a vector bit by bit. Assumes nothing.
use Prim.Native.Nat.{ℕ, ◌+◌, ◌<◌, ◌≤◌}
use mathlib.Core.Path.{◌≡◌, sym, ap, ◌∙◌}
use mathlib.Core.List.{List, ◌++◌, append-nil}
use native.Mathlib.Omega.{arith}
use native.Mathlib.Nat.{zero-add}
use native.Mathlib.Numerals.{add-one}
use lib.ListN.{length, get_or, take, set, drop_of_length-le}
use lib.Seq.{paste, paste-zero, paste-suc}

-- the first j packets stand at the front of `out`, the rest of it is as it was
pub record Filling (old packets out : List ℕ) (j : ℕ) : Type 0 where
  pub some : length old ≤ length packets
  pub within : j ≤ length old
  pub is : out ≡ paste old 0 packets j

pub filling_none : (old packets : List ℕ) → length old ≤ length packets → Filling old packets old 0
filling_none old packets some = record { some = some; within = omega arith; is = paste-zero old 0 packets }

module _ (old packets out : List ℕ) (j : ℕ) (g : Filling old packets out j) where
  pub filling_more : (packet : ℕ) → packet ≡ get_or packets j 0 → j < length old → Filling old packets (set out j packet) (j + 1)
  filling_more packet is h =
      let some = g.some in
      record {
        some = some;
        within = omega arith;
        is =
            rw (is, g.is, add-one) (
            ap (λ (k : ℕ). set (paste old 0 packets j) k (get_or packets j 0)) (sym (zero-add j)) ∙ paste-suc old 0 packets j 0 (omega arith) (omega arith)
            );
      }

  pub filling_all : length old ≤ j → out ≡ take (length old) packets
  filling_all h =
      let within = g.within in
      let end : j ≡ length old = omega arith in
      g.is ∙ ap (λ (rest : List ℕ). take j packets ++ rest) (drop_of_length-le old (omega arith)) ∙ append-nil (take j packets)
      ∙ ap (λ (n : ℕ). take n packets) end
