-- Words stored one after the other are the block's bytes. Assumes nothing.
use Prim.Native.Nat.{ℕ, ◌+◌, ◌*◌, ◌<◌, ◌≤◌}
use mathlib.Core.Path.{◌≡◌, refl, sym, ap, ap₂, ◌∙◌}
use mathlib.Core.List.{List, [], ◌∷◌, ◌++◌}
use native.Mathlib.Omega.{arith}
use native.Mathlib.Numerals.{add-one}
use lib.ListN.{length, get_or, take}
use lib.Seq.{length-take-le, take-suc}
use Rattle.wire.specs.BigEndian.{bytes32, placed}
use Rattle.wire.proofs.Placed.{placed_out, placed_none, length_placed, placed_more}
use Rattle.encode.specs.Words.{in_bytes}

pub in_bytes_append : (xs ys : List ℕ) → in_bytes (xs ++ ys) ≡ in_bytes xs ++ in_bytes ys
in_bytes_append [] ys = refl
in_bytes_append (x ∷ xs) ys = ap (λ (r : List ℕ). bytes32 x ++ r) (in_bytes_append xs ys)

pub length_in_bytes : (xs : List ℕ) → length (in_bytes xs) ≡ 4 * length xs
length_in_bytes [] = refl
length_in_bytes (x ∷ xs) = let rest = length_in_bytes xs in omega arith

-- words that do not fit
pub no_room : (words out : List ℕ) (at : ℕ) → length out < at + 4 * length words → out ≡ placed out at (in_bytes words)
no_room words out at h = sym (placed_out out at (in_bytes words) (rw (length_in_bytes words) h))

-- the first i of the words are stored from `at` on
pub record Stored (old : List ℕ) (at count : ℕ) (words out : List ℕ) (i : ℕ) : Type 0 where
  pub room : at + 4 * count ≤ length old
  pub held : count ≤ length words
  pub low : i ≤ count
  pub is : out ≡ placed old at (in_bytes (take i words))

pub stored_start : (out : List ℕ) (at count : ℕ) (words : List ℕ) → at + 4 * count ≤ length out → count ≤ length words → Stored out at count words out 0
stored_start out at count words room held =
    record { room = room; held = held; low = omega arith; is = sym (placed_none out at (omega arith)) }

-- the bytes stored so far, with the room that they take
stored_bytes : (words : List ℕ) (i count : ℕ) → i ≤ count → count ≤ length words → length (in_bytes (take i words)) ≡ 4 * i
stored_bytes words i count low held =
    length_in_bytes (take i words) ∙ ap (λ (n : ℕ). 4 * n) (length-take-le i words (omega arith))

module _ (old : List ℕ) (at count : ℕ) (words out : List ℕ) (i : ℕ) (s : Stored old at count words out i) where
  bytes : length (in_bytes (take i words)) ≡ 4 * i
  bytes = stored_bytes words i count s.low s.held

  pub stored_length : length out ≡ length old
  stored_length =
      let b = bytes in
      let r = s.room in
      let l = s.low in
      rw s.is (length_placed old at (in_bytes (take i words)) (omega arith))

  pub stored_more : (out' : List ℕ) → i < count → out' ≡ placed out (at + 4 * i) (bytes32 (get_or words i 0)) → Stored old at count words out' (i + 1)
  stored_more out' h e =
      let b = bytes in
      let r = s.room in
      let held = s.held in
      let word = get_or words i 0 in
      record {
        room = s.room;
        held = s.held;
        low = omega arith;
        is =
            e ∙ ap₂ (λ (o : List ℕ) (n : ℕ). placed o (at + n) (bytes32 word)) s.is (sym b)
            ∙ placed_more old at (in_bytes (take i words)) (bytes32 word) (omega arith)
            ∙ ap (placed old at) (sym (rw (add-one, take-suc words i 0 (omega arith)) (in_bytes_append (take i words) (word ∷ []))));
      }

pub stored_end : (old : List ℕ) (at count : ℕ) (words out : List ℕ) (i : ℕ) → Stored old at count words out i → count ≤ i →
    out ≡ placed old at (in_bytes (take count words))
stored_end old at count words out i s h =
    let low = s.low in
    let end : i ≡ count = omega arith in
    s.is ∙ ap (λ (n : ℕ). placed old at (in_bytes (take n words))) end
