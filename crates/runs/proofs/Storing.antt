-- The words of a block of type 1 stored one after the other. Assumes nothing.
use Rattle.std.proofs.Common.{◌≡◌, ℕ, suc, ◌+◌, ◌-◌, ◌*◌, ◌/◌, ◌≤◌, List, ◌++◌, length, refl, ap, ◌∙◌, ap₂, arith}
use Rattle.refusal.specs.Answer.{after}
use Rattle.refusal.specs.declared.Refusal.{Refusal}
use Rattle.wire.specs.BigEndian.{bytes16, bytes32, placed}
use Rattle.wire.proofs.Placed.{placed_more}
use Rattle.encode.specs.Words.{halves, in_bytes}
use Rattle.encode.proofs.Storing.{length_in_bytes}
use Rattle.compose.specs.Writing.{grown}
use Rattle.compose.proofs.Adding.{Fit, written_words}
use Rattle.runs.specs.Writing.{words_from, word_count, end_of, rle_words, add_answer}
use Rattle.runs.proofs.ReadBack.{length_words}
use Rattle.std.specs.Prelude.{Ok, Err}
use Rattle.refusal.specs.Answer.{Judged, Written}

-- three words, and what is behind them
in_turn : (s : List ℕ) (at a b c : ℕ) (rest : List ℕ) → at + 12 + length rest ≤ length s →
    placed (placed (placed (placed s at (bytes32 a)) (at + 4) (bytes32 b)) (at + 8) (bytes32 c)) (at + 12) rest ≡ placed s at (bytes32 a ++ bytes32 b ++ bytes32 c ++ rest)
in_turn s at a b c rest room =
    let two = placed_more s at (bytes32 a) (bytes32 b) (omega arith) in
    let three = ap (λ (l : List ℕ). placed l (at + 8) (bytes32 c)) two ∙ placed_more s at (bytes32 a ++ bytes32 b) (bytes32 c) (omega arith) in
    ap (λ (l : List ℕ). placed l (at + 12) rest) three ∙ placed_more s at (bytes32 a ++ bytes32 b ++ bytes32 c) rest (omega arith)

pub rle_long : (source begin : ℕ) (s : List ℕ) → length (rle_words source begin s) ≡ 3 + word_count (length s)
rle_long source begin s = let words = length_words (word_count (length s)) s in omega arith

pub rle_stored : (out : List ℕ) (at source begin : ℕ) (s : List ℕ) (words end first both : ℕ) (one two three four : List ℕ) →
    at + 4 * length (rle_words source begin s) ≤ length out → words ≡ word_count (length s) → end ≡ end_of begin s →
    first ≡ 16777216 + (2 + words) → both ≡ halves begin end →
    one ≡ placed out at (bytes32 first) → two ≡ placed one (at + 4) (bytes32 source) → three ≡ placed two (at + 8) (bytes32 both) →
    four ≡ placed three (at + 12) (in_bytes (words_from words s)) → four ≡ placed out at (in_bytes (rle_words source begin s))
rle_stored out at source begin s words end first both one two three four room w e f b p q r t =
    let chunks : List ℕ = words_from (word_count (length s)) s in
    let bytes = length_in_bytes chunks in
    let long = length_words (word_count (length s)) s in
    let head : first ≡ halves 256 (suc (suc (length chunks))) = omega arith in
    let body : both ≡ halves begin (end_of begin s) = b ∙ ap (halves begin) e in
    t ∙ rw (r, q, p, w) (in_turn out at first source both (in_bytes chunks) (omega arith))
    ∙ ap₂ (λ (x y : ℕ). placed out at (bytes32 x ++ bytes32 source ++ bytes32 y ++ in_bytes chunks)) head body

-- adding a trace: the answer and the buffer
abbrev pub Added : List ℕ → ℕ → ℕ → List ℕ → Written → List ℕ → Type 0
Added out source begin s r out' = (r ≡ add_answer out source begin s) × (out' ≡ after (add_answer out source begin s) (grown out (rle_words source begin s)) out)

module _ (out : List ℕ) (source begin : ℕ) (s : List ℕ) where
  pub not_added : (r : Refusal) → add_answer out source begin s ≡ Err r → Added out source begin s (Err r) out
  not_added r e = rw e (refl, refl)

  pub added : (own : Judged) (count size : ℕ) (one two : List ℕ) → count ≡ length (rle_words source begin s) → Fit out own count size →
      add_answer out source begin s ≡ Ok size → one ≡ placed out (size - 4 * count) (in_bytes (rle_words source begin s)) → two ≡ placed one 2 (bytes16 (size / 4 - 1)) →
      Added out source begin s (Ok size) two
  added own count size one two c f e p q =
      let words : List ℕ = rle_words source begin s in
      rw e (refl, written_words out own words size one two (rw (← c) f) (p ∙ ap (λ (n : ℕ). placed out (size - 4 * n) (in_bytes words)) c) q)
