-- Chunks read out one behind the other: `ReadingOut`, the loop of `read_out`. Assumes nothing.
use Prim.Native.Nat.{ℕ, ◌+◌, ◌-◌, ◌<◌, ◌≤◌}
use mathlib.Core.Path.{◌≡◌, refl, sym, ap, ap₂, ◌∙◌}
use mathlib.Core.List.{List, [], ◌∷◌, ◌++◌, append_assoc, append-nil}
use native.Mathlib.Omega.{arith}
use native.Mathlib.Nat.{sub-zero}
use borrow.Rule.Slice.PartMut.{put_mid}
use lib.ListN.{length, take, drop, length-append, length-take, length-drop, take-append-drop}
use lib.Seq.{length-take-le, take-nil, take_at, drop-drop, drop_at, drop-append-le}
use Rattle.wire.specs.BigEndian.{be16}
use Rattle.chunk.specs.Chunks.{packets_of, packets_in, chunks_in}
use Rattle.chunk.proofs.Traces.{take_both}

-- the packets of the chunks before `rest` stand at the front of `out`, up to `at`, the rest of it is as it was
pub record ReadingOut (s old out rest : List ℕ) (end at : ℕ) : Type 0 where
  pub room : end ≤ length old
  pub so_far : at ≤ end
  pub long : length out ≡ length old
  pub done : take end (packets_in (chunks_in s)) ≡ take at out ++ take (end - at) (packets_in (chunks_in rest))
  pub kept : drop at out ≡ drop at old

pub reading_none : (s old rest : List ℕ) (end : ℕ) → rest ≡ s → end ≤ length old → ReadingOut s old old rest end 0
reading_none s old rest end is room =
    record { room = room; so_far = omega arith; long = refl; done = rw (is, sub-zero end); kept = refl }

-- the first bytes of a part put into it
put_front : (s xs ys : List ℕ) (at k r : ℕ) → at + k ≤ length s → r ≡ length xs → r ≤ k → ys ≡ xs ++ drop r (take k (drop at s)) →
    put_mid at k s ys ≡ take at s ++ xs ++ drop (at + length xs) s
put_front s xs ys at k r room long few is =
    let part : List ℕ = drop at s in
    let behind : drop r (take k part) ++ drop k part ≡ drop (at + length xs) s =
    sym (drop-append-le r (take k part) (drop k part) (omega (arith, length-take-le k part (omega (arith, length-drop at s)))))
    ∙ ap (drop r) (take-append-drop k part) ∙ drop-drop r at s ∙ ap (λ (n : ℕ). drop (at + n) s) long
    in
    ap (λ (l : List ℕ). take at s ++ (l ++ drop k part)) is
    ∙ ap (λ (l : List ℕ). take at s ++ l) (append_assoc xs (drop r (take k part)) (drop k part) ∙ ap (λ (l : List ℕ). xs ++ l) behind)
    ∙ sym (append_assoc (take at s) xs (drop (at + length xs) s))

chunks_pair : (pair rest : List ℕ) → length pair ≡ 2 → chunks_in (pair ++ rest) ≡ be16 pair 0 ∷ chunks_in rest
unfolding chunks_in be16
chunks_pair [] rest h = absurd (omega arith)
chunks_pair (high ∷ []) rest h = absurd (omega arith)
chunks_pair (high ∷ low ∷ []) rest h = refl
chunks_pair (high ∷ low ∷ more ∷ bytes) rest h = absurd (omega arith)

chunks_short : (rest : List ℕ) → length rest < 2 → chunks_in rest ≡ []
unfolding chunks_in
chunks_short [] h = refl
chunks_short (high ∷ []) h = refl
chunks_short (high ∷ low ∷ bytes) h = absurd (omega arith)

module _ (s old out rest : List ℕ) (end at : ℕ) (g : ReadingOut s old out rest end at) where
  pub reading_more : (pair after put : List ℕ) (c n : ℕ) → rest ≡ pair ++ after → length pair ≡ 2 → c ≡ be16 pair 0 →
      n ≡ length (take (length (take (end - at) (drop at out))) (packets_of c)) →
      put ≡ take (length (take (end - at) (drop at out))) (packets_of c) ++ drop n (take (end - at) (drop at out)) →
      ReadingOut s old (put_mid at (end - at) out put) after end (at + n)
  unfolding packets_in
  reading_more pair after put c n parts two is to now =
      let packets : List ℕ = take (end - at) (packets_of c) in
      let later : List ℕ = chunks_in after in
      let room = g.room in
      let so_far = g.so_far in
      let long = g.long in
      let part : length (take (end - at) (drop at out)) ≡ end - at = length-take-le (end - at) (drop at out) (omega (arith, length-drop at out)) in
      let many : n ≡ length packets = to ∙ ap (λ (k : ℕ). length (take k (packets_of c))) part in
      let few = length-take (end - at) (packets_of c) in
      let filled : put ≡ packets ++ drop n (take (end - at) (drop at out)) =
      now ∙ ap (λ (k : ℕ). take k (packets_of c) ++ drop n (take (end - at) (drop at out))) part
      in
      let in_place = put_front out packets put at (end - at) n (omega arith) many (omega arith) filled in
      let front : length (take at out ++ packets) ≡ at + n = length-append (take at out) packets ∙ rw (length-take-le at out (omega arith)) (omega arith) in
      let behind : List ℕ = drop (at + length packets) out in
      let left : ℕ = end - at - length (packets_of c) in
      let same : left ≡ end - (at + n) = omega arith in
      let next : chunks_in rest ≡ c ∷ later = ap chunks_in parts ∙ chunks_pair pair after two ∙ ap (λ (x : ℕ). x ∷ later) (sym is) in
      let split : take (end - at) (packets_in (chunks_in rest)) ≡ packets ++ take left (packets_in later) =
      ap (λ (cs : List ℕ). take (end - at) (packets_in cs)) next ∙ take_both (end - at) (packets_of c) (packets_in later)
      in
      record {
        room = room;
        so_far = omega arith;
        long =
            ap length in_place ∙ length-append (take at out ++ packets) behind
            ∙ omega (arith, front, length-drop (at + length packets) out);
        done =
            g.done ∙ ap (λ (l : List ℕ). take at out ++ l) split ∙ sym (append_assoc (take at out) packets (take left (packets_in later)))
            ∙ ap₂ ◌++◌ (sym (ap (take (at + n)) in_place ∙ take_at (take at out ++ packets) behind (at + n) front)) (ap (λ (k : ℕ). take k (packets_in later)) same);
        kept =
            ap (drop (at + n)) in_place ∙ drop_at (take at out ++ packets) behind (at + n) front ∙ ap (λ (k : ℕ). drop (at + k) out) (sym many)
            ∙ sym (drop-drop n at out) ∙ ap (drop n) g.kept ∙ drop-drop n at old;
      }

  pub reading_all : length rest < 2 → (at ≡ length (take end (packets_in (chunks_in s)))) × (out ≡ take end (packets_in (chunks_in s)) ++ drop at old)
  unfolding packets_in
  reading_all h =
      let room = g.room in
      let so_far = g.so_far in
      let long = g.long in
      let all : take end (packets_in (chunks_in s)) ≡ take at out =
      g.done ∙ ap (λ (cs : List ℕ). take at out ++ take (end - at) (packets_in cs)) (chunks_short rest h)
      ∙ ap (λ (l : List ℕ). take at out ++ l) (take-nil (end - at)) ∙ append-nil (take at out)
      in (
        sym (ap length all ∙ length-take-le at out (omega arith)),
        sym (take-append-drop at out) ∙ ap₂ ◌++◌ (sym all) g.kept,
      )
