-- Bytes placed in a buffer: where they fit, one run of bytes behind another, and each byte afterwards. Assumes nothing.
use Prim.Native.Nat.{ℕ, ◌+◌, ◌-◌, ◌<◌, ◌≤◌}
use mathlib.Core.Path.{◌≡◌, refl, sym, ap, ap₂, ◌∙◌}
use mathlib.Core.List.{List, [], ◌++◌, append_assoc, append-nil}
use native.Mathlib.Omega.{arith}
use native.Mathlib.Nat.{add-zero}
use native.Mathlib.Decide.{dec_lt}
use borrow.Author.Tests.{le-leb, lt-leb}
use borrow.Rule.Slice.PartMut.{put_mid}
use lib.ListN.{length, get_or, take, drop, length-append, length-drop, take-append-drop, get_or-append}
use lib.Seq.{length-take-le, take_all, take_at, drop-append-add, drop-drop, get_or-take, get_or-drop, get_or-append-add}
use Rattle.std.proofs.lemmas.Slice.{put_mid-paste}
use Rattle.wire.specs.BigEndian.{placed}

module _ (s : List ℕ) (i : ℕ) (xs : List ℕ) where
  pub placed_out : length s < i + length xs → placed s i xs ≡ s
  unfolding placed
  placed_out h = rw (lt-leb (i + length xs) (length s) h)

  pub placed_in : i + length xs ≤ length s → placed s i xs ≡ take i s ++ xs ++ drop (i + length xs) s
  unfolding placed
  placed_in h = rw (le-leb (i + length xs) (length s) h)

  pub length_placed : i + length xs ≤ length s → length (placed s i xs) ≡ length s
  length_placed h =
      ap length (placed_in h) ∙ length-append (take i s ++ xs) (drop (i + length xs) s)
      ∙ rw (length-append (take i s) xs, length-take-le i s (omega arith), length-drop (i + length xs) s) (omega arith)

pub placed_none : (s : List ℕ) (i : ℕ) → i ≤ length s → placed s i [] ≡ s
placed_none s i h =
    placed_in s i [] (omega arith) ∙ ap₂ (λ (front : List ℕ) (n : ℕ). front ++ drop n s) (append-nil (take i s)) (add-zero i)
    ∙ take-append-drop i s

-- bytes placed right behind others
pub placed_more : (s : List ℕ) (i : ℕ) (xs ys : List ℕ) → i + length xs + length ys ≤ length s →
    placed (placed s i xs) (i + length xs) ys ≡ placed s i (xs ++ ys)
placed_more s i xs ys h =
    placed_in (placed s i xs) (i + length xs) ys (rw (length_placed s i xs (omega arith)) h)
    ∙ ap₂ (λ (front back : List ℕ). front ++ ys ++ back) front back
    ∙ sym (placed_in s i (xs ++ ys) (rw (length-append xs ys) (omega arith)) ∙ join)
  where
    room : i + length xs ≤ length s
    room = omega arith

    long : length (take i s ++ xs) ≡ i + length xs
    long = length-append (take i s) xs ∙ ap (λ (n : ℕ). n + length xs) (length-take-le i s (omega arith))

    front : take (i + length xs) (placed s i xs) ≡ take i s ++ xs
    front = ap (take (i + length xs)) (placed_in s i xs room) ∙ take_at (take i s ++ xs) (drop (i + length xs) s) (i + length xs) long

    back : drop (i + length xs + length ys) (placed s i xs) ≡ drop (i + length xs + length ys) s
    back =
        ap (drop (i + length xs + length ys)) (placed_in s i xs room)
        ∙ ap (λ (n : ℕ). drop (n + length ys) (take i s ++ xs ++ drop (i + length xs) s)) (sym long)
        ∙ drop-append-add (take i s ++ xs) (drop (i + length xs) s) (length ys)
        ∙ drop-drop (length ys) (i + length xs) s

    join : take i s ++ (xs ++ ys) ++ drop (i + length (xs ++ ys)) s ≡ take i s ++ xs ++ ys ++ drop (i + length xs + length ys) s
    join =
        let end : i + length (xs ++ ys) ≡ i + length xs + length ys = rw (length-append xs ys) (omega arith) in
        ap₂ (λ (a : List ℕ) (n : ℕ). a ++ drop n s) (sym (append_assoc (take i s) xs ys)) end

-- bytes placed over others that are no more than they
pub placed_over : (s : List ℕ) (i : ℕ) (xs ys : List ℕ) → length xs ≤ length ys → i + length ys ≤ length s → placed (placed s i xs) i ys ≡ placed s i ys
placed_over s i xs ys few h =
    placed_in (placed s i xs) i ys (rw (length_placed s i xs room) h)
    ∙ ap₂ (λ (front back : List ℕ). front ++ ys ++ back) front back
    ∙ sym (placed_in s i ys h)
  where
    room : i + length xs ≤ length s
    room = omega arith

    start : length (take i s) ≡ i
    start = length-take-le i s (omega arith)

    long : length (take i s ++ xs) ≡ i + length xs
    long = length-append (take i s) xs ∙ ap (λ (n : ℕ). n + length xs) start

    front : take i (placed s i xs) ≡ take i s
    front =
        ap (take i) (placed_in s i xs room ∙ append_assoc (take i s) xs (drop (i + length xs) s))
        ∙ take_at (take i s) (xs ++ drop (i + length xs) s) i start

    back : drop (i + length ys) (placed s i xs) ≡ drop (i + length ys) s
    back =
        let end : i + length ys ≡ length (take i s ++ xs) + (length ys - length xs) = omega (arith, long) in
        let same : i + length xs + (length ys - length xs) ≡ i + length ys = omega arith in
        ap₂ drop end (placed_in s i xs room)
        ∙ drop-append-add (take i s ++ xs) (drop (i + length xs) s) (length ys - length xs)
        ∙ drop-drop (length ys - length xs) (i + length xs) s ∙ ap (λ (n : ℕ). drop n s) same

-- a byte outside them is as it was, and one of them is as it was given
pub placed_other : (s : List ℕ) (i : ℕ) (xs : List ℕ) (j : ℕ) → i + length xs ≤ length s → (i ≤ j → i + length xs ≤ j) → get_or (placed s i xs) j 0 ≡ get_or s j 0
placed_other s i xs j h apart = ap (λ (l : List ℕ). get_or l j 0) (placed_in s i xs h) ∙ go (dec_lt j i)
  where
    front : length (take i s) ≡ i
    front = length-take-le i s (omega arith)

    all : length (take i s ++ xs) ≡ i + length xs
    all = length-append (take i s) xs ∙ ap (λ (n : ℕ). n + length xs) front

    go : Dec (j < i) → get_or (take i s ++ xs ++ drop (i + length xs) s) j 0 ≡ get_or s j 0
    go (yes l) =
        get_or-append (take i s ++ xs) (drop (i + length xs) s) 0 j (omega (arith, all))
        ∙ get_or-append (take i s) xs 0 j (omega (arith, front)) ∙ get_or-take i s j 0 l
    go (no l) =
        let high = apart (omega arith) in
        let split : j ≡ length (take i s ++ xs) + (j - (i + length xs)) = omega (arith, all) in
        let back : i + length xs + (j - (i + length xs)) ≡ j = omega arith in
        ap (λ (n : ℕ). get_or (take i s ++ xs ++ drop (i + length xs) s) n 0) split
        ∙ get_or-append-add (take i s ++ xs) (drop (i + length xs) s) (j - (i + length xs)) 0
        ∙ get_or-drop (i + length xs) s (j - (i + length xs)) 0 ∙ ap (λ (n : ℕ). get_or s n 0) back

pub placed_here : (s : List ℕ) (i : ℕ) (xs : List ℕ) (j : ℕ) → i + length xs ≤ length s → j < length xs → get_or (placed s i xs) (i + j) 0 ≡ get_or xs j 0
placed_here s i xs j h l =
    let front : length (take i s) ≡ i = length-take-le i s (omega arith) in
    let all = length-append (take i s) xs in
    ap (λ (x : List ℕ). get_or x (i + j) 0) (placed_in s i xs h)
    ∙ get_or-append (take i s ++ xs) (drop (i + length xs) s) 0 (i + j) (omega arith)
    ∙ ap (λ (n : ℕ). get_or (take i s ++ xs) (n + j) 0) (sym front) ∙ get_or-append-add (take i s) xs j 0

-- bytes written over a part of as many
pub placed_mid : (s : List ℕ) (i k n : ℕ) (xs ys : List ℕ) → ys ≡ xs → length ys ≡ length (take k (drop i s)) → k ≡ n → i + n ≤ length s →
    put_mid i k s ys ≡ placed s i xs
placed_mid s i k n xs ys is long part room =
    let rest = length-drop i s in
    let taken = length-take-le k (drop i s) (omega arith) in
    let same = ap length is in
    put_mid-paste i k s ys xs (length xs) is (omega arith) refl
    ∙ ap (λ (mid : List ℕ). take i s ++ mid ++ drop (i + length xs) s) (take_all (length xs) xs (omega arith)) ∙ sym (placed_in s i xs (omega arith))
