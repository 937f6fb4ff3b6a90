-- Bytes that agree from one place to another have the same blocks there. Assumes nothing.
use Prim.Native.Nat.{ℕ, ◌+◌, ◌*◌, ◌<◌, ◌≤◌}
use mathlib.Core.Path.{◌≡◌, sym, ap, ap₂, ◌∙◌}
use mathlib.Core.List.{List, [], ◌∷◌}
use native.Mathlib.Omega.{arith}
use lib.ListN.{length, get_or, take, drop, length-drop}
use lib.Seq.{length-take-le, get_or-take, get_or-drop, ext_get_or}
use Rattle.wire.specs.BigEndian.{be16}
use Rattle.wire.proofs.Numbers.{u16_inside}
use Rattle.frame.specs.Frames.{Entry, body_length, next_at, entry_at}
use Rattle.frame.specs.Laws.{Fill}
use Rattle.frame.proofs.Filling.{fill_up}

pub record Agree (s s' : List ℕ) (at to : ℕ) : Type 0 where
  pub old : to ≤ length s
  pub new : to ≤ length s'
  pub same : (i : ℕ) → at ≤ i → i < to → get_or s' i 0 ≡ get_or s i 0

-- a part of both
pub part_kept : (s s' : List ℕ) (at to i n : ℕ) → Agree s s' at to → at ≤ i → i + n ≤ to → take n (drop i s') ≡ take n (drop i s)
part_kept s s' at to i n a low high =
    ext_get_or 0 (take n (drop i s')) (take n (drop i s)) (long s' a.new ∙ sym (long s a.old))
    (λ j l. let inside : j < n = omega (arith, long s' a.new) in at_j s' j inside ∙ a.same (i + j) (omega arith) (omega arith) ∙ sym (at_j s j inside))
  where
    long : (l : List ℕ) → to ≤ length l → length (take n (drop i l)) ≡ n
    long l h = length-take-le n (drop i l) (rw (length-drop i l) (omega arith))

    at_j : (l : List ℕ) (j : ℕ) → j < n → get_or (take n (drop i l)) j 0 ≡ get_or l (i + j) 0
    at_j l j h = get_or-take n (drop i l) j 0 h ∙ get_or-drop i l j 0

module _ (s s' : List ℕ) (at to : ℕ) (a : Agree s s' at to) (fits : next_at s at ≤ to) where
  pub size_kept : body_length s' at ≡ body_length s at
  unfolding be16
  size_kept =
      let old = a.old in
      let new = a.new in
      ap (λ (n : ℕ). 4 * n)
      (u16_inside s' (at + 2) (omega arith)
      ∙ ap₂ (λ (x y : ℕ). x * 256 + y) (a.same (at + 2) (omega arith) (omega arith)) (a.same (at + 2 + 1) (omega arith) (omega arith))
      ∙ sym (u16_inside s (at + 2) (omega arith)))

  pub entry_kept : entry_at s at ≡ entry_at s' at
  unfolding entry_at
  entry_kept =
      let size = size_kept in
      let body : take (body_length s at) (drop (at + 4) s) ≡ take (body_length s' at) (drop (at + 4) s') =
      sym (ap (λ (n : ℕ). take n (drop (at + 4) s')) size ∙ part_kept s s' at to (at + 4) (body_length s at) a (omega arith) fits) in
      λ i. record {
        kind = sym (a.same at (omega arith) (omega arith)) i;
        specific = sym (a.same (at + 1) (omega arith) (omega arith)) i;
        place = at;
        body = body i;
      }

pub fill_kept : (s s' : List ℕ) (es : List Entry) (at to : ℕ) → Agree s s' at to → Fill s at to es → Fill s' at to es
fill_kept s s' [] at to a f = f
fill_kept s s' (e ∷ es) at to a f =
    let fits = fill_up s es (next_at s at) to f.1 in
    let size = size_kept s s' at to a fits in
    let next : next_at s at ≡ next_at s' at = omega arith in
    let on : Agree s s' (next_at s at) to = record { old = a.old; new = a.new; same = λ i l. a.same i (omega arith) } in
    (f.0 ∙ entry_kept s s' at to a fits, rw (← next) (fill_kept s s' es (next_at s at) to on f.1))
