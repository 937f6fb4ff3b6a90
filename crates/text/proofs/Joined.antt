-- Text put in two calls, the second where the first ended, is the joined text put in one, cut off or not:
-- `Joined` of specs/Laws.antt. Assumes nothing.
use Prim.Native.Nat.{ℕ, ◌+◌, ◌-◌, ◌≤◌, min}
use mathlib.Core.Path.{◌≡◌, refl, sym, ap, ◌∙◌}
use mathlib.Core.List.{List, ◌++◌, append_assoc, append-nil}
use native.Mathlib.Omega.{arith}
use native.Mathlib.Decide.{dec_le}
use native.Mathlib.Nat.{min-le_left}
use lib.ListN.{length, take, drop, length-append}
use lib.Seq.{paste, take-paste, drop-paste, drop-drop, take_all, take-append-le, take-append-add}
use Rattle.text.specs.Page.{fitting, end_at, put_at, put_in}
use Rattle.text.specs.Laws.{Joined, JoinedInPage}
use Rattle.text.proofs.Room.{length_put, put_past, end_past}

-- the bytes put of two texts are those of the joined text: all of a, or none of b
texts : (a b : List ℕ) (room n m k : ℕ) → n ≡ min (length a) room → m ≡ min (length b) (room - n) → k ≡ min (length a + length b) room →
    take n a ++ take m b ≡ take k (a ++ b)
texts a b room n m k en em ek = go (dec_le (length a) room)
  where
    go : Dec (length a ≤ room) → take n a ++ take m b ≡ take k (a ++ b)
    go (yes whole) =
        let all : take n a ≡ a = take_all n a (omega arith) in
        let e : k ≡ length a + m = omega arith in
        rw (all, e) (sym (take-append-add a b m))
    go (no cut) =
        let none : m ≡ 0 = omega arith in
        let e : k ≡ n = omega arith in
        rw (none, e) (append-nil (take n a) ∙ sym (take-append-le n a b (omega arith)))

-- the numbers of bytes put
sums : (x y room n m k : ℕ) → n ≡ min x room → m ≡ min y (room - n) → k ≡ min (x + y) room → n + m ≡ k
sums x y room n m k en em ek = omega arith

left : (size long at n e : ℕ) → long ≡ size → e ≡ at + n → long - e ≡ size - at - n
left size long at n e same ee = omega arith

glue : (p : List ℕ) (at n m k : ℕ) (a b : List ℕ) → at ≤ length p → n ≤ length a → take n a ++ take m b ≡ take k (a ++ b) → n + m ≡ k →
    take (at + n) (paste p at a n) ++ take m b ++ drop (at + n + m) (paste p at a n) ≡ take at p ++ take k (a ++ b) ++ drop (at + k) p
glue p at n m k a b inside whole texts-are sum =
    let e : at + n + m ≡ at + k = omega arith in
    let front = take-paste p at a n inside whole in
    let back : drop (at + n + m) (paste p at a n) ≡ drop (at + k) p
    = sym (drop-drop m (at + n) (paste p at a n)) ∙ ap (drop m) (drop-paste p at a n inside whole)
    ∙ drop-drop m (at + n) p ∙ ap (λ (x : ℕ). drop x p) e in
    ap (λ (l : List ℕ). l ++ take m b ++ drop (at + n + m) (paste p at a n)) front
    ∙ ap (λ (l : List ℕ). take at p ++ take n a ++ take m b ++ l) back
    ∙ ap (λ (l : List ℕ). l ++ drop (at + k) p) (append_assoc (take at p) (take n a) (take m b) ∙ ap (λ (l : List ℕ). take at p ++ l) texts-are)

module _ (page : List ℕ) (at : ℕ) (a b : List ℕ) where
  pub end_joined : end_at (put_at page at a) (end_at page at a) b ≡ end_at page at (a ++ b)
  unfolding end_at
  end_joined = rw (length_put page at a, length-append a b) (omega arith)

  from : (q : List ℕ) (n m k e : ℕ) → at ≤ length page → q ≡ paste page at a n → length q ≡ length page → n ≡ fitting page at a → e ≡ at + n →
      m ≡ fitting q e b → k ≡ fitting page at (a ++ b) → take e q ++ take m b ++ drop (e + m) q ≡ take at page ++ take k (a ++ b) ++ drop (at + k) page
  from q n m k e h is long en ee em ek =
      let em2 : m ≡ min (length b) (length page - at - n) = em ∙ ap (min (length b)) (left (length page) (length q) at n e long ee) in
      let ek2 : k ≡ min (length a + length b) (length page - at) = ek ∙ ap (λ (x : ℕ). min x (length page - at)) (length-append a b) in
      rw (ee, is)
      (glue page at n m k a b h (rw en (min-le_left (length a) (length page - at))) (texts a b (length page - at) n m k en em2 ek2)
      (sums (length a) (length b) (length page - at) n m k en em2 ek2))

  inside_joined : at ≤ length page → put_at (put_at page at a) (end_at page at a) b ≡ put_at page at (a ++ b)
  unfolding put_at end_at
  inside_joined h =
      from (put_at page at a) (fitting page at a) (fitting (put_at page at a) (end_at page at a) b) (fitting page at (a ++ b)) (end_at page at a) h refl (length_put page at a) refl refl refl refl

  pub put_joined : put_at (put_at page at a) (end_at page at a) b ≡ put_at page at (a ++ b)
  put_joined = go (dec_le at (length page))
    where
      go : Dec (at ≤ length page) → put_at (put_at page at a) (end_at page at a) b ≡ put_at page at (a ++ b)
      go (yes inside) = inside_joined inside
      go (no outside) =
          let same = put_past page at a (omega arith) in
          let stays = end_past page at a (omega arith) in
          rw (← same, ← stays) (sym (put_past page at b (omega arith)) ∙ put_past page at (a ++ b) (omega arith))

pub joined : Joined
joined page after last at end stop a b first second =
    (second.0 ∙ rw (first.0, first.1) (end_joined page at a b), second.1 ∙ rw (first.0, first.1) (put_joined page at a b))

pub joined_in_page : JoinedInPage
unfolding put_in
joined_in_page page first second = rw (end_joined page.bytes.now page.at first second, put_joined page.bytes.now page.at first second)
