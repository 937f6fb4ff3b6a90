-- A stretch has the same groups wherever it begins, each moved as far: `SumsAnywhere` of specs/Grouping.antt. Assumes nothing.
use Prim.Native.Nat.{ℕ, suc, ◌+◌, ◌<◌}
use mathlib.Core.Path.{◌≡◌, refl, ap, ◌∙◌}
use mathlib.Core.Bool.{Bool, true, false, cond}
use mathlib.Core.List.{List, [], ◌∷◌, ◌++◌}
use native.Mathlib.Omega.{arith}
use native.Mathlib.Nat.{add-zero}
use lib.Dec.{ltb}
use lib.ListN.{length}
use Rattle.bursts.specs.Groups.{events_from, events_at, Group, first_of, last_of, between, meet, join, groups, is_burst, bursts_of, packets_of, duration, square, total}
use Rattle.bursts.specs.Sums.{sums_over}
use Rattle.bursts.specs.Grouping.{SumsAnywhere}
use Rattle.bursts.proofs.Groups.{AllSome, groups_some}

-- positions d further on, and groups of them
unfoldable moved : ℕ → List ℕ → List ℕ
moved d [] = []
moved d (p ∷ ps) = (d + p) ∷ moved d ps

unfoldable all_moved : ℕ → List Group → List Group
all_moved d [] = []
all_moved d (g ∷ gs) = moved d g ∷ all_moved d gs

module _ (d : ℕ) where
  events_moved : (event : ℕ → Bool) (at : ℕ) (s : List ℕ) → events_from event (d + at) s ≡ moved d (events_from event at s)
  unfolding events_from moved
  events_moved event at [] = refl
  events_moved event at (packet ∷ s) = go (event packet) (events_moved event (suc at) s)
    where
      here : d + suc at ≡ suc (d + at)
      here = omega arith

      go : (t : Bool) → events_from event (d + suc at) s ≡ moved d (events_from event (suc at) s) →
          cond t ((d + at) ∷ events_from event (suc (d + at)) s) (events_from event (suc (d + at)) s) ≡ moved d (cond t (at ∷ events_from event (suc at) s) (events_from event (suc at) s))
      go true later = rw (← here, later)
      go false later = rw (← here) later

  length_moved : (g : List ℕ) → length (moved d g) ≡ length g
  unfolding moved
  length_moved [] = refl
  length_moved (p ∷ g) = ap suc (length_moved g)

  append_moved : (g h : List ℕ) → moved d g ++ moved d h ≡ moved d (g ++ h)
  unfolding moved
  append_moved [] h = refl
  append_moved (p ∷ g) h = ap (λ (x : List ℕ). (d + p) ∷ x) (append_moved g h)

  first_moved : (g : Group) → 0 < length g → first_of (moved d g) ≡ d + first_of g
  unfolding moved first_of
  first_moved [] h = absurd (omega arith)
  first_moved (p ∷ g) h = refl

  last_moved : (g : Group) → 0 < length g → last_of (moved d g) ≡ d + last_of g
  unfolding moved last_of
  last_moved [] h = absurd (omega arith)
  last_moved (p ∷ []) h = refl
  last_moved (p ∷ q ∷ g) h = last_moved (q ∷ g) (omega arith)

  packets_moved : (g : Group) → packets_of (moved d g) ≡ packets_of g
  unfolding moved
  packets_moved [] = refl
  packets_moved (p ∷ g) =
      let f = first_moved (p ∷ g) (omega arith) in
      let l = last_moved (p ∷ g) (omega arith) in
      omega arith

  meet_moved : (gmin : ℕ) (a : Group) (bs : List Group) → 0 < length a → AllSome bs → meet gmin (moved d a) (all_moved d bs) ≡ all_moved d (meet gmin a bs)
  unfolding meet all_moved AllSome
  meet_moved gmin a [] some all = refl
  meet_moved gmin a (b ∷ bs) some all =
      let same : between (last_of (moved d a)) (first_of (moved d b)) ≡ between (last_of a) (first_of b) = rw (last_moved a some, first_moved b all.0) (omega arith) in
      rw same (go (ltb (between (last_of a) (first_of b)) gmin))
    where
      go : (t : Bool) → cond t ((moved d a ++ moved d b) ∷ all_moved d bs) (moved d a ∷ moved d b ∷ all_moved d bs) ≡ all_moved d (cond t ((a ++ b) ∷ bs) (a ∷ b ∷ bs))
      go true = ap (λ (x : Group). x ∷ all_moved d bs) (append_moved a b)
      go false = refl

  groups_moved : (gmin : ℕ) (ps : List ℕ) → groups gmin (moved d ps) ≡ all_moved d (groups gmin ps)
  unfolding groups join moved all_moved
  groups_moved gmin [] = refl
  groups_moved gmin (p ∷ ps) = ap (meet gmin ((d + p) ∷ [])) (groups_moved gmin ps) ∙ meet_moved gmin (p ∷ []) (groups gmin ps) (omega arith) (groups_some gmin ps)

  bursts_moved : (gs : List Group) → bursts_of (all_moved d gs) ≡ all_moved d (bursts_of gs)
  unfolding bursts_of all_moved
  bursts_moved [] = refl
  bursts_moved (g ∷ gs) = rw (length_moved g) (go (is_burst g) (bursts_moved gs))
    where
      go : (t : Bool) → bursts_of (all_moved d gs) ≡ all_moved d (bursts_of gs) → cond t (moved d g ∷ bursts_of (all_moved d gs)) (bursts_of (all_moved d gs)) ≡ all_moved d (cond t (g ∷ bursts_of gs) (bursts_of gs))
      go true later = ap (λ (x : List Group). moved d g ∷ x) later
      go false later = later

  total_moved : (f : Group → ℕ) → ((g : Group) → f (moved d g) ≡ f g) → (gs : List Group) → total f (all_moved d gs) ≡ total f gs
  unfolding total all_moved
  total_moved f same [] = refl
  total_moved f same (g ∷ gs) = rw (same g, total_moved f same gs)

  count_moved : (gs : List Group) → length (all_moved d gs) ≡ length gs
  unfolding all_moved
  count_moved [] = refl
  count_moved (g ∷ gs) = ap suc (count_moved gs)

pub sums_anywhere : SumsAnywhere
unfolding sums_over
sums_anywhere event gmin spacing E L at s =
    let ps = events_at event s in
    let bs = bursts_of (groups gmin ps) in
    let start : events_from event at s ≡ moved at ps = ap (λ (n : ℕ). events_from event n s) (rw (add-zero at)) ∙ events_moved at event 0 s in
    rw (
      start,
      groups_moved at gmin ps,
      bursts_moved at (groups gmin ps),
      total_moved at packets_of (packets_moved at) bs,
      total_moved at length (length_moved at) bs,
      count_moved at bs,
      total_moved at (λ g. duration spacing (packets_of g)) (λ g. ap (duration spacing) (packets_moved at g)) bs,
      total_moved at (λ g. square (duration spacing (packets_of g))) (λ g. ap (λ (n : ℕ). square (duration spacing n)) (packets_moved at g)) bs,
    )
