-- The groups are the paper's, and no others are: `GroupsExactly` of specs/Grouping.antt. Assumes nothing.
use Prim.Native.Nat.{ℕ, zero, suc, ◌<◌, ◌≤◌}
use mathlib.Core.Path.{◌≡◌, refl, sym, ap}
use mathlib.Core.Bool.{Bool, true, false, cond}
use mathlib.Core.List.{List, [], ◌∷◌, ◌++◌}
use native.Mathlib.Omega.{arith}
use borrow.Author.Tests.{ltb-true, ltb-false, lt-ltb, le-ltb}
use lib.Dec.{ltb}
use lib.ListN.{length, get_or}
use Rattle.bursts.specs.Groups.{Group, first_of, last_of, between, meet, join, groups}
use Rattle.bursts.specs.Grouping.{events_in, group, IsGrouping, GroupsExactly}
use Rattle.bursts.proofs.Groups.{last_append}

-- the first event of a group, by index
first_at : (g : Group) → get_or g 0 0 ≡ first_of g
unfolding first_of
first_at [] = refl
first_at (p ∷ g) = refl

-- an event before groups
module _ (gmin p : ℕ) (ps : List ℕ) where
  lone : [] ≡ ps → IsGrouping gmin (p ∷ ps) ((p ∷ []) ∷ [])
  unfolding events_in
  lone e =
      record {
        all = ap (λ (x : List ℕ). p ∷ x) e;
        some = some;
        together = together;
        apart = λ k h. absurd (omega arith);
      }
    where
      some : (k : ℕ) → k < 1 → 0 < length (group ((p ∷ []) ∷ []) k)
      some zero h = omega arith
      some (suc k) h = absurd (omega arith)

      together : (k i : ℕ) → k < 1 → suc i < length (group ((p ∷ []) ∷ []) k) → between (get_or (group ((p ∷ []) ∷ []) k) i 0) (get_or (group ((p ∷ []) ∷ []) k) (suc i) 0) < gmin
      together zero i h l = absurd (omega arith)
      together (suc k) i h l = absurd (omega arith)

  module _ (b : Group) (bs : List Group) (g : IsGrouping gmin ps (b ∷ bs)) where
    near : between p (first_of b) < gmin → IsGrouping gmin (p ∷ ps) ((p ∷ b) ∷ bs)
    unfolding events_in
    near h =
        record {
          all = ap (λ (x : List ℕ). p ∷ x) g.all;
          some = some;
          together = together;
          apart = apart;
        }
      where
        some : (k : ℕ) → k < length ((p ∷ b) ∷ bs) → 0 < length (group ((p ∷ b) ∷ bs) k)
        some zero l = omega arith
        some (suc k) l = g.some (suc k) l

        together : (k i : ℕ) → k < length ((p ∷ b) ∷ bs) → suc i < length (group ((p ∷ b) ∷ bs) k) →
            between (get_or (group ((p ∷ b) ∷ bs) k) i 0) (get_or (group ((p ∷ b) ∷ bs) k) (suc i) 0) < gmin
        together zero zero l m = rw (first_at b) h
        together zero (suc i) l m = g.together 0 i (omega arith) (omega arith)
        together (suc k) i l m = g.together (suc k) i l m

        apart : (k : ℕ) → suc k < length ((p ∷ b) ∷ bs) → gmin ≤ between (last_of (group ((p ∷ b) ∷ bs) k)) (first_of (group bs k))
        apart zero l = rw (last_append (p ∷ []) b (g.some 0 (omega arith))) (g.apart 0 l)
        apart (suc k) l = g.apart (suc k) l

    far : gmin ≤ between p (first_of b) → IsGrouping gmin (p ∷ ps) ((p ∷ []) ∷ b ∷ bs)
    unfolding events_in last_of
    far h =
        record {
          all = ap (λ (x : List ℕ). p ∷ x) g.all;
          some = some;
          together = together;
          apart = apart;
        }
      where
        gs : List Group
        gs = (p ∷ []) ∷ b ∷ bs

        some : (k : ℕ) → k < length gs → 0 < length (group gs k)
        some zero l = omega arith
        some (suc k) l = g.some k (omega arith)

        together : (k i : ℕ) → k < length gs → suc i < length (group gs k) → between (get_or (group gs k) i 0) (get_or (group gs k) (suc i) 0) < gmin
        together zero i l m = absurd (omega arith)
        together (suc k) i l m = g.together k i (omega arith) m

        apart : (k : ℕ) → suc k < length gs → gmin ≤ between (last_of (group gs k)) (first_of (group (b ∷ bs) k))
        apart zero l = h
        apart (suc k) l = g.apart k (omega arith)

  before : (gs : List Group) → IsGrouping gmin ps gs → IsGrouping gmin (p ∷ ps) (meet gmin (p ∷ []) gs)
  unfolding meet events_in last_of
  before [] g = lone g.all
  before (b ∷ bs) g = go (ltb (between p (first_of b)) gmin) refl
    where
      go : (t : Bool) → ltb (between p (first_of b)) gmin ≡ t → IsGrouping gmin (p ∷ ps) (cond t ((p ∷ b) ∷ bs) ((p ∷ []) ∷ b ∷ bs))
      go true e = near b bs g (ltb-true (between p (first_of b)) gmin e)
      go false e = far b bs g (ltb-false (between p (first_of b)) gmin e)

pub are : (gmin : ℕ) (ps : List ℕ) → IsGrouping gmin ps (groups gmin ps)
unfolding groups join events_in
are gmin [] =
    record { all = refl; some = λ k h. absurd (omega arith); together = λ k i h l. absurd (omega arith); apart = λ k h. absurd (omega arith) }
are gmin (p ∷ ps) = before gmin p ps (groups gmin ps) (are gmin ps)

-- the first event of a grouping taken away
module _ (gmin p q : ℕ) (ps : List ℕ) (gs : List Group) where
  behind_lone : IsGrouping gmin (p ∷ ps) ((q ∷ []) ∷ gs) → IsGrouping gmin ps gs
  unfolding events_in
  behind_lone g =
      let e = g.all in
      record {
        all = cc;
        some = λ k h. g.some (suc k) (omega arith);
        together = λ k i h l. g.together (suc k) i (omega arith) l;
        apart = λ k h. g.apart (suc k) (omega arith);
      }

  behind_first : (q' : ℕ) (r : Group) → IsGrouping gmin (p ∷ ps) ((q ∷ q' ∷ r) ∷ gs) → IsGrouping gmin ps ((q' ∷ r) ∷ gs)
  unfolding events_in last_of
  behind_first q' r g = let e = g.all in record { all = cc; some = some; together = together; apart = apart }
    where
      some : (k : ℕ) → k < length ((q' ∷ r) ∷ gs) → 0 < length (group ((q' ∷ r) ∷ gs) k)
      some zero h = omega arith
      some (suc k) h = g.some (suc k) (omega arith)

      together : (k i : ℕ) → k < length ((q' ∷ r) ∷ gs) → suc i < length (group ((q' ∷ r) ∷ gs) k) →
          between (get_or (group ((q' ∷ r) ∷ gs) k) i 0) (get_or (group ((q' ∷ r) ∷ gs) k) (suc i) 0) < gmin
      together zero i h l = g.together 0 (suc i) (omega arith) (omega arith)
      together (suc k) i h l = g.together (suc k) i (omega arith) l

      apart : (k : ℕ) → suc k < length ((q' ∷ r) ∷ gs) → gmin ≤ between (last_of (group ((q' ∷ r) ∷ gs) k)) (first_of (group gs k))
      apart zero h = g.apart 0 (omega arith)
      apart (suc k) h = g.apart (suc k) (omega arith)

-- two lists of which one has an element
no_events : (p : ℕ) (ps : List ℕ) → [] ≡ p ∷ ps → ⊥
no_events p ps e = let z = ap length e in omega arith

pub only : (gmin : ℕ) (ps : List ℕ) (gs : List Group) → IsGrouping gmin ps gs → gs ≡ groups gmin ps
unfolding groups join meet events_in first_of last_of
only gmin [] [] g = refl
only gmin [] ([] ∷ gs) g = let h = g.some 0 (omega arith) in absurd (omega arith)
only gmin [] ((q ∷ r) ∷ gs) g = absurd (no_events q (r ++ events_in gs) (sym g.all))
only gmin (p ∷ ps) [] g = absurd (no_events p ps g.all)
only gmin (p ∷ ps) ([] ∷ gs) g = let h = g.some 0 (omega arith) in absurd (omega arith)
only gmin (p ∷ ps) ((q ∷ []) ∷ gs) g = go gs g (only gmin ps gs (behind_lone gmin p q ps gs g))
  where
    go : (gs : List Group) → IsGrouping gmin (p ∷ ps) ((q ∷ []) ∷ gs) → gs ≡ groups gmin ps → (q ∷ []) ∷ gs ≡ meet gmin (p ∷ []) (groups gmin ps)
    go [] g later = let e = g.all in let same : q ≡ p = cc in rw (← later, same)
    go (b ∷ bs) g later =
        let e = g.all in
        let same : q ≡ p = cc in
        let far : gmin ≤ between p (first_of b) = rw (← same) (g.apart 0 (omega arith)) in
        rw (← later, le-ltb (between p (first_of b)) gmin far, same)
only gmin (p ∷ ps) ((q ∷ q' ∷ r) ∷ gs) g =
    let later = only gmin ps ((q' ∷ r) ∷ gs) (behind_first gmin p q ps gs q' r g) in
    let e = g.all in
    let same : q ≡ p = cc in
    let near : between p q' < gmin = rw (← same) (g.together 0 0 (omega arith) (omega arith)) in
    rw (← later, lt-ltb (between p q') gmin near, same)

pub groups_exactly : GroupsExactly
groups_exactly gmin ps gs = (λ (e : gs ≡ groups gmin ps). rw e (are gmin ps), only gmin ps gs)

pub groups_all : (gmin : ℕ) (ps : List ℕ) → events_in (groups gmin ps) ≡ ps
groups_all gmin ps = (are gmin ps).all
