-- Events and groups of two stretches, one behind the other. Assumes nothing.
use Prim.Native.Nat.{ℕ, suc, ◌+◌, ◌<◌}
use mathlib.Core.Path.{◌≡◌, refl, sym, ap, ◌∙◌}
use mathlib.Core.Bool.{Bool, true, false, cond}
use mathlib.Core.List.{List, [], ◌∷◌, ◌++◌, append_assoc}
use native.Mathlib.Omega.{arith}
use native.Mathlib.Nat.{add-zero, zero-add}
use lib.Dec.{ltb}
use lib.ListN.{length, length-append}
use Rattle.bursts.specs.Groups.{events_from, Group, first_of, last_of, between, meet, join, groups, is_burst, bursts_of, total}
use Rattle.bursts.specs.Grouping.{EventsJoin, GroupsJoin}

events_append : (event : ℕ → Bool) (at : ℕ) (s u : List ℕ) → events_from event at (s ++ u) ≡ events_from event at s ++ events_from event (at + length s) u
unfolding events_from
events_append event at [] u = rw add-zero
events_append event at (p ∷ s) u = go (event p) (events_append event (suc at) s u)
  where
    here : at + suc (length s) ≡ suc at + length s
    here = omega arith

    go : (t : Bool) → events_from event (suc at) (s ++ u) ≡ events_from event (suc at) s ++ events_from event (suc at + length s) u →
        cond t (at ∷ events_from event (suc at) (s ++ u)) (events_from event (suc at) (s ++ u))
        ≡ cond t (at ∷ events_from event (suc at) s) (events_from event (suc at) s) ++ events_from event (at + suc (length s)) u
    go true later = rw (later, here)
    go false later = rw (later, here)

pub events_join : EventsJoin
events_join event s u = events_append event 0 s u ∙ rw (zero-add (length s))

-- the ends of two groups made one
pub first_append : (a b : Group) → 0 < length a → first_of (a ++ b) ≡ first_of a
unfolding first_of
first_append [] b h = absurd (omega arith)
first_append (p ∷ a) b h = refl

pub last_append : (a b : Group) → 0 < length b → last_of (a ++ b) ≡ last_of b
unfolding last_of
last_append [] b h = refl
last_append (p ∷ []) [] h = absurd (omega arith)
last_append (p ∷ []) (q ∷ b) h = refl
last_append (p ∷ q ∷ a) b h = last_append (q ∷ a) b h

-- every group has an event
unfoldable pub AllSome : List Group → Type 0
AllSome [] = 0 < 1
AllSome (g ∷ gs) = (0 < length g) × AllSome gs

pub meet_some : (gmin : ℕ) (a : Group) (bs : List Group) → 0 < length a → AllSome bs → AllSome (meet gmin a bs)
unfolding meet AllSome
meet_some gmin a [] h all = (h, all)
meet_some gmin a (b ∷ bs) h all = go (ltb (between (last_of a) (first_of b)) gmin)
  where
    go : (t : Bool) → AllSome (cond t ((a ++ b) ∷ bs) (a ∷ b ∷ bs))
    go true = (simp length-append (omega arith), all.1)
    go false = (h, all)

pub groups_some : (gmin : ℕ) (ps : List ℕ) → AllSome (groups gmin ps)
unfolding groups join AllSome
groups_some gmin [] = omega arith
groups_some gmin (p ∷ ps) = meet_some gmin (p ∷ []) (groups gmin ps) (omega arith) (groups_some gmin ps)

-- a group put before the first of two lists is put before what they join to
meet_join : (gmin : ℕ) (a : Group) (bs cs : List Group) → AllSome bs → join gmin (meet gmin a bs) cs ≡ meet gmin a (join gmin bs cs)
unfolding join meet AllSome
meet_join gmin a [] cs some = refl
meet_join gmin a (b ∷ []) [] some = go (ltb (between (last_of a) (first_of b)) gmin)
  where
    go : (t : Bool) → join gmin (cond t ((a ++ b) ∷ []) (a ∷ b ∷ [])) [] ≡ cond t ((a ++ b) ∷ []) (a ∷ b ∷ [])
    go true = refl
    go false = refl
meet_join gmin a (b ∷ []) (c ∷ cs) some = go (ltb (between (last_of a) (first_of b)) gmin) (ltb (between (last_of b) (first_of c)) gmin) refl refl
  where
    go : (t u : Bool) → ltb (between (last_of a) (first_of b)) gmin ≡ t → ltb (between (last_of b) (first_of c)) gmin ≡ u →
        join gmin (meet gmin a (b ∷ [])) (c ∷ cs) ≡ meet gmin a (meet gmin b (c ∷ cs))
    go true true ab bc = rw (ab, bc, last_append a b some.0, bc, first_append b c some.0, ab, append_assoc a b c)
    go true false ab bc = rw (ab, bc, last_append a b some.0, bc, ab)
    go false true ab bc = rw (ab, bc, first_append b c some.0, ab)
    go false false ab bc = rw (ab, bc, ab)
meet_join gmin a (b ∷ b' ∷ bs) cs some = go (ltb (between (last_of a) (first_of b)) gmin) refl
  where
    go : (t : Bool) → ltb (between (last_of a) (first_of b)) gmin ≡ t → join gmin (meet gmin a (b ∷ b' ∷ bs)) cs ≡ meet gmin a (b ∷ join gmin (b' ∷ bs) cs)
    go true near = rw near
    go false far = rw far

pub groups_join : GroupsJoin
unfolding groups join
groups_join gmin [] qs = refl
groups_join gmin (p ∷ ps) qs =
    ap (meet gmin (p ∷ [])) (groups_join gmin ps qs) ∙ sym (meet_join gmin (p ∷ []) (groups gmin ps) (groups gmin qs) (groups_some gmin ps))

-- a group behind others: what they join to, their bursts, and what these have
pub join_last : (gmin : ℕ) (fs : List Group) (b : Group) (cs : List Group) → join gmin (fs ++ b ∷ []) cs ≡ fs ++ meet gmin b cs
unfolding join
join_last gmin [] b cs = refl
join_last gmin (f ∷ []) b cs = refl
join_last gmin (f ∷ f' ∷ fs) b cs = ap (λ (x : List Group). f ∷ x) (join_last gmin (f' ∷ fs) b cs)

pub bursts_append : (gs hs : List Group) → bursts_of (gs ++ hs) ≡ bursts_of gs ++ bursts_of hs
unfolding bursts_of
bursts_append [] hs = refl
bursts_append (g ∷ gs) hs = go (is_burst g) (bursts_append gs hs)
  where
    go : (t : Bool) → bursts_of (gs ++ hs) ≡ bursts_of gs ++ bursts_of hs →
        cond t (g ∷ bursts_of (gs ++ hs)) (bursts_of (gs ++ hs)) ≡ cond t (g ∷ bursts_of gs) (bursts_of gs) ++ bursts_of hs
    go true later = ap (λ (x : List Group). g ∷ x) later
    go false later = later

pub total_append : (f : Group → ℕ) (bs cs : List Group) → total f (bs ++ cs) ≡ total f bs + total f cs
unfolding total
total_append f [] cs = omega arith
total_append f (b ∷ bs) cs = omega (arith, total_append f bs cs)
