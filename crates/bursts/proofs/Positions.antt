-- Events and bursts counted by position: `EventsAre` and `SumsCounted` of specs/Grouping.antt. Assumes nothing.
use Prim.Native.Nat.{ℕ, zero, suc, ◌+◌, ◌-◌, ◌<◌, ◌≤◌}
use mathlib.Core.Path.{◌≡◌, refl, sym, ap, ◌∙◌}
use mathlib.Core.Bool.{Bool, true, false, cond, ◌&&◌, ◌||◌, and-true, and-false, or-false}
use mathlib.Core.List.{List, [], ◌∷◌, ◌++◌}
use native.Mathlib.Omega.{arith}
use native.Mathlib.Nat.{zero-add, add-zero}
use borrow.Author.Tests.{le-leb, lt-leb, eq-eqb, ne_eqb}
use lib.Dec.{eqb}
use lib.ListN.{length, get_or}
use Rattle.trace.specs.Sum.{bit, bits, count}
use Rattle.trace.proofs.Sums.{sum_one, sum_cut, sum_same, count_none, count_all, count_most}
use Rattle.bursts.specs.Groups.{events_from, events_at, Group, first_of, last_of, groups, is_burst, bursts_of, packets_of, inside, total}
use Rattle.bursts.specs.Sums.{sums_over}
use Rattle.bursts.specs.Grouping.{listed, events_in, is_event, in_burst, EventsAre, SumsCounted}
use Rattle.bursts.proofs.Groups.{AllSome, groups_some}
use Rattle.bursts.proofs.Grouping.{groups_all}

-- how many positions from lo on, below hi, pass a test
abbrev pub range : (ℕ → Bool) → ℕ → ℕ → ℕ
range test lo hi = count test lo (hi - lo)

module _ (test : ℕ → Bool) where
  range_cut : (lo mid hi : ℕ) → lo ≤ mid → mid ≤ hi → range test lo hi ≡ range test lo mid + range test mid hi
  range_cut lo mid hi l h =
      let size : hi - lo ≡ mid - lo + (hi - mid) = omega arith in
      let place : lo + (mid - lo) ≡ mid = omega arith in
      ap (count test lo) size ∙ sum_cut (bits test) lo (mid - lo) (hi - mid) ∙ ap (λ (m : ℕ). range test lo mid + count test m (hi - mid)) place

  range_none : (lo hi : ℕ) → lo ≤ hi → ((i : ℕ) → lo ≤ i → i < hi → test i ≡ false) → range test lo hi ≡ 0
  range_none lo hi l none = count_none test lo (hi - lo) (λ i a b. none i a (omega arith))

  range_same : (other : ℕ → Bool) (lo hi : ℕ) → lo ≤ hi → ((i : ℕ) → lo ≤ i → i < hi → test i ≡ other i) → range test lo hi ≡ range other lo hi
  range_same other lo hi l same = sum_same (bits test) (bits other) lo (hi - lo) (λ i h. ap bit (same (lo + i) (omega arith) (omega arith)))

  range_one : (p : ℕ) → test p ≡ true → range test p (suc p) ≡ 1
  unfolding bit
  range_one p h = let one : suc p - p ≡ 1 = omega arith in rw (one, sum_one (bits test) p, h)

-- positions that rise from lo on, below hi
unfoldable pub Rising : ℕ → ℕ → List ℕ → Type 0
Rising lo hi [] = lo ≤ hi
Rising lo hi (p ∷ ps) = (lo ≤ p) × Rising (suc p) hi ps

rising_lower : (lo lo' hi : ℕ) (ps : List ℕ) → lo' ≤ lo → Rising lo hi ps → Rising lo' hi ps
unfolding Rising
rising_lower lo lo' hi [] l r = omega arith
rising_lower lo lo' hi (p ∷ ps) l r = (omega arith, r.1)

rising_room : (lo hi : ℕ) (ps : List ℕ) → Rising lo hi ps → lo ≤ hi
unfolding Rising
rising_room lo hi [] r = r
rising_room lo hi (p ∷ ps) r = let h = rising_room (suc p) hi ps r.1 in omega arith

events_rise : (event : ℕ → Bool) (at : ℕ) (s : List ℕ) → Rising at (at + length s) (events_from event at s)
unfolding Rising events_from
events_rise event at [] = omega arith
events_rise event at (packet ∷ s) = go (event packet) (rw (← here) (events_rise event (suc at) s))
  where
    here : suc at + length s ≡ at + suc (length s)
    here = omega arith

    go : (t : Bool) → Rising (suc at) (at + suc (length s)) (events_from event (suc at) s) →
        Rising at (at + suc (length s)) (cond t (at ∷ events_from event (suc at) s) (events_from event (suc at) s))
    go true later = (omega arith, later)
    go false later = rising_lower (suc at) at (at + suc (length s)) (events_from event (suc at) s) (omega arith) later

-- what is listed among rising positions lies between their ends
listed_below : (lo hi : ℕ) (ps : List ℕ) (i : ℕ) → Rising lo hi ps → i < lo → listed ps i ≡ false
unfolding Rising listed
listed_below lo hi [] i r h = refl
listed_below lo hi (p ∷ ps) i r h = rw (ne_eqb p i (λ e. omega arith), listed_below (suc p) hi ps i r.1 (omega arith))

listed_above : (lo hi : ℕ) (ps : List ℕ) (i : ℕ) → Rising lo hi ps → hi ≤ i → listed ps i ≡ false
unfolding Rising listed
listed_above lo hi [] i r h = refl
listed_above lo hi (p ∷ ps) i r h =
    let room = rising_room (suc p) hi ps r.1 in
    rw (ne_eqb p i (λ e. omega arith), listed_above (suc p) hi ps i r.1 h)

pub rising_count : (lo hi : ℕ) (ps : List ℕ) → Rising lo hi ps → range (listed ps) lo hi ≡ length ps
unfolding Rising listed
rising_count lo hi [] r = range_none (λ i. false) lo hi r (λ i a b. refl)
rising_count lo hi (p ∷ ps) r =
    let room = rising_room (suc p) hi ps r.1 in
    let t = listed (p ∷ ps) in
    let cut = range_cut t lo p hi r.0 (omega arith) in
    let cut' = range_cut t p (suc p) hi (omega arith) room in
    let none = range_none t lo p r.0 (λ i a b. rw (ne_eqb p i (λ e. omega arith), listed_below (suc p) hi ps i r.1 (omega arith))) in
    let one = range_one t p (rw (eq-eqb p p refl)) in
    let later = range_same t (listed ps) (suc p) hi room (λ i a b. rw (ne_eqb p i (λ e. omega arith))) in
    let rest = rising_count (suc p) hi ps r.1 in
    omega arith

listed_append : (g ps : List ℕ) (i : ℕ) → listed (g ++ ps) i ≡ (listed g i || listed ps i)
unfolding listed
listed_append [] ps i = refl
listed_append (p ∷ g) ps i = go (eqb p i) (listed_append g ps i)
  where
    go : (t : Bool) → listed (g ++ ps) i ≡ (listed g i || listed ps i) → (t || listed (g ++ ps) i) ≡ (t || listed g i || listed ps i)
    go true e = refl
    go false e = e

-- a group at the front of rising positions
pub record Cut (lo hi : ℕ) (g : Group) (later : List ℕ) : Type 0 where
  pub starts : lo ≤ first_of g
  pub long : first_of g ≤ last_of g
  pub own : Rising (first_of g) (suc (last_of g)) g
  pub rest : Rising (suc (last_of g)) hi later

pub cut : (lo hi : ℕ) (g : Group) (later : List ℕ) → 0 < length g → Rising lo hi (g ++ later) → Cut lo hi g later
unfolding Rising first_of last_of
cut lo hi [] later h r = absurd (omega arith)
cut lo hi (p ∷ []) later h r = record { starts = r.0; long = omega arith; own = (omega arith, omega arith); rest = r.1 }
cut lo hi (p ∷ q ∷ g) later h r =
    let c = cut (suc p) hi (q ∷ g) later (omega arith) r.1 in
    let q-first = c.starts in
    let long = c.long in
    record { starts = r.0; long = omega arith; own = (omega arith, rising_lower q (suc p) (suc (last_of (q ∷ g))) (q ∷ g) q-first c.own); rest = c.rest }

-- no more events than packets
pub cut_dense : (lo hi : ℕ) (g : Group) (later : List ℕ) → Cut lo hi g later → length g ≤ packets_of g
cut_dense lo hi g later c =
    omega (arith, rising_count (first_of g) (suc (last_of g)) g c.own, count_most (listed g) (first_of g) (suc (last_of g) - first_of g), c.long)

-- where the last of some groups lies
pub record Last (hi : ℕ) (g : Group) : Type 0 where
  pub some : 0 < length g
  pub long : first_of g ≤ last_of g
  pub ends : last_of g < hi
  pub dense : length g ≤ packets_of g

pub last_group : (lo hi : ℕ) (fs : List Group) (g : Group) → AllSome (fs ++ g ∷ []) → Rising lo hi (events_in (fs ++ g ∷ [])) → Last hi g
unfolding AllSome events_in
last_group lo hi [] g some r =
    let c = cut lo hi g [] some.0 r in
    record { some = some.0; long = c.long; ends = rising_room (suc (last_of g)) hi [] c.rest; dense = cut_dense lo hi g [] c }
last_group lo hi (f ∷ fs) g some r = last_group (suc (last_of f)) hi fs g some.1 (cut lo hi f (events_in (fs ++ g ∷ [])) some.0 r).rest

-- no burst lies before its events
inside_below : (lo hi : ℕ) (gs : List Group) (i : ℕ) → AllSome gs → Rising lo hi (events_in gs) → i < lo → inside (bursts_of gs) i ≡ false
unfolding AllSome events_in bursts_of inside
inside_below lo hi [] i some r h = refl
inside_below lo hi (g ∷ gs) i some r h = go (is_burst g) (inside_below (suc (last_of g)) hi gs i some.1 c.rest (omega (arith, c.starts, c.long)))
  where
    c : Cut lo hi g (events_in gs)
    c = cut lo hi g (events_in gs) some.0 r

    go : (t : Bool) → inside (bursts_of gs) i ≡ false → inside (cond t (g ∷ bursts_of gs) (bursts_of gs)) i ≡ false
    go true later = rw (lt-leb (first_of g) i (omega (arith, c.starts)), later)
    go false later = later

-- Of the positions that pass a test each group has as many as w says: those inside bursts are what the bursts have.
module _ (test : ℕ → Bool) (w : Group → ℕ) where
  unfoldable Weighs : List Group → Type 0
  Weighs [] = 0 < 1
  Weighs (g ∷ gs) = (range test (first_of g) (suc (last_of g)) ≡ w g) × Weighs gs

  abbrev within : List Group → ℕ → Bool
  within bs i = test i && inside bs i

  inside_total : (lo hi : ℕ) (gs : List Group) → AllSome gs → Rising lo hi (events_in gs) → Weighs gs → range (within (bursts_of gs)) lo hi ≡ total w (bursts_of gs)
  unfolding AllSome events_in bursts_of inside total Weighs
  inside_total lo hi [] some r h = range_none (λ i. test i && false) lo hi (rising_room lo hi [] r) (λ i a b. and-false (test i))
  inside_total lo hi (g ∷ gs) some r h =
      go (is_burst g) (inside_total (suc (last_of g)) hi gs some.1 (cut lo hi g (events_in gs) some.0 r).rest h.1)
    where
      c : Cut lo hi g (events_in gs)
      c = cut lo hi g (events_in gs) some.0 r

      end : ℕ
      end = suc (last_of g)

      room : end ≤ hi
      room = rising_room end hi (events_in gs) c.rest

      below : (i : ℕ) → i < end → inside (bursts_of gs) i ≡ false
      below i l = inside_below end hi gs i some.1 c.rest l

      go : (t : Bool) → range (within (bursts_of gs)) end hi ≡ total w (bursts_of gs) →
          range (within (cond t (g ∷ bursts_of gs) (bursts_of gs))) lo hi ≡ total w (cond t (g ∷ bursts_of gs) (bursts_of gs))
      go true later =
          let all = within (g ∷ bursts_of gs) in
          let cut₁ = range_cut all lo (first_of g) hi c.starts (omega (arith, c.long, room)) in
          let cut₂ = range_cut all (first_of g) end hi (omega (arith, c.long)) room in
          let none = range_none all lo (first_of g) c.starts (λ i a b. rw (lt-leb (first_of g) i b, below i (omega (arith, c.long))) (and-false (test i))) in
          let own = range_same all test (first_of g) end (omega (arith, c.long)) (λ i a b. rw (le-leb (first_of g) i a, le-leb i (last_of g) (omega arith)) (and-true (test i))) in
          let rest = range_same all (within (bursts_of gs)) end hi room (λ i a b. rw (le-leb (first_of g) i (omega (arith, c.long)), lt-leb i (last_of g) (omega arith))) in
          omega (arith, h.0, later)
      go false later =
          let cut₁ = range_cut (within (bursts_of gs)) lo end hi (omega (arith, c.starts, c.long)) room in
          let none = range_none (within (bursts_of gs)) lo end (omega (arith, c.starts, c.long)) (λ i a b. rw (below i b) (and-false (test i))) in
          omega (arith, later)

-- every packet weighs one
packets_weigh : (lo hi : ℕ) (gs : List Group) → AllSome gs → Rising lo hi (events_in gs) → Weighs (λ i. true) packets_of gs
unfolding AllSome events_in Weighs
packets_weigh lo hi [] some r = omega arith
packets_weigh lo hi (g ∷ gs) some r =
    let c = cut lo hi g (events_in gs) some.0 r in
    (omega (arith, count_all (λ i. true) (first_of g) (suc (last_of g) - first_of g) (λ i l h. refl), c.long), packets_weigh (suc (last_of g)) hi gs some.1 c.rest)

-- and every event: the test is any that agrees with the list from lo on
events_weigh : (test : ℕ → Bool) (lo hi : ℕ) (gs : List Group) → AllSome gs → Rising lo hi (events_in gs) →
    ((i : ℕ) → lo ≤ i → i < hi → test i ≡ listed (events_in gs) i) → Weighs test length gs
unfolding AllSome events_in Weighs
events_weigh test lo hi [] some r same = omega arith
events_weigh test lo hi (g ∷ gs) some r same =
    (range_same test (listed g) (first_of g) end (omega (arith, c.long)) own ∙ rising_count (first_of g) end g c.own, events_weigh test end hi gs some.1 c.rest rest)
  where
    c : Cut lo hi g (events_in gs)
    c = cut lo hi g (events_in gs) some.0 r

    end : ℕ
    end = suc (last_of g)

    room : end ≤ hi
    room = rising_room end hi (events_in gs) c.rest

    own : (i : ℕ) → first_of g ≤ i → i < end → test i ≡ listed g i
    own i a b =
        same i (omega (arith, c.starts)) (omega (arith, room))
        ∙ rw (listed_append g (events_in gs) i, listed_below end hi (events_in gs) i c.rest b) (or-false (listed g i))

    rest : (i : ℕ) → end ≤ i → i < hi → test i ≡ listed (events_in gs) i
    rest i a b =
        same i (omega (arith, c.starts, c.long)) b
        ∙ rw (listed_append g (events_in gs) i, listed_above (first_of g) end g i c.own a)

-- the events of a trace are listed, one packet after the other
events_listed : (event : ℕ → Bool) (at : ℕ) (s : List ℕ) (i : ℕ) → i < length s → listed (events_from event at s) (at + i) ≡ event (get_or s i 0)
unfolding events_from listed
events_listed event at [] i h = absurd (omega arith)
events_listed event at (packet ∷ s) zero h =
    rw (add-zero at) (go (event packet) (listed_below (suc at) (suc at + length s) (events_from event (suc at) s) at (events_rise event (suc at) s) (omega arith)))
  where
    go : (t : Bool) → listed (events_from event (suc at) s) at ≡ false → listed (cond t (at ∷ events_from event (suc at) s) (events_from event (suc at) s)) at ≡ t
    go true below = rw (eq-eqb at at refl)
    go false below = below
events_listed event at (packet ∷ s) (suc i) h = rw here (go (event packet) (events_listed event (suc at) s i (omega arith)))
  where
    here : at + suc i ≡ suc at + i
    here = omega arith

    go : (t : Bool) → listed (events_from event (suc at) s) (suc at + i) ≡ event (get_or s i 0) →
        listed (cond t (at ∷ events_from event (suc at) s) (events_from event (suc at) s)) (suc at + i) ≡ event (get_or s i 0)
    go true later = rw (ne_eqb at (suc at + i) (λ e. omega arith)) later
    go false later = later

-- rising positions by index
rising_at : (lo hi : ℕ) (ps : List ℕ) → Rising lo hi ps → (i : ℕ) → i < length ps → (lo ≤ get_or ps i 0) × (get_or ps i 0 < hi)
unfolding Rising
rising_at lo hi [] r i h = absurd (omega arith)
rising_at lo hi (p ∷ ps) r zero h = (r.0, rising_room (suc p) hi ps r.1)
rising_at lo hi (p ∷ ps) r (suc i) h = let l = rising_at (suc p) hi ps r.1 i (omega arith) in (omega arith, l.1)

rising_step : (lo hi : ℕ) (ps : List ℕ) → Rising lo hi ps → (i : ℕ) → suc i < length ps → get_or ps i 0 < get_or ps (suc i) 0
unfolding Rising
rising_step lo hi [] r i h = absurd (omega arith)
rising_step lo hi (p ∷ ps) r zero h = (rising_at (suc p) hi ps r.1 0 (omega arith)).0
rising_step lo hi (p ∷ ps) r (suc i) h = rising_step (suc p) hi ps r.1 i (omega arith)

module _ (event : ℕ → Bool) (s : List ℕ) where
  rise : Rising 0 (length s) (events_at event s)
  rise = rw (zero-add (length s)) at (events_rise event 0 s)

  each : (i : ℕ) → i < length s → listed (events_at event s) i ≡ is_event event s i
  each i h = rw (zero-add i) at (events_listed event 0 s i h)

pub events_are : EventsAre
events_are event s =
    record {
      rising = rising_step 0 (length s) (events_at event s) (rise event s);
      within = λ i h. (rising_at 0 (length s) (events_at event s) (rise event s) i h).1;
      each = each event s;
    }

-- from the start
from_start : (test : ℕ → Bool) (n x : ℕ) → range test 0 n ≡ x → x ≡ count test 0 n
from_start test n x h = let all : n - 0 ≡ n = omega arith in sym h ∙ ap (count test 0) all

-- the events of a trace's groups, in order
pub groups_rise : (event : ℕ → Bool) (gmin : ℕ) (s : List ℕ) → Rising 0 (length s) (events_in (groups gmin (events_at event s)))
groups_rise event gmin s = rw (groups_all gmin (events_at event s)) (rise event s)

pub sums_counted : SumsCounted
unfolding sums_over
sums_counted event gmin spacing s =
    record {
      packets = refl;
      events = from_start (is_event event s) (length s) _ (range_same (is_event event s) (listed ps) 0 (length s) (omega arith) (λ i a b. sym (each event s i b)) ∙ rising_count 0 (length s) ps (rise event s));
      packets_in_bursts = from_start (in_burst gs) (length s) _ (inside_total (λ i. true) packets_of 0 (length s) gs some order (packets_weigh 0 (length s) gs some order));
      events_in_bursts = from_start (λ i. is_event event s i && in_burst gs i) (length s) _ (inside_total (is_event event s) length 0 (length s) gs some order (events_weigh (is_event event s) 0 (length s) gs some order same));
    }
  where
    ps : List ℕ
    ps = events_at event s

    gs : List Group
    gs = groups gmin ps

    some : AllSome gs
    some = groups_some gmin ps

    order : Rising 0 (length s) (events_in gs)
    order = groups_rise event gmin s

    same : (i : ℕ) → 0 ≤ i → i < length s → is_event event s i ≡ listed (events_in gs) i
    same i a b = rw (groups_all gmin ps) (sym (each event s i b))
