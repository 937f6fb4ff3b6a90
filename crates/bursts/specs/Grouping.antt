-- What the events, groups and bursts of a trace are, as statements about their definitions: document 01, "The trace and
-- its figures". Proved in proofs/.
use Rattle.std.specs.Prelude.{ℕ, suc, ◌<◌, ◌≤◌, ◌≡◌, ◌↔◌, Bool, false, ◌&&◌, ◌||◌, List, [], ◌∷◌, ◌++◌, eqb, length, get_or}
use Rattle.trace.specs.Sum.{count}
use Rattle.bursts.specs.declared.Sums.{Sums}
use Rattle.bursts.specs.Groups.{events_from, events_at, Group, first_of, last_of, between, join, groups, bursts_of, inside}
use Rattle.bursts.specs.Sums.{sums_over, sums_of}

-- position i is one of these
unfoldable pub listed : List ℕ → ℕ → Bool
listed [] i = false
listed (p ∷ ps) i = eqb p i || listed ps i

-- The positions of a trace's events: in order, and of all its packets just the events.
pub record IsEvents (event : ℕ → Bool) (s ps : List ℕ) : Type 0 where
  pub rising : (i : ℕ) → suc i < length ps → get_or ps i 0 < get_or ps (suc i) 0
  pub within : (i : ℕ) → i < length ps → get_or ps i 0 < length s
  pub each : (i : ℕ) → i < length s → listed ps i ≡ event (get_or s i 0)

abbrev pub EventsAre : Type 0
EventsAre = (event : ℕ → Bool) (s : List ℕ) → IsEvents event s (events_at event s)

-- the events of groups, one group behind the other
unfoldable pub events_in : List Group → List ℕ
events_in [] = []
events_in (g ∷ gs) = g ++ events_in gs

-- group number k
abbrev pub group : List Group → ℕ → Group
group gs k = get_or gs k []

-- Groups of events at these positions: all events in order, none without an event; "two successive events belong
-- together when fewer than Gmin packets stand between them", and neighbouring groups do not.
pub record IsGrouping (gmin : ℕ) (ps : List ℕ) (gs : List Group) : Type 0 where
  pub all : events_in gs ≡ ps
  pub some : (k : ℕ) → k < length gs → 0 < length (group gs k)
  pub together : (k i : ℕ) → k < length gs → suc i < length (group gs k) → between (get_or (group gs k) i 0) (get_or (group gs k) (suc i) 0) < gmin
  pub apart : (k : ℕ) → suc k < length gs → gmin ≤ between (last_of (group gs k)) (first_of (group gs (suc k)))

-- The groups are so, and no others are.
abbrev pub GroupsExactly : Type 0
GroupsExactly = (gmin : ℕ) (ps : List ℕ) (gs : List Group) → (gs ≡ groups gmin ps) ↔ IsGrouping gmin ps gs

-- The events of two stretches, one behind the other, are those of each; their groups are those of each, joined where they
-- meet.
abbrev pub EventsJoin : Type 0
EventsJoin = (event : ℕ → Bool) (s u : List ℕ) → events_at event (s ++ u) ≡ events_at event s ++ events_from event (length s) u

abbrev pub GroupsJoin : Type 0
GroupsJoin = (gmin : ℕ) (ps qs : List ℕ) → groups gmin (ps ++ qs) ≡ join gmin (groups gmin ps) (groups gmin qs)

-- whether packet i of a trace is an event, and whether it lies inside a burst, one of these groups
abbrev pub is_event : (ℕ → Bool) → List ℕ → ℕ → Bool
is_event event s i = event (get_or s i 0)

abbrev pub in_burst : List Group → ℕ → Bool
in_burst gs i = inside (bursts_of gs) i

-- "With E packets, L events, Eb and Lb those inside bursts": counted by position.
pub record ByPosition (event : ℕ → Bool) (s : List ℕ) (gs : List Group) (r : Sums) : Type 0 where
  pub packets : r.packets ≡ length s
  pub events : r.events ≡ count (is_event event s) 0 (length s)
  pub packets_in_bursts : r.burst_packets ≡ count (in_burst gs) 0 (length s)
  pub events_in_bursts : r.burst_events ≡ count (λ i. is_event event s i && in_burst gs i) 0 (length s)

abbrev pub SumsCounted : Type 0
SumsCounted =
    (event : ℕ → Bool) (gmin spacing : ℕ) (s : List ℕ) → ByPosition event s (groups gmin (events_at event s)) (sums_of event gmin spacing s)

-- A stretch has the same sums wherever it begins.
abbrev pub SumsAnywhere : Type 0
SumsAnywhere =
    (event : ℕ → Bool) (gmin spacing E L at : ℕ) (s : List ℕ) →
    sums_over spacing E L (groups gmin (events_from event at s)) ≡ sums_over spacing E L (groups gmin (events_at event s))
