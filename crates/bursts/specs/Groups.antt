-- Events, groups and bursts of a trace: document 01, "The trace and its figures"; RFC 3611, section 4.7.2.
-- What counts as an event is a parameter, a test of a packet's byte.
use Rattle.std.specs.Prelude.{ℕ, suc, ◌+◌, ◌-◌, ◌*◌, ◌/◌, Bool, false, cond, ◌&&◌, ◌||◌, List, [], ◌∷◌, ◌++◌, leb, ltb, length}

-- the positions of the events, where the first packet stands at position `at`
unfoldable pub events_from : (ℕ → Bool) → ℕ → List ℕ → List ℕ
events_from event at [] = []
events_from event at (packet ∷ s) =
    cond (event packet) (at ∷ events_from event (suc at) s) (events_from event (suc at) s)

abbrev pub events_at : (ℕ → Bool) → List ℕ → List ℕ
events_at event s = events_from event 0 s

-- events that belong together, by their positions in order
abbrev pub Group : Type 0
Group = List ℕ

-- the positions of its first and of its last event
unfoldable pub first_of : Group → ℕ
first_of [] = 0
first_of (p ∷ ps) = p

unfoldable pub last_of : Group → ℕ
last_of [] = 0
last_of (p ∷ []) = p
last_of (p ∷ q ∷ ps) = last_of (q ∷ ps)

-- the packets that stand between two positions
abbrev pub between : ℕ → ℕ → ℕ
between p q = q - p - 1

-- "Two successive events belong together when fewer than Gmin packets stand between them": a group put before
-- the groups of later events
unfoldable pub meet : ℕ → Group → List Group → List Group
meet gmin a [] = a ∷ []
meet gmin a (b ∷ bs) = cond (ltb (between (last_of a) (first_of b)) gmin) ((a ++ b) ∷ bs) (a ∷ b ∷ bs)

-- the groups of two stretches, one behind the other: where they meet, two groups may be one
unfoldable pub join : ℕ → List Group → List Group → List Group
join gmin [] bs = bs
join gmin (a ∷ []) bs = meet gmin a bs
join gmin (a ∷ a' ∷ rest) bs = a ∷ join gmin (a' ∷ rest) bs

-- the groups of events at these positions. That they are the paper's is the law `GroupsExactly`.
unfoldable pub groups : ℕ → List ℕ → List Group
groups gmin [] = []
groups gmin (p ∷ ps) = join gmin ((p ∷ []) ∷ []) (groups gmin ps)

-- "A group of two or more events is a burst, from first event to last."
abbrev pub burst_min : ℕ
burst_min = 2

abbrev pub is_burst : Group → Bool
is_burst b = leb burst_min (length b)

unfoldable pub bursts_of : List Group → List Group
bursts_of [] = []
bursts_of (b ∷ bs) = cond (is_burst b) (b ∷ bursts_of bs) (bursts_of bs)

abbrev pub packets_of : Group → ℕ
packets_of b = last_of b - first_of b + 1

-- packet i lies inside one of these bursts
unfoldable pub inside : List Group → ℕ → Bool
inside [] i = false
inside (b ∷ bs) i = leb (first_of b) i && leb i (last_of b) || inside bs i

-- "duration of a burst: integer part of its packets × spacing / 1000, in milliseconds"
unfoldable pub duration : ℕ → ℕ → ℕ
duration spacing packets = packets * spacing / 1000

abbrev pub lasts : ℕ → Group → ℕ
lasts spacing b = duration spacing (packets_of b)

abbrev pub square : ℕ → ℕ
square n = n * n

-- what the bursts have of f, added
unfoldable pub total : (Group → ℕ) → List Group → ℕ
total f [] = 0
total f (b ∷ bs) = f b + total f bs
