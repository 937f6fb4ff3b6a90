-- What a tally holds after a trace, in closed form: the sums over all groups but the last, and the last group as
-- the open stretch. A packet more gives the same of the longer trace. Assumes nothing.
use Prim.Native.Nat.{ℕ, ◌+◌, ◌-◌, ◌<◌, ◌≤◌}
use mathlib.Core.Path.{◌≡◌, refl, sym, ap, ◌∙◌}
use mathlib.Core.Bool.{Bool, true, false, cond}
use mathlib.Core.List.{List, [], ◌∷◌, ◌++◌, append-nil}
use native.Mathlib.Omega.{arith}
use native.Mathlib.Decide.{dec_lt}
use native.Mathlib.Nat.{add-zero}
use borrow.Author.Tests.{lt-ltb, le-ltb, le-leb, lt-leb}
use lib.Dec.{ltb}
use lib.ListN.{length, length-append}
use lib.Seq.{append_snoc}
use Rattle.refusal.proofs.Tests.{both}
use Rattle.trace.specs.declared.Event.{Event}
use Rattle.trace.specs.Trace.{counts_as}
use Rattle.bursts.specs.declared.Sums.{Sums}
use Rattle.bursts.specs.Groups.{events_from, events_at, Group, first_of, last_of, between, meet, join, groups, burst_min, bursts_of, packets_of, duration, square, total}
use Rattle.bursts.specs.Sums.{sums_over, sums_of}
use Rattle.bursts.proofs.Groups.{events_join, first_append, last_append, groups_some, groups_join, join_last, bursts_append, total_append}
use Rattle.bursts.proofs.Positions.{Last, last_group, groups_rise}
use Rattle.tally.specs.declared.Stretch.{Stretch}
use Rattle.tally.specs.declared.Tally.{Tally}
use Rattle.tally.specs.Tally.{fresh, with_burst, counted_in, counted, open_within, one_packet, one_event, passed, joined, joins, lone, step_of}
use Rattle.tally.proofs.Limits.{no_burst, counted_cases}
use Rattle.tally.proofs.Turns.{passes, belongs, begins}

-- the last group as the open stretch, after E packets
abbrev stretch_of : ℕ → Group → Stretch
stretch_of E b = record { events = length b; packets = packets_of b; since = between (last_of b) E }

-- counting it in gives the sums over all groups
module _ (spacing E L F : ℕ) (fs : List Group) (b : Group) where
  few_last : length b < burst_min → sums_over spacing E L fs ≡ sums_over spacing E L (fs ++ b ∷ [])
  unfolding sums_over bursts_of
  few_last h = rw (bursts_append fs (b ∷ []), lt-leb burst_min (length b) h, append-nil (bursts_of fs))

  more : (f : Group → ℕ) → total f (bursts_of fs ++ b ∷ []) ≡ total f (bursts_of fs) + f b
  unfolding total
  more f = total_append f (bursts_of fs) (b ∷ []) ∙ rw (add-zero (f b))

  many_last : burst_min ≤ length b → with_burst spacing (stretch_of F b) (sums_over spacing E L fs) ≡ sums_over spacing E L (fs ++ b ∷ [])
  unfolding with_burst sums_over bursts_of
  many_last h =
      rw (bursts_append fs (b ∷ []), le-leb burst_min (length b) h, more packets_of, more length, length-append (bursts_of fs) (b ∷ []), more (λ g. duration spacing (packets_of g)), more (λ g. square (duration spacing (packets_of g))))

  sums_last : counted_in spacing (stretch_of F b) (sums_over spacing E L fs) ≡ sums_over spacing E L (fs ++ b ∷ [])
  sums_last = counted_cases (λ (r : Sums). r ≡ sums_over spacing E L (fs ++ b ∷ [])) spacing (stretch_of F b) (sums_over spacing E L fs) few_last many_last

module _ (gmin spacing : ℕ) (event : Event) where
  abbrev tally : Sums → Stretch → Tally
  tally r o = record { gmin = gmin; spacing = spacing; event = event; sums = r; stretch = o }

  -- no event in E packets; L events, the last group b open
  abbrev none : ℕ → Tally
  none E = tally (sums_over spacing E 0 []) (record { events = 0; packets = 0; since = E })

  abbrev held : ℕ → ℕ → List Group → Group → Tally
  held E L fs b = tally (sums_over spacing E L fs) (stretch_of E b)

  abbrev positions : List ℕ → List ℕ
  positions s = events_at (counts_as event) s

  -- what a tally holds after a trace
  pub data Holds (s : List ℕ) (t : Tally) : Type 0 where
    nothing : positions s ≡ [] → t ≡ none (length s) → Holds s t
    open_at : (fs : List Group) (b : Group) → groups gmin (positions s) ≡ fs ++ b ∷ [] → t ≡ held (length s) (length (positions s)) fs b → Holds s t

  pub holds_fresh : Holds [] (fresh gmin spacing event)
  unfolding fresh sums_over bursts_of total events_from
  holds_fresh = nothing refl refl

  pub holds_packets : (s : List ℕ) (t : Tally) → Holds s t → t.sums.packets ≡ length s
  unfolding sums_over
  holds_packets s t (nothing p e) = rw e
  holds_packets s t (open_at fs b g e) = rw e

  -- where the last group lies
  last : (s : List ℕ) (fs : List Group) (b : Group) → groups gmin (positions s) ≡ fs ++ b ∷ [] → Last (length s) b
  last s fs b g = last_group 0 (length s) fs b (rw (← g) (groups_some gmin (positions s))) (rw (← g) (groups_rise (counts_as event) gmin s))

  -- its settings, and its stretch among the packets
  pub record Set (t : Tally) : Type 0 where
    pub gmin_is : t.gmin ≡ gmin
    pub spacing_is : t.spacing ≡ spacing
    pub within : open_within t.stretch t.sums.packets ≡ true

  pub holds_set : (s : List ℕ) (t : Tally) → Holds s t → Set t
  unfolding open_within sums_over
  holds_set s t (nothing p e) =
      rw e (record { gmin_is = refl; spacing_is = refl; within = rw (le-leb 0 (length s) (omega arith), le-leb (length s) (length s) (omega arith)) })
  holds_set s t (open_at fs b g e) =
      let l = last s fs b g in
      rw e
      (record {
        gmin_is = refl;
        spacing_is = refl;
        within = rw (le-leb (length b) (length s) (omega arith), le-leb (packets_of b) (length s) (omega arith), le-leb (between (last_of b) (length s)) (length s) (omega arith));
      })

  -- its sums, the stretch counted in, are those of the trace
  pub holds_counted : (s : List ℕ) (t : Tally) → Holds s t → counted t ≡ sums_of (counts_as event) gmin spacing s
  unfolding counted_in groups
  holds_counted s t (nothing p e) = rw (e, p)
  holds_counted s t (open_at fs b g e) = rw (e, g) (sums_last spacing (length s) (length (positions s)) (length s) fs b)

  -- one more packet
  module _ (s : List ℕ) (packet : ℕ) where
    abbrev E : ℕ
    E = length s

    abbrev next : List ℕ
    next = s ++ packet ∷ []

    one_more : (x : List ℕ) (p : ℕ) → length (x ++ p ∷ []) ≡ length x + 1
    one_more x p = length-append x (p ∷ [])

    more_events : positions next ≡ positions s ++ cond (counts_as event packet) (E ∷ []) []
    unfolding events_from
    more_events = events_join (counts_as event) s (packet ∷ [])

    module _ (h : counts_as event packet ≡ false) where
      same_events : positions next ≡ positions s
      same_events = more_events ∙ rw h (append-nil (positions s))

      pass_nothing : positions s ≡ [] → Holds next (step_of (none E) packet)
      unfolding passed one_packet sums_over
      pass_nothing p = nothing (same_events ∙ p) (sym (passes (none E) packet h) ∙ rw (one_more s packet))

      pass_held : (fs : List Group) (b : Group) → groups gmin (positions s) ≡ fs ++ b ∷ [] → Holds next (step_of (held E (length (positions s)) fs b) packet)
      unfolding passed one_packet sums_over
      pass_held fs b g =
          let l = last s fs b g in
          let since : between (last_of b) (E + 1) ≡ between (last_of b) E + 1 = omega arith in
          open_at fs b (ap (groups gmin) same_events ∙ g) (sym (passes _ packet h) ∙ rw (one_more s packet, same_events, since))

    module _ (h : counts_as event packet ≡ true) where
      new_event : positions next ≡ positions s ++ E ∷ []
      new_event = more_events ∙ rw h

      new_groups : groups gmin (positions next) ≡ join gmin (groups gmin (positions s)) ((E ∷ []) ∷ [])
      unfolding groups join meet
      new_groups = ap (groups gmin) new_event ∙ groups_join gmin (positions s) (E ∷ [])

      -- the event by itself is the open stretch
      alone : stretch_of (E + 1) (E ∷ []) ≡ lone
      unfolding first_of last_of
      alone = let one : E - E + 1 ≡ 1 = omega arith in let none : between E (E + 1) ≡ 0 = omega arith in rw (one, none)

      first_event : positions s ≡ [] → Holds next (step_of (none E) packet)
      unfolding groups join one_event joins sums_over bursts_of
      first_event p =
          open_at [] (E ∷ []) (new_groups ∙ rw p)
          (sym (begins (none E) packet (sums_over spacing (E + 1) 1 []) h (rw (le-ltb 0 0 (omega arith))) (no_burst spacing _ _ (omega arith)))
          ∙ rw (one_more s packet, new_event, p, alone))

      module _ (fs : List Group) (b : Group) (g : groups gmin (positions s) ≡ fs ++ b ∷ []) where
        abbrev t : Tally
        t = held E (length (positions s)) fs b

        events : length (positions next) ≡ length (positions s) + 1
        events = ap length new_event ∙ one_more (positions s) E

        near : between (last_of b) E < gmin → Holds next (step_of t packet)
        unfolding meet first_of last_of joined one_event joins sums_over
        near n =
            let l = last s fs b g in
            let wide : E - first_of b + 1 ≡ last_of b - first_of b + 1 + (between (last_of b) E + 1) = omega arith in
            let none : between E (E + 1) ≡ 0 = omega arith in
            open_at fs (b ++ E ∷ []) (new_groups ∙ rw (g, join_last gmin fs b ((E ∷ []) ∷ []), lt-ltb (between (last_of b) E) gmin n))
            (sym (belongs t packet h (both (ltb 0 (length b)) (ltb (between (last_of b) E) gmin) (lt-ltb _ _ l.some) (lt-ltb _ _ n)))
            ∙ rw (one_more s packet, events, one_more b E, first_append b (E ∷ []) l.some, last_append b (E ∷ []) (omega arith), wide, none))

        far : gmin ≤ between (last_of b) E → Holds next (step_of t packet)
        unfolding meet first_of last_of one_event joins sums_over
        far n =
            let l = last s fs b g in
            open_at (fs ++ b ∷ []) (E ∷ []) (new_groups ∙ rw (g, join_last gmin fs b ((E ∷ []) ∷ []), le-ltb (between (last_of b) E) gmin n) (sym (append_snoc fs b ((E ∷ []) ∷ []))))
            (sym (begins t packet (sums_over spacing (E + 1) (length (positions s) + 1) (fs ++ b ∷ [])) h (rw (lt-ltb 0 (length b) l.some, le-ltb (between (last_of b) E) gmin n)) (sym (sums_last spacing (E + 1) (length (positions s) + 1) E fs b)))
            ∙ rw (one_more s packet, events, alone))

    pub holds_step : (t : Tally) → Holds s t → Holds next (step_of t packet)
    holds_step t (nothing p e) = rw e (go (counts_as event packet) refl)
      where
        go : (x : Bool) → counts_as event packet ≡ x → Holds next (step_of (none E) packet)
        go true h = first_event h p
        go false h = pass_nothing h p
    holds_step t (open_at fs b g e) = rw e (go (counts_as event packet) refl (dec_lt (between (last_of b) E) gmin))
      where
        go : (x : Bool) → counts_as event packet ≡ x → Dec (between (last_of b) E < gmin) → Holds next (step_of (held E (length (positions s)) fs b) packet)
        go true h (yes n) = near h fs b g n
        go true h (no f) = far h fs b g (omega arith)
        go false h d = pass_held h fs b g
