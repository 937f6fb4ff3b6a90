-- The three demands, sentence by sentence, over the definitions that the calls promise; the files beside this one spell out
-- what a field of demands 1 and 2 says of each call. proofs/Demands.antt proves all three.
use Rattle.std.specs.Prelude.{ℕ, ◌<◌, ◌≤◌, ◌≡◌, true, List, length, get_or, take, Result, Ok}
use Rattle.trace.specs.declared.Event.{Event}
use Rattle.trace.specs.Trace.{counted_at, judged}
use Rattle.batch.specs.Batches.{batches, losses_in}
use Rattle.resend.specs.Plans.{IsPlan, marked, marks, Valid, DifferFirst, resent}
use Rattle.resend.specs.Answer.{plan_answer, Plannable}
use Rattle.resend.specs.Laws.{plan_in}
use Rattle.packed.specs.Words.{words_for}
use Rattle.packing.specs.Laws.{packed_into}
use Rattle.demands.specs.Orders.{EachCall, Conditions}
use Rattle.demands.specs.Lent.{Unchanged}
use Rattle.demands.specs.Boundary.{AtBoundary}
use Rattle.demands.specs.Packets.{PacketsRead, PacketsWritten, BlocksAgain, PacketsCompared}
use Rattle.demands.specs.Formulas.{AsPublished, NeverUnavailable}
use Rattle.demands.specs.Panels.{PanelsShown}
use Rattle.demands.specs.Runs.{RunsKept}
use Rattle.demands.specs.Packed.{packed_plan, packed_plan_after, PackedKept}
use Rattle.demands.specs.Choices.{ChoicesKept}
use Rattle.demands.specs.Cards.{CardsGuarded}
use Rattle.refusal.specs.declared.Refusal.{Refusal}

-- 1.
pub record Demand1 : Type 0 where
  -- "Any bytes, any loss trace and any settings card may be handed in. Each call ends with an answer or with one refusal
  -- from document 01's table, given under that refusal's condition only."
  pub each_call : EachCall
  pub conditions : Conditions
  pub at_boundary : AtBoundary
  -- "A refused call changes no byte of any buffer that it was lent."
  pub unchanged : Unchanged

-- 2.
pub record Demand2 : Type 0 where
  -- "Report packets are read and written as RFC 3611, RFC 6776, RFC 7004 and the effective loss draft lay them out."
  pub packets_read : PacketsRead
  pub packets_written : PacketsWritten
  -- "Each block written, read by itself, is the same block again."
  pub blocks_again : BlocksAgain
  -- document 02, ticket 1: "lists every differing field of their two packets, blocks paired by index"
  pub packets_compared : PacketsCompared
  -- document 02, ticket 4: "The panel shows only a block 17 or 18 that refusal 16 lets through"
  pub panels_shown : PanelsShown
  -- document 02, ticket 5: "Turn such a block into a trace (received or lost) and write a trace as one."
  pub runs_kept : RunsKept
  -- document 02, ticket 6: "Byte traces fill the disc. Offer a second form"
  pub packed_kept : PackedKept
  -- document 02, ticket 7: "For the choir broadcasts the caller chooses what counts as a loss"
  pub choices_kept : ChoicesKept
  -- "Burst, gap and effective loss figures equal their published formulas,"
  pub as_published : AsPublished
  -- "and a figure that could be measured is never sent as unavailable."
  pub never_unavailable : NeverUnavailable
  -- "An accepted card with one digit changed, or any two unequal digits exchanged, is refused."
  pub cards_guarded : CardsGuarded

-- 3. The plan p of a trace by a choice of what counts, and what the call answered that left it in a lent buffer. Document 02, ticket 7:
-- the demand "reads "counted packets" for "lost packets" and for "losses""; by lost only it is the demand as it stood.
pub record Plan (event : Event) (s : List ℕ) (b t : ℕ) (answer : Result ℕ Refusal) (p : List ℕ) : Type 0 where
  pub is_plan : IsPlan (length s) p
  -- "the resend plan marks [counted] packets only;"
  pub counted_only : (i : ℕ) → i < length s → marked p i ≡ true → counted_at event s i ≡ true
  -- "with the marked ones counted as received no batch holds more [counted packets] than the threshold;"
  pub none_over : (k : ℕ) → k < batches (length s) b → losses_in (counted_at event (resent s p)) b k ≤ t
  -- "the count it gives is the number of its marks;"
  pub count : answer ≡ Ok (marks p)
  -- "every other plan that marks [counted] packets only and leaves no batch over has at least that many marks;"
  pub fewest : (q : List ℕ) → Valid (counted_at event s) (length s) b t q → marks p ≤ marks q
  -- "if one has exactly that many, then at the first packet where it differs from ours, it has a mark and ours has none."
  pub first_difference : (q : List ℕ) → Valid (counted_at event s) (length s) b t q → marks q ≡ marks p →
      (i : ℕ) → i < length s → DifferFirst p q i → (get_or q i 0 ≡ 1) × (get_or p i 0 ≡ 0)

-- "For any accepted trace, any batch and threshold in range with the batch no longer than the trace, and room:"
abbrev pub Demand3 : Type 0
Demand3 = (event : Event) (s : List ℕ) (b t : ℕ) (out : List ℕ) → Plannable (judged s) (length s) b t out →
    Plan event s b t (plan_answer (judged s) (counted_at event s) (length s) b t out) (plan_in event s b t out)

-- The same of its packed form: answer and bytes that the words give, once any buffer with room was packed into by the choice, are such a
-- plan of the trace.
abbrev pub Demand3Packed : Type 0
Demand3Packed = (event : Event) (s buffer : List ℕ) (b t : ℕ) (out : List ℕ) → words_for (length s) ≤ length buffer →
    Plannable (judged s) (length s) b t out →
    Plan event s b t (packed_plan (packed_into event s buffer) (length s) b t out) (take (length s) (packed_plan_after (packed_into event s buffer) (length s) b t out))
