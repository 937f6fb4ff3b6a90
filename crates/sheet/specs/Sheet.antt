-- Document 01, "Sheet of examples": those marked P, for proof, in its order. Each is computed by the definition that
-- the promise of its call cites.
use Rattle.std.specs.Prelude.{ℕ, ◌+◌, ◌≡◌, List, [], ◌∷◌, map, length, replicate, Result, Ok, Err, Some, None}
use Rattle.refusal.specs.Table.{card_check, batch_length}
use Rattle.settings.specs.Ranges.{limits}
use Rattle.trace.specs.declared.Event.TheVariants.{Lost}
use Rattle.trace.specs.Trace.{counted_at, judged}
use Rattle.block.specs.Reading.{unavailable}
use Rattle.block.specs.declared.Block.TheVariants.{Effective}
use Rattle.block.specs.declared.BlockRead.TheVariants.{Typed}
use Rattle.frame.specs.Packet.{packet_of}
use Rattle.packet.specs.Answers.{head_of, block_of, answered, sent}
use Rattle.packet.specs.declared.PacketHead.{PacketHead}
use Rattle.packet.specs.declared.BlockAt.{BlockAt}
use Rattle.card.specs.Card.{read_card}
use Rattle.figures.specs.Figures.{figures_in}
use Rattle.batch.specs.Loss.{loss_answer}
use Rattle.resend.specs.Answer.{plan_answer, buffer_after}
use Rattle.batch.specs.declared.EffectiveLoss.{EffectiveLoss}
use Rattle.bursts.specs.declared.Figures.{Figures}
use Rattle.refusal.specs.declared.Refusal.{Refusal}
use Rattle.settings.specs.declared.Settings.{Settings}

-- what is handed in: a trace with its settings, a card, a packet
pub data Input : Type 0 where
  effective : List ℕ → ℕ → ℕ → Input
  resend : List ℕ → ℕ → ℕ → Input
  burst_gap : List ℕ → ℕ → ℕ → Input
  card : List ℕ → Input
  packet : List ℕ → Input

-- what comes back
pub data Outcome : Type 0 where
  loss : Result EffectiveLoss Refusal → Outcome
  plan : Result ℕ Refusal → List ℕ → Outcome
  figures : Result Figures Refusal → Outcome
  settings : Result Settings Refusal → Outcome
  blocks : Result PacketHead Refusal → Result BlockAt Refusal → Outcome

-- a buffer as long as the trace
abbrev pub room : List ℕ → List ℕ
room trace = replicate (length trace) 255

abbrev pub outcome : Input → Outcome
outcome (effective trace b t) = loss (loss_answer (judged trace) (counted_at Lost trace) (length trace) b t)
outcome (resend trace b t) =
    plan (plan_answer (judged trace) (counted_at Lost trace) (length trace) b t (room trace))
    (buffer_after (judged trace) (counted_at Lost trace) (length trace) b t (room trace))
outcome (burst_gap trace gmin spacing) = figures (figures_in gmin spacing Lost trace)
outcome (card digits) = settings (read_card limits (map (λ (d : ℕ). 48 + d) digits))
outcome (packet bytes) = blocks (head_of (packet_of bytes)) (block_of (packet_of bytes) 0)

pub record Example : Type 0 where
  pub given : Input
  pub expected : Outcome

abbrev pub found : ℕ → ℕ → ℕ → ℕ → Outcome
found k n i first = loss (Ok (record { over = k; batches = n; index = i; first = Some first }))

abbrev pub measured : ℕ → ℕ → ℕ → ℕ → Outcome
measured burst gap mean variance =
    figures (Ok (record { burst_rate = burst; gap_rate = gap; burst_mean = mean; burst_variance = variance }))

abbrev pub trace_1 : List ℕ
trace_1 = 0 ∷ 1 ∷ 1 ∷ 0 ∷ 1 ∷ 0 ∷ 1 ∷ 0 ∷ 0 ∷ []

abbrev pub sheet : List Example
sheet =
    -- P1, P2
    record { given = effective trace_1 3 1; expected = found 4 7 37448 0 }
    ∷ record { given = resend trace_1 3 1; expected = plan (Ok 2) (0 ∷ 0 ∷ 1 ∷ 0 ∷ 0 ∷ 0 ∷ 1 ∷ 0 ∷ 0 ∷ []) }
    -- P3, P4, P5
    ∷ record { given = effective (0 ∷ 0 ∷ 0 ∷ []) 3 0; expected = loss (Ok (record { over = 0; batches = 1; index = 0; first = None })) }
    ∷ record { given = effective (1 ∷ 1 ∷ 1 ∷ []) 1 0; expected = found 3 3 65535 0 }
    ∷ record { given = effective (0 ∷ []) 2 0; expected = loss (Err batch_length) }
    -- P6, with the variance of document 02, ticket 3; P7, P8, P9
    ∷ record { given = burst_gap (1 ∷ 0 ∷ 1 ∷ 0 ∷ 0 ∷ 1 ∷ 0 ∷ 0 ∷ 0 ∷ 1 ∷ 1 ∷ []) 2 1000; expected = measured 26214 5461 2 0 }
    ∷ record { given = burst_gap (1 ∷ 1 ∷ 1 ∷ []) 16 1000; expected = measured 32768 unavailable 3 0 }
    ∷ record { given = burst_gap (1 ∷ []) 16 1000; expected = measured unavailable 32768 unavailable unavailable }
    ∷ record { given = burst_gap (0 ∷ 0 ∷ 0 ∷ []) 16 1000; expected = measured unavailable 0 unavailable unavailable }
    -- P10, P11
    ∷ record {
      given = card (0 ∷ 1 ∷ 6 ∷ 0 ∷ 0 ∷ 1 ∷ 0 ∷ 0 ∷ 0 ∷ 0 ∷ 0 ∷ 1 ∷ 0 ∷ 0 ∷ 0 ∷ 4 ∷ 0 ∷ 0 ∷ 9 ∷ 6 ∷ []);
      expected = settings (Ok (record { gmin = 16; batch = 100; threshold = 10; spacing = 400 }));
    }
    ∷ record { given = card (0 ∷ 1 ∷ 6 ∷ 0 ∷ 0 ∷ 1 ∷ 0 ∷ 0 ∷ 0 ∷ 0 ∷ 0 ∷ 0 ∷ 1 ∷ 0 ∷ 0 ∷ 4 ∷ 0 ∷ 0 ∷ 9 ∷ 6 ∷ []); expected = settings (Err card_check) }
    -- P12
    ∷ record {
      given = packet (128 ∷ 207 ∷ 0 ∷ 4 ∷ 0 ∷ 0 ∷ 0 ∷ 1 ∷ 240 ∷ 0 ∷ 0 ∷ 2 ∷ 0 ∷ 0 ∷ 0 ∷ 2 ∷ 146 ∷ 72 ∷ 0 ∷ 0 ∷ []);
      expected = blocks (sent 1 1) (answered 240 (Typed (Effective (record { source = 2; index = 37448 }))));
    }
    ∷ []

-- The one claim: every example comes out as the sheet has it.
abbrev pub SheetRight : Type 0
SheetRight = map (λ (e : Example). outcome e.given) sheet ≡ map (λ (e : Example). e.expected) sheet
