-- The three demands hold: each field of specs/Demands.antt is a law of the crate that it speaks of, or proved beside this
-- file. Assumes nothing.
use Prim.Native.Nat.{ℕ}
use mathlib.Core.Path.{◌≡◌, refl, ap}
use mathlib.Core.Bool.{Bool, true, false}
use mathlib.Core.List.{List}
use native.Mathlib.Omega.{arith}
use lib.Dec.{leb, ltb}
use Rattle.refusal.specs.Answer.{unless, after}
use Rattle.refusal.specs.Table.{setting, trace_length, trace_byte}
use Rattle.refusal.specs.declared.Refusal.{Refusal}
use Rattle.settings.specs.Ranges.{limits}
use Rattle.card.proofs.Cases.{limits_fit}
use Rattle.card.proofs.Damage.{changed_refused, exchanged_refused}
use Rattle.card.proofs.RoundTrip.{read_written, written_read}
use Rattle.frame.proofs.Filling.{past_exactly}
use Rattle.trace.specs.Trace.{packet_max, trace_max, counted_at, judged}
use Rattle.trace.proofs.Judging.{first_above_lem, accepted_within, accepted_trace, within_accepted}
use Rattle.chunk.proofs.Covering.{covers_exactly, uncovered_exactly, vector_bit, vector_lost, run_packets}
use Rattle.block.proofs.RleLaws.{rle_exactly, d1_exactly, d2_exactly, d5_exactly}
use Rattle.runs.proofs.Again.{trace_of_block, added_read}
use Rattle.runs.proofs.Fewest.{written_chunks, chunk_count, fewest}
use Rattle.tally.specs.declared.Tally.{Tally}
use Rattle.tally.specs.Tally.{sound, step_of, refused_with, take_one}
use Rattle.resend.proofs.Answering.{refused_unchanged, plan_best}
use Rattle.resend.proofs.Repair.{few_left}
use Rattle.frame.specs.Packet.{packet_of}
use Rattle.compare.specs.Answer.{differences_of, with_differences}
use Rattle.compare.specs.Differences.{content_of}
use Rattle.compare.proofs.Contents.{content_at_lem}
use Rattle.compare.proofs.Empty.{empty_exactly, self_empty, reserved_empty, turned_round}
use Rattle.compare.proofs.Listed.{listed_exactly}
use Rattle.compare.proofs.Room.{room_enough}
use Rattle.demands.specs.Lent.{Unchanged}
use Rattle.demands.specs.Demands.{Demand1, Demand2, Demand3, Demand3Packed}
use Rattle.demands.proofs.Orders.{each_call}
use Rattle.demands.proofs.Boundary.{at_boundary}
use Rattle.demands.proofs.Packets.{packets_read, packets_written, blocks_again}
use Rattle.demands.proofs.Formulas.{as_published, never_unavailable}
use Rattle.demands.proofs.Panels.{panels_shown}
use Rattle.demands.proofs.Packed.{same_figures, packed_kept}
use Rattle.demands.proofs.Choices.{choices_kept}
use Rattle.std.specs.Prelude.{Result, Ok, Err}
use Rattle.refusal.specs.Answer.{Written}

kept : (answer : Written) (result out : List ℕ) (r : Refusal) → answer ≡ Err r → after answer result out ≡ out
kept answer result out r h = rw h

-- a tally that refused a packet
given_back : (t : Tally) (packet : ℕ) (r : Refusal) → (take_one t packet).answer ≡ Err r → (take_one t packet).tally ≡ t
unfolding take_one
given_back t packet r = go (sound t) (ltb t.sums.packets trace_max) (leb packet packet_max)
  where
    go : (a b c : Bool) →
        (unless a (refused_with t setting) (unless b (refused_with t trace_length) (unless c (refused_with t (trace_byte 0)) (record { tally = step_of t packet; answer = (Ok (tt {0})) })))).answer ≡ Err r →
        (unless a (refused_with t setting) (unless b (refused_with t trace_length) (unless c (refused_with t (trace_byte 0)) (record { tally = step_of t packet; answer = (Ok (tt {0})) })))).tally ≡ t
    go false b c h = refl
    go true false c h = refl
    go true true false h = refl
    go true true true h = let z : ◌≡◌ {A = ℕ} 0 1 = cc in absurd (omega arith)

unchanged : Unchanged
unchanged =
    record {
      card_write = λ s out r h. kept _ _ out r h;
      packet_list = λ s out r h. kept _ _ out r h;
      packet_compare = λ s t out r h. ap (λ (answer : Result ℕ Refusal). with_differences answer (differences_of (packet_of s) (packet_of t)) out) h;
      packet_new = λ sender out r h. kept _ _ out r h;
      packet_add = λ out b r h. kept _ _ out r h;
      packet_rle = λ s k out r h. kept _ _ out r h;
      packet_add_rle = λ out source begin s r h. kept _ _ out r h;
      resend_plan = λ event s b t out r h. refused_unchanged _ _ _ b t out r h;
      trace_pack = λ event s out r h. kept _ _ out r h;
      trace_unpack = λ words packets out r h. kept _ _ out r h;
      packed_plan_lem = λ words packets b t out r h. refused_unchanged _ _ _ b t out r h;
      tally_take = given_back;
    }

pub demand_1 : Demand1
demand_1 =
    record {
      each_call = each_call;
      conditions = record { past = past_exactly; first_bad_lem = first_above_lem; accepted = accepted_within; accepts = within_accepted };
      at_boundary = at_boundary;
      unchanged = unchanged;
    }

pub demand_2 : Demand2
demand_2 =
    record {
      packets_read = packets_read;
      packets_written = packets_written;
      blocks_again = blocks_again;
      packets_compared =
          record {
            listed = listed_exactly;
            contents = λ es k e n. content_at_lem es es k e n;
            empty = empty_exactly;
            self = self_empty;
            reserved = reserved_empty;
            turned = turned_round;
            room = room_enough;
          };
      panels_shown = panels_shown;
      runs_kept =
          record {
            exactly = rle_exactly;
            d1 = d1_exactly;
            d2 = d2_exactly;
            d5 = d5_exactly;
            covers = covers_exactly;
            causes = uncovered_exactly;
            vector_bit = vector_bit;
            vector_lost = vector_lost;
            run_packets = run_packets;
            trace = trace_of_block;
            again = added_read;
            chunks = written_chunks;
            count = chunk_count;
            fewest = fewest;
            compared = λ es e r is. ap (content_of e) is;
            shown = λ type r. record { verdict = refl; source = refl; begin = refl; end = refl; packets = refl; lost = refl };
          };
      packed_kept = packed_kept;
      choices_kept = choices_kept;
      as_published = as_published;
      never_unavailable = never_unavailable;
      cards_guarded =
          record {
            read_written = read_written limits limits_fit;
            one_card = written_read limits;
            changed = changed_refused limits;
            exchanged = exchanged_refused limits;
          };
    }

pub demand_3 : Demand3
demand_3 event s b t out asked =
    let d = plan_best (judged s) (counted_at event s) _ b t out asked in
    let best = d.best in
    record {
      is_plan = best.smallest.valid.plan;
      counted_only = best.smallest.valid.lost_only;
      none_over = few_left event s b t asked.within _ best.smallest.valid;
      count = d.answer;
      fewest = best.smallest.fewest;
      first_difference = best.first_difference;
    }

pub demand_3_packed : Demand3Packed
demand_3_packed event s buffer b t out enough asked =
    let same = same_figures event s buffer b t out (accepted_trace s asked.accepted) enough in
    rw (same.plan, same.bytes) (demand_3 event s b t out asked)
