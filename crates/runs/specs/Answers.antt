-- What reading a trace out by index answers: document 02, ticket 5. "Refusals: .. 1 to 7 (7 too if that block is not a good type
-- 1), then 8."
use Rattle.std.specs.Prelude.{ℕ, List, length, nat_le, Result, Ok, Err}
use Rattle.refusal.specs.Table.{no_such_block, buffer_short}
use Rattle.refusal.specs.Answer.{unless}
use Rattle.refusal.specs.declared.Refusal.{Refusal}
use Rattle.block.specs.Layouts.{covered, trace_of}
use Rattle.block.specs.declared.BlockRead.{BlockRead}
use Rattle.block.specs.declared.BlockRead.TheVariants.{Typed, Rle, Unknown, Dropped}
use Rattle.frame.specs.Packet.{Packet}
use Rattle.packet.specs.declared.BlockAt.{BlockAt}
use Rattle.packet.specs.Answers.{block_of, body_of}
use Rattle.refusal.specs.Answer.{Written}

-- of what was read: a good type 1 has as many packets as its interval
abbrev pub trace_read : BlockRead → List ℕ → Written
trace_read (Rle r) out = unless (nat_le (covered r.begin r.end) (length out)) (Err buffer_short) (Ok (covered r.begin r.end))
trace_read (Typed b) out = Err no_such_block
trace_read Unknown out = Err no_such_block
trace_read (Dropped reason) out = Err no_such_block

abbrev pub trace_found : Result BlockAt Refusal → List ℕ → Written
trace_found (Ok block) out = trace_read block.read out
trace_found (Err r) out = Err r

abbrev pub trace_answer : Packet → ℕ → List ℕ → Written
trace_answer p k out = trace_found (block_of p k) out

-- the trace itself
abbrev pub trace_at : Packet → ℕ → List ℕ
trace_at p k = trace_of (body_of p k)
