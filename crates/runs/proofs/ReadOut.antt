-- The cases of reading a trace out, of a block by its own bytes and of a block of a packet. Assumes nothing.
use Rattle.std.proofs.Common.{◌≡◌, ℕ, ◌-◌, ◌<◌, ◌≤◌, min, Bool, true, false, leb, List, ◌++◌, length, get_or, take, drop, sym, refl, ap, ◌∙◌, ap₂, arith, length-drop, take_all, drop-drop, le-leb}
use borrow.Author.Tests.{lt-leb}
use Rattle.refusal.proofs.Tests.{passed}
use Rattle.refusal.specs.Table.{no_such_block, buffer_short}
use Rattle.refusal.specs.Answer.{unless, after}
use Rattle.refusal.specs.declared.Refusal.{Refusal}
use Rattle.chunk.specs.Chunks.{packets_in, chunks_in}
use Rattle.chunk.proofs.Covering.{trace_long}
use Rattle.block.specs.Types.{rle_head}
use Rattle.block.specs.Layouts.{covered, interval_in, chunks_of, trace_of, rle_in}
use Rattle.block.specs.Reading.{needs_of, read_block, read_bytes}
use Rattle.block.specs.declared.LossRle.{LossRle}
use Rattle.block.specs.declared.BlockRead.{BlockRead}
use Rattle.block.specs.declared.BlockRead.TheVariants.{Typed, Rle, Unknown, Dropped}
use Rattle.block.proofs.RleLaws.{rle_known, rle_facts}
use Rattle.frame.specs.Frames.{Entry, block_at}
use Rattle.frame.specs.Packet.{packet_of}
use Rattle.frame.specs.declared.Extent.TheVariants.{Whole}
use Rattle.frame.proofs.Locating.{Here}
use Rattle.packet.specs.Blocks.{measured, given, read_among}
use Rattle.packet.specs.Steps.{blocks_of}
use Rattle.packet.specs.Answers.{block_of}
use Rattle.packet.specs.declared.BlockAt.{BlockAt}
use Rattle.packet.proofs.Chosen.{located_answer, located_body}
use Rattle.runs.specs.Answers.{trace_read, trace_found, trace_answer, trace_at}
use Rattle.std.specs.Prelude.{Result, Ok, Err, Option, Some, None}
use Rattle.block.specs.declared.Reason.TheVariants.{Unmeasured}
use Rattle.refusal.specs.Answer.{Written}

-- the answer, and the buffer afterwards
abbrev pub Read : BlockRead → List ℕ → List ℕ → Written → List ℕ → Type 0
Read read trace out r out' = (r ≡ trace_read read out) × (out' ≡ after (trace_read read out) trace out)

-- D4 makes no difference
pub among_same : (es : List Entry) (read : BlockRead) (out : List ℕ) → trace_read (read_among es read) out ≡ trace_read read out
among_same es (Typed b) out = go (needs_of b)
  where
    go : (n : Option ℕ) → trace_read (given es n (Typed b)) out ≡ Err no_such_block
    go None = refl
    go (Some source) = by (measured source es)
      where
        by : (t : Bool) → trace_read (unless t (Dropped Unmeasured) (Typed b)) out ≡ Err no_such_block
        by true = refl
        by false = refl
among_same es (Rle r) out = refl
among_same es Unknown out = refl
among_same es (Dropped reason) out = refl

-- a good type 1 by its bytes: its chunks are there, and its trace as long as its interval
pub record Known (bytes : List ℕ) (r : LossRle) : Type 0 where
  pub some : 12 ≤ length bytes
  pub interval : covered r.begin r.end ≡ interval_in (drop 4 bytes)
  pub long : length (trace_of (drop 4 bytes)) ≡ covered r.begin r.end

pub known : (bytes : List ℕ) (r : LossRle) → read_bytes bytes ≡ Rle r → Known bytes r
unfolding read_bytes rle_in
known bytes r h =
    let inside = passed (leb 4 (length bytes)) Unknown (read_block (get_or bytes 0 0) (get_or bytes 1 0) (drop 4 bytes)) (Rle r) (λ e. let z : ◌≡◌ {A = ℕ} 0 1 = cc in omega arith) h in
    let told = rle_known (get_or bytes 0 0) (get_or bytes 1 0) (drop 4 bytes) r inside.1 in
    let facts = rle_facts (get_or bytes 1 0) (drop 4 bytes) told.1 in
    let interval : covered r.begin r.end ≡ interval_in (drop 4 bytes) = ap (λ (x : LossRle). covered x.begin x.end) told.2 in
    record {
      some = let long = length-drop 4 bytes in let low = facts.0 in omega arith;
      interval = interval;
      long = trace_long (interval_in (drop 4 bytes)) (chunks_of (drop 4 bytes)) facts.4 ∙ sym interval;
    }

module _ (bytes out : List ℕ) (r : LossRle) (is : read_bytes bytes ≡ Rle r) where
  pub no_room : length out < covered r.begin r.end → Read (read_bytes bytes) (trace_of (drop 4 bytes)) out (Err buffer_short) out
  no_room h = rw (is, lt-leb (covered r.begin r.end) (length out) h) (refl, refl)

  pub has_room : covered r.begin r.end ≤ length out → (n : ℕ) → n ≡ covered r.begin r.end → (chunks out' : List ℕ) (k : ℕ) →
      chunks ≡ take (length bytes - 12) (drop 12 bytes) →
      k ≡ length (take (min n (length out)) (packets_in (chunks_in chunks))) → out' ≡ take (min n (length out)) (packets_in (chunks_in chunks)) ++ drop k out →
      Read (read_bytes bytes) (trace_of (drop 4 bytes)) out (Ok n) out'
  has_room h n e chunks out' k part long now =
      let g = known bytes r is in
      let some = g.some in
      let all : min n (length out) ≡ interval_in (drop 4 bytes) = (let few : min n (length out) ≡ n = omega arith in few) ∙ e ∙ g.interval in
      let same : chunks_in chunks ≡ chunks_of (drop 4 bytes) =
      ap chunks_in (part ∙ take_all (length bytes - 12) (drop 12 bytes) (omega (arith, length-drop 12 bytes)) ∙ sym (drop-drop rle_head 4 bytes))
      in
      let trace : take (min n (length out)) (packets_in (chunks_in chunks)) ≡ trace_of (drop 4 bytes) = ap₂ (λ (m : ℕ) (cs : List ℕ). take m (packets_in cs)) all same in
      let count : k ≡ covered r.begin r.end = long ∙ ap length trace ∙ g.long in
      rw (is, le-leb (covered r.begin r.end) (length out) h)
      (ap Ok e, now ∙ ap₂ (λ (l : List ℕ) (m : ℕ). l ++ drop m out) trace count)

-- any other block
no_trace : (bytes out : List ℕ) (read : BlockRead) → read_bytes bytes ≡ read → trace_read read out ≡ Err no_such_block →
    Read (read_bytes bytes) (trace_of (drop 4 bytes)) out (Err no_such_block) out
no_trace bytes out read is none = rw (is, none) (refl, refl)

pub no_rle : (bytes out : List ℕ) (read : BlockRead) → read ≡ read_bytes bytes → ((r : LossRle) → read ≡ Rle r → ⊥) →
    Read (read_bytes bytes) (trace_of (drop 4 bytes)) out (Err no_such_block) out
no_rle bytes out (Typed b) is other = no_trace bytes out (Typed b) (sym is) refl
no_rle bytes out (Rle r) is other = absurd (other r refl)
no_rle bytes out Unknown is other = no_trace bytes out Unknown (sym is) refl
no_rle bytes out (Dropped reason) is other = no_trace bytes out (Dropped reason) (sym is) refl

-- by index
abbrev pub ReadAt : List ℕ → ℕ → List ℕ → Written → List ℕ → Type 0
ReadAt s k out r out' = (r ≡ trace_answer (packet_of s) k out) × (out' ≡ after (trace_answer (packet_of s) k out) (trace_at (packet_of s) k) out)

pub read_at : (s out : List ℕ) (k sender count at : ℕ) (o : Here Whole s k sender count (Some at)) (bytes : List ℕ) → bytes ≡ block_at s at →
    (r : Written) (out' : List ℕ) → Read (read_bytes bytes) (trace_of (drop 4 bytes)) out r out' → ReadAt s k out r out'
read_at s out k sender count at o bytes b r out' told =
    let among : BlockRead = read_among (blocks_of s) (read_bytes bytes) in
    let found = located_answer s k sender count at o bytes b (read_bytes bytes) among refl refl in
    let answer : trace_answer (packet_of s) k out ≡ trace_read (read_bytes bytes) out =
    sym (ap (λ (x : Result BlockAt Refusal). trace_found x out) found) ∙ among_same (blocks_of s) (read_bytes bytes) out
    in
    let trace : trace_at (packet_of s) k ≡ trace_of (drop 4 bytes) = sym (ap trace_of (located_body s k sender count at o bytes b)) in
    (told.0 ∙ sym answer, told.1 ∙ sym (ap₂ (λ (w : Written) (l : List ℕ). after w l out) answer trace))

pub refused_at : (s out : List ℕ) (k : ℕ) (r : Refusal) → block_of (packet_of s) k ≡ Err r → ReadAt s k out (Err r) out
refused_at s out k r is = rw is (refl, refl)
