-- Packets are read and written as the bytes have them: the records of specs/Packets.antt. Assumes nothing.
use Prim.Native.Nat.{ℕ, zero, suc, ◌+◌, ◌*◌, ◌≤◌}
use mathlib.Core.Path.{◌≡◌, refl, sym, ap, ◌∙◌}
use mathlib.Core.Logic.{◌↔◌, ◌⊎◌, inl, inr}
use mathlib.Core.List.{List, [], ◌∷◌}
use native.Mathlib.Omega.{arith}
use lib.ListN.{length, get_or}
use Rattle.refusal.specs.declared.Refusal.{Refusal}
use Rattle.refusal.proofs.Tests.{fails}
use Rattle.wire.specs.BigEndian.{be32}
use Rattle.block.specs.Reading.{read_bytes}
use Rattle.block.specs.declared.BlockRead.{BlockRead}
use Rattle.block.specs.declared.BlockRead.TheVariants.{Dropped}
use Rattle.encode.proofs.Again.{written_again}
use Rattle.encode.proofs.ReadBack.{read_back}
use Rattle.frame.specs.declared.Extent.TheVariants.{Whole}
use Rattle.frame.specs.Frames.{Entry, first_block, next_at, entry_at, block_at}
use Rattle.frame.specs.Packet.{Packet, good, bad, numbered, packet_of}
use Rattle.frame.specs.Laws.{Fill}
use Rattle.frame.proofs.Blocks.{block_bytes_lem}
use Rattle.frame.proofs.FirstBytes.{head_facts, whole_length}
use Rattle.frame.proofs.Filling.{packet_exactly}
use Rattle.packet.specs.Blocks.{read_alone, measured, read_in}
use Rattle.packet.specs.Answers.{head_of, found, block_of, body_in, body_of, answered, sent}
use Rattle.packet.specs.Laws.{Unmeasured}
use Rattle.packet.proofs.Measuring.{read_at}
use Rattle.packet.proofs.Judging.{own_but_unmeasured, unmeasured_exactly}
use Rattle.packet.proofs.Named.{measured_exactly, answered_parts}
use Rattle.verdict.specs.Verdict.{verdict_of}
use Rattle.survey.specs.Survey.{listing}
use Rattle.compose.proofs.Growing.{new_read}
use Rattle.compose.proofs.Reading.{behind, added_read}
use Rattle.demands.specs.Packets.{offset, BlockFound, Lacking, PacketsRead, PacketsWritten, BlocksAgain}
use Rattle.demands.proofs.Places.{typed_exactly, written, length_written}
use Rattle.block.specs.declared.Reason.TheVariants.{Unmeasured as Reason-as-Unmeasured}
use Rattle.std.specs.Prelude.{Ok, Err, Option, Some, None}
use Rattle.packet.specs.declared.PacketHead.{PacketHead}

-- blocks from any offset on
from : List ℕ → ℕ → ℕ → ℕ
from s at zero = at
from s at (suc k) = from s (next_at s at) k

next : (s : List ℕ) (at k : ℕ) → from s (next_at s at) k ≡ next_at s (from s at k)
unfolding from
next s at zero = refl
next s at (suc k) = next s (next_at s at) k

is_from : (s : List ℕ) (k : ℕ) → offset s k ≡ from s first_block k
unfolding offset from
is_from s zero = refl
is_from s (suc k) = ap (next_at s) (is_from s k) ∙ sym (next s first_block k)

ends : (s : List ℕ) (at to : ℕ) (es : List Entry) → Fill s at to es → from s at (length es) ≡ to
unfolding from
ends s at to [] f = f
ends s at to (e ∷ es) f = ends s (next_at s at) to es f.1

grows : (s : List ℕ) (at to : ℕ) (es : List Entry) → Fill s at to es → at ≤ to
grows s at to [] f = omega arith
grows s at to (e ∷ es) f = let g = grows s (next_at s at) to es f.1 in omega arith

at_offset : (s : List ℕ) (at to : ℕ) (es : List Entry) (k : ℕ) (e : Entry) → Fill s at to es → numbered es k ≡ Some e →
    (e ≡ entry_at s (from s at k)) × (next_at s (from s at k) ≤ to)
unfolding from numbered
at_offset s at to [] k e f h = let z : ◌≡◌ {A = ℕ} 0 1 = cc in absurd (omega arith)
at_offset s at to (d ∷ es) zero e f h = (cc, grows s (next_at s at) to es f.1)
at_offset s at to (d ∷ es) (suc k) e f h = at_offset s (next_at s at) to es k e f.1 h

head : (s : List ℕ) (sender count : ℕ) → head_of (packet_of s) ≡ sent sender count → (sender ≡ be32 s 4) × (offset s count ≡ length s)
head s sender count h = go (packet_of s) refl h
  where
    go : (p : Packet) → packet_of s ≡ p → head_of p ≡ sent sender count → (sender ≡ be32 s 4) × (offset s count ≡ length s)
    go (good who es) e h =
        let m = (packet_exactly Whole s who es).0 e in
        let same : ◌≡◌ {A = PacketHead} (record { sender = who; blocks = length es }) (record { sender = sender; blocks = count }) = cc h in
        let w : who ≡ sender = ap (λ (p : PacketHead). p.sender) same in
        let c : length es ≡ count = ap (λ (p : PacketHead). p.blocks) same in
        let facts = head_facts Whole s who m.size m.header in
        (sym (facts.from ∙ w), is_from s count ∙ rw (← c) (ends s first_block m.size es m.fill) ∙ whole_length s who m.size m.header)
    go (bad r) e h = let z : ◌≡◌ {A = ℕ} 0 1 = cc in absurd (omega arith)

-- a block that was found, in its packet's list
record Entered (s : List ℕ) (k type : ℕ) (r : BlockRead) : Type 0 where
  pub sender : ℕ
  pub blocks : List Entry
  pub entry : Entry
  pub packet : packet_of s ≡ good sender blocks
  pub number : numbered blocks k ≡ Some entry
  pub here : entry ≡ entry_at s (offset s k)
  pub inside : next_at s (offset s k) ≤ length s
  pub kind : type ≡ entry.kind
  pub read : r ≡ read_in blocks entry

entered : (s : List ℕ) (k type : ℕ) (r : BlockRead) → block_of (packet_of s) k ≡ answered type r → Entered s k type r
entered s k type r h = go (packet_of s) refl h
  where
    by_number : (es : List Entry) (who : ℕ) (n : Option Entry) → numbered es k ≡ n → packet_of s ≡ good who es → found es n ≡ answered type r → Entered s k type r
    by_number es who None q p h = let z : ◌≡◌ {A = ℕ} 0 1 = cc in absurd (omega arith)
    by_number es who (Some e) q p h =
        let m = (packet_exactly Whole s who es).0 p in
        let a = at_offset s first_block m.size es k e m.fill q in
        let o = is_from s k in
        let w = whole_length s who m.size m.header in
        let parts = answered_parts e.kind type (read_in es e) r h in
        record { sender = who; blocks = es; entry = e; packet = p; number = q; here = rw o a.0; inside = rw (o, ← w) a.1; kind = sym parts.0; read = sym parts.1 }

    go : (p : Packet) → packet_of s ≡ p → block_of p k ≡ answered type r → Entered s k type r
    go (good who es) p h = by_number es who (numbered es k) refl p h
    go (bad x) p h = let z : ◌≡◌ {A = ℕ} 0 1 = cc in absurd (omega arith)

-- its two entries in the list of all blocks
listed : (all es : List Entry) (k : ℕ) (e : Entry) → numbered es k ≡ Some e →
    (get_or (listing all es) (2 * k) 0 ≡ e.place) × (get_or (listing all es) (2 * k + 1) 0 ≡ verdict_of (read_in all e))
unfolding numbered listing
listed all [] k e h = let z : ◌≡◌ {A = ℕ} 0 1 = cc in absurd (omega arith)
listed all (d ∷ es) zero e h = let same : d ≡ e = cc in rw (← same) (refl, refl)
listed all (d ∷ es) (suc k) e h =
    let two : 2 * suc k ≡ suc (suc (2 * k)) = omega arith in
    let three : suc (suc (2 * k)) + 1 ≡ suc (suc (2 * k + 1)) = omega arith in
    rw (two, three) (listed all es k e h)

module _ (s : List ℕ) (k type : ℕ) (r : BlockRead) (h : block_of (packet_of s) k ≡ answered type r) where
  x : Entered s k type r
  x = entered s k type r h

  alone : read_alone x.entry ≡ read_bytes (block_at s (offset s k))
  alone = ap read_alone x.here ∙ sym (read_at s (offset s k) x.inside)

  own : (read_in x.blocks x.entry ≡ read_alone x.entry) ⊎ (read_in x.blocks x.entry ≡ Dropped Reason-as-Unmeasured) →
      (r ≡ read_bytes (block_at s (offset s k))) ⊎ (r ≡ Dropped Reason-as-Unmeasured)
  own (inl a) = inl (x.read ∙ a ∙ alone)
  own (inr d) = inr (x.read ∙ d)

  block : BlockFound s k type r
  unfolding entry_at
  block =
      let l = listed x.blocks x.blocks k x.entry x.number in
      record {
        type_is = x.kind ∙ ap (λ (e : Entry). e.kind) x.here;
        own = own (own_but_unmeasured x.blocks x.entry);
        body = (
          rw (x.packet, x.number) (ap (λ (e : Entry). e.place + 4) x.here),
          rw (x.packet, x.number) (ap (λ (e : Entry). e.body) x.here ∙ sym (block_bytes_lem s (offset s k) x.inside).body),
        );
        listed = (
          rw x.packet (l.0 ∙ ap (λ (e : Entry). e.place) x.here),
          rw x.packet (l.1 ∙ ap verdict_of (sym x.read)),
        );
      }

  there : Unmeasured x.blocks x.entry → Lacking s k
  there u =
      record {
        block = u.block;
        source = u.source;
        typed = sym alone ∙ u.typed;
        needs = u.needs;
        nowhere = λ m. let e = (measured_exactly x.sender x.blocks u.source).1 (rw (← x.packet) m) in let f = u.nowhere in let z : ◌≡◌ {A = ℕ} 0 1 = cc in omega arith;
      }

  back : Lacking s k → Unmeasured x.blocks x.entry
  back l =
      record {
        block = l.block;
        source = l.source;
        typed = alone ∙ l.typed;
        needs = l.needs;
        nowhere = fails (measured l.source x.blocks) (λ m. l.nowhere (rw x.packet ((measured_exactly x.sender x.blocks l.source).0 m)));
      }

  d4 : (r ≡ Dropped Reason-as-Unmeasured) ↔ Lacking s k
  d4 =
      let exactly = unmeasured_exactly x.blocks x.entry in
      (λ d. there (exactly.0 (sym x.read ∙ d)), λ l. x.read ∙ exactly.1 (back l))

no_body : (s : List ℕ) (k : ℕ) (r : Refusal) → block_of (packet_of s) k ≡ Err r → body_of (packet_of s) k ≡ []
no_body s k r h = go (packet_of s) h
  where
    one_found : (es : List Entry) (n : Option Entry) → found es n ≡ Err r → body_in n ≡ []
    one_found es None h = refl
    one_found es (Some e) h = let z : ◌≡◌ {A = ℕ} 0 1 = cc in absurd (omega arith)

    go : (p : Packet) → block_of p k ≡ Err r → body_of p k ≡ []
    go (good sender es) h = one_found es (numbered es k) h
    go (bad why) h = refl

pub packets_read : PacketsRead
packets_read = record { head = head; block = block; d4 = d4; no_body = no_body; typed = typed_exactly }

pub packets_written : PacketsWritten
packets_written = record { new = new_read; added = behind; block = written; block_length_lem = length_written; reserved = written_again }

pub blocks_again : BlocksAgain
blocks_again = record { by_itself = read_back; in_packet = added_read }
