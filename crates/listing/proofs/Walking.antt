-- The walk over the blocks beside the survey's table, and text put where there is room. Assumes nothing.
use Prim.Native.Nat.{ℕ, ◌+◌, ◌-◌, ◌*◌, ◌/◌, ◌<◌, ◌≤◌}
use mathlib.Core.Path.{◌≡◌, refl, sym, ap, ◌∙◌}
use mathlib.Core.Logic.{◌⊎◌, inl, inr}
use mathlib.Core.List.{List, ◌∷◌, ◌++◌}
use native.Mathlib.Omega.{arith}
use native.Mathlib.Decide.{ℕ_discrete, dec_le}
use borrow.Author.Tests.{ne_eqb, le-leb, lt-leb}
use lib.ListN.{length, take, drop, get_or, length-drop}
use lib.Seq.{get_or-drop, drop-drop}
use Rattle.refusal.specs.Answer.{after}
use Rattle.block.specs.Types.{unmeasured}
use Rattle.block.specs.Reading.{read_bytes}
use Rattle.block.specs.declared.BlockRead.{BlockRead}
use Rattle.block.specs.declared.BlockRead.TheVariants.{Typed, Rle, Unknown, Dropped}
use Rattle.frame.specs.Frames.{Entry, whole, body_length, next_at, entry_at, block_at, frames_in, first_block}
use Rattle.frame.specs.Packet.{Packet, good, bad, packet_of}
use Rattle.frame.proofs.Stepping.{First, first_of, some_left}
use Rattle.frame.proofs.Blocks.{block_bytes_lem}
use Rattle.packet.specs.Blocks.{read_alone, read_in}
use Rattle.packet.specs.Steps.{blocks_of}
use Rattle.packet.proofs.Measuring.{read_at}
use Rattle.packet.proofs.Chosen.{blocks_are, blocks_whole}
use Rattle.packet.proofs.Judging.{own_but_unmeasured}
use Rattle.verdict.specs.Verdict.{verdict_of}
use Rattle.survey.specs.Survey.{listing, list_of, list_answer}
use Rattle.text.specs.declared.Page.{Page}
use Rattle.text.specs.Page.{end_at, put_at, put_in}
use Rattle.text.proofs.Room.{length_put, end_inside, end_room, put_room}
use Rattle.lines.specs.Lines.{line_room, block_line}
use Rattle.lines.proofs.Fitting.{block_fits}
use Rattle.listing.specs.Room.{Listed, Roomy, judged_by, line_at, Added}
use Rattle.std.specs.Prelude.{Ok}
use Rattle.refusal.specs.Answer.{Written}
use Rattle.block.specs.declared.Reason.TheVariants.{BadSize, BadFlag, BadRate, Unmeasured, BadChunks}

-- a packet that the survey lists: two numbers for each block
pub record Surveyed (s table : List ℕ) (n : ℕ) : Type 0 where
  pub listed : Listed s table
  pub all : n / 2 ≡ length (blocks_of s)

pub surveyed : (s out table : List ℕ) (n : ℕ) → Ok n ≡ list_answer (packet_of s) out → table ≡ after (list_answer (packet_of s) out) (list_of (packet_of s)) out → Surveyed s table n
surveyed s out table n a b = go (packet_of s) refl a b
  where
    size : (es : List Entry) → Ok n ≡ list_answer (good 0 es) out → n ≡ 2 * length es
    size es h = go (dec_le (2 * length es) (length out))
      where
        go : Dec (2 * length es ≤ length out) → n ≡ 2 * length es
        go (yes fits) = let e = rw (le-leb (2 * length es) (length out) fits) at h in cc
        go (no short) = let e = rw (lt-leb (2 * length es) (length out) (omega arith)) at h in let z : ◌≡◌ {A = ℕ} 0 1 = cc in absurd (omega arith)

    go : (p : Packet) → packet_of s ≡ p → Ok n ≡ list_answer p out → table ≡ after (list_answer p out) (list_of p) out → Surveyed s table n
    go (good sender es) e h t =
        let filled : table ≡ listing es es ++ drop n out = t ∙ ap (λ (w : Written). after w (listing es es) out) (sym h) in
        let twice = size es h in
        let same = ap length (blocks_are s sender es e) in
        record {
          listed = record { blocks = blocks_whole s sender es e; rest = drop n out; told = rw (blocks_are s sender es e) filled };
          all = omega arith;
        }
    go (bad r) e h t = let z : ◌≡◌ {A = ℕ} 0 1 = cc in absurd (omega arith)

-- The walk stands before block number k: the blocks left are whole, and the table goes on with theirs.
pub record Walk (s table : List ℕ) (count k : ℕ) : Type 0 where
  pub at : ℕ
  pub left : List Entry
  pub rest : List ℕ
  pub frames : frames_in s at (length s) ≡ whole left
  pub told : drop (2 * k) table ≡ listing (blocks_of s) left ++ rest
  pub counted : k + length left ≡ count

module _ (s table : List ℕ) (count : ℕ) where
  pub walk_start : Listed s table → count ≡ length (blocks_of s) → Walk s table count 0
  walk_start l all =
      record { at = first_block; left = blocks_of s; rest = l.rest; frames = l.blocks; told = l.told; counted = omega arith }

  module _ (k : ℕ) (w : Walk s table count k) (h : k < count) where
    first : First s w.at (length s) w.left
    first =
        let c = w.counted in
        first_of s w.at (length s) w.left (some_left s w.at (length s) w.left w.frames (omega arith)) w.frames

    -- what the table says of the block here, then of those after it
    here : drop (2 * k) table ≡ w.at ∷ verdict_of (read_in (blocks_of s) (entry_at s w.at)) ∷ (listing (blocks_of s) first.rest ++ w.rest)
    unfolding listing entry_at
    here = w.told ∙ ap (λ (es : List Entry). listing (blocks_of s) es ++ w.rest) first.first

    pub walk_room : 2 * k + 2 ≤ length table
    walk_room = let e = sym (length-drop (2 * k) table) ∙ ap length here in omega arith

    pub walk_place : get_or table (2 * k) 0 ≡ w.at
    walk_place =
        let same : 2 * k + 0 ≡ 2 * k = omega arith in
        ap (λ (i : ℕ). get_or table i 0) (sym same) ∙ sym (get_or-drop (2 * k) table 0 0) ∙ ap (λ (l : List ℕ). get_or l 0 0) here

    pub walk_fits : next_at s (get_or table (2 * k) 0) ≤ length s
    walk_fits = rw walk_place first.fits

    pub walk_verdict : get_or table (2 * k + 1) 0 ≡ verdict_of (read_in (blocks_of s) (entry_at s (get_or table (2 * k) 0)))
    walk_verdict = rw walk_place (sym (get_or-drop (2 * k) table 1 0) ∙ ap (λ (l : List ℕ). get_or l 1 0) here)

    pub walk_next : Walk s table count (k + 1)
    walk_next =
        let c = w.counted in
        let one = ap length first.first in
        let two : 2 * (k + 1) ≡ 2 * k + 2 = omega arith in
        record {
          at = next_at s w.at;
          left = first.rest;
          rest = w.rest;
          frames = first.after;
          told = rw two (sym (drop-drop 2 (2 * k) table) ∙ ap (drop 2) here);
          counted = omega arith;
        }

-- the cases of `judged_by`
pub judged_unmeasured : (own : BlockRead) (v : ℕ) → v ≡ unmeasured → Dropped Unmeasured ≡ judged_by own v
unfolding judged_by
judged_unmeasured own v h = rw h

pub judged_own : (own : BlockRead) (v : ℕ) → (v ≡ unmeasured → ⊥) → own ≡ judged_by own v
unfolding judged_by
judged_own own v h = rw (ne_eqb v unmeasured h)

-- by the survey's verdict a block that was read by itself is what it is among the blocks of its packet
verdict_4 : (b : BlockRead) → verdict_of b ≡ unmeasured → b ≡ Dropped Unmeasured
verdict_4 (Typed b) h = absurd (omega arith)
verdict_4 (Rle r) h = absurd (omega arith)
verdict_4 Unknown h = absurd (omega arith)
verdict_4 (Dropped BadSize) h = absurd (omega arith)
verdict_4 (Dropped BadFlag) h = absurd (omega arith)
verdict_4 (Dropped BadRate) h = absurd (omega arith)
verdict_4 (Dropped Unmeasured) h = refl
verdict_4 (Dropped BadChunks) h = absurd (omega arith)

pub judged_is : (es : List Entry) (e : Entry) (v : ℕ) → v ≡ verdict_of (read_in es e) → judged_by (read_alone e) v ≡ read_in es e
judged_is es e v is = go (ℕ_discrete v unmeasured) (own_but_unmeasured es e)
  where
    own : BlockRead
    own = read_alone e

    go : Dec (v ≡ unmeasured) → (read_in es e ≡ own) ⊎ (read_in es e ≡ Dropped Unmeasured) → judged_by own v ≡ read_in es e
    go (yes four) x = sym (judged_unmeasured own v four) ∙ sym (verdict_4 (read_in es e) (sym is ∙ four))
    go (no other) (inl same) = sym (judged_own own v other) ∙ sym same
    go (no other) (inr dropped) = absurd (other (is ∙ ap verdict_of dropped))

-- what the code puts together is the line of the block
pub line_text : (s : List ℕ) (at k v : ℕ) (bytes : List ℕ) (own read : BlockRead) → next_at s at ≤ length s → bytes ≡ block_at s at → v ≡ verdict_of (read_in (blocks_of s) (entry_at s at)) →
    own ≡ read_bytes bytes → read ≡ judged_by own v → block_line k (get_or bytes 0 0) (length bytes - 4) read ≡ line_at s at k
unfolding line_at
line_text s at k v bytes own read fits b is o j =
    let facts = block_bytes_lem s at fits in
    let long = facts.long in
    let size : length (block_at s at) - 4 ≡ body_length s at = omega arith in
    rw (j, o, b, facts.kind, size, read_at s at fits, judged_is (blocks_of s) (entry_at s at) v is)

pub line_fits : (s : List ℕ) (at k : ℕ) → length (line_at s at k) ≤ line_room
unfolding line_at
line_fits s at k = block_fits k (entry_at s at).kind (body_length s at) (read_in (blocks_of s) (entry_at s at))

-- a line put where there is room for it
pub added : (page after : Page) (text : List ℕ) → after ≡ put_in page text → page.at + line_room ≤ length page.bytes.now → length text ≤ line_room → Added page after text
unfolding put_in
added page after text put room short =
    let bytes : after.bytes.now ≡ put_at page.bytes.now page.at text = ap (λ (p : Page). p.bytes.now) put in
    let end : after.at ≡ page.at + length text
    = ap (λ (p : Page). p.at) put ∙ end_room page.bytes.now page.at text (omega arith) in
    record {
      ends = end;
      inside = omega arith;
      long = ap length bytes ∙ length_put page.bytes.now page.at text;
      holds = bytes ∙ put_room page.bytes.now page.at text (omega arith) ∙ ap (λ (x : ℕ). take page.at page.bytes.now ++ text ++ drop x page.bytes.now) (sym end);
    }

-- a text put into a page that goes on inside its bytes leaves it so
pub still_roomy : (page after : Page) (text : List ℕ) → after ≡ put_in page text → Roomy page → Roomy after
unfolding put_in
still_roomy page after text put r =
    let bytes : after.bytes.now ≡ put_at page.bytes.now page.at text = ap (λ (p : Page). p.bytes.now) put in
    let end : after.at ≡ end_at page.bytes.now page.at text = ap (λ (p : Page). p.at) put in
    let long = ap length bytes ∙ length_put page.bytes.now page.at text in
    let inside = end_inside page.bytes.now page.at text r.inside in
    let room = r.room in
    record { inside = omega arith; room = omega arith }

-- and so does a line put where there is room for it
pub added_roomy : (page after : Page) (text : List ℕ) → Added page after text → page.at + line_room ≤ length page.bytes.now → Roomy after
added_roomy page after text a room =
    let inside = a.inside in
    let long = a.long in
    record { inside = omega arith; room = omega arith }
