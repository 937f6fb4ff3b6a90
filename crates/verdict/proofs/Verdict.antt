-- The verdict of a block among the blocks of its packet, from its verdict where nothing is measured and whether its source
-- is measured. Assumes nothing.
use Prim.Native.Nat.{ℕ, ◌+◌, ◌<◌, ◌≤◌}
use mathlib.Core.Path.{◌≡◌, refl, sym, ap, ◌∙◌}
use mathlib.Core.Bool.{Bool, true, false}
use mathlib.Core.List.{List, []}
use native.Mathlib.Omega.{arith}
use lib.ListN.{length, get_or, take, drop}
use lib.Seq.{get_or-take, get_or-drop}
use Rattle.refusal.specs.Answer.{unless}
use Rattle.wire.specs.BigEndian.{be16, be32, u32_at}
use Rattle.wire.proofs.Numbers.{u32_inside}
use Rattle.block.specs.Types.{unmeasured, reason_number}
use Rattle.block.specs.Layouts.{loss_in, discard_in}
use Rattle.block.specs.Reading.{needs_of, read_block}
use Rattle.block.proofs.Cases.{typed_answers}
use Rattle.block.proofs.Reasons.{own_reasons}
use Rattle.block.specs.declared.Block.{Block}
use Rattle.block.specs.declared.BlockRead.{BlockRead}
use Rattle.block.specs.declared.BlockRead.TheVariants.{Typed, Rle, Unknown, Dropped}
use Rattle.frame.specs.Frames.{Entry, body_length, next_at, entry_at}
use Rattle.packet.specs.Blocks.{read_alone, measured, given, read_among, read_in}
use Rattle.packet.specs.Laws.{Unmeasured as Law-as-Unmeasured}
use Rattle.packet.proofs.Chosen.{body_long}
use Rattle.packet.proofs.Judging.{unmeasured_exactly}
use Rattle.verdict.specs.Verdict.{verdict_of}
use Rattle.std.specs.Prelude.{Option, Some, None}
use Rattle.block.specs.declared.Reason.{Reason}
use Rattle.block.specs.declared.Reason.TheVariants.{BadSize, BadFlag, BadRate, Unmeasured, BadChunks}

-- every verdict fits a byte
pub verdict_small : (es : List Entry) (e : Entry) → verdict_of (read_in es e) < 256
unfolding read_alone
verdict_small es e = go (read_alone e) refl
  where
    by_measured : (b : Block) (m : Bool) → verdict_of (unless m (Dropped Unmeasured) (Typed b)) < 256
    by_measured b true = omega arith
    by_measured b false = omega arith

    by_need : (b : Block) (needs : Option ℕ) → verdict_of (given es needs (Typed b)) < 256
    by_need b None = omega arith
    by_need b (Some source) = by_measured b (measured source es)

    go : (own : BlockRead) → read_alone e ≡ own → verdict_of (read_among es own) < 256
    go (Typed b) o = by_need b (needs_of b)
    go (Rle r) o = omega arith
    go Unknown o = omega arith
    go (Dropped reason) o = let few = own_reasons e.kind e.specific e.body reason o in omega arith

-- a block that is not D4 where nothing is measured is as it is
pub settled : (es : List Entry) (e : Entry) → (verdict_of (read_in [] e) ≡ unmeasured → ⊥) → verdict_of (read_in es e) ≡ verdict_of (read_in [] e)
unfolding measured
settled es e h = go (read_alone e) h
  where
    by_need : (b : Block) (needs : Option ℕ) → (verdict_of (given [] needs (Typed b)) ≡ unmeasured → ⊥) → verdict_of (given es needs (Typed b)) ≡ verdict_of (given [] needs (Typed b))
    by_need b None n = refl
    by_need b (Some source) n = absurd (n refl)

    go : (own : BlockRead) → (verdict_of (read_among [] own) ≡ unmeasured → ⊥) → verdict_of (read_among es own) ≡ verdict_of (read_among [] own)
    go (Typed b) n = by_need b (needs_of b) n
    go (Rle r) n = refl
    go Unknown n = refl
    go (Dropped reason) n = refl

-- the source that a typed block needs a measurement of is the one that its body begins with
pub needs_source : (type specific : ℕ) (body : List ℕ) (b : Block) (source : ℕ) → read_block type specific body ≡ Typed b →
    needs_of b ≡ Some source → (source ≡ be32 body 0) × (4 ≤ length body)
unfolding loss_in discard_in
needs_source type specific body b source r =
    typed_answers specific body (λ type block. needs_of block ≡ Some source → (source ≡ be32 body 0) × (4 ≤ length body))
    (λ size n. let z : ◌≡◌ {A = ℕ} 0 1 = cc in absurd (omega arith))
    (λ size g n. (cc, omega arith))
    (λ size g n. (cc, omega arith))
    (λ size n. let z : ◌≡◌ {A = ℕ} 0 1 = cc in absurd (omega arith))
    (λ size n. let z : ◌≡◌ {A = ℕ} 0 1 = cc in absurd (omega arith))
    type b r

-- the reason with D4's number
pub unmeasured_so : (reason : Reason) → reason_number reason ≡ unmeasured → reason ≡ Unmeasured
unmeasured_so Unmeasured h = refl
unmeasured_so BadSize h = absurd (omega arith)
unmeasured_so BadFlag h = absurd (omega arith)
unmeasured_so BadRate h = absurd (omega arith)
unmeasured_so BadChunks h = absurd (omega arith)

-- a block that is D4 there is D4 where its source is not measured, and otherwise typed
dropped_so : (answer : BlockRead) → verdict_of answer ≡ unmeasured → answer ≡ Dropped Unmeasured
dropped_so (Typed b) h = absurd (omega arith)
dropped_so (Rle r) h = absurd (omega arith)
dropped_so Unknown h = absurd (omega arith)
dropped_so (Dropped reason) h = ap Dropped (unmeasured_so reason h)

module _ (s : List ℕ) (at : ℕ) (fits : next_at s at ≤ length s) (w : verdict_of (read_in [] (entry_at s at)) ≡ unmeasured) where
  body_source : 4 ≤ length (entry_at s at).body → be32 (entry_at s at).body 0 ≡ u32_at s (at + 4)
  unfolding entry_at be32 be16
  body_source h =
      let size = body_long s at fits in
      let none : at + 4 + 0 ≡ at + 4 = omega arith in
      let last : at + 4 + 2 + 1 ≡ at + 4 + 3 = omega arith in
      rw (byte 0 (omega arith), byte 1 (omega arith), byte 2 (omega arith), byte 3 (omega arith), none)
      (sym (u32_inside s (at + 4) (omega arith) ∙ rw last))
    where
      byte : (j : ℕ) → j < body_length s at → get_or (take (body_length s at) (drop (at + 4) s)) j 0 ≡ get_or s (at + 4 + j) 0
      byte j l = get_or-take (body_length s at) (drop (at + 4) s) j 0 l ∙ get_or-drop (at + 4) s j 0

  waiting : (u : Law-as-Unmeasured [] (entry_at s at)) (es : List Entry) (m : Bool) → measured (u32_at s (at + 4)) es ≡ m → verdict_of (unless m (Dropped Unmeasured) (Typed u.block)) ≡ verdict_of (read_in es (entry_at s at))
  unfolding read_alone
  waiting u es m h =
      let is = needs_source (entry_at s at).kind (entry_at s at).specific (entry_at s at).body u.block u.source u.typed u.needs in
      let source : u.source ≡ u32_at s (at + 4) = is.0 ∙ body_source is.1 in
      rw (u.typed, u.needs, source, h)

  waits : Law-as-Unmeasured [] (entry_at s at)
  waits = (unmeasured_exactly [] (entry_at s at)).0 (dropped_so (read_in [] (entry_at s at)) w)

  pub found : (es : List Entry) → measured (u32_at s (at + 4)) es ≡ true → 0 ≡ verdict_of (read_in es (entry_at s at))
  found es m = waiting waits es true m

  pub missed : (es : List Entry) → measured (u32_at s (at + 4)) es ≡ false → unmeasured ≡ verdict_of (read_in es (entry_at s at))
  missed es m = waiting waits es false m
