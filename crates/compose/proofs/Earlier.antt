-- The blocks that were there before one was appended: `EarlierKept` of specs/Laws.antt. Assumes nothing.
use Prim.Native.Nat.{ℕ, ◌<◌}
use mathlib.Core.Path.{◌≡◌, refl, ap, ◌∙◌}
use mathlib.Core.Bool.{Bool, true, false, ◌||◌}
use mathlib.Core.Logic.{◌⊎◌, inl, inr}
use mathlib.Core.List.{List, [], ◌∷◌, ◌++◌}
use lib.ListN.{length}
use Rattle.block.specs.Reading.{needs_of}
use Rattle.block.specs.declared.Block.{Block}
use Rattle.block.specs.declared.BlockRead.{BlockRead}
use Rattle.block.specs.declared.BlockRead.TheVariants.{Typed, Rle, Unknown, Dropped}
use Rattle.frame.specs.Frames.{Entry}
use Rattle.frame.specs.Packet.{good, numbered}
use Rattle.frame.proofs.Numbering.{number_front}
use Rattle.packet.specs.Blocks.{read_alone, measures, measured, read_among}
use Rattle.packet.specs.Answers.{found, body_in, start_in, answered}
use Rattle.frame.specs.Packet.{size_in}
use Rattle.compose.specs.Laws.{entry_of, Lifted, Kept, EarlierKept}
use Rattle.compose.proofs.Growing.{added_good}
use Rattle.std.specs.Prelude.{Option, Some, None}
use Rattle.block.specs.declared.Reason.TheVariants.{Unmeasured}

pub measured_behind : (source : ℕ) (es : List Entry) (e : Entry) → measured source (es ++ e ∷ []) ≡ (measured source es || measures source e)
unfolding measured
measured_behind source [] e = go (measures source e)
  where
    go : (a : Bool) → (a || false) ≡ a
    go true = refl
    go false = refl
measured_behind source (x ∷ es) e = ap (λ (t : Bool). measures source x || t) (measured_behind source es e) ∙ go (measures source x) (measured source es) (measures source e)
  where
    go : (a b c : Bool) → (a || (b || c)) ≡ ((a || b) || c)
    go true b c = refl
    go false b c = refl

-- a block read with one more behind: as before, or a D4 lifted
record Freed (es : List Entry) (e : Entry) (own : BlockRead) : Type 0 where
  block : Block
  source : ℕ
  needs : needs_of block ≡ Some source
  measured_now : measures source e ≡ true
  was : read_among es own ≡ Dropped Unmeasured
  is : read_among (es ++ e ∷ []) own ≡ Typed block

kept : (es : List Entry) (e : Entry) (own : BlockRead) → (read_among (es ++ e ∷ []) own ≡ read_among es own) ⊎ Freed es e own
kept es e (Rle r) = inl refl
kept es e Unknown = inl refl
kept es e (Dropped reason) = inl refl
kept es e (Typed b) = go (needs_of b) refl
  where
    go : (n : Option ℕ) → needs_of b ≡ n → (read_among (es ++ e ∷ []) (Typed b) ≡ read_among es (Typed b)) ⊎ Freed es e (Typed b)
    go None q = inl (rw q refl)
    go (Some source) q = turn (measured source es) refl (measures source e) refl
      where
        turn : (old : Bool) → measured source es ≡ old → (new : Bool) → measures source e ≡ new →
            (read_among (es ++ e ∷ []) (Typed b) ≡ read_among es (Typed b)) ⊎ Freed es e (Typed b)
        turn true o new n = inl (rw (q, measured_behind source es e, o) refl)
        turn false o true n =
            inr (record { block = b; source = source; needs = q; measured_now = n; was = rw (q, o) refl; is = rw (q, measured_behind source es e, o, n) refl })
        turn false o false n = inl (rw (q, measured_behind source es e, o, n) refl)

-- the same of block number k of a packet
kept_at : (sender : ℕ) (es : List Entry) (e : Entry) (k : ℕ) → k < length es → Kept (good sender es) (good sender (es ++ e ∷ [])) e k
kept_at sender es e k h =
    let same = number_front es (e ∷ []) k h in (
      λ i. record { start = start_in (same i); length = length (body_in (same i)) },
      ap body_in same,
      go (numbered es k) refl,
    )
  where
    by : (x : Entry) → numbered es k ≡ Some x → (read_among (es ++ e ∷ []) (read_alone x) ≡ read_among es (read_alone x)) ⊎ Freed es e (read_alone x) →
        (found (es ++ e ∷ []) (numbered (es ++ e ∷ []) k) ≡ found es (numbered es k)) ⊎ Lifted (good sender es) (good sender (es ++ e ∷ [])) e k
    by x n (inl same) = inl (rw (number_front es (e ∷ []) k h, n) (ap (answered x.kind) same))
    by x n (inr f) =
        inr (record {
          type = x.kind;
          block = f.block;
          source = f.source;
          needs = f.needs;
          measured_now = f.measured_now;
          was = rw n (ap (answered x.kind) f.was);
          is = rw (number_front es (e ∷ []) k h, n) (ap (answered x.kind) f.is);
        })

    go : (n : Option Entry) → numbered es k ≡ n →
        (found (es ++ e ∷ []) (numbered (es ++ e ∷ []) k) ≡ found es (numbered es k)) ⊎ Lifted (good sender es) (good sender (es ++ e ∷ [])) e k
    go None n = inl (rw (number_front es (e ∷ []) k h, n))
    go (Some x) n = by x n (kept es e (read_alone x))

pub earlier_kept : EarlierKept
earlier_kept s own type specific body sender es n k a h =
    let new = added_good s own type specific body sender es n a in
    rw (a.packet, new.packet) (kept_at sender es (entry_of type specific body (size_in s)) k h)
