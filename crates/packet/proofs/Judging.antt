-- A block judged among the blocks of its packet: a case for each way through the code, and the two laws about
-- D4. Assumes nothing.
use Prim.Native.Nat.{ℕ}
use mathlib.Core.Path.{◌≡◌, refl, sym, ◌∙◌}
use mathlib.Core.Bool.{Bool, true, false, ◌||◌}
use mathlib.Core.Logic.{◌⊎◌, inl, inr}
use mathlib.Core.List.{List, [], ◌∷◌}
use native.Mathlib.Omega.{arith}
use Rattle.refusal.specs.Answer.{unless}
use Rattle.block.specs.Reading.{needs_of}
use Rattle.block.proofs.Reasons.{own_reasons}
use Rattle.block.specs.declared.Block.{Block}
use Rattle.block.specs.declared.BlockRead.{BlockRead}
use Rattle.block.specs.declared.BlockRead.TheVariants.{Typed, Rle, Unknown, Dropped}
use Rattle.frame.specs.Frames.{Entry}
use Rattle.packet.specs.Blocks.{read_alone, measures, measured, given, read_among, read_in}
use Rattle.packet.specs.Laws.{OwnButUnmeasured, Unmeasured, UnmeasuredExactly, MeasuredAnywhere}
use Rattle.std.specs.Prelude.{Option, Some, None}
use Rattle.block.specs.declared.Reason.TheVariants.{Unmeasured as Reason-as-Unmeasured}

-- the cases of `read_among`
module _ (es : List Entry) (own : BlockRead) where
  pub has_measurement : (b : Block) (source : ℕ) → own ≡ Typed b → needs_of b ≡ Some source → measured source es ≡ true → Typed b ≡ read_among es own
  has_measurement b source o n m = rw (o, n, m)

  pub lacks_measurement : (b : Block) (source : ℕ) → own ≡ Typed b → needs_of b ≡ Some source → measured source es ≡ false → Dropped Reason-as-Unmeasured ≡ read_among es own
  lacks_measurement b source o n m = rw (o, n, m)

-- In a packet a block reads as by itself, but for D4.
by_needs : (es : List Entry) (own : BlockRead) → (read_among es own ≡ own) ⊎ (read_among es own ≡ Dropped Reason-as-Unmeasured)
by_needs es (Rle r) = inl refl
by_needs es Unknown = inl refl
by_needs es (Dropped reason) = inl refl
by_needs es (Typed b) = go (needs_of b)
  where
    either : (m : Bool) → (unless m (Dropped Reason-as-Unmeasured) (Typed b) ≡ Typed b) ⊎ (unless m (Dropped Reason-as-Unmeasured) (Typed b) ≡ Dropped Reason-as-Unmeasured)
    either true = inl refl
    either false = inr refl

    go : (needs : Option ℕ) → (given es needs (Typed b) ≡ Typed b) ⊎ (given es needs (Typed b) ≡ Dropped Reason-as-Unmeasured)
    go None = inl refl
    go (Some source) = either (measured source es)

pub own_but_unmeasured : OwnButUnmeasured
own_but_unmeasured es e = by_needs es (read_alone e)

-- D4 exactly where a typed block needs a measurement of its source that stands nowhere in the packet.
unmeasured_only : (es : List Entry) (e : Entry) → read_in es e ≡ Dropped Reason-as-Unmeasured → Unmeasured es e
unfolding read_alone
unmeasured_only es e dropped = go (read_alone e) refl dropped
  where
    by_place : (b : Block) (source : ℕ) (m : Bool) → read_alone e ≡ Typed b → needs_of b ≡ Some source → measured source es ≡ m →
        unless m (Dropped Reason-as-Unmeasured) (Typed b) ≡ Dropped Reason-as-Unmeasured → Unmeasured es e
    by_place b source true t n m h = let z : ◌≡◌ {A = ℕ} 0 1 = cc in absurd (omega arith)
    by_place b source false t n m h = record { block = b; source = source; typed = t; needs = n; nowhere = m }

    by_need : (b : Block) (needs : Option ℕ) → read_alone e ≡ Typed b → needs_of b ≡ needs →
        given es needs (Typed b) ≡ Dropped Reason-as-Unmeasured → Unmeasured es e
    by_need b None t n h = let z : ◌≡◌ {A = ℕ} 0 1 = cc in absurd (omega arith)
    by_need b (Some source) t n h = by_place b source (measured source es) t n refl h

    go : (own : BlockRead) → read_alone e ≡ own → read_among es own ≡ Dropped Reason-as-Unmeasured → Unmeasured es e
    go (Typed b) t h = by_need b (needs_of b) t refl h
    go (Rle r) t h = let z : ◌≡◌ {A = ℕ} 0 1 = cc in absurd (omega arith)
    go Unknown t h = let z : ◌≡◌ {A = ℕ} 0 1 = cc in absurd (omega arith)
    go (Dropped reason) t h = absurd ((own_reasons e.kind e.specific e.body Reason-as-Unmeasured (t ∙ h)).2 refl)

pub unmeasured_exactly : UnmeasuredExactly
unmeasured_exactly es e =
    (unmeasured_only es e, λ u. sym (lacks_measurement es (read_alone e) u.block u.source u.typed u.needs u.nowhere))

or_true : (a : Bool) → (a || true) ≡ true
or_true true = refl
or_true false = refl

pub measured_anywhere : MeasuredAnywhere
unfolding measured
measured_anywhere source [] back e h = rw h
measured_anywhere source (x ∷ front) back e h = rw (measured_anywhere source front back e h) (or_true (measures source x))
