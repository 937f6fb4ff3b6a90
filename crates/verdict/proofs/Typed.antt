-- Whether a block is typed, from a table of the measured sources: the cases of its verdict alone, and that with the
-- sources of a packet's blocks it is the block read among them. Assumes nothing.
use Prim.Native.Nat.{ℕ, ◌≤◌}
use mathlib.Core.Path.{◌≡◌, refl, sym, ap, ◌∙◌}
use mathlib.Core.Bool.{Bool, true, false}
use mathlib.Core.List.{List, []}
use native.Mathlib.Omega.{arith}
use lib.Dec.{leb}
use lib.ListN.{length, get_or, drop, length-drop}
use lib.Seq.{get_or-drop}
use Rattle.refusal.specs.Answer.{unless}
use Rattle.wire.specs.BigEndian.{be16, be32, u32_at}
use Rattle.wire.proofs.Numbers.{u32_inside}
use Rattle.block.specs.Types.{unmeasured}
use Rattle.block.specs.Reading.{needs_of, read_block, read_bytes}
use Rattle.block.specs.Laws.{OwnReason}
use Rattle.block.proofs.Reasons.{own_reasons}
use Rattle.block.specs.declared.Block.{Block}
use Rattle.block.specs.declared.BlockRead.{BlockRead}
use Rattle.block.specs.declared.BlockRead.TheVariants.{Typed, Rle, Unknown, Dropped}
use Rattle.frame.specs.Frames.{Entry}
use Rattle.packet.specs.Blocks.{read_alone, measured, given, read_among, read_in}
use Rattle.verdict.specs.Verdict.{verdict_of, is_typed}
use Rattle.verdict.specs.Sources.{member, met_by, typed_by}
use Rattle.verdict.proofs.Verdict.{needs_source, unmeasured_so}
use Rattle.std.specs.Prelude.{Option, Some, None}
use Rattle.block.specs.declared.Reason.{Reason}
use Rattle.block.specs.declared.Reason.TheVariants.{Unmeasured}

-- with the sources that the blocks es measure, a block is typed where it is typed among them
pub typed_among : (es : List Entry) (table : List ℕ) → ((x : ℕ) → member x table ≡ measured x es) → (own : BlockRead) →
    typed_by table own ≡ is_typed (read_among es own)
typed_among es table same (Typed b) = by_need (needs_of b)
  where
    by_measured : (m : Bool) → m ≡ is_typed (unless m (Dropped Unmeasured) (Typed b))
    by_measured true = refl
    by_measured false = refl

    by_need : (needs : Option ℕ) → met_by table needs ≡ is_typed (given es needs (Typed b))
    by_need None = refl
    by_need (Some source) = same source ∙ by_measured (measured source es)
typed_among es table same (Rle r) = refl
typed_among es table same Unknown = refl
typed_among es table same (Dropped reason) = refl

pub typed_in : (es : List Entry) (table : List ℕ) → ((x : ℕ) → member x table ≡ measured x es) → (e : Entry) →
    typed_by table (read_alone e) ≡ is_typed (read_in es e)
typed_in es table same e = typed_among es table same (read_alone e)

-- the verdict where nothing is measured
abbrev alone : BlockRead → ℕ
alone own = verdict_of (read_among [] own)

module _ (bytes : List ℕ) where
  -- a block by its own bytes is never dropped with D4
  reasons : (reason : Reason) → read_bytes bytes ≡ Dropped reason → OwnReason reason
  unfolding read_bytes
  reasons reason = go (leb 4 (length bytes))
    where
      go : (t : Bool) → unless t Unknown (read_block (get_or bytes 0 0) (get_or bytes 1 0) (drop 4 bytes)) ≡ Dropped reason → OwnReason reason
      go true h = own_reasons (get_or bytes 0 0) (get_or bytes 1 0) (drop 4 bytes) reason h
      go false h = let z : ◌≡◌ {A = ℕ} 0 1 = cc in absurd (omega arith)

  -- the source that it waits for stands behind its first word
  body_source : 4 ≤ length (drop 4 bytes) → be32 (drop 4 bytes) 0 ≡ u32_at bytes 4
  unfolding be32 be16
  body_source h =
      rw (get_or-drop 4 bytes 0 0, get_or-drop 4 bytes 1 0, get_or-drop 4 bytes 2 0, get_or-drop 4 bytes 3 0)
      (sym (u32_inside bytes 4 (omega (arith, length-drop 4 bytes))))

  source_is : (b : Block) (source : ℕ) → read_bytes bytes ≡ Typed b → needs_of b ≡ Some source → source ≡ u32_at bytes 4
  unfolding read_bytes
  source_is b source = go (leb 4 (length bytes))
    where
      go : (t : Bool) → unless t Unknown (read_block (get_or bytes 0 0) (get_or bytes 1 0) (drop 4 bytes)) ≡ Typed b →
          needs_of b ≡ Some source → source ≡ u32_at bytes 4
      go true h n =
          let is = needs_source (get_or bytes 0 0) (get_or bytes 1 0) (drop 4 bytes) b source h n in
          is.0 ∙ body_source is.1
      go false h n = let z : ◌≡◌ {A = ℕ} 0 1 = cc in absurd (omega arith)

  module _ (table : List ℕ) where
    -- the cases of the verdict alone: typed, waiting for a measurement, anything else
    pub typed_now : alone (read_bytes bytes) ≡ 0 → true ≡ typed_by table (read_bytes bytes)
    unfolding measured
    typed_now = go (read_bytes bytes) refl
      where
        by_need : (b : Block) (needs : Option ℕ) → verdict_of (given [] needs (Typed b)) ≡ 0 → true ≡ met_by table needs
        by_need b None h = refl
        by_need b (Some source) h = absurd (omega arith)

        go : (own : BlockRead) → read_bytes bytes ≡ own → alone own ≡ 0 → true ≡ typed_by table own
        go (Typed b) o h = by_need b (needs_of b) h
        go (Rle r) o h = absurd (omega arith)
        go Unknown o h = absurd (omega arith)
        go (Dropped reason) o h = let few = reasons reason o in absurd (omega arith)

    pub typed_measured : alone (read_bytes bytes) ≡ unmeasured → member (u32_at bytes 4) table ≡ typed_by table (read_bytes bytes)
    typed_measured = go (read_bytes bytes) refl
      where
        by_need : (b : Block) (needs : Option ℕ) → read_bytes bytes ≡ Typed b → needs_of b ≡ needs →
            verdict_of (given [] needs (Typed b)) ≡ unmeasured → member (u32_at bytes 4) table ≡ met_by table needs
        by_need b None o n h = absurd (omega arith)
        by_need b (Some source) o n h = ap (λ (x : ℕ). member x table) (sym (source_is b source o n))

        go : (own : BlockRead) → read_bytes bytes ≡ own → alone own ≡ unmeasured → member (u32_at bytes 4) table ≡ typed_by table own
        go (Typed b) o h = by_need b (needs_of b) o refl h
        go (Rle r) o h = absurd (omega arith)
        go Unknown o h = absurd (omega arith)
        go (Dropped reason) o h = absurd ((reasons reason o).2 (unmeasured_so reason h))

    pub typed_never : (alone (read_bytes bytes) ≡ 0 → ⊥) → (alone (read_bytes bytes) ≡ unmeasured → ⊥) →
        false ≡ typed_by table (read_bytes bytes)
    unfolding measured
    typed_never = go (read_bytes bytes)
      where
        by_need : (b : Block) (needs : Option ℕ) → (verdict_of (given [] needs (Typed b)) ≡ 0 → ⊥) →
            (verdict_of (given [] needs (Typed b)) ≡ unmeasured → ⊥) → false ≡ met_by table needs
        by_need b None z w = absurd (z refl)
        by_need b (Some source) z w = absurd (w refl)

        go : (own : BlockRead) → (alone own ≡ 0 → ⊥) → (alone own ≡ unmeasured → ⊥) → false ≡ typed_by table own
        go (Typed b) z w = by_need b (needs_of b) z w
        go (Rle r) z w = refl
        go Unknown z w = refl
        go (Dropped reason) z w = refl
