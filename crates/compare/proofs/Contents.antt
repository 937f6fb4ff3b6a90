-- What is compared of the blocks of a packet: as many contents as blocks, each that of its block, and as many fields as the
-- block's type has. Assumes nothing.
use Prim.Native.Nat.{ℕ, zero, suc, ◌<◌}
use mathlib.Core.Path.{◌≡◌, refl, sym, ap, ◌∙◌}
use mathlib.Core.Logic.{◌⊎◌, inl, inr}
use mathlib.Core.Bool.{cond}
use mathlib.Core.List.{List, [], ◌∷◌}
use native.Mathlib.Omega.{arith}
use lib.Dec.{eqb}
use lib.ListN.{length, get_or}
use Rattle.block.specs.Types.{measurement_type, loss_type, discard_type, effective_type}
use Rattle.block.specs.Fields.{fields_of}
use Rattle.block.specs.declared.Block.{Block}
use Rattle.block.specs.declared.BlockRead.{BlockRead}
use Rattle.block.specs.declared.BlockRead.TheVariants.{Typed, Rle, Unknown, Dropped}
use Rattle.block.proofs.Cases.{typed_answers}
use Rattle.frame.specs.Frames.{Entry}
use Rattle.std.specs.Prelude.{Some}
use Rattle.frame.specs.Packet.{numbered}
use Rattle.packet.specs.Blocks.{read_alone, read_in}
use Rattle.packet.proofs.Judging.{own_but_unmeasured}
use Rattle.compare.specs.Differences.{bytes, content_of, contents}
use Rattle.compare.proofs.Nothing.{Sized, AllSized}
use Rattle.block.specs.declared.Reason.TheVariants.{Unmeasured}

pub contents_length : (all es : List Entry) → length (contents all es) ≡ length es
unfolding contents
contents_length all [] = refl
contents_length all (e ∷ es) = ap suc (contents_length all es)

-- block k, by its number
pub record Numbered (es : List Entry) (k : ℕ) : Type 0 where
  pub entry : Entry
  pub is : numbered es k ≡ Some entry

pub has_number : (es : List Entry) (k : ℕ) → k < length es → Numbered es k
unfolding numbered
has_number [] k l = absurd (omega arith)
has_number (e ∷ es) zero l = record { entry = e; is = refl }
has_number (e ∷ es) (suc k) l = let n = has_number es k (omega arith) in record { entry = n.entry; is = n.is }

pub number_within : (es : List Entry) (k : ℕ) (e : Entry) → numbered es k ≡ Some e → k < length es
unfolding numbered
number_within [] k e h = let z : ◌≡◌ {A = ℕ} 0 1 = cc in absurd (omega arith)
number_within (x ∷ es) zero e h = omega arith
number_within (x ∷ es) (suc k) e h = let l = number_within es k e h in omega arith

pub content_at_lem : (all es : List Entry) (k : ℕ) (e : Entry) → numbered es k ≡ Some e → get_or (contents all es) k (bytes []) ≡ content_of e (read_in all e)
unfolding contents numbered
content_at_lem all [] k e h = let z : ◌≡◌ {A = ℕ} 0 1 = cc in absurd (omega arith)
content_at_lem all (x ∷ es) zero e h = let s : x ≡ e = cc in rw s
content_at_lem all (x ∷ es) (suc k) e h = content_at_lem all es k e h

-- a block that is typed in its packet is so by itself
pub typed_alone : (all : List Entry) (e : Entry) (b : Block) → read_in all e ≡ Typed b → read_alone e ≡ Typed b
typed_alone all e b h = go (own_but_unmeasured all e)
  where
    go : (read_in all e ≡ read_alone e) ⊎ (read_in all e ≡ Dropped Unmeasured) → read_alone e ≡ Typed b
    go (inl same) = sym same ∙ h
    go (inr dropped) = let z : ◌≡◌ {A = ℕ} 0 1 = cc in absurd (omega arith)

-- how many fields a type has
abbrev pub field_count : ℕ → ℕ
field_count t = cond (eqb t measurement_type) 7 (cond (eqb t loss_type) 6 (cond (eqb t discard_type) 4 (cond (eqb t effective_type) 2 12)))

pub field_count_lem : (e : Entry) (b : Block) → read_alone e ≡ Typed b → length (fields_of b) ≡ field_count e.kind
unfolding read_alone
field_count_lem e b h =
    typed_answers e.specific e.body (λ type block. length (fields_of block) ≡ field_count type)
    (λ size. refl) (λ size good. refl) (λ size good. refl) (λ size. refl) (λ size. refl) e.kind b h

pub all_sized : (all es : List Entry) → AllSized field_count (contents all es)
unfolding contents
all_sized all [] = refl
all_sized all (e ∷ es) = (go (read_in all e) refl, all_sized all es)
  where
    go : (r : BlockRead) → read_in all e ≡ r → Sized field_count (content_of e r)
    go (Typed b) h = field_count_lem e b (typed_alone all e b h)
    go (Rle r) h = refl
    go Unknown h = refl
    go (Dropped reason) h = refl
