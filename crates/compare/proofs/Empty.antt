-- No entry exactly where nothing differs; so none of a packet with itself, and none where reserved bits of typed blocks alone
-- differ; and the entries turned round. Laws of specs/Laws.antt. Assumes nothing.
use Prim.Native.Nat.{ℕ, zero, suc, ◌<◌}
use mathlib.Core.Path.{◌≡◌, refl, sym, ap, ap₂, ◌∙◌}
use mathlib.Core.Logic.{inl, inr}
use mathlib.Core.List.{List, [], ◌∷◌, ◌++◌, map-append}
use native.Mathlib.Omega.{arith}
use lib.ListN.{length, get_or}
use Rattle.block.specs.declared.LossRle.{LossRle}
use Rattle.block.specs.declared.Block.{Block}
use Rattle.block.specs.declared.BlockRead.{BlockRead}
use Rattle.block.specs.declared.BlockRead.TheVariants.{Typed, Rle, Unknown, Dropped}
use Rattle.frame.specs.Frames.{Entry}
use Rattle.std.specs.Prelude.{Some}
use Rattle.block.specs.declared.Reason.{Reason}
use Rattle.frame.specs.Packet.{good, bad, numbered}
use Rattle.packet.specs.Blocks.{read_in}
use Rattle.packet.specs.Reserved.{cleared, cleared_all}
use Rattle.packet.proofs.Reserved.{clear_read, clear_length}
use Rattle.difference.specs.declared.Difference.{Difference}
use Rattle.difference.specs.Differences.{senders, where_unequal}
use Rattle.compare.specs.Differences.{Content, typed, bytes, content_of, contents, blocks_from}
use Rattle.compare.specs.Laws.{Alike, NothingDiffers, EmptyExactly, SelfEmpty, TypedReserved, ReservedEmpty, turned, Turned}
use Rattle.compare.proofs.Nothing.{append_empty, unequal_none, equal_none, blocks_none, blocks_self}
use Rattle.compare.proofs.Turning.{unequal_turned, blocks_turned}
use Rattle.compare.proofs.Contents.{contents_length, has_number, content_at_lem, field_count, all_sized}

-- two contents are the same exactly where their blocks are alike
alike : (xs ys : List Entry) (x y : Entry) → content_of x (read_in xs x) ≡ content_of y (read_in ys y) → Alike xs ys x y
alike xs ys x y = go (read_in xs x) (read_in ys y) refl refl
  where
    same_bytes : (r s : BlockRead) → read_in xs x ≡ r → read_in ys y ≡ s → ((b : Block) → r ≡ Typed b → ⊥) → ((b : Block) → s ≡ Typed b → ⊥) →
        x.kind ∷ x.specific ∷ x.body ≡ y.kind ∷ y.specific ∷ y.body → Alike xs ys x y
    same_bytes r s p q m n h =
        inr (record { first_untyped = λ b e. m b (sym p ∙ e); second_untyped = λ b e. n b (sym q ∙ e); type = cc; specific = cc; body = cc })

    inner : (us vs : List ℕ) → bytes us ≡ bytes vs → us ≡ vs
    inner us vs h = cc

    not_rle : (t : LossRle) (b : Block) → Rle t ≡ Typed b → ⊥
    not_rle t b e = let z : ◌≡◌ {A = ℕ} 0 1 = cc in omega arith

    not_unknown : (b : Block) → Unknown ≡ Typed b → ⊥
    not_unknown b e = let z : ◌≡◌ {A = ℕ} 0 1 = cc in omega arith

    not_dropped : (reason : Reason) (b : Block) → Dropped reason ≡ Typed b → ⊥
    not_dropped reason b e = let z : ◌≡◌ {A = ℕ} 0 1 = cc in omega arith

    from_bytes : (r s : BlockRead) → read_in xs x ≡ r → read_in ys y ≡ s → ((b : Block) → r ≡ Typed b → ⊥) →
        bytes (x.kind ∷ x.specific ∷ x.body) ≡ content_of y s → Alike xs ys x y
    from_bytes r (Typed c) p q m h = let z : ◌≡◌ {A = ℕ} 0 1 = cc in absurd (omega arith)
    from_bytes r (Rle t) p q m h = same_bytes r (Rle t) p q m (not_rle t) (inner _ _ h)
    from_bytes r Unknown p q m h = same_bytes r Unknown p q m not_unknown (inner _ _ h)
    from_bytes r (Dropped t) p q m h = same_bytes r (Dropped t) p q m (not_dropped t) (inner _ _ h)

    go : (r s : BlockRead) → read_in xs x ≡ r → read_in ys y ≡ s → content_of x r ≡ content_of y s → Alike xs ys x y
    go (Typed b) (Typed c) p q h = inl (record { first = b; second = c; reads_first = p; reads_second = q; type = cc; fields_same = cc })
    go (Typed b) (Rle t) p q h = let z : ◌≡◌ {A = ℕ} 0 1 = cc in absurd (omega arith)
    go (Typed b) Unknown p q h = let z : ◌≡◌ {A = ℕ} 0 1 = cc in absurd (omega arith)
    go (Typed b) (Dropped t) p q h = let z : ◌≡◌ {A = ℕ} 0 1 = cc in absurd (omega arith)
    go (Rle r) s p q h = from_bytes (Rle r) s p q (not_rle r) h
    go Unknown s p q h = from_bytes Unknown s p q not_unknown h
    go (Dropped r) s p q h = from_bytes (Dropped r) s p q (not_dropped r) h

untyped_bytes : (xs : List Entry) (x : Entry) → ((b : Block) → read_in xs x ≡ Typed b → ⊥) → content_of x (read_in xs x) ≡ bytes (x.kind ∷ x.specific ∷ x.body)
untyped_bytes xs x n = go (read_in xs x) refl
  where
    go : (r : BlockRead) → read_in xs x ≡ r → content_of x r ≡ bytes (x.kind ∷ x.specific ∷ x.body)
    go (Typed b) h = absurd (n b h)
    go (Rle r) h = refl
    go Unknown h = refl
    go (Dropped reason) h = refl

alike_same : (xs ys : List Entry) (x y : Entry) → Alike xs ys x y → content_of x (read_in xs x) ≡ content_of y (read_in ys y)
alike_same xs ys x y (inl f) = rw (f.reads_first, f.reads_second) (ap₂ typed f.type f.fields_same)
alike_same xs ys x y (inr b) =
    untyped_bytes xs x b.first_untyped ∙ ap bytes (rw (b.type, b.specific, b.body)) ∙ sym (untyped_bytes ys y b.second_untyped)

-- lists of contents are the same where each content is
by_content : (xs ys : List Content) → length xs ≡ length ys → ((k : ℕ) → k < length xs → get_or xs k (bytes []) ≡ get_or ys k (bytes [])) → xs ≡ ys
by_content [] [] l h = refl
by_content [] (y ∷ ys) l h = absurd (omega arith)
by_content (x ∷ xs) [] l h = absurd (omega arith)
by_content (x ∷ xs) (y ∷ ys) l h =
    ap₂ (λ (c : Content) (cs : List Content). c ∷ cs) (h 0 (omega arith)) (by_content xs ys (omega arith) (λ k i. h (suc k) (omega arith)))

nothing : (a : ℕ) (xs : List Entry) (b : ℕ) (ys : List Entry) → NothingDiffers a xs b ys → (a ≡ b) × (contents xs xs ≡ contents ys ys)
nothing a xs b ys n =
    (n.sender, by_content (contents xs xs) (contents ys ys) (contents_length xs xs ∙ n.count ∙ sym (contents_length ys ys)) each)
  where
    each : (k : ℕ) → k < length (contents xs xs) → get_or (contents xs xs) k (bytes []) ≡ get_or (contents ys ys) k (bytes [])
    each k l =
        let x = has_number xs k (omega (arith, contents_length xs xs)) in
        let y = has_number ys k (omega (arith, contents_length xs xs, n.count)) in
        content_at_lem xs xs k x.entry x.is ∙ alike_same xs ys x.entry y.entry (n.blocks k x.entry y.entry x.is y.is)
        ∙ sym (content_at_lem ys ys k y.entry y.is)

pub empty_exactly : EmptyExactly
empty_exactly a xs b ys = (only, back)
  where
    back : NothingDiffers a xs b ys → where_unequal a b (senders a b) ++ blocks_from 0 (contents xs xs) (contents ys ys) ≡ []
    back n = let s = nothing a xs b ys n in rw (equal_none a b (senders a b) s.0, ← s.1, blocks_self 0 (contents xs xs))

    only : where_unequal a b (senders a b) ++ blocks_from 0 (contents xs xs) (contents ys ys) ≡ [] → NothingDiffers a xs b ys
    only h =
        let e = append_empty (where_unequal a b (senders a b)) (blocks_from 0 (contents xs xs) (contents ys ys)) h in
        let same = blocks_none field_count 0 (contents xs xs) (contents ys ys) (all_sized xs xs) (all_sized ys ys) e.1 in
        record {
          sender = unequal_none a b (senders a b) e.0;
          count = sym (contents_length xs xs) ∙ ap length same ∙ contents_length ys ys;
          blocks = λ k x y p q. alike xs ys x y (sym (content_at_lem xs xs k x p) ∙ ap (λ (c : List Content). get_or c k (bytes [])) same ∙ content_at_lem ys ys k y q);
        }

pub self_empty : SelfEmpty
self_empty (good a xs) = rw (equal_none a a (senders a a) refl, blocks_self 0 (contents xs xs))
self_empty (bad r) = refl

cleared_number : (es : List Entry) (k : ℕ) (e : Entry) → numbered es k ≡ Some e → numbered (cleared_all es) k ≡ Some (cleared e)
unfolding numbered cleared_all
cleared_number [] k e h = let z : ◌≡◌ {A = ℕ} 0 1 = cc in absurd (omega arith)
cleared_number (x ∷ es) zero e h = let s : x ≡ e = cc in rw s
cleared_number (x ∷ es) (suc k) e h = cleared_number es k e h

reserved_nothing : (a : ℕ) (xs ys : List Entry) → TypedReserved xs ys → NothingDiffers a xs a ys
reserved_nothing a xs ys r =
    record { sender = refl; count = sym (clear_length xs) ∙ ap length r.cleared ∙ clear_length ys; blocks = pair }
  where
    pair : (k : ℕ) (x y : Entry) → numbered xs k ≡ Some x → numbered ys k ≡ Some y → Alike xs ys x y
    pair k x y p q = go (read_in xs x) refl
      where
        both : Some (cleared x) ≡ Some (cleared y)
        both = sym (cleared_number xs k x p) ∙ ap (λ (es : List Entry). numbered es k) r.cleared ∙ cleared_number ys k y q

        equal : cleared x ≡ cleared y
        equal = let b = both in cc

        type : x.kind ≡ y.kind
        type = ap (λ (c : Entry). c.kind) equal

        read : read_in xs x ≡ read_in ys y
        read = sym (clear_read xs x) ∙ ap₂ (λ (es : List Entry) (c : Entry). read_in es c) r.cleared equal ∙ clear_read ys y

        other : (s : BlockRead) → read_in xs x ≡ s → ((b : Block) → s ≡ Typed b → ⊥) → Alike xs ys x y
        other s h n =
            let keep = r.others k x y p q (λ b e. n b (sym h ∙ e)) in
            inr (record { first_untyped = λ b e. n b (sym h ∙ e); second_untyped = λ b e. n b (sym h ∙ read ∙ e); type = type; specific = keep.0; body = keep.1 })

        go : (s : BlockRead) → read_in xs x ≡ s → Alike xs ys x y
        go (Typed b) h = inl (record { first = b; second = b; reads_first = h; reads_second = sym read ∙ h; type = type; fields_same = refl })
        go (Rle t) h = other (Rle t) h (λ b e. let z : ◌≡◌ {A = ℕ} 0 1 = cc in omega arith)
        go Unknown h = other Unknown h (λ b e. let z : ◌≡◌ {A = ℕ} 0 1 = cc in omega arith)
        go (Dropped reason) h = other (Dropped reason) h (λ b e. let z : ◌≡◌ {A = ℕ} 0 1 = cc in omega arith)

pub reserved_empty : ReservedEmpty
reserved_empty a xs ys r = (empty_exactly a xs a ys).1 (reserved_nothing a xs ys r)

pub turned_round : Turned
turned_round (good a xs) (good b ys) =
    ap₂ (λ (c d : List Difference). c ++ d) (unequal_turned a b (senders a b)) (blocks_turned 0 (contents xs xs) (contents ys ys))
    ∙ sym (map-append turned (where_unequal a b (senders a b)) (blocks_from 0 (contents xs xs) (contents ys ys)))
turned_round (good a xs) (bad r) = refl
turned_round (bad r) (good b ys) = refl
turned_round (bad r) (bad t) = refl
