-- What a type 1 is: `RleExactly`, `D1Exactly`, `D2Exactly`, `D5Exactly` and `RleTraceLaw` of specs/Laws.antt. Assumes nothing.
use Rattle.std.proofs.Common.{◌≡◌, ℕ, ◌%◌, ◌<◌, ◌≤◌, Bool, true, false, ◌&&◌, eqb, leb, ◌⊎◌, List, length, sym, refl, ap, ◌∙◌, inl, inr, arith, eq-eqb, ne_eqb, eqb-true, le-leb, leb-true}
use native.Mathlib.Decide.{dec_le}
use borrow.Author.Tests.{lt-leb}
use Rattle.refusal.specs.Answer.{unless}
use Rattle.refusal.proofs.Tests.{and_left, and_right, both}
use Rattle.chunk.specs.Chunks.{covers}
use Rattle.chunk.specs.Laws.{Cause}
use Rattle.chunk.proofs.Covering.{covers_exactly, uncovered_exactly, trace_long, trace_bits}
use Rattle.block.specs.declared.Block.{Block}
use Rattle.block.specs.declared.LossRle.{LossRle}
use Rattle.block.specs.declared.BlockRead.{BlockRead}
use Rattle.block.specs.declared.BlockRead.TheVariants.{Typed, Rle, Dropped}
use Rattle.block.specs.Types.{rle_type, rle_head, interval_max, bad_size, bad_flag, bad_chunks}
use Rattle.block.specs.Layouts.{covered, thinning_in, interval_in, chunks_of, rle_in}
use Rattle.block.specs.Reading.{rle_sized, rle_covered, read_rle, read_block}
use Rattle.block.specs.Laws.{IsRle, RleExactly, D1Exactly, D2Exactly, SizedPlain, D5Exactly, RleTraceLaw}
use Rattle.block.proofs.Cases.{GoodRle, answers}
use Rattle.block.specs.declared.Reason.TheVariants.{BadSize, BadFlag, BadChunks}

-- a type 1 is read by its own reader
pub rle_read : (specific : ℕ) (body : List ℕ) → read_block rle_type specific body ≡ read_rle specific body
unfolding read_block
rle_read specific body = refl

-- what was read
pub rle_known : (type specific : ℕ) (body : List ℕ) (r : LossRle) → read_block type specific body ≡ Rle r → (type ≡ rle_type) × GoodRle specific body × (r ≡ rle_in body)
rle_known type specific body r =
    answers specific body (λ t a. a ≡ Rle r → (t ≡ rle_type) × GoodRle specific body × (r ≡ rle_in body))
    (λ t h. let z : ◌≡◌ {A = ℕ} 0 1 = cc in absurd (omega arith))
    (λ t reason own h. let z : ◌≡◌ {A = ℕ} 0 1 = cc in absurd (omega arith))
    (λ good h. (refl, good, cc))
    (λ s. typed _ _) (λ s g. typed _ _) (λ s g. typed _ _) (λ s. typed _ _) (λ s. typed _ _)
    type
  where
    typed : (t : ℕ) (b : Block) → Typed b ≡ Rle r → (t ≡ rle_type) × GoodRle specific body × (r ≡ rle_in body)
    typed t b h = let z : ◌≡◌ {A = ℕ} 0 1 = cc in absurd (omega arith)

-- its tests, as facts
pub rle_facts : (specific : ℕ) (body : List ℕ) → GoodRle specific body →
    (rle_head ≤ length body) × (length body % 4 ≡ 0) × (thinning_in specific ≡ 0) × (interval_in body ≤ interval_max) × (covers (interval_in body) (chunks_of body) ≡ true)
rle_facts specific body g =
    let n : ℕ = interval_in body in (
      leb-true rle_head (length body) (and_left (leb rle_head (length body)) (eqb (length body % 4) 0) g.0),
      eqb-true (length body % 4) 0 (and_right (leb rle_head (length body)) (eqb (length body % 4) 0) g.0),
      eqb-true (thinning_in specific) 0 g.1,
      leb-true n interval_max (and_left (leb n interval_max) (covers n (chunks_of body)) g.2),
      and_right (leb n interval_max) (covers n (chunks_of body)) g.2,
    )

-- a type 1 of whole words without thinning
sized_plain : (specific : ℕ) (body : List ℕ) → SizedPlain specific body → (rle_sized body ≡ true) × (eqb (thinning_in specific) 0 ≡ true)
sized_plain specific body u =
    (both (leb rle_head (length body)) (eqb (length body % 4) 0) (le-leb rle_head (length body) u.some) (eq-eqb (length body % 4) 0 u.whole), eq-eqb (thinning_in specific) 0 u.plain)

by_chunks : (specific : ℕ) (body : List ℕ) → SizedPlain specific body → read_block rle_type specific body ≡ unless (rle_covered body) (Dropped BadChunks) (Rle (rle_in body))
unfolding read_rle
by_chunks specific body u = let t = sized_plain specific body u in rle_read specific body ∙ rw (t.0, t.1)

pub rle_exactly : RleExactly
unfolding rle_in
rle_exactly type specific body r = (there, back)
  where
    there : read_block type specific body ≡ Rle r → IsRle type specific body r
    there h =
        let known = rle_known type specific body r h in
        let facts = rle_facts specific body known.1 in
        record {
          type_is = known.0;
          some = facts.0;
          whole = facts.1;
          plain = facts.2;
          in_range_lem = facts.3;
          covers = (covers_exactly (interval_in body) (chunks_of body)).0 facts.4;
          source = ap (λ (x : LossRle). x.source) known.2;
          begin = ap (λ (x : LossRle). x.begin) known.2;
          end = ap (λ (x : LossRle). x.end) known.2;
          lost_is = ap (λ (x : LossRle). x.lost) known.2;
        }

    same : IsRle type specific body r → r ≡ rle_in body
    same g = λ i. record { source = g.source i; begin = g.begin i; end = g.end i; lost = g.lost_is i }

    back : IsRle type specific body r → read_block type specific body ≡ Rle r
    back g =
        let n : ℕ = interval_in body in
        let u : SizedPlain specific body = record { some = g.some; whole = g.whole; plain = g.plain } in
        let good = both (leb n interval_max) (covers n (chunks_of body)) (le-leb n interval_max g.in_range_lem) ((covers_exactly n (chunks_of body)).1 g.covers) in
        ap (λ (t : ℕ). read_block t specific body) g.type_is ∙ by_chunks specific body u ∙ rw good (ap Rle (sym (same g)))

pub d5_exactly : D5Exactly
d5_exactly specific body u = (λ h. there (dec_le n interval_max) (covers n cs) refl (sym (by_chunks specific body u) ∙ h), λ cause. by_chunks specific body u ∙ back cause)
  where
    n : ℕ
    n = interval_in body

    cs : List ℕ
    cs = chunks_of body

    there : Dec (n ≤ interval_max) → (t : Bool) → covers n cs ≡ t → unless (rle_covered body) (Dropped BadChunks) (Rle (rle_in body)) ≡ Dropped BadChunks →
        (interval_max < n) ⊎ Cause n cs
    there (no long) t e h = inl (omega arith)
    there (yes fits) false e h = inr ((uncovered_exactly n cs).0 e)
    there (yes fits) true e h = let other : Rle (rle_in body) ≡ Dropped BadChunks = rw (le-leb n interval_max fits, e) at h in let z : ◌≡◌ {A = ℕ} 0 1 = cc in absurd (omega arith)

    back : (interval_max < n) ⊎ Cause n cs → unless (rle_covered body) (Dropped BadChunks) (Rle (rle_in body)) ≡ Dropped BadChunks
    back (inl long) = rw (lt-leb n interval_max long)
    back (inr cause) = go (leb n interval_max)
      where
        go : (t : Bool) → unless (t && covers n cs) (Dropped BadChunks) (Rle (rle_in body)) ≡ Dropped BadChunks
        go true = rw ((uncovered_exactly n cs).1 cause)
        go false = refl

pub rle_trace : RleTraceLaw
unfolding rle_in
rle_trace type specific body r h =
    let known = rle_known type specific body r h in
    let facts = rle_facts specific body known.1 in
    record {
      long = trace_long (interval_in body) (chunks_of body) facts.4 ∙ sym (ap (λ (x : LossRle). covered x.begin x.end) known.2);
      lost_is = ap (λ (x : LossRle). x.lost) known.2;
      bits = trace_bits (interval_in body) (chunks_of body);
    }

-- the reasons before: which test failed, and what that says
module _ (specific : ℕ) (body : List ℕ) where
  abbrev chain : Bool → Bool → Bool → BlockRead
  chain s t c = unless s (Dropped BadSize) (unless t (Dropped BadFlag) (unless c (Dropped BadChunks) (Rle (rle_in body))))

  chained : read_block rle_type specific body ≡ chain (rle_sized body) (eqb (thinning_in specific) 0) (rle_covered body)
  unfolding read_rle
  chained = rle_read specific body

  size_failed : (s t c : Bool) → chain s t c ≡ Dropped BadSize → s ≡ false
  size_failed false t c h = refl
  size_failed true false c h = let z : ◌≡◌ {A = ℕ} 0 1 = cc in absurd (omega arith)
  size_failed true true false h = let z : ◌≡◌ {A = ℕ} 0 1 = cc in absurd (omega arith)
  size_failed true true true h = let z : ◌≡◌ {A = ℕ} 0 1 = cc in absurd (omega arith)

  thinning_failed : (t c : Bool) → chain true t c ≡ Dropped BadFlag → t ≡ false
  thinning_failed false c h = refl
  thinning_failed true false h = let z : ◌≡◌ {A = ℕ} 0 1 = cc in absurd (omega arith)
  thinning_failed true true h = let z : ◌≡◌ {A = ℕ} 0 1 = cc in absurd (omega arith)

pub d1_exactly : D1Exactly
d1_exactly specific body = (λ h. there (size_failed specific body (rle_sized body) (eqb (thinning_in specific) 0) (rle_covered body) (sym (chained specific body) ∙ h)), λ bad. chained specific body ∙ rw (back bad))
  where
    there : rle_sized body ≡ false → (length body < rle_head) ⊎ (length body % 4 ≡ 0 → ⊥)
    there e = go (dec_le rle_head (length body))
      where
        go : Dec (rle_head ≤ length body) → (length body < rle_head) ⊎ (length body % 4 ≡ 0 → ⊥)
        go (no short) = inl (omega arith)
        go (yes some) = inr (λ whole. let both_hold : true ≡ false = rw (le-leb rle_head (length body) some, eq-eqb (length body % 4) 0 whole) at e in let z : ◌≡◌ {A = ℕ} 0 1 = cc in omega arith)

    back : (length body < rle_head) ⊎ (length body % 4 ≡ 0 → ⊥) → rle_sized body ≡ false
    back (inl short) = rw (lt-leb rle_head (length body) short)
    back (inr ragged) = rw (ne_eqb (length body % 4) 0 ragged) (go (leb rle_head (length body)))
      where
        go : (x : Bool) → (x && false) ≡ false
        go true = refl
        go false = refl

pub d2_exactly : D2Exactly
d2_exactly specific body some whole = (λ h. there (thinning_failed specific body (eqb (thinning_in specific) 0) (rle_covered body) (sym told ∙ h)), λ thin. told ∙ rw (ne_eqb (thinning_in specific) 0 thin))
  where
    sized : rle_sized body ≡ true
    sized = both (leb rle_head (length body)) (eqb (length body % 4) 0) (le-leb rle_head (length body) some) (eq-eqb (length body % 4) 0 whole)

    told : read_block rle_type specific body ≡ chain specific body true (eqb (thinning_in specific) 0) (rle_covered body)
    told = chained specific body ∙ ap (λ (s : Bool). chain specific body s (eqb (thinning_in specific) 0) (rle_covered body)) sized

    there : eqb (thinning_in specific) 0 ≡ false → thinning_in specific ≡ 0 → ⊥
    there e plain = let both_hold : true ≡ false = rw (eq-eqb (thinning_in specific) 0 plain) at e in let z : ◌≡◌ {A = ℕ} 0 1 = cc in omega arith
