-- How many differences there can be: at most three for every eight bytes of the packet with more blocks. `RoomEnough` of
-- specs/Laws.antt. Assumes nothing.
use Prim.Native.Nat.{ℕ, suc, ◌+◌, ◌*◌, ◌≤◌}
use mathlib.Core.Path.{◌≡◌, refl}
use mathlib.Core.Bool.{Bool, true, false, cond}
use mathlib.Core.List.{List, [], ◌∷◌, ◌++◌}
use native.Mathlib.Omega.{arith}
use native.Mathlib.Decide.{dec_le}
use lib.Dec.{eqb}
use lib.ListN.{length, length-append}
use Rattle.block.specs.Fields.{fields_of}
use Rattle.block.specs.declared.Block.{Block}
use Rattle.block.specs.declared.BlockRead.{BlockRead}
use Rattle.block.specs.declared.BlockRead.TheVariants.{Typed, Rle, Unknown, Dropped}
use Rattle.block.proofs.Cases.{typed_answers}
use Rattle.frame.specs.Frames.{Entry, next_at, entry_at, first_block}
use Rattle.frame.specs.Packet.{Packet, good, bad, packet_of}
use Rattle.frame.specs.Laws.{Fill}
use Rattle.frame.proofs.Filling.{fill_up}
use Rattle.frame.proofs.Numbering.{packet_fill}
use Rattle.packet.specs.Blocks.{read_alone, read_in}
use Rattle.packet.proofs.Chosen.{body_long}
use Rattle.difference.specs.declared.Difference.{Difference}
use Rattle.difference.specs.Differences.{senders, fields, whole_block, where_unequal, fields_from}
use Rattle.compare.specs.Differences.{Content, typed, bytes, content_of, contents, same_numbers, between, only_seconds, blocks_from}
use Rattle.compare.specs.Answer.{differences_of}
use Rattle.compare.specs.Laws.{RoomEnough}
use Rattle.compare.proofs.Contents.{typed_alone}

-- the bytes of a block, its first word included, and of a list of blocks
abbrev size_in : Entry → ℕ
size_in e = 4 + length e.body

unfoldable sizes : List Entry → ℕ
sizes [] = 0
sizes (e ∷ es) = size_in e + sizes es

pub at_most_one : (a b : ℕ) (d : Difference) → length (where_unequal a b d) ≤ 1
at_most_one a b d = go (eqb a b)
  where
    go : (t : Bool) → length (cond t [] (d ∷ [])) ≤ 1
    go true = omega arith
    go false = omega arith

fields_few : (k f : ℕ) (us vs : List ℕ) → (length (fields_from k f us vs) ≤ length us) × (length (fields_from k f us vs) ≤ length vs)
unfolding fields_from
fields_few k f [] vs = (omega arith, omega arith)
fields_few k f (u ∷ us) [] = (omega arith, omega arith)
fields_few k f (u ∷ us) (v ∷ vs) =
    let one = at_most_one u v (fields k f u v) in
    let rest = fields_few k (suc f) us vs in
    let all = length-append (where_unequal u v (fields k f u v)) (fields_from k (suc f) us vs) in
    (omega arith, omega arith)

-- a content of a block of this size
abbrev Holds : ℕ → Content → Type 0
Holds size (typed t us) = 8 * length us ≤ 3 * size
Holds size (bytes us) = ◌≡◌ {A = ℕ} 0 0

typed_few : (e : Entry) (b : Block) → read_alone e ≡ Typed b → 8 * length (fields_of b) ≤ 3 * size_in e
unfolding read_alone
typed_few e b h =
    typed_answers e.specific e.body (λ type block. 8 * length (fields_of block) ≤ 3 * size_in e)
    (λ size. omega arith) (λ size good. omega arith) (λ size good. omega arith) (λ size. omega arith) (λ size. omega arith) e.kind b h

holds : (all : List Entry) (e : Entry) → Holds (size_in e) (content_of e (read_in all e))
holds all e = go (read_in all e) refl
  where
    go : (r : BlockRead) → read_in all e ≡ r → Holds (size_in e) (content_of e r)
    go (Typed b) h = typed_few e b (typed_alone all e b h)
    go (Rle r) h = refl
    go Unknown h = refl
    go (Dropped reason) h = refl

between_few : (k size size' : ℕ) (x y : Content) → 4 ≤ size → 4 ≤ size' → Holds size x → Holds size' y →
    (8 * length (between k x y) ≤ 3 * size) × (8 * length (between k x y) ≤ 3 * size')
between_few k size size' (typed t us) (typed u vs) a b p q = go (eqb t u)
  where
    go : (same : Bool) → (8 * length (cond same (fields_from k 0 us vs) (whole_block k ∷ [])) ≤ 3 * size) × (8 * length (cond same (fields_from k 0 us vs) (whole_block k ∷ [])) ≤ 3 * size')
    go true = let few = fields_few k 0 us vs in (omega arith, omega arith)
    go false = (omega arith, omega arith)
between_few k size size' (typed t us) (bytes vs) a b p q = (omega arith, omega arith)
between_few k size size' (bytes us) (typed u vs) a b p q = (omega arith, omega arith)
between_few k size size' (bytes us) (bytes vs) a b p q = go (same_numbers us vs)
  where
    go : (same : Bool) → (8 * length (cond same [] (whole_block k ∷ [])) ≤ 3 * size) × (8 * length (cond same [] (whole_block k ∷ [])) ≤ 3 * size')
    go true = (omega arith, omega arith)
    go false = (omega arith, omega arith)

seconds_few : (k : ℕ) (all es : List Entry) → 8 * length (only_seconds k (contents all es)) ≤ 3 * sizes es
unfolding contents only_seconds sizes
seconds_few k all [] = omega arith
seconds_few k all (e ∷ es) = let rest = seconds_few (suc k) all es in omega arith

-- by the packet that has more blocks
blocks_few : (k : ℕ) (all all' xs ys : List Entry) →
    (length ys ≤ length xs → 8 * length (blocks_from k (contents all xs) (contents all' ys)) ≤ 3 * sizes xs)
    × (length xs ≤ length ys → 8 * length (blocks_from k (contents all xs) (contents all' ys)) ≤ 3 * sizes ys)
unfolding contents blocks_from sizes
blocks_few k all all' [] [] = (λ h. seconds_few k all' [], λ h. seconds_few k all' [])
blocks_few k all all' [] (y ∷ ys) = (λ h. absurd (omega arith), λ h. seconds_few k all' (y ∷ ys))
blocks_few k all all' (x ∷ xs) [] = (λ h. let rest = (blocks_few (suc k) all all' xs []).0 (omega arith) in omega arith, λ h. absurd (omega arith))
blocks_few k all all' (x ∷ xs) (y ∷ ys) =
    let here = between_few k (size_in x) (size_in y) (content_of x (read_in all x)) (content_of y (read_in all' y)) (omega arith) (omega arith) (holds all x) (holds all' y) in
    let both = length-append (between k (content_of x (read_in all x)) (content_of y (read_in all' y))) (blocks_from (suc k) (contents all xs) (contents all' ys)) in
    let rest = blocks_few (suc k) all all' xs ys in
    (λ h. let r = rest.0 (omega arith) in omega arith, λ h. let r = rest.1 (omega arith) in omega arith)

-- blocks that fill a packet have as many bytes
fill_size : (s : List ℕ) (es : List Entry) (at to : ℕ) → to ≤ length s → Fill s at to es → at + sizes es ≡ to
unfolding sizes entry_at
fill_size s [] at to l f = let here : at ≡ to = f in omega arith
fill_size s (e ∷ es) at to l f =
    let up = fill_up s es (next_at s at) to f.1 in
    let rest = fill_size s es (next_at s at) to l f.1 in
    let long = body_long s at (omega arith) in
    rw f.0 (omega arith)

both_few : (s t : List ℕ) (n : ℕ) → length s ≤ n → length t ≤ n → (p q : Packet) → packet_of s ≡ p → packet_of t ≡ q → 8 * length (differences_of p q) ≤ 3 * n
both_few s t n ls lt (good a xs) (good b ys) p q = go (dec_le (length ys) (length xs))
  where
    go : Dec (length ys ≤ length xs) → 8 * length (where_unequal a b (senders a b) ++ blocks_from 0 (contents xs xs) (contents ys ys)) ≤ 3 * n
    go d =
        let fs = fill_size s xs first_block (length s) (omega arith) (packet_fill s a xs p) in
        let ft = fill_size t ys first_block (length t) (omega arith) (packet_fill t b ys q) in
        let one = at_most_one a b (senders a b) in
        let all = length-append (where_unequal a b (senders a b)) (blocks_from 0 (contents xs xs) (contents ys ys)) in
        pick d fs ft one all
      where
        pick : Dec (length ys ≤ length xs) → 8 + sizes xs ≡ length s → 8 + sizes ys ≡ length t → length (where_unequal a b (senders a b)) ≤ 1 →
            length (where_unequal a b (senders a b) ++ blocks_from 0 (contents xs xs) (contents ys ys)) ≡ length (where_unequal a b (senders a b)) + length (blocks_from 0 (contents xs xs) (contents ys ys)) →
            8 * length (where_unequal a b (senders a b) ++ blocks_from 0 (contents xs xs) (contents ys ys)) ≤ 3 * n
        pick (yes h) fs ft one all = let few = (blocks_few 0 xs ys xs ys).0 h in omega arith
        pick (no h) fs ft one all = let few = (blocks_few 0 xs ys xs ys).1 (omega arith) in omega arith
both_few s t n ls lt (good a xs) (bad r) p q = omega arith
both_few s t n ls lt (bad r) q e f = omega arith

pub room_enough : RoomEnough
room_enough s t n ls lt = both_few s t n ls lt (packet_of s) (packet_of t) refl refl
