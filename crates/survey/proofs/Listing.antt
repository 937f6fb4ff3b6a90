-- The cases of listing a packet, the answer and the list afterwards; and how the list goes from step to step. Assumes
-- nothing.
use Prim.Native.Nat.{ℕ, ◌+◌, ◌*◌, ◌<◌, ◌≤◌}
use mathlib.Core.Path.{◌≡◌, sym, ap, ◌∙◌}
use mathlib.Core.List.{List, [], ◌++◌}
use native.Mathlib.Omega.{arith}
use lib.ListN.{length, take, drop}
use borrow.Author.Tests.{le-leb, lt-leb}
use lib.Seq.{take_at, drop_at, drop-drop, length-take-le}
use Rattle.refusal.specs.Answer.{after}
use Rattle.refusal.specs.Table.{buffer_short}
use Rattle.refusal.specs.declared.Refusal.{Refusal}
use Rattle.sorting.specs.Order.{Sorted, Permuted}
use Rattle.frame.specs.Packet.{bad, packet_of}
use Rattle.packet.specs.Steps.{blocks_of}
use Rattle.frame.specs.declared.Extent.TheVariants.{Whole}
use Rattle.frame.proofs.Locating.{Here}
use Rattle.packet.proofs.Chosen.{blocks_are, blocks_whole}
use Rattle.verdict.proofs.Members.{later, front_long, sorted_front}
use Rattle.survey.specs.Survey.{listing, list_of, list_answer}
use Rattle.survey.specs.Packed.{packing, spread_of, Room, Marked, Settleable}
use Rattle.survey.proofs.Marking.{packing_length}
use Rattle.survey.proofs.Spreading.{spread_packing}
use Rattle.std.specs.Prelude.{Option, Ok, Err}
use Rattle.refusal.specs.Answer.{Written}

abbrev Promised : List ℕ → List ℕ → Written → List ℕ → Type 0
Promised s out answer out' = (answer ≡ list_answer (packet_of s) out) × (out' ≡ after (list_answer (packet_of s) out) (list_of (packet_of s)) out)

pub list_refused : (s out : List ℕ) (r : Refusal) → packet_of s ≡ bad r → Promised s out (Err r) out
list_refused s out r p = (rw p, rw p)

module _ (s out : List ℕ) (sender count : ℕ) (first : Option ℕ) (o : Here Whole s 0 sender count first) where
  same : o.blocks ≡ blocks_of s
  same = sym (blocks_are s sender o.blocks o.packet)

  pub list_short : length out < 2 * count → Promised s out (Err buffer_short) out
  list_short h =
      let counted = o.counted in
      let t = lt-leb (2 * length o.blocks) (length out) (omega arith) in
      (rw (o.packet, t), rw (o.packet, t))

  pub list_room : length s ≤ 262144 → 2 * count ≤ length out → Room s out count
  list_room short h = record { whole_blocks = blocks_whole s sender o.blocks o.packet; short = short; counted = o.counted ∙ ap length same; fits = h }

  pub list_done : (out' : List ℕ) → 2 * count ≤ length out → out' ≡ listing (blocks_of s) (blocks_of s) ++ drop (2 * count) out → Promised s out (Ok (2 * count)) out'
  list_done out' h e =
      let counted = o.counted in
      let t = le-leb (2 * length o.blocks) (length out) (omega arith) in
      (rw (o.packet, t, counted), e ∙ rw (o.packet, t, counted, same))

-- what stands past the packed blocks
beyond : (l p rest : List ℕ) (count : ℕ) → drop count l ≡ p ++ rest → length p ≡ count → drop (2 * count) l ≡ rest
beyond l p rest count e size =
    let twice : 2 * count ≡ count + count = omega arith in
    ap (λ (n : ℕ). drop n l) twice ∙ sym (drop-drop count count l) ∙ ap (drop count) e ∙ drop_at p rest count size

-- the sources sorted in front of the packed blocks
module _ (s old marked : List ℕ) (count k : ℕ) (room : Room s old count) (long : length marked ≡ length old) (m : Marked s old marked count k) where
  pub marked_fits : k ≤ length marked
  marked_fits = let few = m.few in let fits = room.fits in omega arith

  module _ (part : List ℕ) (sorted : Sorted part) (p : Permuted (take k marked) part) where
    size : length part ≡ k
    size = p.long ∙ length-take-le k marked marked_fits

    all : length (part ++ drop k marked) ≡ length old
    all = front_long marked part k marked_fits p ∙ long

    rest : (n : ℕ) → k ≤ n → drop n (part ++ drop k marked) ≡ drop n marked
    rest n h = later k n (part ++ drop k marked) marked h (drop_at part (drop k marked) k size)

    pub past_sorted : drop (2 * count) (part ++ drop k marked) ≡ drop (2 * count) old
    past_sorted =
        rest (2 * count) (let few = m.few in omega arith)
        ∙ beyond marked (packing [] (blocks_of s)) (drop (2 * count) old) count m.packed (packing_length [] (blocks_of s) ∙ sym room.counted)

    pub sorted_table : Settleable s (part ++ drop k marked) count k
    sorted_table =
        let few = m.few in
        let fits = room.fits in
        let same_length = all in
        record {
          room = record { whole_blocks = room.whole_blocks; short = room.short; counted = room.counted; fits = omega arith };
          few = few;
          table = sorted_front s marked part k marked_fits sorted p m.same;
          packed = rest count few ∙ m.packed ∙ ap (λ (l : List ℕ). packing [] (blocks_of s) ++ l) (sym past_sorted);
        }

-- the packed blocks spread
pub spread_all : (s old settled : List ℕ) (count : ℕ) → count ≡ length (blocks_of s) → drop count settled ≡ packing (blocks_of s) (blocks_of s) ++ drop (2 * count) old →
    spread_of (take count (drop count settled)) ++ drop (2 * count) settled ≡ listing (blocks_of s) (blocks_of s) ++ drop (2 * count) old
spread_all s old settled count counted e =
    let size = packing_length (blocks_of s) (blocks_of s) ∙ sym counted in
    rw (beyond settled (packing (blocks_of s) (blocks_of s)) (drop (2 * count) old) count e size, e, take_at (packing (blocks_of s) (blocks_of s)) (drop (2 * count) old) count size, spread_packing (blocks_of s) (blocks_of s))
