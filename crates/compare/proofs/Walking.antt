-- The walk over both packets, as plain lists and numbers: its invariant, start, turn and end. Assumes nothing.
use Prim.Native.Nat.{ℕ, suc, ◌+◌, ◌*◌, ◌<◌, ◌≤◌}
use mathlib.Core.Path.{◌≡◌, refl, sym, ap, ap₂, ◌∙◌}
use mathlib.Core.Logic.{◌⊎◌, inl, inr}
use mathlib.Core.Bool.{Bool, true, false, ◌||◌}
use mathlib.Core.List.{List, [], ◌∷◌, ◌++◌, append-nil, append_assoc}
use native.Mathlib.Omega.{arith}
use native.Mathlib.Decide.{dec_lt}
use native.Mathlib.Numerals.{add-one}
use borrow.Author.Tests.{ltb-true, ltb-false}
use lib.Dec.{ltb}
use lib.ListN.{length, get_or, drop, length-append}
use lib.Seq.{get_or-take, get_or-drop}
use Rattle.wire.specs.BigEndian.{be16, u16_at, u32_at}
use Rattle.wire.proofs.Numbers.{u16_inside, u32_inside}
use Rattle.block.specs.declared.BlockRead.{BlockRead}
use Rattle.block.specs.declared.BlockRead.TheVariants.{Typed, Rle, Unknown, Dropped}
use Rattle.frame.specs.Frames.{Entry, whole, body_length, next_at, entry_at, block_at, frames_in, first_block}
use Rattle.frame.specs.Packet.{good, packet_of}
use Rattle.frame.proofs.Stepping.{first_of, at_end}
use Rattle.frame.proofs.Blocks.{no_block, one_block, block_bytes_lem, block_next}
use Rattle.frame.specs.declared.Extent.TheVariants.{Whole as Extent-as-Whole}
use Rattle.frame.proofs.FirstBytes.{head_facts}
use Rattle.frame.proofs.Filling.{packet_exactly}
use Rattle.frame.proofs.Numbering.{packet_frames}
use Rattle.packet.specs.Blocks.{measured, read_in}
use Rattle.packet.proofs.Measuring.{read_at}
use Rattle.verdict.specs.Verdict.{is_typed}
use Rattle.verdict.specs.Sources.{member, typed_by}
use Rattle.verdict.proofs.Typed.{typed_in}
use Rattle.difference.specs.declared.Difference.{Difference}
use Rattle.difference.specs.Differences.{senders, where_unequal, only_first, only_second}
use Rattle.difference.specs.Numbers.{Adds}
use Rattle.difference.proofs.Writing.{adds_none, adds_both}
use Rattle.difference.proofs.Places.{fields_are}
use Rattle.compare.specs.Differences.{typed, bytes, content_of, contents, between, only_seconds, blocks_from}
use Rattle.compare.specs.Answer.{differences_of}
use Rattle.compare.specs.Steps.{Whole, Blocks, content_by, content_in, block_differences, Ready}
use Rattle.compare.proofs.Contents.{typed_alone}
use Rattle.compare.proofs.Pairing.{none_second, none_first, in_both}
use Rattle.compare.proofs.Room.{at_most_one, room_enough}

-- a block in its packet, by its bytes
module _ (s : List ℕ) (at : ℕ) (fits : next_at s at ≤ length s) where
  pub block_whole : Whole (block_at s at)
  unfolding be16
  block_whole =
      let long = (block_bytes_lem s at fits).long in
      record { some = omega arith; size = long ∙ ap (λ (n : ℕ). 4 + 4 * n) (sym half) }
    where
      size : ℕ
      size = 4 + body_length s at

      byte : (i j : ℕ) → i < size → at + i ≡ j → get_or (block_at s at) i 0 ≡ get_or s j 0
      byte i j l e =
          ap (λ (b : List ℕ). get_or b i 0) (one_block s at fits).0 ∙ get_or-take size (drop at s) i 0 l ∙ get_or-drop at s i 0 ∙ ap (λ (n : ℕ). get_or s n 0) e

      half : u16_at (block_at s at) 2 ≡ u16_at s (at + 2)
      half =
          let long = (block_bytes_lem s at fits).long in
          u16_inside (block_at s at) 2 (omega arith)
          ∙ ap₂ (λ (a b : ℕ). a * 256 + b) (byte 2 (at + 2) (omega arith) refl) (byte 3 (at + 2 + 1) (omega arith) (omega arith))
          ∙ sym (u16_inside s (at + 2) (omega arith))

  pub content_is : (es : List Entry) (table : List ℕ) → ((x : ℕ) → member x table ≡ measured x es) → content_in table (block_at s at) ≡ content_of (entry_at s at) (read_in es (entry_at s at))
  content_is es table same =
      ap (λ (t : Bool). content_by t (block_at s at)) (ap (typed_by table) (read_at s at fits) ∙ typed_in es table same (entry_at s at)) ∙ go (read_in es (entry_at s at)) refl
    where
      go : (r : BlockRead) → read_in es (entry_at s at) ≡ r → content_by (is_typed r) (block_at s at) ≡ content_of (entry_at s at) r
      go (Typed b) h =
          ap₂ typed (block_bytes_lem s at fits).kind (fields_are (block_at s at) b (read_at s at fits ∙ typed_alone es (entry_at s at) b h))
      go (Rle c) h = let b = block_bytes_lem s at fits in ap bytes (rw (b.kind, b.specific, b.body))
      go Unknown h = let b = block_bytes_lem s at fits in ap bytes (rw (b.kind, b.specific, b.body))
      go (Dropped reason) h = let b = block_bytes_lem s at fits in ap bytes (rw (b.kind, b.specific, b.body))

-- past the end no block stands
pub none_past : (s : List ℕ) (at : ℕ) → length s ≤ at → block_at s at ≡ []
none_past s at h = (no_block s at (omega arith)).0

-- the blocks of both packets, and those of them that are differences
abbrev pub all_blocks : (s t table other : List ℕ) → Ready s t table other → List Difference
all_blocks s t table other r = blocks_from 0 (contents r.blocks r.blocks) (contents r.other_blocks r.other_blocks)

-- The walk stands at block k, before it m differences were listed and now n.
pub record Walk (s t table other : List ℕ) (r : Ready s t table other) (old out : List ℕ) (m at bt k n : ℕ) : Type 0 where
  pub left : List Entry
  pub other_left : List Entry
  pub done : List Difference
  pub frames : frames_in s at (length s) ≡ whole left
  pub other_frames : frames_in t bt (length t) ≡ whole other_left
  pub rest : all_blocks s t table other r ≡ done ++ blocks_from k (contents r.blocks left) (contents r.other_blocks other_left)
  pub adds : Adds done old out m n
  pub one : m ≤ 1
  pub inside : at ≤ length s
  pub other_inside : bt ≤ length t
  pub steps : 16 + 4 * k ≤ at + bt

-- the sender stands in a packet's second word
pub sender_is : (s : List ℕ) (sender : ℕ) (es : List Entry) → packet_of s ≡ good sender es → (u32_at s 4 ≡ sender) × (first_block ≤ length s)
sender_is s sender es p =
    let m = (packet_exactly Extent-as-Whole s sender es).0 p in
    let f = head_facts Extent-as-Whole s sender m.size m.header in
    let room = f.room in
    (u32_inside s 4 (omega arith) ∙ f.from, f.room)

module _ (s t table other : List ℕ) (r : Ready s t table other) (old : List ℕ) (m : ℕ) where
  pub walk_start : (entry : List ℕ) → Adds (where_unequal (u32_at s 4) (u32_at t 4) (senders (u32_at s 4) (u32_at t 4))) entry old 0 m → Walk s t table other r old old m first_block first_block 0 m
  walk_start entry a =
      let few = at_most_one (u32_at s 4) (u32_at t 4) (senders (u32_at s 4) (u32_at t 4)) in
      let count = a.count in
      record {
        left = r.blocks;
        other_left = r.other_blocks;
        done = [];
        frames = packet_frames s r.sender r.blocks r.packet;
        other_frames = packet_frames t r.other_sender r.other_blocks r.other_packet;
        rest = refl;
        adds = adds_none old m;
        one = omega arith;
        inside = (sender_is s r.sender r.blocks r.packet).1;
        other_inside = (sender_is t r.other_sender r.other_blocks r.other_packet).1;
        steps = omega arith;
      }

  -- all that is listed, the senders first
  pub walk_all : (entry out : List ℕ) (n : ℕ) → Adds (where_unequal (u32_at s 4) (u32_at t 4) (senders (u32_at s 4) (u32_at t 4))) entry old 0 m →
      Adds (all_blocks s t table other r) old out m n → Adds (differences_of (packet_of s) (packet_of t)) entry out 0 n
  walk_all entry out n a b =
      let first = (sender_is s r.sender r.blocks r.packet).0 in
      let second = (sender_is t r.other_sender r.other_blocks r.other_packet).0 in
      let both = adds_both (where_unequal (u32_at s 4) (u32_at t 4) (senders (u32_at s 4) (u32_at t 4))) (all_blocks s t table other r) entry old out 0 m n a b in
      rw (r.packet, r.other_packet, ← first, ← second) both

  module _ (out : List ℕ) (at bt k n : ℕ) (w : Walk s t table other r old out m at bt k n) where
    -- the count stays small
    pub walk_few : n ≤ 98305
    walk_few =
        let most = room_enough s t 262144 r.short r.other_short in
        let all = ap length w.rest ∙ length-append w.done (blocks_from k (contents r.blocks w.left) (contents r.other_blocks w.other_left)) in
        let listed : length (differences_of (packet_of s) (packet_of t)) ≡ length (where_unequal r.sender r.other_sender (senders r.sender r.other_sender)) + length (all_blocks s t table other r) =
        rw (r.packet, r.other_packet) (length-append (where_unequal r.sender r.other_sender (senders r.sender r.other_sender)) (all_blocks s t table other r)) in
        let count = w.adds.count in
        let one = w.one in
        omega arith

    pub walk_steps : k ≤ 131072
    walk_steps =
        let steps = w.steps in
        let a = w.inside in
        let b = w.other_inside in
        let c = r.short in
        let d = r.other_short in
        omega arith

    pub walk_fits : at < length s → next_at s at ≤ length s
    walk_fits h = (first_of s at (length s) w.left h w.frames).fits

    pub walk_other_fits : bt < length t → next_at t bt ≤ length t
    walk_other_fits h = (first_of t bt (length t) w.other_left h w.other_frames).fits

    nothing_left : length s ≤ at → w.left ≡ []
    nothing_left h = let none : whole w.left ≡ whole [] = sym w.frames ∙ at_end s at (length s) h in cc

    nothing_other : length t ≤ bt → w.other_left ≡ []
    nothing_other h = let none : whole w.other_left ≡ whole [] = sym w.other_frames ∙ at_end t bt (length t) h in cc

    pub walk_end : length s ≤ at → length t ≤ bt → Adds (all_blocks s t table other r) old out m n
    unfolding contents blocks_from only_seconds
    walk_end ha hb =
        let all : all_blocks s t table other r ≡ w.done =
        w.rest ∙ ap₂ (λ (a b : List Entry). w.done ++ blocks_from k (contents r.blocks a) (contents r.other_blocks b)) (nothing_left ha) (nothing_other hb) ∙ append-nil w.done in
        rw all w.adds

    module _ (x y : List ℕ) (is : x ≡ block_at s at) (other-is : y ≡ block_at t bt) (o : ℕ) (new : List ℕ) (a : Adds (block_differences k table other x y) out new n o) where
      -- a turn, from what the block comes to and what is left then
      turned : (left left' : List Entry) (ds : List Difference) → block_differences k table other x y ≡ ds →
          blocks_from k (contents r.blocks w.left) (contents r.other_blocks w.other_left) ≡ ds ++ blocks_from (suc k) (contents r.blocks left) (contents r.other_blocks left') →
          frames_in s (at + length x) (length s) ≡ whole left → frames_in t (bt + length y) (length t) ≡ whole left' →
          at + length x ≤ length s → bt + length y ≤ length t → 4 ≤ length x + length y →
          Walk s t table other r old new m (at + length x) (bt + length y) (k + 1) o
      turned left left' ds d e f g h i j =
          let steps = w.steps in
          record {
            left = left;
            other_left = left';
            done = w.done ++ ds;
            frames = f;
            other_frames = g;
            rest =
                w.rest ∙ ap (λ (l : List Difference). w.done ++ l) e
                ∙ sym (append_assoc w.done ds (blocks_from (suc k) (contents r.blocks left) (contents r.other_blocks left')))
                ∙ ap (λ (j : ℕ). w.done ++ ds ++ blocks_from j (contents r.blocks left) (contents r.other_blocks left')) (sym (add-one k));
            adds = rw d at (adds_both w.done (block_differences k table other x y) old out new m n o w.adds a);
            one = w.one;
            inside = h;
            other_inside = i;
            steps = omega arith;
          }

      pub walk_both : at < length s → bt < length t → Walk s t table other r old new m (at + length x) (bt + length y) (k + 1) o
      unfolding contents blocks_from
      walk_both ha hb =
          let f = first_of s at (length s) w.left ha w.frames in
          let g = first_of t bt (length t) w.other_left hb w.other_frames in
          let next = block_next s at x f.fits is in
          let other-next = block_next t bt y g.fits other-is in
          turned f.rest g.rest (between k (content_of (entry_at s at) (read_in r.blocks (entry_at s at))) (content_of (entry_at t bt) (read_in r.other_blocks (entry_at t bt))))
          (in_both k x y table other (omega arith) (omega arith)
          ∙ ap₂ (between k) (ap (content_in table) is ∙ content_is s at f.fits r.blocks table r.measures) (ap (content_in other) other-is ∙ content_is t bt g.fits r.other_blocks other r.other_measures))
          (ap₂ (λ (a b : List Entry). blocks_from k (contents r.blocks a) (contents r.other_blocks b)) f.first g.first) (rw next f.after) (rw other-next g.after) (let fits = f.fits in omega arith) (let fits = g.fits in omega arith) (omega arith)

      pub walk_first : at < length s → length t ≤ bt → Walk s t table other r old new m (at + length x) (bt + length y) (k + 1) o
      unfolding contents blocks_from only_seconds
      walk_first ha hb =
          let f = first_of s at (length s) w.left ha w.frames in
          let next = block_next s at x f.fits is in
          let none : length y ≡ 0 = ap length (other-is ∙ none_past t bt hb) in
          let stays : bt + length y ≡ bt = omega arith in
          let inside = w.other_inside in
          turned f.rest [] (only_first k ∷ []) (none_second k x y table other none)
          (ap₂ (λ (a b : List Entry). blocks_from k (contents r.blocks a) (contents r.other_blocks b)) f.first (nothing_other hb)) (rw next f.after) (rw stays (at_end t bt (length t) hb)) (let fits = f.fits in omega arith) (omega arith) (omega arith)

      pub walk_second : length s ≤ at → bt < length t → Walk s t table other r old new m (at + length x) (bt + length y) (k + 1) o
      unfolding contents blocks_from only_seconds
      walk_second ha hb =
          let g = first_of t bt (length t) w.other_left hb w.other_frames in
          let next = block_next t bt y g.fits other-is in
          let none : length x ≡ 0 = ap length (is ∙ none_past s at ha) in
          let stays : at + length x ≡ at = omega arith in
          let inside = w.inside in
          turned [] g.rest (only_second k ∷ []) (none_first k x y table other (omega arith) none)
          (ap₂ (λ (a b : List Entry). blocks_from k (contents r.blocks a) (contents r.other_blocks b)) (nothing_left ha) g.first) (rw stays (at_end s at (length s) ha)) (rw next g.after) (omega arith) (let fits = g.fits in omega arith) (omega arith)

-- the same with the packets and tables that it needs
pub record Standing (s t table other old out : List ℕ) (m at bt k n : ℕ) : Type 0 where
  pub ready : Ready s t table other
  pub walk : Walk s t table other ready old out m at bt k n

-- a turn, wherever the walk stands
pub walk_on : (s t table other : List ℕ) (r : Ready s t table other) (old : List ℕ) (m : ℕ) (out : List ℕ) (at bt k n : ℕ) (w : Walk s t table other r old out m at bt k n) →
    (x y : List ℕ) → x ≡ block_at s at → y ≡ block_at t bt → (o : ℕ) (new : List ℕ) → Adds (block_differences k table other x y) out new n o →
    (at < length s) ⊎ (bt < length t) → Walk s t table other r old new m (at + length x) (bt + length y) (k + 1) o
walk_on s t table other r old m out at bt k n w x y is other-is o new a more = go (dec_lt at (length s)) (dec_lt bt (length t)) more
  where
    go : Dec (at < length s) → Dec (bt < length t) → (at < length s) ⊎ (bt < length t) → Walk s t table other r old new m (at + length x) (bt + length y) (k + 1) o
    go (yes p) (yes q) h = walk_both s t table other r old m out at bt k n w x y is other-is o new a p q
    go (yes p) (no q) h = walk_first s t table other r old m out at bt k n w x y is other-is o new a p (omega arith)
    go (no p) (yes q) h = walk_second s t table other r old m out at bt k n w x y is other-is o new a (omega arith) q
    go (no p) (no q) (inl h) = absurd (p h)
    go (no p) (no q) (inr h) = absurd (q h)

-- the two blocks of a turn: whole where there is one, and one of them is there
pub walk_blocks : (s t table other : List ℕ) (r : Ready s t table other) (old : List ℕ) (m : ℕ) (out : List ℕ) (at bt k n : ℕ) (w : Walk s t table other r old out m at bt k n) →
    (x y : List ℕ) → x ≡ block_at s at → y ≡ block_at t bt → Blocks x y
walk_blocks s t table other r old m out at bt k n w x y is other-is =
    record {
      first = λ some. rw is (block_whole s at (walk_fits s t table other r old m out at bt k n w (inside s at x is (dec_lt at (length s)) some)));
      second = λ some. rw other-is (block_whole t bt (walk_other_fits s t table other r old m out at bt k n w (inside t bt y other-is (dec_lt bt (length t)) some)));
    }
  where
    inside : (z : List ℕ) (i : ℕ) (b : List ℕ) → b ≡ block_at z i → Dec (i < length z) → (length b ≡ 0 → ⊥) → i < length z
    inside z i b e (yes h) some = h
    inside z i b e (no h) some = absurd (some (ap length (e ∙ none_past z i (omega arith))))

pub record Within (s t : List ℕ) (at bt : ℕ) (x y : List ℕ) : Type 0 where
  pub first : at + length x ≤ length s
  pub second : bt + length y ≤ length t
  pub some : 4 ≤ length x + length y

pub walk_within : (s t table other : List ℕ) (r : Ready s t table other) (old : List ℕ) (m : ℕ) (out : List ℕ) (at bt k n : ℕ) (w : Walk s t table other r old out m at bt k n) →
    (x y : List ℕ) → x ≡ block_at s at → y ≡ block_at t bt → (at < length s) ⊎ (bt < length t) → Within s t at bt x y
walk_within s t table other r old m out at bt k n w x y is other-is more = go (dec_lt at (length s)) (dec_lt bt (length t)) more
  where
    ends : at < length s → (at + length x ≡ next_at s at) × (next_at s at ≤ length s)
    ends h = let fits = walk_fits s t table other r old m out at bt k n w h in (block_next s at x fits is, fits)

    other_ends : bt < length t → (bt + length y ≡ next_at t bt) × (next_at t bt ≤ length t)
    other_ends h = let fits = walk_other_fits s t table other r old m out at bt k n w h in (block_next t bt y fits other-is, fits)

    go : Dec (at < length s) → Dec (bt < length t) → (at < length s) ⊎ (bt < length t) → Within s t at bt x y
    go (yes p) (yes q) h = let a = ends p in let b = other_ends q in record { first = omega arith; second = omega arith; some = omega arith }
    go (yes p) (no q) h =
        let a = ends p in
        let none : length y ≡ 0 = ap length (other-is ∙ none_past t bt (omega arith)) in
        let i = w.other_inside in
        record { first = omega arith; second = omega arith; some = omega arith }
    go (no p) (yes q) h =
        let b = other_ends q in
        let none : length x ≡ 0 = ap length (is ∙ none_past s at (omega arith)) in
        let i = w.inside in
        record { first = omega arith; second = omega arith; some = omega arith }
    go (no p) (no q) (inl h) = absurd (p h)
    go (no p) (no q) (inr h) = absurd (q h)

-- what the loop's test says
pub goes_on : (a b c d : ℕ) → (ltb a b || ltb c d) ≡ true → (a < b) ⊎ (c < d)
goes_on a b c d h = go (ltb a b) (ltb c d) refl refl h
  where
    go : (p q : Bool) → ltb a b ≡ p → ltb c d ≡ q → (p || q) ≡ true → (a < b) ⊎ (c < d)
    go true q e f t = inl (ltb-true a b e)
    go false true e f t = inr (ltb-true c d f)
    go false false e f t = let z : ◌≡◌ {A = ℕ} 0 1 = cc in absurd (omega arith)

pub ended : (a b c d : ℕ) → (ltb a b || ltb c d) ≡ false → (b ≤ a) × (d ≤ c)
ended a b c d h = go (ltb a b) (ltb c d) refl refl h
  where
    go : (p q : Bool) → ltb a b ≡ p → ltb c d ≡ q → (p || q) ≡ false → (b ≤ a) × (d ≤ c)
    go true q e f t = let z : ◌≡◌ {A = ℕ} 0 1 = cc in absurd (omega arith)
    go false true e f t = let z : ◌≡◌ {A = ℕ} 0 1 = cc in absurd (omega arith)
    go false false e f t = (ltb-false a b e, ltb-false c d f)
