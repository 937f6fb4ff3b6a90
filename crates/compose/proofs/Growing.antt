-- The packet after words were appended: its header, the blocks that were there and the new one. `NewRead` and
-- `AppendedGood` of specs/Laws.antt. Assumes nothing.
use Prim.Native.Nat.{ℕ, suc, ◌+◌, ◌*◌, ◌/◌, ◌%◌, ◌<◌, ◌≤◌}
use mathlib.Core.Path.{◌≡◌, refl, sym, ap, ap₂, ◌∙◌}
use mathlib.Core.Bool.{true}
use mathlib.Core.List.{List, [], ◌∷◌, ◌++◌}
use native.Mathlib.Omega.{arith}
use borrow.Author.Tests.{eq-eqb, le-leb}
use lib.Dec.{leb}
use lib.ListN.{length, get_or, take, drop, length-drop}
use lib.Seq.{length-take-le, take_at, get_or-take, get_or-drop, get_or-append-add, ext_get_or}
use Rattle.refusal.specs.Table.{buffer_short}
use Rattle.refusal.specs.Answer.{after}
use Rattle.refusal.proofs.Tests.{passed}
use Rattle.wire.specs.BigEndian.{be16, be32, u16_at, bytes16, placed}
use Rattle.wire.proofs.Numbers.{u16_inside}
use Rattle.wire.proofs.Placed.{length_placed, placed_other, placed_here}
use Rattle.encode.specs.Words.{block_words, in_bytes}
use Rattle.encode.specs.Laws.{Word}
use Rattle.encode.proofs.Framing.{framed_words}
use Rattle.encode.proofs.Storing.{length_in_bytes}
use Rattle.frame.specs.declared.Extent.{Extent}
use Rattle.frame.specs.declared.Extent.TheVariants.{Whole, Front}
use Rattle.frame.specs.Frames.{Entry, body_length, next_at, entry_at, first_block}
use Rattle.frame.specs.Packet.{good, size_in, size_fits, packet_in, packet_of, front_packet}
use Rattle.frame.specs.Laws.{Fill}
use Rattle.frame.proofs.FirstBytes.{Head, head_facts, head_good}
use Rattle.frame.proofs.Filling.{fill_append, packet_exactly}
use Rattle.frame.proofs.Kept.{Agree, fill_kept}
use Rattle.compose.specs.Writing.{new_bytes, length_after, grown}
use Rattle.compose.specs.Laws.{after_new, after_append, NewRead, entry_of, AppendedGood}
use Rattle.compose.proofs.Adding.{fit, front_bounds, placed_words}
use Rattle.std.specs.Prelude.{Ok, Err}
use Rattle.refusal.specs.Answer.{Written}

-- a buffer with a block's bytes behind the first `size` and a length field: each of its bytes
module _ (s : List ℕ) (size field : ℕ) (bytes : List ℕ) (low : first_block ≤ size) (room : size + length bytes ≤ length s) where
  abbrev changed : List ℕ
  changed = placed (placed s size bytes) 2 (bytes16 field)

  inner : length (placed s size bytes) ≡ length s
  inner = length_placed s size bytes room

  changed_long : length changed ≡ length s
  changed_long = length_placed (placed s size bytes) 2 (bytes16 field) (omega (arith, inner)) ∙ inner

  outside : (i : ℕ) → (2 ≤ i → 4 ≤ i) → get_or changed i 0 ≡ get_or (placed s size bytes) i 0
  outside i h = placed_other (placed s size bytes) 2 (bytes16 field) i (omega (arith, inner)) h

  old_byte : (i : ℕ) → (2 ≤ i → 4 ≤ i) → i < size → get_or changed i 0 ≡ get_or s i 0
  old_byte i h l = outside i h ∙ placed_other s size bytes i room (λ high. omega arith)

  new_byte : (j : ℕ) → j < length bytes → get_or changed (size + j) 0 ≡ get_or bytes j 0
  new_byte j l = outside (size + j) (λ high. omega arith) ∙ placed_here s size bytes j room l

  field_byte : (j : ℕ) → j < 2 → get_or changed (2 + j) 0 ≡ get_or (bytes16 field) j 0
  field_byte j l = placed_here (placed s size bytes) 2 (bytes16 field) j (omega (arith, inner)) l

-- a packet whose bytes are those up to n
module _ (s : List ℕ) (type specific : ℕ) (body : List ℕ) (sender : ℕ) (es : List Entry) (n : ℕ)
    (t-fits : type < 256) (s-fits : specific < 256) (p : front_packet s ≡ good sender es) (few : length_after s (suc (length body)) ≤ 65535)
    (size_is : n ≡ 4 * (length_after s (suc (length body)) + 1)) (room : n ≤ length s) where
  abbrev bytes : List ℕ
  bytes = in_bytes (block_words type specific body)

  shape : bytes ≡ (type ∷ specific ∷ bytes16 (length body)) ++ in_bytes body
  shape = framed_words type specific body t-fits s-fits (omega arith)

  size : length bytes ≡ 4 + 4 * length body
  size = let l = length_in_bytes (block_words type specific body) in omega arith

  low : first_block ≤ size_in s
  low = (front_bounds s sender es p).0

  inside : size_in s + length bytes ≤ length s
  inside = let b = size in omega arith

  abbrev buffer : List ℕ
  buffer = placed (placed s (size_in s) bytes) 2 (bytes16 (length_after s (suc (length body))))

  module _ (out : List ℕ) (long : n ≤ length out) (same : (i : ℕ) → i < n → get_or out i 0 ≡ get_or buffer i 0) where
    old : (i : ℕ) → (2 ≤ i → 4 ≤ i) → i < size_in s → get_or out i 0 ≡ get_or s i 0
    old i h l = same i (omega arith) ∙ old_byte s (size_in s) (length_after s (suc (length body))) bytes low inside i h l

    new : (j : ℕ) → j < length bytes → get_or out (size_in s + j) 0 ≡ get_or bytes j 0
    new j l = same (size_in s + j) (omega (arith, size)) ∙ new_byte s (size_in s) (length_after s (suc (length body))) bytes low inside j l

    length_field : size_in out ≡ n
    unfolding be16
    length_field =
        let f : ℕ = length_after s (suc (length body)) in
        let small = low in
        let a = same 2 (omega arith) ∙ field_byte s (size_in s) f bytes low inside 0 (omega arith) in
        let b = same 3 (omega arith) ∙ field_byte s (size_in s) f bytes low inside 1 (omega arith) in
        omega arith

    -- the new block
    block_field : u16_at out (size_in s + 2) ≡ length body
    unfolding be16
    block_field =
        let b = size in
        let three : size_in s + 2 + 1 ≡ size_in s + 3 = omega arith in
        let high : get_or out (size_in s + 2) 0 ≡ length body / 256 = new 2 (omega arith) ∙ ap (λ (l : List ℕ). get_or l 2 0) shape in
        let lower : get_or out (size_in s + 3) 0 ≡ length body % 256 = new 3 (omega arith) ∙ ap (λ (l : List ℕ). get_or l 3 0) shape in
        u16_inside out (size_in s + 2) (omega arith)
        ∙ ap₂ (λ (x y : ℕ). x * 256 + y) high (ap (λ (i : ℕ). get_or out i 0) three ∙ lower)
        ∙ (let back : length body / 256 * 256 + length body % 256 ≡ length body = omega arith in back)

    body_bytes : take (4 * length body) (drop (size_in s + 4) out) ≡ in_bytes body
    body_bytes =
        let b = size in
        ext_get_or 0 (take (4 * length body) (drop (size_in s + 4) out)) (in_bytes body) (long_part ∙ sym (length_in_bytes body))
        (λ j l.
        let less : j < 4 * length body = omega (arith, long_part) in
        let at : size_in s + 4 + j ≡ size_in s + (4 + j) = omega arith in
        get_or-take (4 * length body) (drop (size_in s + 4) out) j 0 less ∙ get_or-drop (size_in s + 4) out j 0
        ∙ ap (λ (i : ℕ). get_or out i 0) at ∙ new (4 + j) (omega (arith, size)) ∙ ap (λ (l : List ℕ). get_or l (4 + j) 0) shape
        ∙ get_or-append-add (type ∷ specific ∷ bytes16 (length body)) (in_bytes body) j 0)
      where
        long_part : length (take (4 * length body) (drop (size_in s + 4) out)) ≡ 4 * length body
        long_part = length-take-le (4 * length body) (drop (size_in s + 4) out) (rw (length-drop (size_in s + 4) out) (omega (arith, size)))

    entry : entry_of type specific body (size_in s) ≡ entry_at out (size_in s)
    unfolding entry_at
    entry =
        let b = size in
        let here : size_in s + 0 ≡ size_in s = omega arith in
        let kind : get_or out (size_in s) 0 ≡ type = ap (λ (i : ℕ). get_or out i 0) (sym here) ∙ new 0 (omega arith) ∙ ap (λ (l : List ℕ). get_or l 0 0) shape in
        let second : get_or out (size_in s + 1) 0 ≡ specific = new 1 (omega arith) ∙ ap (λ (l : List ℕ). get_or l 1 0) shape in
        let part : take (body_length out (size_in s)) (drop (size_in s + 4) out) ≡ in_bytes body = ap (λ (k : ℕ). take (4 * k) (drop (size_in s + 4) out)) block_field ∙ body_bytes in
        λ i. record { kind = sym kind i; specific = sym second i; place = size_in s; body = sym part i }

    fill : Fill out first_block n (es ++ entry_of type specific body (size_in s) ∷ [])
    fill =
        let m = (packet_exactly Front s sender es).0 p in
        let was = (head_facts Front s sender m.size m.header).field in
        let bounds = front_bounds s sender es p in
        let b = size in
        let f = block_field in
        let agree : Agree s out first_block (size_in s) = record { old = bounds.1; new = omega arith; same = λ i l h. old i (λ x. omega arith) h } in
        let next : next_at out (size_in s) ≡ n = omega arith in
        fill_append out es (entry_of type specific body (size_in s) ∷ []) first_block (size_in s) n (fill_kept s out es first_block (size_in s) agree (rw was m.fill)) (entry, next)

    pub grown_packet : (extent : Extent) → size_fits extent n (length out) ≡ true → packet_in extent out ≡ good sender (es ++ entry_of type specific body (size_in s) ∷ [])
    unfolding be32 be16
    grown_packet extent fits =
        let m = (packet_exactly Front s sender es).0 p in
        let was = head_facts Front s sender m.size m.header in
        let small = low in
        let length-is = length_field in
        let first = old 0 (λ x. omega arith) (omega arith) in
        let head : Head extent out sender n =
        record {
          room = omega arith;
          two = rw first was.two;
          type = old 1 (λ x. omega arith) (omega arith) ∙ was.type;
          fits = rw length-is fits;
          unpadded = rw first was.unpadded;
          from =
              rw (old 4 (λ x. omega arith) (omega arith), old 5 (λ x. omega arith) (omega arith), old 6 (λ x. omega arith) (omega arith), old 7 (λ x. omega arith) (omega arith)) was.from;
          field = length-is;
        } in
        (packet_exactly extent out sender (es ++ entry_of type specific body (size_in s) ∷ [])).1 (record { size = n; header = head_good extent out sender n head; fill = fill })

    pub last_bytes : length out ≡ n → drop (size_in s) out ≡ bytes
    last_bytes is =
        ext_get_or 0 (drop (size_in s) out) bytes (length-drop (size_in s) out ∙ omega (arith, size))
        (λ j l. get_or-drop (size_in s) out j 0 ∙ new j (omega (arith, size, length-drop (size_in s) out)))

pub added_good : AppendedGood
added_good s own type specific body sender es n a =
    let words : List ℕ = block_words type specific body in
    let f = fit s own (length words) n a.answer in
    let few = f.few in
    let room = f.room in
    let is = f.is in
    let low = (front_bounds s sender es a.packet).0 in
    let b : List ℕ = placed (placed s (size_in s) (in_bytes words)) 2 (bytes16 (length_after s (length words))) in
    let out : after_append s own words ≡ b = ap (λ (r : Written). after r (grown s words) s) a.answer ∙ sym (placed_words s own words n f) in
    let bytes = length_in_bytes words in
    let long : length b ≡ length s = changed_long s (size_in s) (length_after s (length words)) (in_bytes words) low (omega arith) in
    let short : length (take n b) ≡ n = length-take-le n b (omega arith) in
    rw out (record {
      packet = grown_packet s type specific body sender es n a.type_fits a.specific_fits a.packet few is (omega arith) (take n b) (omega arith) (λ i l. get_or-take n b i 0 l) Whole (eq-eqb n (length (take n b)) (sym short));
      front = grown_packet s type specific body sender es n a.type_fits a.specific_fits a.packet few is (omega arith) b (omega arith) (λ i l. refl) Front (rw (le-leb first_block n (omega arith), le-leb n (length b) (omega arith)));
      bytes = last_bytes s type specific body sender es n a.type_fits a.specific_fits a.packet few is (omega arith) (take n b) (omega arith) (λ i l. get_or-take n b i 0 l) short;
    })

-- a new packet, alone and at the front of a longer buffer
pub new_read : NewRead
unfolding be16 be32
new_read s sender n small h =
    let one = passed (leb first_block (length s)) (Err buffer_short) _ (Ok n) (λ e. let z : ◌≡◌ {A = ℕ} 0 1 = cc in omega arith) h in
    let last = one.1 in
    let e : n ≡ first_block = cc in
    let is : after_new s sender ≡ new_bytes sender ++ drop n s = ap (λ (r : Written). after r (new_bytes sender) s) h in (
      ap (λ (x : List ℕ). packet_of (take n x)) is ∙ ap packet_of (take_at (new_bytes sender) (drop n s) n (omega arith)) ∙ new_packet Whole [] refl,
      ap front_packet is ∙ new_packet Front (drop n s) (le-leb first_block (length (new_bytes sender ++ drop n s)) (omega arith)),
    )
  where
    back : (n : ℕ) → Word n → (n / 16777216 * 256 + n / 65536 % 256) * 65536 + (n / 256 % 256 * 256 + n % 256) ≡ n
    back n h = omega arith

    new_packet : (extent : Extent) (rest : List ℕ) → size_fits extent first_block (length (new_bytes sender ++ rest)) ≡ true → packet_in extent (new_bytes sender ++ rest) ≡ good sender []
    new_packet extent rest fits =
        (packet_exactly extent (new_bytes sender ++ rest) sender []).1 (record {
          size = first_block;
          header = head_good extent (new_bytes sender ++ rest) sender first_block (record { room = omega arith; two = refl; type = refl; fits = fits; unpadded = refl; from = back sender small; field = refl });
          fill = refl;
        })
