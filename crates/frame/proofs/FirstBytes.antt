-- The cases of a packet's first eight bytes, in the order of the refusals, for a packet that is the slice and for one
-- at its front. Assumes nothing.
use Prim.Native.Nat.{ℕ, ◌/◌, ◌%◌, ◌<◌, ◌≤◌}
use mathlib.Core.Path.{◌≡◌, refl, sym, ap, ap₂, ◌∙◌}
use mathlib.Core.Bool.{Bool, true, false}
use native.Mathlib.Omega.{arith}
use mathlib.Core.List.{List}
use borrow.Author.Tests.{le-leb, lt-leb, eq-eqb, ne_eqb, eqb-true, leb-true}
use Rattle.std.proofs.Common.{Result, Ok, Err}
use lib.Dec.{eqb, leb}
use lib.ListN.{length, get_or}
use Rattle.refusal.specs.Table.{packet_short, version, packet_type, packet_length, padding, refusal_number}
use Rattle.refusal.specs.Answer.{unless}
use Rattle.refusal.proofs.Tests.{passed, and_left, and_right}
use Rattle.refusal.specs.declared.Refusal.{Refusal}
use Rattle.wire.specs.BigEndian.{be32}
use Rattle.frame.specs.declared.Extent.{Extent}
use Rattle.frame.specs.declared.Extent.TheVariants.{Whole, Front}
use Rattle.frame.specs.declared.Header.{Header}
use Rattle.frame.specs.Frames.{first_block}
use Rattle.frame.specs.Packet.{size_in, size_fits, header_of}

-- what a good header reads as
abbrev pub read_as : ℕ → ℕ → Result Header Refusal
read_as sender size = Ok (record { sender = sender; size = size })

module _ (extent : Extent) (s : List ℕ) where
  pub short : length s < first_block → Err packet_short ≡ header_of extent s
  unfolding header_of
  short h = rw (lt-leb first_block (length s) h)

  module _ (room : first_block ≤ length s) where
    pub other_version : (get_or s 0 0 / 64 ≡ 2 → ⊥) → Err version ≡ header_of extent s
    unfolding header_of
    other_version h = rw (le-leb first_block (length s) room, ne_eqb (get_or s 0 0 / 64) 2 h)

    module _ (two : get_or s 0 0 / 64 ≡ 2) where
      pub other_type : (get_or s 1 0 ≡ 207 → ⊥) → Err packet_type ≡ header_of extent s
      unfolding header_of
      other_type h = rw (le-leb first_block (length s) room, eq-eqb (get_or s 0 0 / 64) 2 two, ne_eqb (get_or s 1 0) 207 h)

      -- what is left once byte 1 is 207
      module _ (type : get_or s 1 0 ≡ 207) where
        rest : Bool → Bool → Result Header Refusal
        rest fits plain = unless fits (Err packet_length) (unless plain (Err padding) (read_as (be32 s 4) (size_in s)))

        left : (fits plain : Bool) → size_fits extent (size_in s) (length s) ≡ fits → eqb (get_or s 0 0 / 32 % 2) 0 ≡ plain → rest fits plain ≡ header_of extent s
        unfolding header_of rest
        left fits plain f p =
            rw (le-leb first_block (length s) room, eq-eqb (get_or s 0 0 / 64) 2 two, eq-eqb (get_or s 1 0) 207 type, f, p)

        pub other_length : size_fits extent (size_in s) (length s) ≡ false → Err packet_length ≡ header_of extent s
        unfolding rest
        other_length h = left false _ h refl

        pub padded : size_fits extent (size_in s) (length s) ≡ true → (get_or s 0 0 / 32 % 2 ≡ 0 → ⊥) → Err padding ≡ header_of extent s
        unfolding rest
        padded f h = left true false f (ne_eqb (get_or s 0 0 / 32 % 2) 0 h)

        pub sent : size_fits extent (size_in s) (length s) ≡ true → get_or s 0 0 / 32 % 2 ≡ 0 → read_as (be32 s 4) (size_in s) ≡ header_of extent s
        unfolding rest
        sent f h = left true true f (eq-eqb (get_or s 0 0 / 32 % 2) 0 h)

-- what a good header has, and that this is all it takes
pub record Head (extent : Extent) (s : List ℕ) (sender size : ℕ) : Type 0 where
  pub room : first_block ≤ length s
  pub two : get_or s 0 0 / 64 ≡ 2
  pub type : get_or s 1 0 ≡ 207
  pub fits : size_fits extent (size_in s) (length s) ≡ true
  pub unpadded : get_or s 0 0 / 32 % 2 ≡ 0
  pub from : be32 s 4 ≡ sender
  pub field : size_in s ≡ size

past_test : (t : Bool) (r : Refusal) (rest : Result Header Refusal) (sender size : ℕ) → unless t (Err r) rest ≡ read_as sender size → (t ≡ true) × (rest ≡ read_as sender size)
past_test t r rest sender size h = passed t (Err r) rest (read_as sender size) (λ e. let z : ◌≡◌ {A = ℕ} 0 1 = cc in omega arith) h

pub head_facts : (extent : Extent) (s : List ℕ) (sender size : ℕ) → header_of extent s ≡ read_as sender size → Head extent s sender size
unfolding header_of
head_facts extent s sender size h =
    let one = past_test (leb first_block (length s)) packet_short _ sender size h in
    let two = past_test (eqb (get_or s 0 0 / 64) 2) version _ sender size one.1 in
    let three = past_test (eqb (get_or s 1 0) 207) packet_type _ sender size two.1 in
    let four = past_test (size_fits extent (size_in s) (length s)) packet_length _ sender size three.1 in
    let five = past_test (eqb (get_or s 0 0 / 32 % 2) 0) padding _ sender size four.1 in
    let same : ◌≡◌ {A = Header} (record { sender = be32 s 4; size = size_in s }) (record { sender = sender; size = size }) = cc five.1 in
    record {
      room = leb-true first_block (length s) one.0;
      two = eqb-true (get_or s 0 0 / 64) 2 two.0;
      type = eqb-true (get_or s 1 0) 207 three.0;
      fits = four.0;
      unpadded = eqb-true (get_or s 0 0 / 32 % 2) 0 five.0;
      from = ap (λ (h : Header). h.sender) same;
      field = ap (λ (h : Header). h.size) same;
    }

pub head_good : (extent : Extent) (s : List ℕ) (sender size : ℕ) → Head extent s sender size → header_of extent s ≡ read_as sender size
head_good extent s sender size f =
    sym (sent extent s f.room f.two f.type f.fits f.unpadded) ∙ ap₂ read_as f.from f.field

-- a size that fits leaves room for the first eight bytes, and does not pass the slice
pub size_bounds : (extent : Extent) (s : List ℕ) (size : ℕ) → first_block ≤ length s → size_fits extent size (length s) ≡ true →
    (first_block ≤ size) × (size ≤ length s)
size_bounds Whole s size room f = let e = eqb-true size (length s) f in (omega arith, omega arith)
size_bounds Front s size room f =
    (leb-true first_block size (and_left (leb first_block size) (leb size (length s)) f), leb-true size (length s) (and_right (leb first_block size) (leb size (length s)) f))

pub head_bounds : (extent : Extent) (s : List ℕ) (sender size : ℕ) → header_of extent s ≡ read_as sender size → (first_block ≤ size) × (size ≤ length s)
head_bounds extent s sender size h =
    let f = head_facts extent s sender size h in
    size_bounds extent s size f.room (rw f.field at f.fits)

-- the slice that a packet fills is as long as its size
pub whole_length : (s : List ℕ) (sender size : ℕ) → header_of Whole s ≡ read_as sender size → size ≡ length s
whole_length s sender size h =
    let f = head_facts Whole s sender size h in
    let e = eqb-true (size_in s) (length s) f.fits in
    let g = f.field in
    omega arith

-- a refused header has one of the refusals 1 to 5
pub head_numbers : (extent : Extent) (s : List ℕ) (r : Refusal) → header_of extent s ≡ Err r → refusal_number r ≤ 5
unfolding header_of
head_numbers extent s r h =
    go (leb first_block (length s)) (eqb (get_or s 0 0 / 64) 2) (eqb (get_or s 1 0) 207) (size_fits extent (size_in s) (length s)) (eqb (get_or s 0 0 / 32 % 2) 0) h
  where
    is : (q : Refusal) → refusal_number q ≤ 5 → ◌≡◌ {A = Result Header Refusal} (Err q) (Err r) → refusal_number r ≤ 5
    is q n e = let same : q ≡ r = cc in rw (← same) n

    go : (a b c d e : Bool) →
        unless a (Err packet_short) (unless b (Err version) (unless c (Err packet_type) (unless d (Err packet_length) (unless e (Err padding) (read_as (be32 s 4) (size_in s)))))) ≡ Err r →
        refusal_number r ≤ 5
    go false b c d e h = is packet_short (omega arith) h
    go true false c d e h = is version (omega arith) h
    go true true false d e h = is packet_type (omega arith) h
    go true true true false e h = is packet_length (omega arith) h
    go true true true true false h = is padding (omega arith) h
    go true true true true true h = let z : ◌≡◌ {A = ℕ} 0 1 = cc in absurd (omega arith)
