-- A packet judged by its header and a walk over its blocks: the cases of `located_of`, and what an answer says of the
-- packet. Assumes nothing.
use Prim.Native.Nat.{ℕ, min}
use mathlib.Core.Path.{◌≡◌, refl, sym, ap, ◌∙◌}
use mathlib.Core.List.{List}
use native.Mathlib.Omega.{arith}
use Rattle.std.proofs.Common.{Option, Result, Ok, Err}
use Rattle.std.specs.Result.{MatchResult, IsErrAnd}
use Rattle.std.proofs.lemmas.Result.{err_from_is_err_and}
use lib.ListN.{length}
use Rattle.refusal.specs.declared.Refusal.{Refusal}
use Rattle.refusal.specs.Table.{block_past_end}
use Rattle.frame.specs.declared.Extent.{Extent}
use Rattle.frame.specs.declared.Walked.{Walked}
use Rattle.frame.specs.declared.Located.{Located}
use Rattle.frame.specs.declared.Header.{Header}
use Rattle.frame.specs.Frames.{Entry, Frames, whole, past, first_block, frames_in}
use Rattle.frame.specs.Packet.{Packet, good, bad, header_of, of_frames, packet_in, place_at, walked_of, located_of}
use Rattle.frame.proofs.FirstBytes.{head_bounds}

-- what an answer about the packet is
abbrev pub found_as : ℕ → ℕ → Option ℕ → Result Located Refusal
found_as sender count at = Ok (record { sender = sender; count = count; at = at })

-- a walk's answer with its place made a refusal
abbrev pub placed : Result Walked ℕ → Result Walked Refusal
placed (Ok walked) = Ok walked
placed (Err offset) = Err (block_past_end offset)

pub placed_is : (w : Result Walked ℕ) (m : Result Walked Refusal) →
    MatchResult w (λ (x : Walked). m ≡ Ok x) (λ (offset : ℕ). IsErrAnd m (λ (r : Refusal). r ≡ block_past_end offset)) → m ≡ placed w
placed_is (Ok walked) m h = h
placed_is (Err offset) m h = let p = err_from_is_err_and m h in p.1 ∙ ap Err p.2

abbrev pub located_by : ℕ → Result Walked Refusal → Result Located Refusal
located_by sender (Ok walked) = found_as sender walked.count walked.at
located_by sender (Err r) = Err r

module _ (extent : Extent) (s : List ℕ) (k : ℕ) where
  pub header_refused : (r : Refusal) → header_of extent s ≡ Err r → Err r ≡ located_of (packet_in extent s) k
  unfolding packet_in
  header_refused r h = rw h

  pub walked : (header : Header) → header_of extent s ≡ Ok header → (w : Result Walked Refusal) → w ≡ placed (walked_of (frames_in s first_block (min header.size (length s))) k) →
      located_by header.sender w ≡ located_of (packet_in extent s) k
  unfolding packet_in
  walked header h w e =
      let bounds = head_bounds extent s header.sender header.size h in
      let end : min header.size (length s) ≡ header.size = omega arith in
      rw (h, e, end) (go (frames_in s first_block header.size))
    where
      go : (frames : Frames) → located_by header.sender (placed (walked_of frames k)) ≡ located_of (of_frames header.sender frames) k
      go (whole es) = refl
      go (past offset) = refl

-- what a packet has in which block k was located
pub record Here (extent : Extent) (s : List ℕ) (k sender count : ℕ) (at : Option ℕ) : Type 0 where
  pub blocks : List Entry
  pub packet : packet_in extent s ≡ good sender blocks
  pub counted : count ≡ length blocks
  pub stands : at ≡ place_at blocks k

pub located : (extent : Extent) (s : List ℕ) (k sender count : ℕ) (at : Option ℕ) → located_of (packet_in extent s) k ≡ found_as sender count at → Here extent s k sender count at
located extent s k sender count at o = go (packet_in extent s) refl o
  where
    go : (packet : Packet) → packet_in extent s ≡ packet → located_of packet k ≡ found_as sender count at → Here extent s k sender count at
    go (good from es) p e =
        let same : ◌≡◌ {A = Located} (record { sender = from; count = length es; at = place_at es k }) (record { sender = sender; count = count; at = at }) = cc e in
        let whose = ap (λ (l : Located). l.sender) same in
        record { blocks = es; packet = p ∙ rw whose; counted = sym (ap (λ (l : Located). l.count) same); stands = sym (ap (λ (l : Located). l.at) same) }
    go (bad r) p e = let z : ◌≡◌ {A = ℕ} 0 1 = cc in absurd (omega arith)

pub located_bad : (extent : Extent) (s : List ℕ) (k : ℕ) (r : Refusal) → located_of (packet_in extent s) k ≡ Err r → packet_in extent s ≡ bad r
located_bad extent s k r o = go (packet_in extent s) refl o
  where
    go : (packet : Packet) → packet_in extent s ≡ packet → located_of packet k ≡ Err r → packet_in extent s ≡ bad r
    go (good sender es) p e = let z : ◌≡◌ {A = ℕ} 0 1 = cc in absurd (omega arith)
    go (bad q) p e = p ∙ cc
