-- Two packets judged together: what a header and its walk say of one packet, the cases of `JudgedBoth`, and what an
-- answer says of the packets and the tables. Assumes nothing.
use Prim.Native.Nat.{ℕ, ◌*◌, ◌≤◌}
use mathlib.Core.Path.{◌≡◌, refl, sym, ap, ◌∙◌}
use mathlib.Core.Logic.{◌⊎◌, inl, inr}
use mathlib.Core.List.{List}
use native.Mathlib.Omega.{arith}
use lib.ListN.{length}
use Rattle.refusal.specs.Table.{block_past_end}
use Rattle.refusal.specs.declared.Refusal.{Refusal}
use Rattle.frame.specs.Frames.{Entry, past, first_block, frames_of}
use Rattle.frame.specs.Packet.{Packet, good, bad, header_of, of_frames, packet_in, packet_of}
use Rattle.frame.specs.declared.Extent.TheVariants.{Whole}
use Rattle.frame.specs.declared.Header.{Header}
use Rattle.frame.proofs.FirstBytes.{head_bounds, whole_length}
use Rattle.packet.specs.Steps.{blocks_of, WholeBlocks}
use Rattle.verdict.specs.Sources.{Table}
use Rattle.sources.specs.Tables.{block_bytes, JudgedBoth}
use Rattle.sources.specs.Steps.{Headed, Settled, PastEnd, EndedAs}
use Rattle.std.specs.Prelude.{Result, Ok, Err}

-- one packet: a bad header; and with a good one, as its blocks are
pub head_refused : (s : List ℕ) (r : Refusal) → header_of Whole s ≡ Err r → packet_of s ≡ bad r
unfolding packet_in
head_refused s r h = rw h

pub headed : (s : List ℕ) (r : Result Header Refusal) (h : Header) → r ≡ header_of Whole s → r ≡ Ok h → Headed s
headed s r h is e = record { header = h; good = sym is ∙ e }

module _ (s : List ℕ) (h : Headed s) where
  pub headed_room : first_block ≤ length s
  headed_room = let bounds = head_bounds Whole s h.header.sender h.header.size h.good in omega arith

  by_frames : packet_of s ≡ of_frames h.header.sender (frames_of s)
  unfolding packet_in
  by_frames = rw (h.good, whole_length s h.header.sender h.header.size h.good)

  pub headed_past : (at : ℕ) → frames_of s ≡ past at → packet_of s ≡ bad (block_past_end at)
  headed_past at e = by_frames ∙ ap (of_frames h.header.sender) e

  pub headed_good : WholeBlocks s → packet_of s ≡ good h.header.sender (blocks_of s)
  headed_good w = by_frames ∙ ap (of_frames h.header.sender) w

-- how a walk ended
pub ended_whole : (s table : List ℕ) (r : Result ℕ Refusal) (k : ℕ) → EndedAs s table r → r ≡ Ok k → Settled s table k
ended_whole s table (Ok j) k h e = let same : j ≡ k = cc in rw (← same) h
ended_whole s table (Err q) k h e = let z : ◌≡◌ {A = ℕ} 0 1 = cc in absurd (omega arith)

pub ended_past : (s table : List ℕ) (r : Result ℕ Refusal) (q : Refusal) → EndedAs s table r → r ≡ Err q → PastEnd s q
ended_past s table (Ok k) q h e = let z : ◌≡◌ {A = ℕ} 0 1 = cc in absurd (omega arith)
ended_past s table (Err r) q h e = let same : r ≡ q = cc in rw (← same) h

-- the cases of both
module _ (first second table other : List ℕ) where
  pub first_bad_lem : (r : Refusal) → packet_of first ≡ bad r → JudgedBoth (packet_of first) (packet_of second) first second table other (Err r)
  first_bad_lem r p = rw p refl

  pub second_bad : (sender : ℕ) (es : List Entry) → packet_of first ≡ good sender es → (r : Refusal) → packet_of second ≡ bad r →
      JudgedBoth (packet_of first) (packet_of second) first second table other (Err r)
  second_bad sender es p r q = rw (p, q) refl

  module _ (h : Headed first) where
    pub first_past_lem : (r : Refusal) → PastEnd first r → JudgedBoth (packet_of first) (packet_of second) first second table other (Err r)
    first_past_lem r e = first_bad_lem r (headed_past first h e.at e.past_at ∙ ap bad (sym e.is))

    module _ (g : Headed second) (j : ℕ) (a : Settled first table j) where
      pub second_past : (r : Refusal) → PastEnd second r → JudgedBoth (packet_of first) (packet_of second) first second table other (Err r)
      second_past r e = second_bad _ _ (headed_good first h a.whole_blocks) r (headed_past second g e.at e.past_at ∙ ap bad (sym e.is))

      pub both_good : (k : ℕ) → Settled second other k → JudgedBoth (packet_of first) (packet_of second) first second table other (Ok (j, k))
      both_good k b =
          rw (headed_good first h a.whole_blocks, headed_good second g b.whole_blocks) (record {
            first_count = j;
            second_count = k;
            is = refl;
            first_fits = a.fits;
            second_fits = b.fits;
            first_table = a.sources;
            second_table = b.sources;
          })

-- what an answer says, for callers
pub record BothGood (first second table other : List ℕ) (j k : ℕ) : Type 0 where
  pub first_sender : ℕ
  pub second_sender : ℕ
  pub first_blocks : List Entry
  pub second_blocks : List Entry
  pub first_packet : packet_of first ≡ good first_sender first_blocks
  pub second_packet : packet_of second ≡ good second_sender second_blocks
  pub first_fits : j ≤ length table
  pub second_fits : k ≤ length other
  pub first_table : length first ≤ block_bytes * length table → Table first table j
  pub second_table : length second ≤ block_bytes * length other → Table second other k

pub record SecondBad (first second : List ℕ) (r : Refusal) : Type 0 where
  pub sender : ℕ
  pub blocks : List Entry
  pub first_packet : packet_of first ≡ good sender blocks
  pub second_packet : packet_of second ≡ bad r

module _ (first second table other : List ℕ) where
  pub sources_mean : (j k : ℕ) → JudgedBoth (packet_of first) (packet_of second) first second table other (Ok (j, k)) → BothGood first second table other j k
  sources_mean j k h = go (packet_of first) (packet_of second) refl refl h
    where
      go : (p q : Packet) → packet_of first ≡ p → packet_of second ≡ q → JudgedBoth p q first second table other (Ok (j, k)) → BothGood first second table other j k
      go (bad r) q e f g = let z : ◌≡◌ {A = ℕ} 0 1 = cc in absurd (omega arith)
      go (good sender es) (bad r) e f g = let z : ◌≡◌ {A = ℕ} 0 1 = cc in absurd (omega arith)
      go (good sender es) (good sender' fs) e f g =
          let is = g.is in
          let both : ◌≡◌ {A = ℕ × ℕ} (j, k) (g.first_count, g.second_count) = cc in
          let one : g.first_count ≡ j = sym (ap (λ (p : ℕ × ℕ). p.0) both) in
          let two : g.second_count ≡ k = sym (ap (λ (p : ℕ × ℕ). p.1) both) in
          record {
            first_sender = sender;
            second_sender = sender';
            first_blocks = es;
            second_blocks = fs;
            first_packet = e;
            second_packet = f;
            first_fits = rw (← one) g.first_fits;
            second_fits = rw (← two) g.second_fits;
            first_table = rw (← one) g.first_table;
            second_table = rw (← two) g.second_table;
          }

  pub refused_means : (r : Refusal) → JudgedBoth (packet_of first) (packet_of second) first second table other (Err r) → (packet_of first ≡ bad r) ⊎ SecondBad first second r
  refused_means r h = go (packet_of first) (packet_of second) refl refl h
    where
      go : (p q : Packet) → packet_of first ≡ p → packet_of second ≡ q → JudgedBoth p q first second table other (Err r) → (packet_of first ≡ bad r) ⊎ SecondBad first second r
      go (bad r') q e f g = let same : r' ≡ r = cc in inl (e ∙ ap bad same)
      go (good sender es) (bad r') e f g =
          let same : r' ≡ r = cc in
          inr (record { sender = sender; blocks = es; first_packet = e; second_packet = f ∙ ap bad same })
      go (good sender es) (good sender' fs) e f g =
          let is = g.is in
          let z : ◌≡◌ {A = ℕ} 0 1 = cc in
          absurd (omega arith)
