-- The cases of comparing two packets: the answer, and the list afterwards. Assumes nothing.
use Prim.Native.Nat.{ℕ, ◌*◌, ◌/◌, ◌<◌, ◌≤◌}
use mathlib.Core.Path.{◌≡◌, sym, ap, ◌∙◌}
use mathlib.Core.Bool.{true, ◌&&◌}
use mathlib.Core.List.{List, ◌++◌}
use native.Mathlib.Omega.{arith}
use native.Mathlib.Decide.{dec_le}
use borrow.Author.Tests.{le-leb, lt-leb, leb-true}
use lib.Dec.{leb}
use lib.ListN.{length, take, drop}
use Rattle.refusal.specs.Table.{buffer_short}
use Rattle.refusal.specs.Answer.{unless}
use Rattle.refusal.specs.declared.Refusal.{Refusal}
use Rattle.refusal.proofs.Tests.{and_left, and_right}
use Rattle.frame.specs.Frames.{Entry}
use Rattle.frame.specs.Packet.{good, bad, packet_of}
use Rattle.packet.specs.Blocks.{measured}
use Rattle.packet.proofs.Chosen.{blocks_are}
use Rattle.difference.specs.Numbers.{Adds}
use Rattle.difference.proofs.Writing.{written_none, written_all}
use Rattle.compare.specs.Answer.{differences_of, compare_answer, with_differences}
use Rattle.sources.proofs.Judging.{BothGood}
use Rattle.compare.specs.Steps.{Ready, Holds, Answers}
use Rattle.compare.proofs.Room.{room_enough}
use Rattle.std.specs.Prelude.{Result, Ok, Err}

-- one packet refused, the first before the second
pub first_refused : (s t out : List ℕ) (r : Refusal) → packet_of s ≡ bad r → Answers s t out out (Err r)
first_refused s t out r p = (rw p, rw p)

pub second_refused : (s t out : List ℕ) (sender : ℕ) (es : List Entry) (r : Refusal) → packet_of s ≡ good sender es → packet_of t ≡ bad r → Answers s t out out (Err r)
second_refused s t out sender es r p q = (rw (p, q), rw (p, q))

module _ (s t table other : List ℕ) (r : Ready s t table other) (out : List ℕ) where
  abbrev all : ℕ
  all = length (differences_of (packet_of s) (packet_of t))

  -- room for all that there can be
  pub enough : (room : ℕ) → room ≡ length out / 5 → (leb (3 * length s / 8) room && leb (3 * length t / 8) room) ≡ true → 5 * all ≤ length out
  enough room is h =
      let a = leb-true (3 * length s / 8) room (and_left (leb (3 * length s / 8) room) (leb (3 * length t / 8) room) h) in
      let b = leb-true (3 * length t / 8) room (and_right (leb (3 * length s / 8) room) (leb (3 * length t / 8) room) h) in
      go a b (dec_le (length s) (length t))
    where
      go : 3 * length s / 8 ≤ room → 3 * length t / 8 ≤ room → Dec (length s ≤ length t) → 5 * all ≤ length out
      go a b (yes l) = let most = room_enough s t (length t) l (omega arith) in omega arith
      go a b (no l) = let most = room_enough s t (length s) (omega arith) (omega arith) in omega arith

  both_good : compare_answer (packet_of s) (packet_of t) out ≡ unless (leb (5 * all) (length out)) (Err buffer_short) (Ok all)
  both_good = rw (r.packet, r.other_packet)

  fits : 5 * all ≤ length out → compare_answer (packet_of s) (packet_of t) out ≡ Ok all
  fits h = both_good ∙ rw (le-leb (5 * all) (length out) h)

  lacks : length out < 5 * all → compare_answer (packet_of s) (packet_of t) out ≡ Err buffer_short
  lacks h = both_good ∙ rw (lt-leb (5 * all) (length out) h)

  abbrev after : Result ℕ Refusal → List ℕ
  after answer = with_differences answer (differences_of (packet_of s) (packet_of t)) out

  pub listed : (out' : List ℕ) (n : ℕ) → 5 * all ≤ length out → Adds (differences_of (packet_of s) (packet_of t)) out out' 0 n → Answers s t out out' (Ok n)
  listed out' n h a =
      let count = a.count in
      let is : n ≡ all = omega arith in
      (ap Ok is ∙ sym (fits h), a.list ∙ written_all (differences_of (packet_of s) (packet_of t)) out h ∙ sym (ap after (fits h)))

  -- a list of no numbers only counts
  pub counted : (list : List ℕ) (n : ℕ) → Adds (differences_of (packet_of s) (packet_of t)) (take 0 out) list 0 n → (list ++ drop 0 out ≡ out) × (n ≡ all)
  counted list n a =
      let count = a.count in
      (ap (λ (l : List ℕ). l ++ drop 0 out) (a.list ∙ written_none 0 (differences_of (packet_of s) (packet_of t)) (take 0 out) (omega arith)), omega arith)

  pub short : (n room : ℕ) → n ≡ all → room ≡ length out / 5 → room < n → Answers s t out out (Err buffer_short)
  short n room e is h = let l = lacks (omega arith) in (sym l, sym (ap after l))

  pub room_for : (n room : ℕ) → n ≡ all → room ≡ length out / 5 → n ≤ room → 5 * all ≤ length out
  room_for n room e is h = omega arith

-- the tables that were gathered are what comparing takes
pub ready : (s t table other : List ℕ) (j k : ℕ) → BothGood s t table other j k → Holds s table → Holds t other → Ready s t (take j table) (take k other)
ready s t table other j k g p q =
    let first = p g.first_sender g.first_blocks g.first_packet in
    let second = q g.second_sender g.second_blocks g.second_packet in
    let a = g.first_table first.0 in
    let b = g.second_table second.0 in
    record {
      sender = g.first_sender;
      blocks = g.first_blocks;
      packet = g.first_packet;
      short = first.1;
      sorted = a.sorted;
      measures = λ x. a.same x ∙ ap (measured x) (blocks_are s g.first_sender g.first_blocks g.first_packet);
      other_sender = g.second_sender;
      other_blocks = g.second_blocks;
      other_packet = g.second_packet;
      other_short = second.1;
      other_sorted = b.sorted;
      other_measures = λ x. b.same x ∙ ap (measured x) (blocks_are t g.second_sender g.second_blocks g.second_packet);
    }

pub still_holds : (s table table' : List ℕ) → Holds s table → length table' ≡ length table → Holds s table'
still_holds s table table' h e sender es p = let a = h sender es p in (omega arith, a.1)
