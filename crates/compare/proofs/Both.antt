-- Whether two blocks are of one type and typed, by their sizes, their flags and rates, and the tables of sources. Assumes nothing.
use Prim.Native.Nat.{ℕ, ◌≤◌}
use mathlib.Core.Path.{◌≡◌, refl, sym, ◌∙◌}
use mathlib.Core.Bool.{Bool, true, false, ◌&&◌}
use mathlib.Core.List.{List, []}
use borrow.Author.Tests.{eqb-true, eq-eqb, ne_eqb}
use lib.Dec.{eqb}
use lib.ListN.{length, get_or}
use Rattle.refusal.proofs.Tests.{and_left, and_right}
use Rattle.wire.specs.BigEndian.{u16_at, u32_at}
use Rattle.block.specs.Types.{measurement_type, loss_type, discard_type, effective_type, streams_type, unmeasured}
use Rattle.block.specs.Layouts.{flag_in}
use Rattle.block.specs.Reading.{flag_good, rates_good, summary_good, read_bytes}
use Rattle.packet.specs.Blocks.{read_among}
use Rattle.verdict.specs.Verdict.{verdict_of}
use Rattle.verdict.specs.Alone.{summary_verdict}
use Rattle.verdict.specs.Sources.{member, typed_by}
use Rattle.verdict.proofs.OwnBytes.{of_measurement, of_loss_lem, of_discard, of_effective, of_streams}
use Rattle.compare.specs.Steps.{SizeTyped, GoodSummary, Waiting, both_typed}
use Rattle.verdict.proofs.Typed.{typed_now, typed_measured}

module _ (x y table other : List ℕ) where
  pub other_type : (get_or x 0 0 ≡ get_or y 0 0 → ⊥) → false ≡ both_typed table other x y
  other_type n = rw (ne_eqb (get_or x 0 0) (get_or y 0 0) n)

  module _ (k : get_or x 0 0 ≡ get_or y 0 0) where
    pub both : (p q r : Bool) → p ≡ typed_by table (read_bytes x) → q ≡ typed_by other (read_bytes y) → r ≡ (p && q) → r ≡ both_typed table other x y
    both p q r a b h = rw (eq-eqb (get_or x 0 0) (get_or y 0 0) k, sym a, sym b) h

  module _ (w : Waiting x y) where
    pub first_lacks : false ≡ member (u32_at x 4) table → false ≡ both_typed table other x y
    first_lacks m = both w.type false (typed_by other (read_bytes y)) false (m ∙ typed_measured x table w.first) refl refl

    pub first_has : (r : Bool) → true ≡ member (u32_at x 4) table → r ≡ member (u32_at y 4) other → r ≡ both_typed table other x y
    first_has r m e = both w.type true r r (m ∙ typed_measured x table w.first) (e ∙ typed_measured y other w.second) refl

-- a good 17 or 18 of its size waits
module _ (z : List ℕ) (some : 4 ≤ length z) where
  waits : (size : ℕ) → GoodSummary z size → summary_verdict z size (flag_in (get_or z 1 0)) ≡ unmeasured
  unfolding summary_good
  waits size g =
      rw (eq-eqb (length z) size g.long, and_left (flag_good (flag_in (get_or z 1 0))) (rates_good (u16_at z 8) (u16_at z 10)) g.good, and_right (flag_good (flag_in (get_or z 1 0))) (rates_good (u16_at z 8) (u16_at z 10)) g.good)

  loss_waits : get_or z 0 0 ≡ loss_type → GoodSummary z 16 → verdict_of (read_among [] (read_bytes z)) ≡ unmeasured
  loss_waits k g = sym (of_loss_lem z some k) ∙ waits 16 g

  discard_waits : get_or z 0 0 ≡ discard_type → GoodSummary z 12 → verdict_of (read_among [] (read_bytes z)) ≡ unmeasured
  discard_waits k g = sym (of_discard z some k) ∙ waits 12 g

-- a 14, 240 or 241 of its size is typed in any packet
module _ (z table : List ℕ) (some : 4 ≤ length z) where
  measurement_typed : get_or z 0 0 ≡ measurement_type → length z ≡ 32 → typed_by table (read_bytes z) ≡ true
  measurement_typed k l = sym (typed_now z table (sym (of_measurement z some k) ∙ rw (eq-eqb (length z) 32 l)))

  effective_typed : get_or z 0 0 ≡ effective_type → length z ≡ 12 → typed_by table (read_bytes z) ≡ true
  effective_typed k l = sym (typed_now z table (sym (of_effective z some k) ∙ rw (eq-eqb (length z) 12 l)))

  streams_typed : get_or z 0 0 ≡ streams_type → length z ≡ 48 → typed_by table (read_bytes z) ≡ true
  streams_typed k l = sym (typed_now z table (sym (of_streams z some k) ∙ rw (eq-eqb (length z) 48 l)))

module _ (x y : List ℕ) (p : 4 ≤ length x) (q : 4 ≤ length y) (type : get_or x 0 0 ≡ get_or y 0 0) where
  pub losses : get_or x 0 0 ≡ loss_type → GoodSummary x 16 → GoodSummary y 16 → Waiting x y
  losses k g h = record { type = type; first = loss_waits x p k g; second = loss_waits y q (sym type ∙ k) h }

  pub discards : get_or x 0 0 ≡ discard_type → GoodSummary x 12 → GoodSummary y 12 → Waiting x y
  discards k g h = record { type = type; first = discard_waits x p k g; second = discard_waits y q (sym type ∙ k) h }

  module _ (size : length x ≡ length y) where
    pub measurements : get_or x 0 0 ≡ measurement_type → eqb (length x) 32 ≡ true → SizeTyped x y
    measurements k e =
        let l = eqb-true (length x) 32 e in
        record { type = type; first = λ t. measurement_typed x t p k l; second = λ t. measurement_typed y t q (sym type ∙ k) (sym size ∙ l) }

    pub effectives : get_or x 0 0 ≡ effective_type → eqb (length x) 12 ≡ true → SizeTyped x y
    effectives k e =
        let l = eqb-true (length x) 12 e in
        record { type = type; first = λ t. effective_typed x t p k l; second = λ t. effective_typed y t q (sym type ∙ k) (sym size ∙ l) }

    pub streams : get_or x 0 0 ≡ streams_type → eqb (length x) 48 ≡ true → SizeTyped x y
    streams k e =
        let l = eqb-true (length x) 48 e in
        record { type = type; first = λ t. streams_typed x t p k l; second = λ t. streams_typed y t q (sym type ∙ k) (sym size ∙ l) }
