-- What a panel says of its block: which needle is lit, and at which rate. Assumes nothing.
use mathlib.Core.Path.{◌≡◌, refl, sym, ap, ◌∙◌}
use Prim.Native.Nat.{ℕ, ◌≤◌, ◌<◌}
use native.Mathlib.Omega.{arith}
use native.Mathlib.Decide.{dec_le}
use mathlib.Core.Bool.{true, false, ◌||◌, true≢false}
use lib.Ieee.{Float, eq}
use borrow.Author.Tests.{le-leb, lt-leb, eqb-true, eq-eqb}
use Rattle.wire.specs.BigEndian.{be16}
use Rattle.block.specs.Layouts.{loss_in, discard_in}
use Rattle.block.specs.Reading.{rate_max, summary_good}
use Rattle.block.proofs.Good.{no_rate}
use Rattle.block.proofs.Cases.{typed_answers}
use Rattle.dials.specs.declared.Needle.{Needle}
use Rattle.dials.specs.declared.Needle.TheVariants.{Lit, Dark}
use Rattle.dials.specs.declared.Panel.{Panel}
use Rattle.dials.specs.Position.{position}
use Rattle.dials.specs.Panel.{needle_of, dark, shown, summary_panel, panel_of, is_lit, lamp_of}
use Rattle.dials.specs.Laws.{needles, NeedleTells, TypedShown, LampOffExactly}
use Rattle.dials.proofs.Order.{position_order}

-- ---- the cases of the definition

pub lit : (rate : ℕ) → rate ≤ rate_max → needle_of rate ≡ Lit (position rate)
unfolding needle_of
lit rate h = rw (le-leb rate rate_max h)

pub unlit : (rate : ℕ) → rate_max < rate → needle_of rate ≡ Dark
unfolding needle_of
unlit rate h = rw (lt-leb rate rate_max h)

pub bad : (flag burst gap : ℕ) → summary_good flag burst gap ≡ false → summary_panel flag burst gap ≡ dark
unfolding summary_panel
bad flag burst gap h = rw h

pub good : (flag burst gap : ℕ) → summary_good flag burst gap ≡ true → summary_panel flag burst gap ≡ shown burst gap
unfolding summary_panel
good flag burst gap h = rw h

-- ---- the laws

one_rate : (m n : ℕ) → m ≤ rate_max → n ≤ rate_max → needle_of m ≡ needle_of n → m ≡ n
one_rate m n low high h =
    let e : Lit (position m) ≡ Lit (position n) = sym (lit m low) ∙ h ∙ lit n high in
    let same : position m ≡ position n = cc in
    eqb-true m n (sym (position_order m n low high).1 ∙ ap (λ (x : Float). eq x (position n)) same ∙ (position_order n n high high).1 ∙ eq-eqb n n refl)

lit_unlit : (m n : ℕ) → m ≤ rate_max → rate_max < n → needle_of m ≡ needle_of n → ⊥
lit_unlit m n low high h =
    let e : Lit (position m) ≡ Dark = sym (lit m low) ∙ h ∙ unlit n high in
    let z : ◌≡◌ {A = ℕ} 0 1 = cc in
    omega arith

pub needle_tells : NeedleTells
needle_tells m n p q h = go (dec_le m rate_max) (dec_le n rate_max)
  where
    go : Dec (m ≤ rate_max) → Dec (n ≤ rate_max) → m ≡ n
    go (yes low) (yes high) = one_rate m n low high h
    go (yes low) (no high) = absurd (lit_unlit m n low (omega arith) h)
    go (no low) (yes high) = absurd (lit_unlit n m high (omega arith) (sym h))
    go (no low) (no high) = no_rate m p (omega arith) ∙ sym (no_rate n q (omega arith))

pub typed_shown : TypedShown
unfolding loss_in discard_in be16
typed_shown type specific body b =
    typed_answers specific body (λ t b. panel_of b ≡ needles b) (λ s. refl) (λ s g. good _ _ _ g) (λ s g. good _ _ _ g) (λ s. refl) (λ s. refl) type b

pub lamp_off_exactly : LampOffExactly
lamp_off_exactly p = (off p.burst p.gap, λ (e : p ≡ dark). ap lamp_of e)
  where
    off : (burst gap : Needle) → (is_lit burst || is_lit gap) ≡ false → ◌≡◌ {A = Panel} (record { burst = burst; gap = gap }) dark
    off (Lit x) gap h = absurd (true≢false h)
    off Dark (Lit x) h = absurd (true≢false h)
    off Dark Dark h = refl
