-- A source is measured exactly where a block by index is a typed 14 for it: `MeasuredExactly` of specs/Laws.antt. Assumes
-- nothing.
use Prim.Native.Nat.{ℕ, zero, suc}
use mathlib.Core.Path.{◌≡◌, refl, sym, ap, ◌∙◌}
use mathlib.Core.Bool.{Bool, true, false, ◌||◌}
use mathlib.Core.Logic.{◌⊎◌, inl, inr}
use mathlib.Core.List.{List, [], ◌∷◌}
use native.Mathlib.Omega.{arith}
use borrow.Author.Tests.{eqb-true, eq-eqb}
use Rattle.block.specs.Reading.{measures_of}
use Rattle.block.specs.declared.Measurement.{Measurement}
use Rattle.block.specs.declared.Block.TheVariants.{Measured}
use Rattle.block.specs.declared.BlockRead.TheVariants.{Typed, Dropped}
use Rattle.block.specs.Laws.{MeasuredFor}
use Rattle.block.proofs.Reasons.{measures_exactly}
use Rattle.frame.specs.Frames.{Entry}
use Rattle.frame.specs.Packet.{good, numbered}
use Rattle.block.specs.declared.BlockRead.{BlockRead}
use Rattle.packet.specs.declared.BlockAt.{BlockAt}
use Rattle.packet.specs.Blocks.{read_alone, names, measures, measured, read_in}
use Rattle.packet.specs.Answers.{answered, found}
use Rattle.packet.specs.Laws.{MeasuredAt, MeasuredExactly}
use Rattle.packet.proofs.Judging.{own_but_unmeasured}
use Rattle.std.specs.Prelude.{Option, Some, None}
use Rattle.block.specs.declared.Reason.TheVariants.{Unmeasured}

-- two answers that are the same have the same parts
pub answered_parts : (kind kind' : ℕ) (read read' : BlockRead) → answered kind read ≡ answered kind' read' → (kind ≡ kind') × (read ≡ read')
answered_parts kind kind' read read' e =
    let same : ◌≡◌ {A = BlockAt} (record { kind = kind; read = read }) (record { kind = kind'; read = read' }) = cc e in
    (ap (λ (b : BlockAt). b.kind) same, ap (λ (b : BlockAt). b.read) same)

-- one block
measures_so : (source : ℕ) (e : Entry) → measures source e ≡ true → MeasuredFor (read_alone e) source
measures_so source e h = go (measures_of (read_alone e)) refl h
  where
    go : (m : Option ℕ) → measures_of (read_alone e) ≡ m → names m source ≡ true → MeasuredFor (read_alone e) source
    go (Some x) m t = (measures_exactly (read_alone e) source).0 (m ∙ ap Some (eqb-true x source t))
    go None m t = let z : ◌≡◌ {A = ℕ} 0 1 = cc in absurd (omega arith)

so_measures : (source : ℕ) (e : Entry) → MeasuredFor (read_alone e) source → measures source e ≡ true
so_measures source e f = rw ((measures_exactly (read_alone e) source).1 f) (eq-eqb source source refl)

-- a block of a list, by its number
record Somewhere (es : List Entry) (source : ℕ) : Type 0 where
  index : ℕ
  entry : Entry
  number : numbered es index ≡ Some entry
  measures_it : measures source entry ≡ true

somewhere : (source : ℕ) (es : List Entry) → measured source es ≡ true → Somewhere es source
unfolding measured numbered
somewhere source [] h = let z : ◌≡◌ {A = ℕ} 0 1 = cc in absurd (omega arith)
somewhere source (e ∷ es) h = go (measures source e) refl (measured source es) refl h (somewhere source es)
  where
    go : (a : Bool) → measures source e ≡ a → (b : Bool) → measured source es ≡ b → (a || b) ≡ true → (measured source es ≡ true → Somewhere es source) → Somewhere (e ∷ es) source
    go true a b m t rest = record { index = zero; entry = e; number = refl; measures_it = a }
    go false a true m t rest = let r = rest m in record { index = suc r.index; entry = r.entry; number = r.number; measures_it = r.measures_it }
    go false a false m t rest = let z : ◌≡◌ {A = ℕ} 0 1 = cc in absurd (omega arith)

anywhere : (source : ℕ) (es : List Entry) (k : ℕ) (e : Entry) → numbered es k ≡ Some e → measures source e ≡ true → measured source es ≡ true
unfolding measured numbered
anywhere source [] k e n m = let z : ◌≡◌ {A = ℕ} 0 1 = cc in absurd (omega arith)
anywhere source (x ∷ es) zero e n m = let same : x ≡ e = cc in rw (same, m)
anywhere source (x ∷ es) (suc k) e n m = rw (anywhere source es k e n m) (go (measures source x))
  where
    go : (a : Bool) → (a || true) ≡ true
    go true = refl
    go false = refl

pub measured_exactly : MeasuredExactly
measured_exactly sender es source = (λ h. at (somewhere source es h), back)
  where
    at : Somewhere es source → MeasuredAt (good sender es) source
    at w =
        let f = measures_so source w.entry w.measures_it in
        record { index = w.index; type = w.entry.kind; block = f.block; is = rw (w.number, f.typed); names = f.source }

    alone : (e : Entry) (m : Measurement) → read_in es e ≡ Typed (Measured m) → (read_in es e ≡ read_alone e) ⊎ (read_in es e ≡ Dropped Unmeasured) → read_alone e ≡ Typed (Measured m)
    alone e m r (inl same) = sym same ∙ r
    alone e m r (inr dropped) = let z : ◌≡◌ {A = ℕ} 0 1 = cc in absurd (omega arith)

    by : (a : MeasuredAt (good sender es) source) (n : Option Entry) → numbered es a.index ≡ n → found es n ≡ answered a.type (Typed (Measured a.block)) → measured source es ≡ true
    by a None n f = let z : ◌≡◌ {A = ℕ} 0 1 = cc in absurd (omega arith)
    by a (Some e) n f =
        let r = (answered_parts e.kind a.type (read_in es e) (Typed (Measured a.block)) f).1 in
        anywhere source es a.index e n (so_measures source e (record { block = a.block; typed = alone e a.block r (own_but_unmeasured es e); source = a.names }))

    back : MeasuredAt (good sender es) source → measured source es ≡ true
    back a = by a (numbered es a.index) refl a.is
