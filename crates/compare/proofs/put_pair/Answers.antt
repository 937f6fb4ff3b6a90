-- `compare::put_pair` meets its contract: each return is a case of Pairing.antt. Assumes nothing.
use Prim.Native.Nat.{ℕ}
use mathlib.Core.Path.{◌≡◌, sym, ap, ◌∙◌}
use mathlib.Core.Bool.{true, false}
use mathlib.Core.List.{List}
use native.Mathlib.Omega.{arith}
use borrow.Author.Tests.{eq-eqb}
use Rattle.difference.proofs.Writing.{adds_none}
use Rattle.compare.specs.Differences.{same_numbers}
use Rattle.compare.proofs.Nothing.{bytes_same}
use Rattle.compare.proofs.Pairing.{same_block, pair_alike, pair_fields, pair_whole}
use Rattle.compare.proofs.put_pair.Goals as goal

pub returns-then-typed_by_size : goal.returns-then-typed_by_size
returns-then-typed_by_size c =
    let a = c.args in
    let sized = c.typed_by_size.ensures c.if-typed_by_size.true in
    rw (pair_fields a.k a.x.now a.y.now a.sources.first.now a.sources.second.now (rw (eq-eqb _ _ sized.type, sized.first a.sources.first.now, sized.second a.sources.second.now)))
    c.put_fields.ensures

pub returns-then-sources : goal.returns-then-sources
returns-then-sources c =
    let a = c.args in
    rw (pair_alike a.k a.x.now a.y.now a.sources.first.now a.sources.second.now (sym c.same_blocks.ensures ∙ c.if-same_blocks.true) (a.sources.same c.if-sources.true))
    (adds_none _ _)

pub put_same-requires : goal.put_same-requires
put_same-requires c =
    sym c.same_blocks.ensures ∙ c.if-same_blocks.true

pub returns-then-both_typed : goal.returns-then-both_typed
returns-then-both_typed c =
    let a = c.args in
    rw (pair_fields a.k a.x.now a.y.now a.sources.first.now a.sources.second.now (sym c.both_typed.ensures ∙ c.if-both_typed.true))
    c.put_fields-then-both_typed.ensures

pub returns : goal.returns
returns c =
    let a = c.args in
    let other : same_numbers a.x.now a.y.now ≡ false = sym c.same_blocks.ensures ∙ c.if-same_blocks.false in
    rw (pair_whole a.k a.x.now a.y.now a.sources.first.now a.sources.second.now
    (λ h.
    let same = same_block a.x.now a.y.now c.requires.0 c.requires.1 (λ j. omega (arith, c.type_inv.x j)) (λ j. omega (arith, c.type_inv.y j)) h in
    let equal : same_numbers a.x.now a.y.now ≡ true = ap (λ (z : List ℕ). same_numbers z a.y.now) same ∙ bytes_same a.y.now in
    let z : ◌≡◌ {A = ℕ} 0 1 = cc in
    omega arith)
    (sym c.both_typed.ensures ∙ c.if-both_typed.false))
    c.put_whole.ensures
