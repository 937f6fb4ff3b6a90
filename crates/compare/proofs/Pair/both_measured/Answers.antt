-- `compare::Pair::both_measured` meets its contract: the first table has the source, or not, and then the second. Assumes nothing.
use Prim.Native.Nat.{ℕ}
use mathlib.Core.Path.{◌≡◌, sym, ap, ap₂, ◌∙◌}
use mathlib.Core.Bool.{true}
use mathlib.Core.List.{List}
use borrow.Author.Tests.{eqb-true}
use lib.Dec.{eqb}
use Rattle.refusal.proofs.Tests.{and_left, and_right}
use Rattle.wire.specs.BigEndian.{u32_at}
use Rattle.verdict.specs.Sources.{member}
use Rattle.compare.proofs.Both.{first_lacks, first_has}
use Rattle.compare.proofs.Pair.both_measured.Goals as goal

pub returns-then-not-has : goal.returns-then-not-has
returns-then-not-has c =
    let in_first : c.has.result ≡ member (u32_at c.args.self.x.now 4) c.args.sources.first.now = c.has.ensures c.args.sources.sorted ∙ ap (λ (source : ℕ). member source c.args.sources.first.now) c.u32_at-source.ensures in
    first_lacks _ _ _ _ c.requires (sym (c.if-not-has.true) ∙ in_first)

pub returns-then-sources-source : goal.returns-then-sources-source
returns-then-sources-source c =
    let in_first : c.has.result ≡ member (u32_at c.args.self.x.now 4) c.args.sources.first.now = c.has.ensures c.args.sources.sorted ∙ ap (λ (source : ℕ). member source c.args.sources.first.now) c.u32_at-source.ensures in
    let t = c.args.sources in
    let joined = c.if-sources-source.true in
    let alike = and_left c.args.sources.alike (eqb c.u32_at-source.result c.u32_at-other_source.result) joined in
    let source = eqb-true c.u32_at-source.result c.u32_at-other_source.result (and_right c.args.sources.alike (eqb c.u32_at-source.result c.u32_at-other_source.result) joined) in
    let found = sym (c.if-not-has.false) in
    first_has _ _ _ _ c.requires true (found ∙ in_first)
    (found ∙ c.has.ensures t.sorted ∙ ap₂ (λ (n : ℕ) (l : List ℕ). member n l) (source ∙ c.u32_at-other_source.ensures) (t.same alike))

pub returns : goal.returns
returns c =
    let in_first : c.has.result ≡ member (u32_at c.args.self.x.now 4) c.args.sources.first.now = c.has.ensures c.args.sources.sorted ∙ ap (λ (source : ℕ). member source c.args.sources.first.now) c.u32_at-source.ensures in
    first_has _ _ _ _ c.requires _ (sym (c.if-not-has.false) ∙ in_first)
    (c.has-2.ensures c.args.sources.second_sorted ∙ ap (λ (source : ℕ). member source c.args.sources.second.now) c.u32_at-other_source.ensures)
