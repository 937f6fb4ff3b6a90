-- `chunk::one_part` meets its contract: no part where a null chunk stands. Assumes nothing.
use mathlib.Core.Path.{refl, ap, ◌∙◌}
use Prim.Native.Nat.{ℕ, min}
use native.Mathlib.Omega.{arith}
use borrow.Author.Tests.{eq-eqb, ne_eqb, lt-ltb}
use Rattle.chunk.proofs.one_part.Goals as goal

pub returns-then-chunk-eq0 : goal.returns-then-chunk-eq0
returns-then-chunk-eq0 c = rw (eq-eqb c.args.chunk 0 c.if-chunk-eq0.true) (ne_eqb c.args.left 0 (λ z. omega arith))

pub returns : goal.returns
returns c =
    let args = c.args in
    record {
      stands = rw (ne_eqb args.chunk 0 c.if-chunk-eq0.false, lt-ltb 0 args.left (omega arith));
      two = refl;
      packets = c.min-packets.ensures ∙ ap (λ (n : ℕ). min n args.left) c.span-whole.ensures;
      lost = c.lost_among.ensures;
      row = omega arith;
    }
