-- `unroll::put_chunk` meets its contract: a run filled, or a vector, as far as there is room. Assumes nothing.
use Prim.Native.Nat.{ℕ, ◌-◌, ◌/◌, min}
use mathlib.Core.Path.{sym, ap, ◌∙◌}
use mathlib.Core.List.{List, ◌++◌}
use native.Mathlib.Omega.{arith}
use lib.ListN.{length, take, drop, replicate, length-take}
use lib.Seq.{length-take-le}
use Rattle.chunk.specs.Chunks.{vector_bits, vector_of}
use Rattle.chunk.proofs.Vectors.{span_vector, length_taken, run_taken, vector_taken}
use Rattle.unroll.proofs.put_chunk.Goals as goal

pub returns-then-bits-lt-VECTOR : goal.returns-then-bits-lt-VECTOR
returns-then-bits-lt-VECTOR c =
    let args = c.args in
    let n : ℕ = c.min-part.result in
    let part = c.min-part.ensures ∙ ap (λ (k : ℕ). min k (length args.out.now)) c.span.ensures in
    let filled = c.fill.ensures.after (λ y e. e) ∙ ap (λ (k : ℕ). replicate k (1 - args.bits / 16384)) (length-take-le n args.out.now (omega arith)) in
    record {
      answer = sym (length_taken _ _ _ part);
      buffer = ap (λ (l : List ℕ). l ++ drop n args.out.now) (filled ∙ sym (run_taken _ _ _ part (omega arith)));
    }

pub put_vector-requires : goal.put_vector-requires
put_vector-requires c = omega (arith, span_vector c.args.bits (omega arith), length-take c.min-part.result c.args.out.now)

pub returns : goal.returns
returns c =
    let args = c.args in
    let n : ℕ = c.min-part.result in
    let part = c.min-part.ensures ∙ ap (λ (k : ℕ). min k (length args.out.now)) c.span.ensures in
    let bits = c.put_vector.ensures ∙ ap (λ (k : ℕ). take k (vector_of vector_bits args.bits)) (length-take-le n args.out.now (omega arith)) in
    record {
      answer = sym (length_taken _ _ _ part);
      buffer = ap (λ (l : List ℕ). l ++ drop n args.out.now) (bits ∙ sym (vector_taken _ _ _ part (omega arith)));
    }
