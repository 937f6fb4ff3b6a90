-- `packing::Chosen::put_words` meets its contract. The loop's invariant is `Placing`, a word a turn. Assumes nothing.
use Prim.Native.Nat.{ℕ, ◌+◌, ◌/◌}
use mathlib.Core.Path.{◌≡◌, sym}
use native.Mathlib.Omega.{arith}
use native.Mathlib.Nat.{zero-add}
use lib.ListN.{length, set}
use Rattle.trace.specs.Trace.{counted_at}
use Rattle.packed.specs.Words.{word_bits, words_for}
use Rattle.packing.specs.Packing.{words_up_to}
use Rattle.packing.proofs.Placing.{Placing, placing_none, placing_long, placing_one, placing_front}
use Rattle.packing.proofs.Words.{words_fronts, words_next}
use Rattle.packing.proofs.Chosen.put_words.Goals as goal

pub loop-k-init : goal.loop-k-init
loop-k-init c = (placing_none _ (words_fronts (counted_at c.args.self.now.event c.args.self.now.trace.now)) _ _ _ (omega arith), omega arith)

pub word-requires : goal.word-requires
word-requires c = omega arith

pub bounds-out-k : goal.bounds-out-k
bounds-out-k c =
    let long : length c.loop-k.out ≡ length c.args.out.now = placing_long _ (words_fronts _) _ _ _ _ _ c.loop-k.invariant.0 in
    omega (arith, long)

pub loop-k-preserved : goal.loop-k-preserved
loop-k-preserved c =
    let lost = counted_at c.args.self.now.event c.args.self.now.trace.now in
    (placing_one _ (words_fronts lost) _ _ _ _ _ c.loop-k.invariant.0 _ _ (omega arith) (sym (zero-add c.loop-k.k)) (words_next lost c.loop-k.k _ c.word.ensures), omega arith)

pub shape_of-out-then-self-eq0 : goal.shape_of-out-then-self-eq0
shape_of-out-then-self-eq0 c =
    let long : length c.loop-k.out ≡ length c.args.out.now = placing_long _ (words_fronts _) _ _ _ _ _ c.loop-k.invariant.0 in
    long

pub returns-then-self-eq0 : goal.returns-then-self-eq0
returns-then-self-eq0 c =
    let long : length c.loop-k.out ≡ length c.args.out.now = placing_long _ (words_fronts _) _ _ _ _ _ c.loop-k.invariant.0 in
    placing_front _ (words_fronts _) _ _ _ _ c.loop-k.invariant.0 (omega (arith, long))

pub last_word-requires : goal.last_word-requires
last_word-requires c = (omega arith, omega arith)

pub bounds-out-whole : goal.bounds-out-whole
bounds-out-whole c =
    let long : length c.loop-k.out ≡ length c.args.out.now = placing_long _ (words_fronts _) _ _ _ _ _ c.loop-k.invariant.0 in
    omega (arith, long)

pub shape_of-out : goal.shape_of-out
shape_of-out c =
    let rest : let whole = length c.args.self.now.trace.now / word_bits in Placing (words_up_to (counted_at c.args.self.now.event c.args.self.now.trace.now)) c.args.out.now 0 (words_for (length c.args.self.now.trace.now)) (set c.loop-k.out whole c.last_word.result) (whole + 1) = let args = c.args in
    let lost = counted_at args.self.now.event args.self.now.trace.now in
    let whole : ℕ = length args.self.now.trace.now / word_bits in
    let end : c.loop-k.k ≡ whole = omega (arith, c.loop-k.invariant.1) in
    let here : Placing (words_up_to lost) args.out.now 0 (words_for (length args.self.now.trace.now)) c.loop-k.out whole = rw (← end) c.loop-k.invariant.0 in
    placing_one _ (words_fronts lost) _ _ _ _ _ here _ _ (omega arith) (sym (zero-add whole)) (words_next lost whole _ c.last_word.ensures) in
    placing_long _ (words_fronts _) _ _ _ _ _ rest

pub returns : goal.returns
returns c =
    let rest : let whole = length c.args.self.now.trace.now / word_bits in Placing (words_up_to (counted_at c.args.self.now.event c.args.self.now.trace.now)) c.args.out.now 0 (words_for (length c.args.self.now.trace.now)) (set c.loop-k.out whole c.last_word.result) (whole + 1) = let args = c.args in
    let lost = counted_at args.self.now.event args.self.now.trace.now in
    let whole : ℕ = length args.self.now.trace.now / word_bits in
    let end : c.loop-k.k ≡ whole = omega (arith, c.loop-k.invariant.1) in
    let here : Placing (words_up_to lost) args.out.now 0 (words_for (length args.self.now.trace.now)) c.loop-k.out whole = rw (← end) c.loop-k.invariant.0 in
    placing_one _ (words_fronts lost) _ _ _ _ _ here _ _ (omega arith) (sym (zero-add whole)) (words_next lost whole _ c.last_word.ensures) in
    placing_front _ (words_fronts _) _ _ _ _ rest (omega arith)
