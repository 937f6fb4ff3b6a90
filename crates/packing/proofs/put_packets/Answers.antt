-- `packing::put_packets` meets its contract. The loop's invariant is `Placing`, a word's packets a turn. Assumes nothing.
use Prim.Native.Nat.{ℕ, ◌+◌, ◌*◌, ◌/◌, ◌%◌}
use mathlib.Core.Path.{◌≡◌, sym}
use native.Mathlib.Omega.{arith}
use native.Mathlib.Nat.{zero-add}
use lib.ListN.{length, get_or}
use Rattle.packed.specs.Words.{word_bits, one_at, one_in, bytes_of}
use Rattle.packed.proofs.Bytes.{length_bytes}
use Rattle.packing.proofs.Placing.{Placing, placing_none, placing_long, placing_more, placing_front}
use Rattle.packing.proofs.Words.{bytes_fronts, word_more}
use Rattle.packing.proofs.put_packets.Goals as goal

pub loop-k-init : goal.loop-k-init
loop-k-init c = placing_none _ (bytes_fronts (one_in c.args.words.now)) _ _ _ (omega arith)

pub put_word-requires : goal.put_word-requires
put_word-requires c =
    let long : length c.loop-k.out ≡ length c.args.out.now = placing_long _ (bytes_fronts _) _ _ _ _ _ c.loop-k.invariant in
    omega (arith, long)

pub loop-k-preserved : goal.loop-k-preserved
loop-k-preserved c =
    let k : ℕ = c.loop-k.k in
    let words = c.args.words.now in
    let next : word_bits * (k + 1) ≡ word_bits * k + word_bits = omega arith in
    rw next
    (placing_more _ (bytes_fronts (one_in words)) _ _ _ _ _ c.loop-k.invariant _ _ word_bits _ (omega arith) (length_bytes (one_at (get_or words k 0)) 0 word_bits) (sym (zero-add (word_bits * k)))
    (word_more words k word_bits (omega arith)) c.put_word.ensures)

pub shape_of-out-then-packets-eq0 : goal.shape_of-out-then-packets-eq0
shape_of-out-then-packets-eq0 c =
    let long : length c.loop-k.out ≡ length c.args.out.now = placing_long _ (bytes_fronts _) _ _ _ _ _ c.loop-k.invariant in
    long

pub returns-then-packets-eq0 : goal.returns-then-packets-eq0
returns-then-packets-eq0 c = placing_front _ (bytes_fronts (one_in c.args.words.now)) _ _ _ _ c.loop-k.invariant (omega arith)

pub put_bits-requires : goal.put_bits-requires
put_bits-requires c =
    let long : length c.loop-k.out ≡ length c.args.out.now = placing_long _ (bytes_fronts _) _ _ _ _ _ c.loop-k.invariant in
    (omega (arith, long), omega arith)

pub shape_of-out : goal.shape_of-out
shape_of-out c =
    let rest : Placing (bytes_of (one_in c.args.words.now) 0) c.args.out.now 0 c.args.packets c.put_bits.new.out (word_bits * (c.args.packets / word_bits) + c.args.packets % word_bits) = let args = c.args in
    let words = args.words.now in
    let whole : ℕ = args.packets / word_bits in
    let n : ℕ = args.packets % word_bits in
    let end : c.loop-k.k ≡ whole = omega (arith, c.loop-k.invariant.within) in
    let here : Placing (bytes_of (one_in words) 0) args.out.now 0 args.packets c.loop-k.out (word_bits * whole) = rw (← end) c.loop-k.invariant in
    placing_more _ (bytes_fronts (one_in words)) _ _ _ _ _ here _ _ n _ (omega arith) (length_bytes (one_at (get_or words whole 0)) 0 n) (sym (zero-add (word_bits * whole)))
    (word_more words whole n (omega arith)) c.put_bits.ensures in
    placing_long _ (bytes_fronts _) _ _ _ _ _ rest

pub returns : goal.returns
returns c =
    let rest : Placing (bytes_of (one_in c.args.words.now) 0) c.args.out.now 0 c.args.packets c.put_bits.new.out (word_bits * (c.args.packets / word_bits) + c.args.packets % word_bits) = let args = c.args in
    let words = args.words.now in
    let whole : ℕ = args.packets / word_bits in
    let n : ℕ = args.packets % word_bits in
    let end : c.loop-k.k ≡ whole = omega (arith, c.loop-k.invariant.within) in
    let here : Placing (bytes_of (one_in words) 0) args.out.now 0 args.packets c.loop-k.out (word_bits * whole) = rw (← end) c.loop-k.invariant in
    placing_more _ (bytes_fronts (one_in words)) _ _ _ _ _ here _ _ n _ (omega arith) (length_bytes (one_at (get_or words whole 0)) 0 n) (sym (zero-add (word_bits * whole)))
    (word_more words whole n (omega arith)) c.put_bits.ensures in
    placing_front _ (bytes_fronts _) _ _ _ _ rest (omega arith)
