-- `difference::stream_fields` meets its contract: twelve places. Assumes nothing.
use Prim.Native.Nat.{◌+◌, ◌≤◌}
use mathlib.Core.Path.{refl}
use native.Mathlib.Omega.{arith}
use Rattle.block.specs.Types.{streams_type}
use Rattle.difference.proofs.Writing.{adds_length}
use Rattle.difference.proofs.Comparing.{places_both, sized, other_size}
use Rattle.difference.proofs.stream_fields.Goals as goal

pub returns-then-x-ne-STREAMS_SIZE : goal.returns-then-x-ne-STREAMS_SIZE
returns-then-x-ne-STREAMS_SIZE c = other_size _ _ _ streams_type c.if-x-ne-STREAMS_SIZE.true

pub add_half-n-requires : goal.add_half-n-requires
add_half-n-requires c =
    let few_1 : c.add_word-n.result ≤ 4294967295 + 1 = omega (arith, c.add_word-n.ensures.few, c.ranges) in
    omega (arith, few_1)

pub add_half-n-requires-2 : goal.add_half-n-requires-2
add_half-n-requires-2 c =
    let few_1 : c.add_word-n.result ≤ 4294967295 + 1 = omega (arith, c.add_word-n.ensures.few, c.ranges) in
    let few_2 : c.add_half-n.result ≤ 4294967295 + 2 = omega (arith, c.add_half-n.ensures.few, few_1) in
    omega (arith, few_2)

pub add_word-n-requires-2 : goal.add_word-n-requires-2
add_word-n-requires-2 c =
    let few_1 : c.add_word-n.result ≤ 4294967295 + 1 = omega (arith, c.add_word-n.ensures.few, c.ranges) in
    let few_2 : c.add_half-n.result ≤ 4294967295 + 2 = omega (arith, c.add_half-n.ensures.few, few_1) in
    let few_3 : c.add_half-n-2.result ≤ 4294967295 + 3 = omega (arith, c.add_half-n-2.ensures.few, few_2) in
    omega (arith, few_3)

pub add_word-n-requires-3 : goal.add_word-n-requires-3
add_word-n-requires-3 c =
    let few_1 : c.add_word-n.result ≤ 4294967295 + 1 = omega (arith, c.add_word-n.ensures.few, c.ranges) in
    let few_2 : c.add_half-n.result ≤ 4294967295 + 2 = omega (arith, c.add_half-n.ensures.few, few_1) in
    let few_3 : c.add_half-n-2.result ≤ 4294967295 + 3 = omega (arith, c.add_half-n-2.ensures.few, few_2) in
    let few_4 : c.add_word-n-2.result ≤ 4294967295 + 4 = omega (arith, c.add_word-n-2.ensures.few, few_3) in
    omega (arith, few_4)

pub add_word-n-requires-4 : goal.add_word-n-requires-4
add_word-n-requires-4 c =
    let few_1 : c.add_word-n.result ≤ 4294967295 + 1 = omega (arith, c.add_word-n.ensures.few, c.ranges) in
    let few_2 : c.add_half-n.result ≤ 4294967295 + 2 = omega (arith, c.add_half-n.ensures.few, few_1) in
    let few_3 : c.add_half-n-2.result ≤ 4294967295 + 3 = omega (arith, c.add_half-n-2.ensures.few, few_2) in
    let few_4 : c.add_word-n-2.result ≤ 4294967295 + 4 = omega (arith, c.add_word-n-2.ensures.few, few_3) in
    let few_5 : c.add_word-n-3.result ≤ 4294967295 + 5 = omega (arith, c.add_word-n-3.ensures.few, few_4) in
    omega (arith, few_5)

pub add_word-n-requires-5 : goal.add_word-n-requires-5
add_word-n-requires-5 c =
    let few_1 : c.add_word-n.result ≤ 4294967295 + 1 = omega (arith, c.add_word-n.ensures.few, c.ranges) in
    let few_2 : c.add_half-n.result ≤ 4294967295 + 2 = omega (arith, c.add_half-n.ensures.few, few_1) in
    let few_3 : c.add_half-n-2.result ≤ 4294967295 + 3 = omega (arith, c.add_half-n-2.ensures.few, few_2) in
    let few_4 : c.add_word-n-2.result ≤ 4294967295 + 4 = omega (arith, c.add_word-n-2.ensures.few, few_3) in
    let few_5 : c.add_word-n-3.result ≤ 4294967295 + 5 = omega (arith, c.add_word-n-3.ensures.few, few_4) in
    let few_6 : c.add_word-n-4.result ≤ 4294967295 + 6 = omega (arith, c.add_word-n-4.ensures.few, few_5) in
    omega (arith, few_6)

pub add_word-n-requires-6 : goal.add_word-n-requires-6
add_word-n-requires-6 c =
    let few_1 : c.add_word-n.result ≤ 4294967295 + 1 = omega (arith, c.add_word-n.ensures.few, c.ranges) in
    let few_2 : c.add_half-n.result ≤ 4294967295 + 2 = omega (arith, c.add_half-n.ensures.few, few_1) in
    let few_3 : c.add_half-n-2.result ≤ 4294967295 + 3 = omega (arith, c.add_half-n-2.ensures.few, few_2) in
    let few_4 : c.add_word-n-2.result ≤ 4294967295 + 4 = omega (arith, c.add_word-n-2.ensures.few, few_3) in
    let few_5 : c.add_word-n-3.result ≤ 4294967295 + 5 = omega (arith, c.add_word-n-3.ensures.few, few_4) in
    let few_6 : c.add_word-n-4.result ≤ 4294967295 + 6 = omega (arith, c.add_word-n-4.ensures.few, few_5) in
    let few_7 : c.add_word-n-5.result ≤ 4294967295 + 7 = omega (arith, c.add_word-n-5.ensures.few, few_6) in
    omega (arith, few_7)

pub add_word-n-requires-7 : goal.add_word-n-requires-7
add_word-n-requires-7 c =
    let few_1 : c.add_word-n.result ≤ 4294967295 + 1 = omega (arith, c.add_word-n.ensures.few, c.ranges) in
    let few_2 : c.add_half-n.result ≤ 4294967295 + 2 = omega (arith, c.add_half-n.ensures.few, few_1) in
    let few_3 : c.add_half-n-2.result ≤ 4294967295 + 3 = omega (arith, c.add_half-n-2.ensures.few, few_2) in
    let few_4 : c.add_word-n-2.result ≤ 4294967295 + 4 = omega (arith, c.add_word-n-2.ensures.few, few_3) in
    let few_5 : c.add_word-n-3.result ≤ 4294967295 + 5 = omega (arith, c.add_word-n-3.ensures.few, few_4) in
    let few_6 : c.add_word-n-4.result ≤ 4294967295 + 6 = omega (arith, c.add_word-n-4.ensures.few, few_5) in
    let few_7 : c.add_word-n-5.result ≤ 4294967295 + 7 = omega (arith, c.add_word-n-5.ensures.few, few_6) in
    let few_8 : c.add_word-n-6.result ≤ 4294967295 + 8 = omega (arith, c.add_word-n-6.ensures.few, few_7) in
    omega (arith, few_8)

pub add_word-n-requires-8 : goal.add_word-n-requires-8
add_word-n-requires-8 c =
    let few_1 : c.add_word-n.result ≤ 4294967295 + 1 = omega (arith, c.add_word-n.ensures.few, c.ranges) in
    let few_2 : c.add_half-n.result ≤ 4294967295 + 2 = omega (arith, c.add_half-n.ensures.few, few_1) in
    let few_3 : c.add_half-n-2.result ≤ 4294967295 + 3 = omega (arith, c.add_half-n-2.ensures.few, few_2) in
    let few_4 : c.add_word-n-2.result ≤ 4294967295 + 4 = omega (arith, c.add_word-n-2.ensures.few, few_3) in
    let few_5 : c.add_word-n-3.result ≤ 4294967295 + 5 = omega (arith, c.add_word-n-3.ensures.few, few_4) in
    let few_6 : c.add_word-n-4.result ≤ 4294967295 + 6 = omega (arith, c.add_word-n-4.ensures.few, few_5) in
    let few_7 : c.add_word-n-5.result ≤ 4294967295 + 7 = omega (arith, c.add_word-n-5.ensures.few, few_6) in
    let few_8 : c.add_word-n-6.result ≤ 4294967295 + 8 = omega (arith, c.add_word-n-6.ensures.few, few_7) in
    let few_9 : c.add_word-n-7.result ≤ 4294967295 + 9 = omega (arith, c.add_word-n-7.ensures.few, few_8) in
    omega (arith, few_9)

pub add_word-n-requires-9 : goal.add_word-n-requires-9
add_word-n-requires-9 c =
    let few_1 : c.add_word-n.result ≤ 4294967295 + 1 = omega (arith, c.add_word-n.ensures.few, c.ranges) in
    let few_2 : c.add_half-n.result ≤ 4294967295 + 2 = omega (arith, c.add_half-n.ensures.few, few_1) in
    let few_3 : c.add_half-n-2.result ≤ 4294967295 + 3 = omega (arith, c.add_half-n-2.ensures.few, few_2) in
    let few_4 : c.add_word-n-2.result ≤ 4294967295 + 4 = omega (arith, c.add_word-n-2.ensures.few, few_3) in
    let few_5 : c.add_word-n-3.result ≤ 4294967295 + 5 = omega (arith, c.add_word-n-3.ensures.few, few_4) in
    let few_6 : c.add_word-n-4.result ≤ 4294967295 + 6 = omega (arith, c.add_word-n-4.ensures.few, few_5) in
    let few_7 : c.add_word-n-5.result ≤ 4294967295 + 7 = omega (arith, c.add_word-n-5.ensures.few, few_6) in
    let few_8 : c.add_word-n-6.result ≤ 4294967295 + 8 = omega (arith, c.add_word-n-6.ensures.few, few_7) in
    let few_9 : c.add_word-n-7.result ≤ 4294967295 + 9 = omega (arith, c.add_word-n-7.ensures.few, few_8) in
    let few_10 : c.add_word-n-8.result ≤ 4294967295 + 10 = omega (arith, c.add_word-n-8.ensures.few, few_9) in
    omega (arith, few_10)

pub add_word-requires : goal.add_word-requires
add_word-requires c =
    let few_1 : c.add_word-n.result ≤ 4294967295 + 1 = omega (arith, c.add_word-n.ensures.few, c.ranges) in
    let few_2 : c.add_half-n.result ≤ 4294967295 + 2 = omega (arith, c.add_half-n.ensures.few, few_1) in
    let few_3 : c.add_half-n-2.result ≤ 4294967295 + 3 = omega (arith, c.add_half-n-2.ensures.few, few_2) in
    let few_4 : c.add_word-n-2.result ≤ 4294967295 + 4 = omega (arith, c.add_word-n-2.ensures.few, few_3) in
    let few_5 : c.add_word-n-3.result ≤ 4294967295 + 5 = omega (arith, c.add_word-n-3.ensures.few, few_4) in
    let few_6 : c.add_word-n-4.result ≤ 4294967295 + 6 = omega (arith, c.add_word-n-4.ensures.few, few_5) in
    let few_7 : c.add_word-n-5.result ≤ 4294967295 + 7 = omega (arith, c.add_word-n-5.ensures.few, few_6) in
    let few_8 : c.add_word-n-6.result ≤ 4294967295 + 8 = omega (arith, c.add_word-n-6.ensures.few, few_7) in
    let few_9 : c.add_word-n-7.result ≤ 4294967295 + 9 = omega (arith, c.add_word-n-7.ensures.few, few_8) in
    let few_10 : c.add_word-n-8.result ≤ 4294967295 + 10 = omega (arith, c.add_word-n-8.ensures.few, few_9) in
    let few_11 : c.add_word-n-9.result ≤ 4294967295 + 11 = omega (arith, c.add_word-n-9.ensures.few, few_10) in
    omega (arith, few_11)

pub returns : goal.returns
returns c =
    sized _ _ _ streams_type c.if-x-ne-STREAMS_SIZE.false
    (places_both refl
    (places_both refl
    (places_both refl
    (places_both refl
    (places_both refl
    (places_both refl
    (places_both refl
    (places_both refl
    (places_both refl
    (places_both refl
    (places_both refl c.add_word-n.ensures c.add_half-n.ensures)
    c.add_half-n-2.ensures)
    c.add_word-n-2.ensures)
    c.add_word-n-3.ensures)
    c.add_word-n-4.ensures)
    c.add_word-n-5.ensures)
    c.add_word-n-6.ensures)
    c.add_word-n-7.ensures)
    c.add_word-n-8.ensures)
    c.add_word-n-9.ensures)
    c.add_word.ensures)

pub shape_of-out : goal.shape_of-out
shape_of-out c = adds_length _ _ _ _ _ (returns c)
