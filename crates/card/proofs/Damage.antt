-- No accepted card survives a digit's change or an exchange of two unequal digits: `ChangedRefused` and
-- `ExchangedRefused` of specs/Laws.antt. Assumes nothing.
use Prim.Native.Nat.{ℕ, suc, ◌+◌, ◌-◌, ◌*◌, ◌%◌, ◌^◌, ◌<◌, ◌≤◌}
use mathlib.Core.Path.{◌≡◌, sym, ap, ◌∙◌}
use mathlib.Core.Bool.{true}
use mathlib.Core.List.{List}
use native.Mathlib.Omega.{arith}
use native.Mathlib.Nat.{add-mul}
use native.Mathlib.Decide.{dec_le}
use lib.ListN.{get_or, set, length-set}
use lib.Seq.{get_or-set_other}
use Rattle.card.specs.Decimal.{is_digit, decimal}
use Rattle.card.specs.Card.{card_length}
use Rattle.card.specs.Laws.{exchange, ChangedRefused, ExchangedRefused}
use Rattle.card.proofs.Decimal.{Digit, digit_range, all_at, all_set, decimal_set}
use Rattle.card.proofs.Check.{cancel, same_weight}
use Rattle.card.proofs.Cases.{Twenty, Good, good, wrong_check}

-- twenty digits with one changed are twenty digits
twenty_set : (c : List ℕ) (i d : ℕ) → Twenty c → is_digit d ≡ true → Twenty (set c i d)
twenty_set c i d t h = record { count = length-set c i d ∙ t.count; each = all_set c i d t.each h }

-- the weight of a position: the power of ten that its digit counts
abbrev weight : ℕ → ℕ
weight i = 10 ^ (card_length - suc i)

moved : (c : List ℕ) (i d : ℕ) → Twenty c → i < card_length →
    decimal (set c i d) + (get_or c i 0 - 48) * weight i ≡ decimal c + (d - 48) * weight i
moved c i d t h = let e = decimal_set c i d (rw t.count h) in rw t.count at e

pub changed_refused : ChangedRefused
changed_refused l c s accepted i d within digit other =
    let g = good l c s accepted in
    let old = digit_range (get_or c i 0) (all_at c i g.digits.each (rw g.digits.count within)) in
    let new = digit_range d digit in
    let m = moved c i d g.digits within in
    let leaves = g.leaves in
    wrong_check l (set c i d) (twenty_set c i d g.digits digit)
    (λ right. other (let same = cancel (card_length - suc i) (get_or c i 0 - 48) (d - 48) (omega arith) in omega arith))

-- exchanging a lower and a higher digit leaves the remainder only where their weights are the same
collide : (low high m n whole whole' : ℕ) → low < high → high ≤ 9 → m < card_length → n < card_length →
    whole' + high * 10 ^ n + low * 10 ^ m ≡ whole + high * 10 ^ m + low * 10 ^ n →
    whole % 97 ≡ 1 → whole' % 97 ≡ 1 → m ≡ n
collide low high m n whole whole' lt small hm hn sum one one' =
    let more : high ≡ low + (high - low) = omega arith in
    let at-m : high * 10 ^ m ≡ low * 10 ^ m + (high - low) * 10 ^ m = ap (λ (k : ℕ). k * 10 ^ m) more ∙ add-mul low (high - low) (10 ^ m) in
    let at_n : high * 10 ^ n ≡ low * 10 ^ n + (high - low) * 10 ^ n = ap (λ (k : ℕ). k * 10 ^ n) more ∙ add-mul low (high - low) (10 ^ n) in
    same_weight (high - low) m n (omega arith) (omega arith) hm hn (omega arith)

-- what an exchange does to the whole number
module _ (c : List ℕ) (t : Twenty c) (i j : ℕ) (within-i : i < card_length) (within-j : j < card_length) (apart : i ≡ j → ⊥) where
  digit_at : (k : ℕ) → k < card_length → is_digit (get_or c k 0) ≡ true
  digit_at k h = all_at c k t.each (rw t.count h)

  first_set : Twenty (set c i (get_or c j 0))
  first_set = twenty_set c i (get_or c j 0) t (digit_at j within-j)

  exchange_twenty : Twenty (exchange c i j)
  exchange_twenty = twenty_set (set c i (get_or c j 0)) j (get_or c i 0) first_set (digit_at i within-i)

  exchange_sum : decimal (exchange c i j) + (get_or c j 0 - 48) * weight j + (get_or c i 0 - 48) * weight i ≡ decimal c + (get_or c j 0 - 48) * weight i + (get_or c i 0 - 48) * weight j
  exchange_sum =
      let first = moved c i (get_or c j 0) t within-i in
      let second = moved (set c i (get_or c j 0)) j (get_or c i 0) first_set within-j in
      let kept = get_or-set_other c i j (get_or c j 0) 0 (λ same. apart (sym same)) in
      let second' = rw kept at second in
      omega arith

pub exchanged_refused : ExchangedRefused
exchanged_refused l c s accepted i j within-i within-j other =
    wrong_check l (exchange c i j) (exchange_twenty c t i j within-i within-j apart) (λ right. split right (dec_le (get_or c i 0) (get_or c j 0)))
  where
    g : Good l c s
    g = good l c s accepted

    t : Twenty c
    t = g.digits

    apart : i ≡ j → ⊥
    apart e = other (ap (λ (k : ℕ). get_or c k 0) e)

    sum : decimal (exchange c i j) + (get_or c j 0 - 48) * weight j + (get_or c i 0 - 48) * weight i ≡ decimal c + (get_or c j 0 - 48) * weight i + (get_or c i 0 - 48) * weight j
    sum = exchange_sum c t i j within-i within-j apart

    x : Digit (get_or c i 0)
    x = digit_range (get_or c i 0) (digit_at c t i j within-i within-j apart i within-i)

    y : Digit (get_or c j 0)
    y = digit_range (get_or c j 0) (digit_at c t i j within-i within-j apart j within-j)

    split : decimal (exchange c i j) % 97 ≡ 1 → Dec (get_or c i 0 ≤ get_or c j 0) → ⊥
    split right (yes le) =
        let x' = x in
        let y' = y in
        let ne = other in
        let same = collide (get_or c i 0 - 48) (get_or c j 0 - 48) (card_length - suc i) (card_length - suc j) (decimal c) (decimal (exchange c i j))
        (omega arith) (omega arith) (omega arith) (omega arith) sum g.leaves right in
        apart (omega arith)
    split right (no gt) =
        let x' = x in
        let y' = y in
        let s' = sum in
        let same = collide (get_or c j 0 - 48) (get_or c i 0 - 48) (card_length - suc j) (card_length - suc i) (decimal c) (decimal (exchange c i j))
        (omega arith) (omega arith) (omega arith) (omega arith) (omega arith) g.leaves right in
        apart (omega arith)
