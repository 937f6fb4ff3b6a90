-- The two loops over digits, as plain lists and numbers: reading digits from the front and writing them
-- from the back. For each its invariant, one turn and the end. Assumes nothing.
use Prim.Native.Nat.{ℕ, suc, ◌+◌, ◌-◌, ◌*◌, ◌/◌, ◌%◌, ◌^◌, ◌<◌, ◌≤◌}
use mathlib.Core.Path.{◌≡◌, refl, sym}
use mathlib.Core.Bool.{Bool, true, false}
use mathlib.Core.List.{List, ◌++◌, append_assoc, append-nil}
use native.Mathlib.Omega.{arith}
use native.Mathlib.Nat.{div-div-eq-div-mul, pow-suc, pow-le-pow_right, lt_of_lt_of_le}
use native.Mathlib.Numerals.{add-one}
use lib.ListN.{length, take, get_or, set}
use lib.Seq.{take-suc, take_all, length-take-le, set_at}
use Rattle.card.specs.Decimal.{is_digit, all_digits, decimal, digits}
use Rattle.card.specs.Steps.{number_in}
use Rattle.card.proofs.Decimal.{digit_of, all_append, all_at, decimal_append, decimal_lt}
use Rattle.std.specs.Prelude.{Some, None}

-- Reading: the first i bytes are digits, and n is their number.
pub record Taken (s : List ℕ) (n i : ℕ) : Type 0 where
  pub within : i ≤ length s
  pub each : all_digits (take i s) ≡ true
  pub value : n ≡ decimal (take i s)

pub taken_none : (s : List ℕ) → Taken s 0 0
unfolding all_digits decimal
taken_none s = record { within = omega arith; each = refl; value = refl }

pub taken_small : (s : List ℕ) (n i : ℕ) → Taken s n i → i ≤ 17 → n < 10 ^ 17
taken_small s n i t h =
    let lt = decimal_lt (take i s) t.each in
    let lt' = rw (length-take-le i s t.within) at lt in
    lt_of_lt_of_le (rw t.value lt') (pow-le-pow_right {n = 10} (omega arith) h)

pub taken_more : (s : List ℕ) (n i : ℕ) → i < length s → 48 ≤ get_or s i 0 → get_or s i 0 ≤ 57 → Taken s n i → Taken s (n * 10 + (get_or s i 0 - 48)) (i + 1)
unfolding all_digits decimal
taken_more s n i h low high t =
    let d = digit_of (get_or s i 0) low high in
    record {
      within = omega arith;
      each = rw (add-one, take-suc s i 0 h, all_append) (rw (t.each, d));
      value = rw (add-one, take-suc s i 0 h, decimal_append, t.value) (omega arith);
    }

-- a byte that is no digit, and the end of the bytes
pub taken_other : (s : List ℕ) (i : ℕ) → i < length s → is_digit (get_or s i 0) ≡ false → None ≡ number_in s
unfolding number_in
taken_other s i h d = rw (not_all (all_digits s) refl)
  where
    not_all : (b : Bool) → all_digits s ≡ b → all_digits s ≡ false
    not_all true e = let t = all_at s i e h in cc
    not_all false e = e

pub taken_all : (s : List ℕ) (n i : ℕ) → length s ≤ i → Taken s n i → Some n ≡ number_in s
unfolding number_in
taken_all s n i h t =
    let whole = take_all i s h in
    let each = rw whole at t.each in
    let value = rw whole at t.value in
    rw (each, value)

-- Writing: the digits from i on stand, and `rest` is what is left of n.
pub record Put (old : List ℕ) (n : ℕ) (part : List ℕ) (rest i : ℕ) : Type 0 where
  pub within : i ≤ length old
  pub left : rest ≡ n / 10 ^ (length old - i)
  pub list : part ≡ take i old ++ digits (length old - i) n

pub put_none : (old : List ℕ) (n : ℕ) → Put old n old n (length old)
unfolding digits
put_none old n =
    let e : length old - length old ≡ 0 = omega arith in
    record {
      within = omega arith;
      left = rw e (omega arith);
      list = rw (e, append-nil) (sym (take_all (length old) old (omega arith)));
    }

put_suc : (old : List ℕ) (n : ℕ) (part : List ℕ) (rest j : ℕ) → Put old n part rest (suc j) → Put old n (set part j (48 + rest % 10)) (rest / 10) j
unfolding digits
put_suc old n part rest j p =
    let room = p.within in
    let w : length old - j ≡ suc (length old - suc j) = omega arith in
    let within : j < length old = omega arith in
    record {
      within = omega arith;
      left = rw (w, pow-suc, ← div-div-eq-div-mul, ← p.left);
      list = rw (w, p.list, take-suc old j 0 within, ← p.left)
          (simp append_assoc (set_at (take j old) (get_or old j 0) (digits (length old - suc j) n) (48 + rest % 10) j (length-take-le j old (omega arith))));
    }

pub put_more : (old : List ℕ) (n : ℕ) (part : List ℕ) (rest i : ℕ) → 0 < i → Put old n part rest i → Put old n (set part (i - 1) (48 + rest % 10)) (rest / 10) (i - 1)
put_more old n part rest i h p =
    let e : i ≡ suc (i - 1) = omega arith in
    put_suc old n part rest (i - 1) (rw (← e) p)

pub put_all : (old : List ℕ) (n : ℕ) (part : List ℕ) (rest i : ℕ) → i ≤ 0 → Put old n part rest i → part ≡ digits (length old) n
put_all old n part rest i h p =
    let e : i ≡ 0 = omega arith in
    let whole : length old - 0 ≡ length old = omega arith in
    rw whole at (rw e at p.list)
