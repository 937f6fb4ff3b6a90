-- A search: where it begins, one turn by quarters, and the end. It stays inside any table, and in a sorted one it finds. Assumes nothing.
use Prim.Native.Nat.{ℕ, ◌+◌, ◌-◌, ◌*◌, ◌/◌, ◌<◌, ◌≤◌}
use mathlib.Core.Path.{◌≡◌, sym, ap, ◌∙◌}
use mathlib.Core.Bool.{Bool, true, false, cond, ◌||◌}
use mathlib.Core.List.{List}
use native.Mathlib.Omega.{arith}
use native.Mathlib.Nat.{mul_comm, mul-le-mul}
use native.Mathlib.Decide.{dec_lt, dec_le, ℕ_discrete}
use borrow.Author.Tests.{eq-eqb, ne_eqb, le-leb, lt-leb}
use lib.Dec.{eqb, leb}
use lib.ListN.{length, get_or}
use Rattle.sorting.specs.Order.{Sorted}
use Rattle.verdict.specs.Search.{Search}
use Rattle.verdict.specs.Sources.{member}
use Rattle.verdict.proofs.Members.{nowhere, somewhere}

-- a part of the table, by the numbers at its two ends
pub search_between : (table : List ℕ) (x low size : ℕ) → 0 < size → low + size < length table → get_or table low 0 ≤ x → x < get_or table (low + size) 0 → Search table x low size
search_between table x low size some within le lt =
    record {
      some = some;
      within = omega arith;
      among = λ sorted. record { below = λ l. le; above = λ i g l. let order = sorted (low + size) i g l in omega arith };
    }

-- how far into a numbers x stands, of all numbers below 2 ^ 32
pub share : (a x : ℕ) → x < 4294967296 → a * x ≤ 4294967296 * a
share a x h = rw (mul_comm 4294967296 a) (mul-le-mul {n₁ = a} {n₂ = a} (omega arith) (omega arith))

-- what a comparison counts
pub counts : (y x : ℕ) → cond (leb y x) 1 0 ≤ 1
counts y x = go (leb y x)
  where
    go : (t : Bool) → cond t 1 0 ≤ 1
    go true = omega arith
    go false = omega arith

pub carried : (y x : ℕ) → y < 4294967296 → x < 4294967296 → (x + 4294967296 - y) / 4294967296 ≡ cond (leb y x) 1 0
carried y x p q = go (dec_le y x)
  where
    go : Dec (y ≤ x) → (x + 4294967296 - y) / 4294967296 ≡ cond (leb y x) 1 0
    go (yes le) = rw (le-leb y x le) (omega arith)
    go (no gt) = rw (lt-leb y x (omega arith)) (omega arith)

-- the search goes on at a number that is at most x, or where it was, with so many numbers left that x does not stand behind them
narrowed : (table : List ℕ) (x low size step left : ℕ) → Search table x low size → 0 < left → step + left ≤ size →
    (Sorted table → (0 < step → get_or table (low + step) 0 ≤ x) × ((i : ℕ) → low + step + left ≤ i → i < low + size → i < length table → x < get_or table i 0)) →
    Search table x (low + step) left
narrowed table x low size step left h some fits on =
    let within = h.within in
    record {
      some = some;
      within = omega arith;
      among = λ sorted. record { below = λ l. first sorted l (ℕ_discrete step 0); above = λ i g l. rest sorted i g l (dec_lt i (low + size)) };
    }
  where
    first : Sorted table → 0 < low + step → Dec (step ≡ 0) → get_or table (low + step) 0 ≤ x
    first sorted l (yes none) = let same : low + step ≡ low = omega arith in rw same ((h.among sorted).below (omega arith))
    first sorted l (no more) = (on sorted).0 (omega arith)

    rest : Sorted table → (i : ℕ) → low + step + left ≤ i → i < length table → Dec (i < low + size) → x < get_or table i 0
    rest sorted i g l (yes inside) = (on sorted).1 i g inside l
    rest sorted i g l (no past) = (h.among sorted).above i (omega arith) l

-- one quarter, by three numbers of the table
module _ (table : List ℕ) (x low size fourth first second third : ℕ) (h : Search table x low size) (more : 3 < size) (q : fourth ≡ size / 4)
    (a : first ≡ cond (leb (get_or table (low + fourth) 0) x) 1 0) (b : second ≡ cond (leb (get_or table (low + 2 * fourth) 0) x) 1 0) (c : third ≡ cond (leb (get_or table (low + 3 * fourth) 0) x) 1 0) where
  pub quarter_few : first + second + third ≤ 3
  quarter_few =
      let one = rw (← a) at (counts (get_or table (low + fourth) 0) x) in
      let two = rw (← b) at (counts (get_or table (low + 2 * fourth) 0) x) in
      let three = rw (← c) at (counts (get_or table (low + 3 * fourth) 0) x) in
      omega arith

  pub quarter_fits : fourth * (first + second + third) ≤ 3 * fourth
  quarter_fits = rw (mul_comm 3 fourth) (mul-le-mul {n₁ = fourth} {n₂ = fourth} (omega arith) quarter_few)

  on : Sorted table → (0 < fourth * (first + second + third) → get_or table (low + fourth * (first + second + third)) 0 ≤ x)
      × ((i : ℕ) → low + fourth * (first + second + third) + (size - 3 * fourth) ≤ i → i < low + size → i < length table → x < get_or table i 0)
  on sorted = go (dec_le (get_or table (low + fourth) 0) x) (dec_le (get_or table (low + 2 * fourth) 0) x) (dec_le (get_or table (low + 3 * fourth) 0) x)
    where
      within : low + size ≤ length table
      within = h.within

      up : get_or table (low + fourth) 0 ≤ get_or table (low + 2 * fourth) 0
      up = let w = within in sorted (low + fourth) (low + 2 * fourth) (omega arith) (omega arith)

      higher : get_or table (low + 2 * fourth) 0 ≤ get_or table (low + 3 * fourth) 0
      higher = let w = within in sorted (low + 2 * fourth) (low + 3 * fourth) (omega arith) (omega arith)

      yes_one : (y n : ℕ) → n ≡ cond (leb y x) 1 0 → y ≤ x → n ≡ 1
      yes_one y n e l = e ∙ rw (le-leb y x l)

      no_one : (y n : ℕ) → n ≡ cond (leb y x) 1 0 → (y ≤ x → ⊥) → n ≡ 0
      no_one y n e l = e ∙ rw (lt-leb y x (omega arith))

      at : (n : ℕ) → first + second + third ≡ n → fourth * (first + second + third) ≡ n * fourth
      at n e = rw (e, mul_comm fourth n)

      go : Dec (get_or table (low + fourth) 0 ≤ x) → Dec (get_or table (low + 2 * fourth) 0 ≤ x) → Dec (get_or table (low + 3 * fourth) 0 ≤ x) →
          (0 < fourth * (first + second + third) → get_or table (low + fourth * (first + second + third)) 0 ≤ x)
          × ((i : ℕ) → low + fourth * (first + second + third) + (size - 3 * fourth) ≤ i → i < low + size → i < length table → x < get_or table i 0)
      go (yes p) (yes r) (yes s) =
          let n = at 3 (let u = yes_one _ first a p in let v = yes_one _ second b r in let w = yes_one _ third c s in omega arith) in
          rw n (λ l. s, λ i g inside l. absurd (omega arith))
      go (yes p) (yes r) (no s) =
          let n = at 2 (let u = yes_one _ first a p in let v = yes_one _ second b r in let w = no_one _ third c s in omega arith) in
          rw n (λ l. r, λ i g inside l. let order = sorted (low + 3 * fourth) i (omega arith) l in omega arith)
      go (yes p) (no r) (yes s) = absurd (let k = higher in omega arith)
      go (yes p) (no r) (no s) =
          let n = at 1 (let u = yes_one _ first a p in let v = no_one _ second b r in let w = no_one _ third c s in omega arith) in
          let one : 1 * fourth ≡ fourth = omega arith in
          rw (n, one) (λ l. p, λ i g inside l. let order = sorted (low + 2 * fourth) i (omega arith) l in omega arith)
      go (no p) (yes r) d = absurd (let k = up in omega arith)
      go (no p) (no r) (yes s) = absurd (let k = higher in omega arith)
      go (no p) (no r) (no s) =
          let n = at 0 (let u = no_one _ first a p in let v = no_one _ second b r in let w = no_one _ third c s in omega arith) in
          let none : 0 * fourth ≡ 0 = omega arith in
          rw (n, none) (λ l. absurd (omega arith), λ i g inside l. let order = sorted (low + fourth) i (omega arith) l in omega arith)

  pub search_quarter : Search table x (low + fourth * (first + second + third)) (size - 3 * fourth)
  search_quarter =
      let fits = quarter_fits in
      narrowed table x low size (fourth * (first + second + third)) (size - 3 * fourth) h (omega arith) (omega arith) on

-- three numbers or fewer are left: the first, the middle and the last are all of them
pub search_end : (table : List ℕ) (x low size : ℕ) → Search table x low size → size ≤ 3 → Sorted table →
    ((eqb (get_or table low 0) x || eqb (get_or table (low + size / 2) 0) x) || eqb (get_or table (low + size - 1) 0) x) ≡ member x table
search_end table x low size h few sorted = go (ℕ_discrete (get_or table low 0) x) (ℕ_discrete (get_or table (low + size / 2) 0) x) (ℕ_discrete (get_or table (low + size - 1) 0) x)
  where
    some : 0 < size
    some = h.some

    within : low + size ≤ length table
    within = h.within

    at : (i j : ℕ) → i ≡ j → get_or table i 0 ≡ x → get_or table j 0 ≡ x
    at i j same e = ap (λ (n : ℕ). get_or table n 0) (sym same) ∙ e

    apart : (get_or table low 0 ≡ x → ⊥) → (get_or table (low + size / 2) 0 ≡ x → ⊥) → (get_or table (low + size - 1) 0 ≡ x → ⊥) →
        (i : ℕ) → i < length table → get_or table i 0 ≡ x → Dec (i < low) → Dec (i < low + size) → Dec (i ≡ low) → Dec (i ≡ low + size / 2) → ⊥
    apart p q r i l e (yes before) inside first middle =
        let s = some in
        let w = within in
        let order = sorted i low (omega arith) (omega arith) in
        let below = (h.among sorted).below (omega arith) in
        p (omega arith)
    apart p q r i l e (no after) (no past) first middle = let above = (h.among sorted).above i (omega arith) l in omega arith
    apart p q r i l e (no after) (yes inside) (yes first) middle = p (at i low first e)
    apart p q r i l e (no after) (yes inside) (no other) (yes middle) = q (at i (low + size / 2) middle e)
    apart p q r i l e (no after) (yes inside) (no other) (no neither) = let s = some in r (at i (low + size - 1) (omega (arith, few)) e)

    go : Dec (get_or table low 0 ≡ x) → Dec (get_or table (low + size / 2) 0 ≡ x) → Dec (get_or table (low + size - 1) 0 ≡ x) →
        ((eqb (get_or table low 0) x || eqb (get_or table (low + size / 2) 0) x) || eqb (get_or table (low + size - 1) 0) x) ≡ member x table
    go (yes p) q r = rw (eq-eqb (get_or table low 0) x p) (sym (somewhere table x low (let s = some in let w = within in omega arith) p))
    go (no p) (yes q) r =
        rw (ne_eqb (get_or table low 0) x p, eq-eqb (get_or table (low + size / 2) 0) x q) (sym (somewhere table x (low + size / 2) (let s = some in let w = within in omega arith) q))
    go (no p) (no q) (yes r) =
        rw (ne_eqb (get_or table low 0) x p, ne_eqb (get_or table (low + size / 2) 0) x q, eq-eqb (get_or table (low + size - 1) 0) x r)
        (sym (somewhere table x (low + size - 1) (let s = some in let w = within in omega arith) r))
    go (no p) (no q) (no r) =
        rw (ne_eqb (get_or table low 0) x p, ne_eqb (get_or table (low + size / 2) 0) x q, ne_eqb (get_or table (low + size - 1) 0) x r)
        (sym (nowhere table x (λ i l e. apart p q r i l e (dec_lt i low) (dec_lt i (low + size)) (ℕ_discrete i low) (ℕ_discrete i (low + size / 2)))))

-- an empty table
pub none_held : (table : List ℕ) (x : ℕ) → length table ≡ 0 → false ≡ member x table
none_held table x e = sym (nowhere table x (λ i l same. omega arith))
