-- What is added for the fields of two blocks: one field, the fields in places one after the other, those of a type, and none
-- of two sizes, two types or a type that is not listed. Assumes nothing.
use Prim.Native.Nat.{ℕ, suc, ◌+◌}
use mathlib.Core.Path.{◌≡◌, refl, sym, ◌∙◌}
use mathlib.Core.Bool.{Bool, true, false}
use mathlib.Core.List.{List, [], ◌∷◌, ◌++◌, append-nil, append_assoc}
use native.Mathlib.Omega.{arith}
use borrow.Author.Tests.{eq-eqb, ne_eqb, eqb-true}
use lib.Dec.{eqb}
use lib.ListN.{length, get_or, length-append}
use Rattle.refusal.specs.Answer.{unless}
use Rattle.block.specs.Types.{measurement_type, loss_type, discard_type, effective_type, streams_type}
use Rattle.difference.specs.Differences.{where_unequal, fields, fields_from}
use Rattle.difference.specs.Numbers.{Adds}
use Rattle.difference.specs.Places.{Place, value_at, places_of, values_by, size_of, values_in, field_differences}
use Rattle.difference.specs.Steps.{AddsField, in_places, AddsPlaces, of_type}
use Rattle.difference.proofs.Writing.{adds_none, adds_both}

nothing : {A : Type 0} (t : Bool) → ◌≡◌ {A = List A} (unless t [] []) []
nothing true = refl
nothing false = refl

-- one field
pub field_same : {k f a b : ℕ} {out : List ℕ} {n : ℕ} → a ≡ b → AddsField k f a b out out n n
field_same {k} {f} {a} {b} {out} {n} e = record { adds = rw (eq-eqb a b e) (adds_none out n); few = omega arith }

pub field_added : {k f a b : ℕ} {out out' : List ℕ} {n r : ℕ} → (a ≡ b → ⊥) → Adds (fields k f a b ∷ []) out out' n r → AddsField k f a b out out' n r
field_added {k} {f} {a} {b} other s = record { adds = rw (ne_eqb a b other) s; few = let e = s.count in omega arith }

pub place_added : {k f a b : ℕ} {x y out out' : List ℕ} {n r : ℕ} (p : Place) → a ≡ value_at x p → b ≡ value_at y p →
    AddsField k f a b out out' n r → AddsPlaces k f (p ∷ []) x y out out' n r
unfolding fields_from
place_added {k} {f} {a} {b} p first second s =
    record { adds = rw (← first, ← second, append-nil (where_unequal a b (fields k f a b))) s.adds; few = s.few }

-- places one after the other
places_append : (k f : ℕ) (ps qs : List Place) (x y : List ℕ) → in_places k f ps x y ++ in_places k (f + length ps) qs x y ≡ in_places k f (ps ++ qs) x y
unfolding fields_from
places_append k f [] qs x y = let same : f + 0 ≡ f = omega arith in rw same
places_append k f (p ∷ ps) qs x y =
    let next : f + suc (length ps) ≡ suc f + length ps = omega arith in
    rw (next, append_assoc, places_append k (suc f) ps qs x y)

pub places_both : {k f g : ℕ} {ps qs : List Place} {x y out out' out'' : List ℕ} {n m r : ℕ} → g ≡ f + length ps → AddsPlaces k f ps x y out out' n m →
    AddsPlaces k g qs x y out' out'' m r → AddsPlaces k f (ps ++ qs) x y out out'' n r
places_both {k} {f} {g} {ps} {qs} {x} {y} {out} {out'} {out''} {n} {m} {r} e s t =
    let size = length-append ps qs in
    let first = s.few in
    let second = t.few in
    let all = adds_both (in_places k f ps x y) (in_places k g qs x y) out out' out'' n m r s.adds t.adds in
    record { adds = rw (← places_append k f ps qs x y, ← e) all; few = omega arith }

-- the fields of a type
both_sized : (k type : ℕ) (x y : List ℕ) (t : Bool) →
    fields_from k 0 (unless t [] (values_by type x)) (unless t [] (values_by type y)) ≡ unless t [] (in_places k 0 (places_of type) x y)
unfolding fields_from
both_sized k type x y true = refl
both_sized k type x y false = refl

by_size : (k type : ℕ) (x y : List ℕ) → get_or x 0 0 ≡ type → get_or x 0 0 ≡ get_or y 0 0 → length x ≡ length y → field_differences k x y ≡ of_type type k x y
unfolding field_differences values_in of_type
by_size k type x y first same long = rw (← same, first, ← long, eq-eqb type type refl) (both_sized k type x y (eqb (length x) (size_of type)))

module _ {out : List ℕ} {n : ℕ} (k : ℕ) (x y : List ℕ) where
  pub sized : (type : ℕ) {out' : List ℕ} {r : ℕ} → length x ≡ size_of type → AddsPlaces k 0 (places_of type) x y out out' n r → Adds (of_type type k x y) out out' n r
  unfolding of_type
  sized type size s = rw (eq-eqb (length x) (size_of type) size) s.adds

  pub other_size : (type : ℕ) → (length x ≡ size_of type → ⊥) → Adds (of_type type k x y) out out n n
  unfolding of_type
  other_size type other = rw (ne_eqb (length x) (size_of type) other) (adds_none out n)

  pub of_type_lem : (type : ℕ) {out' : List ℕ} {r : ℕ} → get_or x 0 0 ≡ type → get_or x 0 0 ≡ get_or y 0 0 → length x ≡ length y → Adds (of_type type k x y) out out' n r →
      Adds (field_differences k x y) out out' n r
  of_type_lem type first same long s = rw (by_size k type x y first same long) s

-- no fields
no_second : (k : ℕ) (xs : List ℕ) → fields_from k 0 xs [] ≡ []
unfolding fields_from
no_second k [] = refl
no_second k (x ∷ xs) = refl

-- two sizes are not both the type's
one_without : (k size : ℕ) (x y vs ws : List ℕ) → (length x ≡ length y → ⊥) →
    fields_from k 0 (unless (eqb (length x) size) [] vs) (unless (eqb (length y) size) [] ws) ≡ []
unfolding fields_from
one_without k size x y vs ws other = go (eqb (length x) size) (eqb (length y) size) (eqb-true (length x) size) (eqb-true (length y) size)
  where
    go : (a b : Bool) → (a ≡ true → length x ≡ size) → (b ≡ true → length y ≡ size) → fields_from k 0 (unless a [] vs) (unless b [] ws) ≡ []
    go false b is is' = refl
    go true false is is' = no_second k vs
    go true true is is' = absurd (other (is refl ∙ sym (is' refl)))

no_first : (k : ℕ) (x y : List ℕ) → values_in x ≡ [] → field_differences k x y ≡ []
unfolding field_differences fields_from
no_first k x y e = rw e (nothing (eqb (get_or x 0 0) (get_or y 0 0)))

no_bytes : (k : ℕ) (x y : List ℕ) → length x ≡ 0 → field_differences k x y ≡ []
unfolding values_in
no_bytes k [] y e = no_first k [] y refl
no_bytes k (b ∷ x) y e = absurd (omega arith)

module _ {out : List ℕ} {n : ℕ} (k : ℕ) (x y : List ℕ) where
  none : field_differences k x y ≡ [] → Adds (field_differences k x y) out out n n
  none e = rw e (adds_none out n)

  pub other_length : (length x ≡ length y → ⊥) → Adds (field_differences k x y) out out n n
  unfolding field_differences values_in
  other_length other = none (go (eqb (get_or x 0 0) (get_or y 0 0)) (eqb-true (get_or x 0 0) (get_or y 0 0)))
    where
      go : (t : Bool) → (t ≡ true → get_or x 0 0 ≡ get_or y 0 0) → unless t [] (fields_from k 0 (values_in x) (values_in y)) ≡ []
      go false is = refl
      go true is = rw (← is refl) (one_without k (size_of (get_or x 0 0)) x y (values_by (get_or x 0 0) x) (values_by (get_or x 0 0) y) other)

  pub empty : length x ≡ 0 → Adds (field_differences k x y) out out n n
  empty e = none (no_bytes k x y e)

  pub other_type : (get_or x 0 0 ≡ get_or y 0 0 → ⊥) → Adds (field_differences k x y) out out n n
  unfolding field_differences
  other_type other = none (rw (ne_eqb (get_or x 0 0) (get_or y 0 0) other))

  pub unlisted : (get_or x 0 0 ≡ measurement_type → ⊥) → (get_or x 0 0 ≡ loss_type → ⊥) → (get_or x 0 0 ≡ discard_type → ⊥) → (get_or x 0 0 ≡ effective_type → ⊥) →
      (get_or x 0 0 ≡ streams_type → ⊥) → Adds (field_differences k x y) out out n n
  unfolding values_in
  unlisted a b c d e =
      none (no_first k x y
      (rw (ne_eqb (get_or x 0 0) measurement_type a, ne_eqb (get_or x 0 0) loss_type b, ne_eqb (get_or x 0 0) discard_type c, ne_eqb (get_or x 0 0) effective_type d, ne_eqb (get_or x 0 0) streams_type e)
      (nothing (eqb (length x) 0))))
