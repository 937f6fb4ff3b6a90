-- Which numbers stand in a list: in a list taken apart, by positions, in a list with the same numbers in another
-- order; a table that grows by the source of one block; and one that is sorted. Assumes nothing.
use Prim.Native.Nat.{ℕ, zero, suc, ◌+◌, ◌-◌, ◌<◌, ◌≤◌}
use mathlib.Core.Path.{◌≡◌, refl, sym, ap, ap₂, ◌∙◌}
use mathlib.Core.Bool.{Bool, true, false, cond, ◌||◌, or_assoc}
use mathlib.Core.List.{List, [], ◌∷◌, ◌++◌}
use native.Mathlib.Omega.{arith}
use native.Mathlib.Numerals.{add-one}
use borrow.Author.Tests.{eq-eqb, ne_eqb, le-leb, lt-leb}
use lib.Dec.{eqb}
use lib.ListN.{length, get_or, take, drop, set, length-set, length-append, length-drop}
use lib.Seq.{take_at, take-suc-set, drop-set-lt, drop-drop, length-take-le}
use Rattle.sorting.specs.Order.{one, times, Sorted, Permuted}
use Rattle.block.specs.Reading.{measures_of}
use Rattle.block.specs.declared.BlockRead.{BlockRead}
use Rattle.frame.specs.Frames.{Entry}
use Rattle.packet.specs.Blocks.{read_alone, names, measures, measured}
use Rattle.packet.specs.Steps.{blocks_of}
use Rattle.verdict.specs.Sources.{member, gathered_count, gathered_table, Table}
use Rattle.std.specs.Prelude.{Option, Some, None}

member_append : (x : ℕ) (s t : List ℕ) → member x (s ++ t) ≡ (member x s || member x t)
unfolding member
member_append x [] t = refl
member_append x (y ∷ s) t = rw (member_append x s t) (sym (or_assoc (eqb y x) (member x s) (member x t)))

-- membership by positions
pub nowhere : (table : List ℕ) (x : ℕ) → ((i : ℕ) → i < length table → get_or table i 0 ≡ x → ⊥) → member x table ≡ false
unfolding member
nowhere [] x h = refl
nowhere (y ∷ ys) x h = rw (ne_eqb y x (h 0 (omega arith)), nowhere ys x (λ i l. h (suc i) (omega arith)))

pub somewhere : (table : List ℕ) (x i : ℕ) → i < length table → get_or table i 0 ≡ x → member x table ≡ true
unfolding member
somewhere [] x i l e = absurd (omega arith)
somewhere (y ∷ ys) x zero l e = rw (eq-eqb y x e)
somewhere (y ∷ ys) x (suc i) l e = rw (somewhere ys x i (omega arith) e) (right (eqb y x))
  where
    right : (b : Bool) → (b || true) ≡ true
    right true = refl
    right false = refl

-- the same numbers in another order have the same members
unfoldable some : ℕ → Bool
some zero = false
some (suc n) = true

by_times : (x : ℕ) (l : List ℕ) → member x l ≡ some (times x l)
unfolding member times one some
by_times x [] = refl
by_times x (y ∷ l) = go (eqb y x) (by_times x l)
  where
    go : (b : Bool) → member x l ≡ some (times x l) → (b || member x l) ≡ some (cond b 1 0 + times x l)
    go true e = let n : 1 + times x l ≡ suc (times x l) = omega arith in rw n
    go false e = let n : 0 + times x l ≡ times x l = omega arith in rw n e

pub permuted_member : (old new : List ℕ) → Permuted old new → (x : ℕ) → member x new ≡ member x old
permuted_member old new p x = by_times x new ∙ ap some (p.same x) ∙ sym (by_times x old)

-- the first r numbers of `new` are the first k of `old`, and the source that a block measures, if any
pub record Grown (m : Option ℕ) (old new : List ℕ) (k r : ℕ) : Type 0 where
  pub same : (x : ℕ) → member x (take r new) ≡ (names m x || member x (take k old))
  pub few : r ≤ k + 1
  pub rest : drop (k + 1) new ≡ drop (k + 1) old
  pub long : length new ≡ length old

-- a table that grows by the source of one block, where it measures one
grown : (old : List ℕ) (k x : ℕ) → k < length old → Grown (Some x) old (set old k x) k (k + 1)
unfolding member
grown old k x l =
    record {
      same = λ y.
          ap (λ (front : List ℕ). member y front) (ap (λ (n : ℕ). take n (set old k x)) (add-one k) ∙ take-suc-set old k x l)
          ∙ member_append y (take k old) (x ∷ []) ∙ swap (member y (take k old)) (eqb x y);
      few = omega arith;
      rest = drop-set-lt (k + 1) old k x (omega arith);
      long = length-set old k x;
    }
  where
    swap : (p q : Bool) → (p || (q || false)) ≡ (q || p)
    swap true true = refl
    swap true false = refl
    swap false true = refl
    swap false false = refl

kept : (old : List ℕ) (k : ℕ) → Grown None old old k k
kept old k = record { same = λ y. refl; few = omega arith; rest = refl; long = refl }

pub gather_grows : (m : Option ℕ) (old new : List ℕ) (k r : ℕ) → k < length old →
    r ≡ gathered_count m (length old) k → new ≡ gathered_table m old k → Grown m old new k r
gather_grows (Some x) old new k r l count table = rw (count, table, lt-leb (length old) k l) (grown old k x l)
gather_grows None old new k r l count table = rw (count, table) (kept old k)

measured_snoc : (x : ℕ) (es : List Entry) (e : Entry) → measured x (es ++ (e ∷ [])) ≡ (measures x e || measured x es)
unfolding measured
measured_snoc x [] e = refl
measured_snoc x (f ∷ es) e = rw (measured_snoc x es e) (swap (measures x f) (measures x e) (measured x es))
  where
    swap : (p q r : Bool) → (p || (q || r)) ≡ (q || (p || r))
    swap true true r = refl
    swap true false r = refl
    swap false q r = refl

-- a table of the sources that the blocks es measure, grown by the block behind them
pub grown_measured : (es : List Entry) (e : Entry) (own : BlockRead) (old new : List ℕ) (k r : ℕ) → own ≡ read_alone e →
    Grown (measures_of own) old new k r → ((x : ℕ) → member x (take k old) ≡ measured x es) →
    (x : ℕ) → member x (take r new) ≡ measured x (es ++ (e ∷ []))
grown_measured es e own old new k r is grow same x =
    grow.same x ∙ ap₂ (λ (here before : Bool). here || before) (ap (λ (a : BlockRead). names (measures_of a) x) is) (same x)
    ∙ sym (measured_snoc x es e)

-- the cases of gathering: a full table, a block that measures a source, one that measures nothing
abbrev Gathered : Option ℕ → List ℕ → ℕ → ℕ → List ℕ → Type 0
Gathered m old k r new = (r ≡ gathered_count m (length old) k) × (new ≡ gathered_table m old k)

pub gather_full : (m : Option ℕ) (old : List ℕ) (k : ℕ) → length old ≤ k → Gathered m old k k old
gather_full (Some x) old k h = let t = le-leb (length old) k h in (rw t, rw t)
gather_full None old k h = (refl, refl)

pub gather_source : (m : Option ℕ) (old : List ℕ) (k x : ℕ) → k < length old → m ≡ Some x → Gathered m old k (k + 1) (set old k x)
gather_source m old k x h e = let t = lt-leb (length old) k h in (rw (e, t), rw (e, t))

pub gather_nothing : (m : Option ℕ) (old : List ℕ) (k : ℕ) → m ≡ None → Gathered m old k k old
gather_nothing m old k e = (rw e, rw e)

-- lists that are the same from one place on are the same from any later place on
pub later : (n m : ℕ) (l l' : List ℕ) → n ≤ m → drop n l ≡ drop n l' → drop m l ≡ drop m l'
later n m l l' h e =
    let sum : n + (m - n) ≡ m = omega arith in
    ap (λ (k : ℕ). drop k l) (sym sum) ∙ sym (drop-drop (m - n) n l) ∙ ap (drop (m - n)) e ∙ drop-drop (m - n) n l' ∙ ap (λ (k : ℕ). drop k l') sum

-- the first k numbers sorted in their place: the same length, and the packet's table where they are its sources
pub front_long : (table part : List ℕ) (k : ℕ) → k ≤ length table → Permuted (take k table) part → length (part ++ drop k table) ≡ length table
front_long table part k fits p =
    let size : length part ≡ k = p.long ∙ length-take-le k table fits in
    rw (length-append part (drop k table), length-drop k table) (omega arith)

pub sorted_front : (s table part : List ℕ) (k : ℕ) → k ≤ length table → Sorted part → Permuted (take k table) part →
    ((x : ℕ) → member x (take k table) ≡ measured x (blocks_of s)) → Table s (part ++ drop k table) k
sorted_front s table part k fits sorted p same =
    let front : take k (part ++ drop k table) ≡ part = take_at part (drop k table) k (p.long ∙ length-take-le k table fits) in
    record {
      fits = rw (front_long table part k fits p) fits;
      sorted = rw front sorted;
      same = λ x. rw front (permuted_member (take k table) part p x ∙ same x);
    }
