-- Plans: demand 3 and document 01, "Words of demand 3", where document 02, ticket 7, "reads "counted packets" for "lost
-- packets" and for "losses"". Throughout, `lost i` says whether packet i counts, e is the number of packets, b the batch
-- and t the threshold; batches are those of effective loss.
use Rattle.std.specs.Prelude.{ℕ, ◌<◌, ◌≤◌, ◌≡◌, Bool, true, cond, ◌&&◌, not, List, [], ◌∷◌, eqb, length, get_or}
use Rattle.trace.specs.Sum.{count}
use Rattle.trace.specs.Trace.{received}
use Rattle.batch.specs.Batches.{batches, losses_in}

-- "A plan is here any list of zeros and ones as long as the trace"
pub record IsPlan (e : ℕ) (p : List ℕ) : Type 0 where
  pub long : length p ≡ e
  pub each : (i : ℕ) → i < e → get_or p i 0 ≤ 1

-- "each 1 is a mark"
abbrev pub marked : List ℕ → ℕ → Bool
marked p i = eqb (get_or p i 0) 1

abbrev pub marks : List ℕ → ℕ
marks p = count (marked p) 0 (length p)

-- "The losses that a plan leaves in a batch are the batch's lost packets without a mark"
abbrev pub left : (ℕ → Bool) → List ℕ → ℕ → Bool
left lost p i = lost i && not (marked p i)

abbrev pub left_in : (ℕ → Bool) → List ℕ → ℕ → ℕ → ℕ
left_in lost p b k = losses_in (left lost p) b k

-- "plans that mark lost packets only and leave no batch over the threshold": "the batch is over the threshold
-- when they are more than T"
pub record Valid (lost : ℕ → Bool) (e b t : ℕ) (p : List ℕ) : Type 0 where
  pub plan : IsPlan e p
  pub lost_only : (i : ℕ) → i < e → marked p i ≡ true → lost i ≡ true
  pub none_over : (k : ℕ) → k < batches e b → left_in lost p b k ≤ t

-- "Smallest means fewest marks among all plans that mark lost packets only and leave no batch over the
-- threshold."
pub record Smallest (lost : ℕ → Bool) (e b t : ℕ) (p : List ℕ) : Type 0 where
  pub valid : Valid lost e b t p
  pub fewest : (q : List ℕ) → Valid lost e b t q → marks p ≤ marks q

-- packet i is the first at which two plans differ
pub record DifferFirst (p q : List ℕ) (i : ℕ) : Type 0 where
  pub before : (j : ℕ) → j < i → get_or p j 0 ≡ get_or q j 0
  pub here : get_or p i 0 ≡ get_or q i 0 → ⊥

-- Demand 3's plan: the smallest, and at the first packet where such a plan of equal count differs from it, that
-- plan has a mark and this one has none.
pub record Best (lost : ℕ → Bool) (e b t : ℕ) (p : List ℕ) : Type 0 where
  pub smallest : Smallest lost e b t p
  pub first_difference :
      (q : List ℕ) → Valid lost e b t q → marks q ≡ marks p → (i : ℕ) → i < e → DifferFirst p q i →
      (get_or q i 0 ≡ 1) × (get_or p i 0 ≡ 0)

-- the trace with a plan's packets counted as received
unfoldable pub resent : List ℕ → List ℕ → List ℕ
resent [] p = []
resent (packet ∷ s) [] = packet ∷ s
resent (packet ∷ s) (mark ∷ p) = cond (eqb mark 1) received packet ∷ resent s p
