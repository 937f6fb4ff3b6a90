-- What is added to the list: nothing, one difference, one after the other; without room for one the list stays, and with room
-- for all the differences stand in front. Assumes nothing.
use Prim.Native.Nat.{ℕ, suc, ◌+◌, ◌*◌, ◌<◌, ◌≤◌}
use mathlib.Core.Path.{◌≡◌, refl, sym, ap, ap₂, ◌∙◌}
use mathlib.Core.Bool.{Bool, true, false, cond}
use mathlib.Core.List.{List, [], ◌∷◌, ◌++◌, append-nil}
use native.Mathlib.Omega.{arith}
use borrow.Author.Tests.{le-leb, lt-leb}
use borrow.Rule.Slice.PartMut.{put_mid}
use lib.Dec.{leb}
use lib.ListN.{length, drop, length-append, length-drop, length-set}
use lib.Seq.{sets, sets-eq, take_at, drop-append-add, drop-drop, append_snoc}
use Rattle.std.proofs.lemmas.Slice.{put_mid-paste}
use Rattle.difference.specs.declared.Difference.{Difference}
use Rattle.difference.specs.Differences.{kind_number}
use Rattle.difference.specs.Numbers.{numbers_of, placed, written, Adds}

placed_length : (n : ℕ) (d : Difference) (out : List ℕ) → length (placed n d out) ≡ length out
placed_length n d out = simp length-set refl

pub written_length : (n : ℕ) (ds : List Difference) (out : List ℕ) → length (written n ds out) ≡ length out
unfolding written
written_length n [] out = refl
written_length n (d ∷ ds) out = written_length (n + 1) ds (cond (leb (5 * n + 5) (length out)) (placed n d out) out) ∙ go (leb (5 * n + 5) (length out))
  where
    go : (t : Bool) → length (cond t (placed n d out) out) ≡ length out
    go true = placed_length n d out
    go false = refl

pub adds_length : (ds : List Difference) (out out' : List ℕ) (n r : ℕ) → Adds ds out out' n r → length out' ≡ length out
adds_length ds out out' n r a = ap length a.list ∙ written_length n ds out

pub adds_none : (out : List ℕ) (n : ℕ) → Adds [] out out n n
unfolding written
adds_none out n = record { count = omega arith; list = refl }

pub adds_counted : (d : Difference) (out : List ℕ) (n : ℕ) → length out < 5 * n + 5 → Adds (d ∷ []) out out n (n + 1)
unfolding written
adds_counted d out n h = record { count = omega arith; list = rw (lt-leb (5 * n + 5) (length out) h) }

-- five numbers stored one after the other, or all at once
placed_sets : (n : ℕ) (d : Difference) (out : List ℕ) → placed n d out ≡ sets out (5 * n) (kind_number d.kind ∷ d.block ∷ d.field ∷ d.first ∷ d.second ∷ [])
placed_sets n d out =
    let one : 5 * n + 1 ≡ suc (5 * n) = omega arith in
    let two : 5 * n + 2 ≡ suc (suc (5 * n)) = omega arith in
    let three : 5 * n + 3 ≡ suc (suc (suc (5 * n))) = omega arith in
    let four : 5 * n + 4 ≡ suc (suc (suc (suc (5 * n)))) = omega arith in
    rw (one, two, three, four)

pub adds_placed : (d : Difference) (out stored : List ℕ) (n k : ℕ) → 5 * n + 5 ≤ length out → k ≡ 5 →
    stored ≡ kind_number d.kind ∷ d.block ∷ d.field ∷ d.first ∷ d.second ∷ [] → Adds (d ∷ []) out (put_mid (5 * n) k out stored) n (n + 1)
unfolding written
adds_placed d out stored n k h five is =
    let numbers : List ℕ = kind_number d.kind ∷ d.block ∷ d.field ∷ d.first ∷ d.second ∷ [] in
    let stored_is = put_mid-paste (5 * n) k out stored numbers 5 is (sym five) refl in
    let list = sym (placed_sets n d out ∙ sets-eq numbers out (5 * n) h) in
    record { count = omega arith; list = rw (le-leb (5 * n + 5) (length out) h) (stored_is ∙ list) }

written_both : (n : ℕ) (ds es : List Difference) (out : List ℕ) → written (n + length ds) es (written n ds out) ≡ written n (ds ++ es) out
unfolding written
written_both n [] es out = let same : n + 0 ≡ n = omega arith in rw same
written_both n (d ∷ ds) es out =
    let next : n + suc (length ds) ≡ n + 1 + length ds = omega arith in
    rw next (written_both (n + 1) ds es (cond (leb (5 * n + 5) (length out)) (placed n d out) out))

pub adds_both : (ds es : List Difference) (out out' out'' : List ℕ) (n m r : ℕ) → Adds ds out out' n m → Adds es out' out'' m r →
    Adds (ds ++ es) out out'' n r
adds_both ds es out out' out'' n m r a b =
    let size = length-append ds es in
    let first = a.count in
    let second = b.count in
    record { count = omega arith; list = b.list ∙ ap₂ (λ (k : ℕ) (l : List ℕ). written k es l) first a.list ∙ written_both n ds es out }

-- only counted
pub written_none : (n : ℕ) (ds : List Difference) (out : List ℕ) → length out < 5 → written n ds out ≡ out
unfolding written
written_none n [] out h = refl
written_none n (d ∷ ds) out h = rw (lt-leb (5 * n + 5) (length out) (omega arith)) (written_none (n + 1) ds out h)

-- all written
pub numbers_length : (ds : List Difference) → length (numbers_of ds) ≡ 5 * length ds
unfolding numbers_of
numbers_length [] = refl
numbers_length (d ∷ ds) = let e = numbers_length ds in omega arith

numbers_append : (ds es : List Difference) → numbers_of (ds ++ es) ≡ numbers_of ds ++ numbers_of es
unfolding numbers_of
numbers_append [] es = refl
numbers_append (d ∷ ds) es = rw (numbers_append ds es)

-- one more in front of what was there
placed_behind : (done : List Difference) (n : ℕ) (d : Difference) (out : List ℕ) → length done ≡ n → 5 * n + 5 ≤ length out →
    placed n d (numbers_of done ++ drop (5 * n) out) ≡ numbers_of (done ++ (d ∷ [])) ++ drop (5 * (n + 1)) out
unfolding numbers_of
placed_behind done n d out e h =
    let long : length (numbers_of done) ≡ 5 * n = numbers_length done ∙ ap (λ (k : ℕ). 5 * k) e in
    let rest = length-drop (5 * n) out in
    let all = length-append (numbers_of done) (drop (5 * n) out) in
    let five = kind_number d.kind ∷ d.block ∷ d.field ∷ d.first ∷ d.second ∷ [] in
    let next : 5 * n + 5 ≡ 5 * (n + 1) = omega arith in
    placed_sets n d (numbers_of done ++ drop (5 * n) out)
    ∙ sets-eq five (numbers_of done ++ drop (5 * n) out) (5 * n) (omega arith)
    ∙ ap₂ (λ (p q : List ℕ). p ++ five ++ q)
    (take_at (numbers_of done) (drop (5 * n) out) (5 * n) long)
    (ap (λ (k : ℕ). drop (k + 5) (numbers_of done ++ drop (5 * n) out)) (sym long) ∙ drop-append-add (numbers_of done) (drop (5 * n) out) 5 ∙ drop-drop 5 (5 * n) out ∙ ap (λ (k : ℕ). drop k out) next)
    ∙ ap (λ (p : List ℕ). p ++ drop (5 * (n + 1)) out) (sym (numbers_append done (d ∷ [])))

written_behind : (ds done : List Difference) (n : ℕ) (out : List ℕ) → length done ≡ n → 5 * (n + length ds) ≤ length out →
    written n ds (numbers_of done ++ drop (5 * n) out) ≡ numbers_of (done ++ ds) ++ drop (5 * (n + length ds)) out
unfolding written
written_behind [] done n out e r = let same : n + 0 ≡ n = omega arith in rw (append-nil done, same)
written_behind (d ∷ ds) done n out e r =
    let next : n + suc (length ds) ≡ n + 1 + length ds = omega arith in
    let size = length-append done (d ∷ []) in
    let long = numbers_length done in
    let rest = length-drop (5 * n) out in
    let all = length-append (numbers_of done) (drop (5 * n) out) in
    rw (le-leb (5 * n + 5) (length (numbers_of done ++ drop (5 * n) out)) (omega arith), placed_behind done n d out e (omega arith), next, ← append_snoc done d ds)
    (written_behind ds (done ++ (d ∷ [])) (n + 1) out (omega arith) (omega arith))

pub written_all : (ds : List Difference) (out : List ℕ) → 5 * length ds ≤ length out → written 0 ds out ≡ numbers_of ds ++ drop (5 * length ds) out
unfolding numbers_of
written_all ds out r = let n : 0 + length ds ≡ length ds = omega arith in rw n at (written_behind ds [] 0 out refl (omega arith))
