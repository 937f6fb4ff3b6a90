-- The cases of the next part: no chunk, one chunk, and fours of vectors. Assumes nothing.
use Prim.Native.Nat.{ℕ, ◌+◌, ◌-◌, ◌*◌, ◌<◌, ◌≤◌}
use mathlib.Core.Path.{◌≡◌, sym, subst}
use mathlib.Core.List.{List}
use native.Mathlib.Omega.{arith}
use lib.ListN.{length}
use Rattle.wire.specs.BigEndian.{be16}
use Rattle.chunk.specs.declared.Part.{Part}
use Rattle.chunk.specs.Steps.{Taken, Step, One, Types, Sweeping}
use Rattle.std.specs.Prelude.{Option, Some, None}
use Rattle.chunk.proofs.Counting.{not_taken, taken_one, too_short}
use Rattle.chunk.proofs.Sweeping.{fours_taken}

module _ (s : List ℕ) (i left since : ℕ) where
  pub step_none : 0 < left → length s < i + 2 → Step s i left since None
  step_none some h = too_short s i left some h

  pub step_one : (c row : ℕ) (p : Option Part) → One c left row p → row ≤ since + 2 → i + 2 ≤ length s → c ≡ be16 s i → Step s i left since p
  step_one c row None o few h is = not_taken s i left c h is o
  step_one c row (Some p) o few h is =
      record {
        some = omega (arith, o.two);
        taken = subst (λ (b : ℕ). Taken s i left b p.packets p.lost) (sym o.two) (taken_one s i left c h is o.stands p.packets p.lost o.packets o.lost.0 o.lost.1);
        row = omega (arith, o.row, o.two);
      }

  pub step_fours : (m all total : ℕ) → Sweeping s i m all total → Types all → 0 < m → 60 * m ≤ left → i + 8 * m ≤ length s →
      Step s i left since (Some (record { bytes = 8 * m; packets = 60 * m; lost = 64 * m - total; since = since + 8 * m }))
  step_fours m all total g t some most room =
      record {
        some = omega arith;
        taken = subst (λ (x : ℕ). Taken s i left (8 * m) (60 * m) (64 * m - x)) (sym g.ones_are) (fours_taken s i left m g.halves (g.vectors t) most room);
        row = omega arith;
      }
