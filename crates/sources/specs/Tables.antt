-- What two packets judged together come to: the first's refusal, then the second's, and where both are good a sorted table
-- of measured sources for each.
use Rattle.std.specs.Prelude.{ℕ, ◌*◌, ◌≤◌, ◌≡◌, List, length, Result, Ok, Err}
use Rattle.frame.specs.Packet.{Packet, good, bad}
use Rattle.verdict.specs.Sources.{Table}
use Rattle.refusal.specs.declared.Refusal.{Refusal}

-- the bytes of a well-sized block 14, its first word with them: a packet measures no more sources than it has room for
abbrev pub block_bytes : ℕ
block_bytes = 32

-- the tables of two good packets; of a table with too little room for its packet the bound on its count alone is said
pub record Filled (first second table other : List ℕ) (answer : Result (ℕ × ℕ) Refusal) : Type 0 where
  pub first_count : ℕ
  pub second_count : ℕ
  pub is : answer ≡ Ok (first_count, second_count)
  pub first_fits : first_count ≤ length table
  pub second_fits : second_count ≤ length other
  pub first_table : length first ≤ block_bytes * length table → Table first table first_count
  pub second_table : length second ≤ block_bytes * length other → Table second other second_count

-- the packets that are `first` and `second`, and what the tables hold in the end
abbrev pub JudgedBoth : Packet → Packet → List ℕ → List ℕ → List ℕ → List ℕ → Result (ℕ × ℕ) Refusal → Type 0
JudgedBoth (bad r) q first second table other answer = answer ≡ Err r
JudgedBoth (good sender es) (bad r) first second table other answer = answer ≡ Err r
JudgedBoth (good sender es) (good sender' fs) first second table other answer = Filled first second table other answer
