-- A label, and after it a number, a source or a figure r: document 01, "Sheet of examples". "Here r is a decimal, `over` or
-- `none`; S is eight lower-case hex digits", the rest decimal.
use Rattle.std.specs.Prelude.{ℕ, cond, List, ◌++◌, eqb}
use Rattle.block.specs.Reading.{unavailable}
use Rattle.text.specs.Text.{decimal_of, hex_of}
use Rattle.labels.specs.Words as words

abbrev pub over_range : ℕ
over_range = 65534

unfoldable pub number : List ℕ → ℕ → List ℕ
number label n = label ++ decimal_of n

unfoldable pub source : List ℕ → ℕ → List ℕ
source label n = label ++ hex_of n

unfoldable pub figure : List ℕ → ℕ → List ℕ
figure label r = label ++ cond (eqb r over_range) words.over (cond (eqb r unavailable) words.none (decimal_of r))
