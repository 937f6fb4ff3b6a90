-- The number that a text of one to six decimal digits says.
use Rattle.std.specs.Prelude.{ℕ, ◌+◌, ◌-◌, ◌*◌, Bool, ◌&&◌, List, [], ◌∷◌, leb, length, Option, Some, None}
use Rattle.refusal.specs.Answer.{unless}

-- `0` to `9` in ASCII
abbrev pub is_digit : ℕ → Bool
is_digit c = leb 48 c && leb c 57

-- the number that starts with n and goes on with these digits
unfoldable pub number_from : ℕ → List ℕ → Option ℕ
number_from n [] = Some n
number_from n (c ∷ rest) = unless (is_digit c) None (number_from (10 * n + (c - 48)) rest)

unfoldable pub number_of : List ℕ → Option ℕ
number_of text = unless (leb 1 (length text) && leb (length text) 6) None (number_from 0 text)
