-- A number as text, in ASCII: 48 is '0' and 97 is 'a'.
use Rattle.std.specs.Prelude.{ℕ, zero, suc, ◌/◌, ◌%◌, cond, List, [], ◌∷◌, ◌++◌, ltb}
use Rattle.io.specs.Digits.{hex_digit_ascii, last_digits}

-- the decimal digits of n, at most `most` of them: all of them where n is below 10 to that power
unfoldable pub decimal_from : ℕ → ℕ → List ℕ
decimal_from zero n = []
decimal_from (suc most) n = cond (ltb n 10) (hex_digit_ascii n ∷ []) (decimal_from most (n / 10) ++ (hex_digit_ascii (n % 10) ∷ []))

-- a 64-bit number has at most twenty
abbrev pub decimal_most : ℕ
decimal_most = 20

abbrev pub decimal_of : ℕ → List ℕ
decimal_of n = decimal_from decimal_most n

-- a 32-bit number as eight hexadecimal digits, in lower case
abbrev pub hex_width : ℕ
hex_width = 8

unfoldable pub hex_of : ℕ → List ℕ
hex_of n = last_digits 16 hex_width n
