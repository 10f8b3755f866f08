-- Texts in ASCII: words, and numbers in decimal and in lower-case hexadecimal.
-- Assumes nothing.
use Rattle.std.specs.Prelude.{cond, List, [], ◌∷◌, ◌++◌, ℕ, zero, suc, ◌+◌, ◌/◌, ◌%◌, ltb}
use Prim.Native.Char.{code}
use Prim.Native.String.{String, [] as none, ◌∷◌ as ◌then◌}

-- the character codes of a text
abbrev pub ascii : String → List ℕ
ascii none = []
ascii (c then s) = code c ∷ ascii s

-- the sign of a digit below 16: `0` to `9`, then `a` to `f`
unfoldable pub sign : ℕ → ℕ
sign digit = cond (ltb digit 10) (48 + digit) (87 + digit)

-- the last k hexadecimal digits of n
abbrev pub hex : ℕ → ℕ → List ℕ
hex zero n = []
hex (suc k) n = hex k (n / 16) ++ (sign (n % 16) ∷ [])

-- the decimal digits of n: before its last digit stand those of a tenth of n, if n is 10 or more. The first number says how many tenths may be taken
unfoldable pub decimal_within : ℕ → ℕ → List ℕ
decimal_within zero n = sign (n % 10) ∷ []
decimal_within (suc tenths) n = cond (ltb n 10) [] (decimal_within tenths (n / 10)) ++ (sign (n % 10) ∷ [])

-- the decimal digits of n; n tenths are always enough
abbrev pub decimal : ℕ → List ℕ
decimal n = decimal_within n n
