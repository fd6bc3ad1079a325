-- Numbers in decimal and lines of text, as bytes.
use Rattle.std.specs.Prelude.{cond, List, [], ◌∷◌, ◌++◌, ℕ, zero, suc, ◌+◌, ◌/◌, ◌%◌, ltb}
use Prim.Native.String.{String}
use Prim.Native.Char.{code}

-- the bytes of a word
unfoldable pub ascii : String → List ℕ
ascii String.[] = []
ascii (String.◌∷◌ c cs) = code c ∷ ascii cs

-- the digits of a number, at most `fuel` of them, and then some bytes
unfoldable pub digits : ℕ → ℕ → List ℕ → List ℕ
digits zero n later = later
digits (suc fuel) n later =
    let l = (48 + n % 10) ∷ later in
    let more = digits fuel (n / 10) l in
    cond (ltb n 10) l more

-- a number below 10 ^ 20 in decimal
unfoldable pub decimal : ℕ → List ℕ
decimal n = digits 20 n []

-- what follows a line's first word: a number, and "Each line ends in a newline"
unfoldable pub ending : ℕ → List ℕ
ending n = ascii " " ++ decimal n ++ ascii "\n"

-- a line of a word and a number
unfoldable pub line : List ℕ → ℕ → List ℕ
line word n = word ++ ending n
