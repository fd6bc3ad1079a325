-- What a lent output holds after bytes were written to it.
use Rattle.std.specs.Prelude.{◌≡◌, List, ◌++◌, ℕ, ◌+◌, ◌-◌, length, take, drop}
use Rattle.zeros.specs.Zeros.{zeros}

-- a text laid over the bytes of an output: as far as it fits, and past it they are what they were
unfoldable pub over : List ℕ → List ℕ → List ℕ
over text old = take (length old) (text ++ drop (length text) old)

-- a text in an output of m bytes, with zeros after it
unfoldable pub padded : List ℕ → ℕ → List ℕ
padded text m = text ++ zeros (m - length text)

-- no text is longer
abbrev pub most_text : ℕ
most_text = 1099511627776

-- `bytes` were put at `at`, which is where the text ended; it ends at r now
pub record Wrote (bytes before : List ℕ) (at : ℕ) (after : List ℕ) (r : ℕ) : Type 0 where
  pub end : r ≡ at + length bytes
  pub size : length after ≡ length before
  pub text : (ws old : List ℕ) → length ws ≡ at → before ≡ over ws old → after ≡ over (ws ++ bytes) old
