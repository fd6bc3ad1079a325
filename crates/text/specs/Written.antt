-- The printed text in a slice of bytes.
use Rattle.std.specs.Prelude.{◌≡◌, cond, List, [], ℕ, ◌+◌, ◌*◌, ◌≤◌, leb, length, take, drop}
use Rattle.output.specs.Puts.{Puts}
use Rattle.output.specs.declared.Output.{Output}
use Rattle.text.specs.Text.{link_lines, printed}

-- the first r bytes are a text, and the others are what they were
pub record Holds (text before after : List ℕ) (r : ℕ) : Type 0 where
  pub within : r ≤ length after
  pub same : take r after ≡ text
  pub rest : drop r after ≡ drop r before

-- the lines of the first k cells were put into o, which is o' now, with at most 22 bytes a line
pub record PutLines (k : ℕ) (cells : List ℕ) (o o' : Output) : Type 0 where
  pub few : o'.end ≤ o.end + 22 * k
  pub put : Puts (link_lines k cells []) o o'

-- no text is longer: `found` with its number takes at most 17 bytes, and 64 lines of 22 bytes follow
abbrev pub most_bytes : ℕ
most_bytes = 1425

-- the program's text, where there is room for any
unfoldable pub printed_in : ℕ → List ℕ → List ℕ
printed_in room s = cond (leb most_bytes room) (printed s) []
