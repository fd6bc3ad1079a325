-- Job sheets written out, for the sheets with known results. The definitions of the planner do not use it.
use Rattle.std.specs.Prelude.{cond, List, [], ◌∷◌, ◌++◌, ℕ, ◌+◌, ◌*◌, eqb, length}
use Rattle.wire.specs.Fields.{bytes16, bytes32}

-- a rule row: links a and b, kind, value, and the pairs of kind 3
pub record RuleGiven : Type 0 where
  pub a : ℕ
  pub b : ℕ
  pub kind : ℕ
  pub value : ℕ
  pub pairs : List (ℕ × ℕ)

abbrev pub total : List (List ℕ) → ℕ
total [] = 0
total (l ∷ ls) = length l + total ls

abbrev pub pair_count : List RuleGiven → ℕ
pair_count [] = 0
pair_count (r ∷ rs) = length r.pairs + pair_count rs

abbrev pub given_links : ℕ → List (List ℕ) → List ℕ
given_links at [] = []
given_links at (l ∷ ls) = bytes16 at ++ bytes16 (length l) ++ given_links (at + length l) ls

-- the same with a width each; a link that no width is given for has no row
abbrev pub given_wide : ℕ → List (List ℕ) → List ℕ → List ℕ
given_wide at [] ws = []
given_wide at (l ∷ ls) [] = []
given_wide at (l ∷ ls) (w ∷ ws) = bytes16 at ++ bytes16 (length l) ++ bytes32 w ++ given_wide (at + length l) ls ws

abbrev pub given_freqs : List (List ℕ) → List ℕ
given_freqs [] = []
given_freqs (l ∷ ls) = go l ++ given_freqs ls
  where
    go : List ℕ → List ℕ
    go [] = []
    go (x ∷ xs) = bytes32 x ++ go xs

-- kind 3 rows count their pairs and start at the sum of the earlier ones
abbrev pub given_rules : ℕ → List RuleGiven → List ℕ
given_rules at [] = []
given_rules at (r ∷ rs) =
    bytes16 r.a ++ bytes16 r.b ++ bytes16 r.kind ++ bytes16 (length r.pairs) ++
    bytes32 (cond (eqb r.kind 3) at r.value) ++ given_rules (at + length r.pairs) rs

abbrev pub given_pair : List (ℕ × ℕ) → List ℕ
given_pair [] = []
given_pair (p ∷ ps) = bytes16 p.0 ++ bytes16 p.1 ++ given_pair ps

abbrev pub given_pairs : List RuleGiven → List ℕ
given_pairs [] = []
given_pairs (r ∷ rs) = given_pair r.pairs ++ given_pairs rs

-- the sheet of a form whose link rows have so many bytes, of its link section, lists of frequencies and rule rows
abbrev pub encode_by : ℕ → ℕ → List ℕ → List (List ℕ) → List RuleGiven → List ℕ
encode_by form bytes links ls rs =
    let n = total ls in
    let q = length rs in
    let t = pair_count rs in
    let at = 40 + bytes * length ls in
    bytes32 form ++ bytes32 (length ls) ++ bytes32 n ++ bytes32 q ++ bytes32 t ++
    bytes32 40 ++ bytes32 at ++ bytes32 (at + 4 * n) ++ bytes32 (at + 4 * n + 12 * q) ++
    bytes32 (at + 4 * n + 12 * q + 4 * t) ++
    links ++ given_freqs ls ++ given_rules 0 rs ++ given_pairs rs

-- in form 1, and in form 2 with widths
abbrev pub encode : List (List ℕ) → List RuleGiven → List ℕ
encode ls rs = encode_by 1 4 (given_links 0 ls) ls rs

abbrev pub encode_wide : List ℕ → List (List ℕ) → List RuleGiven → List ℕ
encode_wide ws ls rs = encode_by 2 8 (given_wide 0 ls ws) ls rs
