-- The rule rows and the pair rows of a sheet: how many there may be, and what each has to say.
use Rattle.std.specs.Prelude.{ℕ, ◌+◌, ◌-◌, List, Bool, true, false, cond, ◌&&◌, ◌||◌, ltb, leb, eqb}
use Rattle.sets.specs.Below.{all, sum_to}
use Rattle.sheet_rows.specs.Rows.{link_count, rule_a, rule_b, rule_kind, rule_count, rule_value, pair_first, pair_second}

-- "q at most 2,016, t at most 8,192"
abbrev pub most_rules : ℕ
most_rules = 2016

abbrev pub most_pairs : ℕ
most_pairs = 8192

-- "kHz, 1 to 9,999,999", and of a rule "value 1 to 9,999,999"
abbrev pub most_khz : ℕ
most_khz = 9999999

-- a number where a test holds, else 0
abbrev pub only : Bool → ℕ → ℕ
only true n = n
only false n = 0

-- rule rows

-- (a, b) comes before (c, d)
unfoldable pub before : ℕ → ℕ → ℕ → ℕ → Bool
before a b c d = ltb a c || (eqb a c && ltb b d)

-- kinds 1 and 2: "For both, count is 0 and value 1 to 9,999,999"
unfoldable pub plain_ok : ℕ → ℕ → Bool
plain_ok count value = eqb count 0 && ltb 0 value && leb value most_khz

-- "Kind 3: .. count is at least 1 and value is the sum of earlier kind 3 counts", where `sum` is that sum
unfoldable pub kind_ok : ℕ → ℕ → ℕ → ℕ → Bool
kind_ok kind count value sum =
    cond (eqb kind 3) (ltb 0 count && eqb value sum) ((eqb kind 1 || eqb kind 2) && plain_ok count value)

-- how many pairs a rule lists: the count, for kind 3 only
unfoldable pub listed : List ℕ → ℕ → ℕ
listed p j = only (eqb (rule_kind p j) 3) (rule_count p j)

-- "Rows rise strictly by (a, b)"
unfoldable pub rule_rises : List ℕ → ℕ → Bool
rule_rises p j = eqb j 0 || before (rule_a p (j - 1)) (rule_b p (j - 1)) (rule_a p j) (rule_b p j)

-- "links a and b (numbered from 0, a < b < k)", the order, and what the kind asks
unfoldable pub rule_row_ok : List ℕ → ℕ → ℕ → ℕ → Bool
rule_row_ok p k sum j =
    ltb (rule_a p j) (rule_b p j) && ltb (rule_b p j) k
    && rule_rises p j
    && kind_ok (rule_kind p j) (rule_count p j) (rule_value p j) sum

unfoldable pub rule_ok : List ℕ → ℕ → ℕ → Bool
rule_ok p k j = rule_row_ok p k (sum_to j (listed p)) j

-- "these sum to t"
unfoldable pub rules_ok : List ℕ → ℕ → ℕ → ℕ → Bool
rules_ok p k q t = all q (rule_ok p k) && eqb (sum_to q (listed p)) t

-- pair rows

-- row i comes after the row before it
unfoldable pub pair_rises : List ℕ → ℕ → Bool
pair_rises p i = before (pair_first p (i - 1)) (pair_second p (i - 1)) (pair_first p i) (pair_second p i)

-- "positions (from 0) in the lists of a and of b, strictly rising by (first, second) within a rule": the i-th pair of a
-- rule whose pairs start at base, between links of m and n frequencies
unfoldable pub pair_ok : List ℕ → ℕ → ℕ → ℕ → ℕ → Bool
pair_ok p base m n i =
    ltb (pair_first p (base + i)) m && ltb (pair_second p (base + i)) n
    && (eqb i 0 || pair_rises p (base + i))

-- the pairs of rule j of the sheet, whose rule and pair sections are `rules` and p
unfoldable pub rule_pairs_ok : List ℕ → List ℕ → List ℕ → ℕ → Bool
rule_pairs_ok s rules p j =
    all (listed rules j)
    (pair_ok p (rule_value rules j) (link_count s (rule_a rules j)) (link_count s (rule_b rules j)))

unfoldable pub pairs_ok : List ℕ → List ℕ → List ℕ → ℕ → Bool
pairs_ok s rules p q = all q (rule_pairs_ok s rules p)
