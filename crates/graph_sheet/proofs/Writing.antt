-- The header, the link rows, the frequencies and the rule rows of a sheet, as they are put.
use Rattle.std.proofs.Common.{Option, is_some, unwrap_or}
use mathlib.Core.Path.{◌≡◌, refl, sym, ap, ◌∙◌}
use mathlib.Core.Bool.{Bool, true, false, cond}
use mathlib.Core.List.{List, [], ◌∷◌, ◌++◌}
use Prim.Native.Nat.{ℕ, ◌+◌, ◌*◌, ◌/◌, ◌%◌, ◌≤◌, ◌<◌}
use native.Mathlib.Numerals.{add-one}
use native.Mathlib.Omega.{arith}
use lib.Dec.{eqb}
use lib.ListN.{length, take, get_or}
use lib.Seq.{length-take-le}
use Rattle.rule_sections.specs.Rules.{most_khz}
use Rattle.sheet.specs.Sheet.{freqs_at, rules_at, pairs_at, end_at}
use Rattle.output.specs.declared.Output.{Output}
use Rattle.output.specs.Puts.{Puts}
use Rattle.output.proofs.Puts.{puts_none, puts_then, puts_same}
use Rattle.wire.specs.Fields.{bytes16, bytes32}
use Rattle.wire_put.specs.Puts.{full, fulls}
use Rattle.dimacs.specs.Lists.{join_to}
use Rattle.dimacs.specs.Reading.{first_of, vertices_of}
use Rattle.dimacs.specs.Made.{header, link_row_of, link_rows, freq_row, freq_rows, rule_total, pair_total, rule_row, rule_rows}
use Rattle.dimacs.specs.Made.{made_bytes, pair_rows, sheet_of}
use Rattle.graph_sheet.specs.Rows.{rule_row_bytes}
use Rattle.graph_sheet.specs.Pairs.{RuleTold, TotalsOf}
use Rattle.graph_sheet.specs.declared.joins.Totals.{Totals}
use Rattle.graph_sheet.proofs.Ruling as Ruling
use Rattle.graph_sheet.proofs.Ruling.{Tally, place_of, total_is, row_is, pairs_within}

pub header_put : (k n q t : ℕ) {o p : Output}
    → Puts (fulls (1 ∷ k ∷ n ∷ q ∷ t ∷ 40 ∷ freqs_at made_bytes k ∷ rules_at made_bytes k n ∷
    pairs_at made_bytes k n q ∷ end_at made_bytes k n q t ∷ [])) o p
    → Puts (header k n q t) o p
unfolding header fulls full
header_put k n q t w = w

-- rows one after another
module _ (f : ℕ → List ℕ) where
  pub join_none : (o : Output) → Puts (join_to 0 f) o o
  unfolding join_to
  join_none o = puts_none o

  pub join_more : {o p q : Output} (i : ℕ) → Puts (join_to i f) o p → Puts (f i) p q
      → Puts (join_to (i + 1) f) o q
  unfolding join_to
  join_more i a b = puts_same (sym (rw add-one refl)) (puts_then a b)

  pub join_done : {o p : Output} (i m : ℕ) → i ≡ m → Puts (join_to i f) o p
      → Puts (join_to m f) o p
  join_done i m h a = puts_same (ap (λ x. join_to x f) h) a

pub link_put : (cs : List ℕ) (l first : ℕ) {o p : Output} → first ≡ first_of cs l
    → Puts (bytes16 first ++ bytes16 (get_or cs l 0)) o p → Puts (link_row_of cs l) o p
unfolding link_row_of
link_put cs l first e w = puts_same (ap (λ x. bytes16 x ++ bytes16 (get_or cs l 0)) e) w

pub links_put : (counts : List ℕ) (k : ℕ) {o p : Output} → k ≤ length counts
    → Puts (join_to k (link_row_of (take k counts))) o p → Puts (link_rows (take k counts)) o p
unfolding link_rows
links_put counts k h w = puts_same (ap (λ x. join_to x (link_row_of (take k counts))) (sym (length-take-le k counts h))) w

pub freq_put : (v : ℕ) {o p : Output} → Puts (full (v + 1)) o p → Puts (freq_row v) o p
unfolding freq_row full
freq_put v w = w

-- a rule row
pub rule_put : (a b pairs before kind value : ℕ) {o p q s : Output} → kind ≡ cond (eqb pairs 0) 1 3
    → value ≡ cond (eqb pairs 0) most_khz before → Puts (bytes16 a ++ bytes16 b) o p
    → Puts (bytes16 kind ++ bytes16 pairs) p q → Puts (full value) q s
    → Puts (rule_row_bytes a b pairs before) o s
unfolding rule_row_bytes full
rule_put a b pairs before kind value h g x y z =
    let links = bytes16 a ++ bytes16 b in
    puts_same
    (ap (λ i. links ++ bytes16 i ++ bytes16 pairs ++ bytes32 value) h
    ∙ ap (λ i. links ++ bytes16 (cond (eqb pairs 0) 1 3) ++ bytes16 pairs ++ bytes32 i) g)
    (puts_then (puts_then x y) z)

pub rule_length : (a b pairs before : ℕ) → length (rule_row_bytes a b pairs before) ≡ 12
unfolding rule_row_bytes
rule_length a b pairs before = refl

pub choice_few : (b : Bool) (x y m : ℕ) → x ≤ m → y ≤ m → cond b x y ≤ m
choice_few true x y m h g = h
choice_few false x y m h g = g

-- what is put where a test holds
pub put_yes : (l : List ℕ) {b : Bool} {o p : Output} → b ≡ true → Puts l o p
    → Puts (cond b l []) o p
put_yes l e w = puts_same (ap (λ x. cond x l []) (sym e)) w

pub put_no : (l : List ℕ) {b : Bool} (o : Output) → b ≡ false → Puts (cond b l []) o o
put_no l o e = puts_same (ap (λ x. cond x l []) (sym e)) (puts_none o)

pub cond_same : (b : Bool) (l m : List ℕ) → (b ≡ true → l ≡ m) → cond b l [] ≡ cond b m []
cond_same true l m e = e refl
cond_same false l m e = refl

module _ (cs : List ℕ) (adj : ℕ → ℕ → Bool) where
  module _ (z : ℕ) {r : Option ℕ} {t : Totals} (h : z < length cs * length cs) (R : RuleTold cs adj z r)
      (T : Tally cs adj z t) where
    -- the rule row of a code is that of its place
    row_same : is_some r ≡ true
        → rule_row_bytes (z / length cs) (z % length cs) (unwrap_or r 0) t.pairs ≡ rule_row cs adj (place_of cs adj z)
    row_same y =
        let a = z / length cs in
        let b = z % length cs in
        ap (λ x. rule_row_bytes a b x t.pairs) (R.pairs y)
        ∙ ap (rule_row_bytes a b (length (Ruling.pairs_at cs adj z))) T.pairs
        ∙ sym (row_is cs adj z h (sym R.ruled ∙ y))

    pub rule_row_put : (k : ℕ) {o q : Output} → k ≡ length cs
        → Puts (cond (is_some r) (rule_row_bytes (z / k) (z % k) (unwrap_or r 0) t.pairs) []) o q
        → Puts (cond (is_some r) (rule_row cs adj (place_of cs adj z)) []) o q
    rule_row_put k e w =
        puts_same
        (cond_same (is_some r) (rule_row_bytes (z / k) (z % k) (unwrap_or r 0) t.pairs) (rule_row cs adj (place_of cs adj z))
        (λ y. ap (λ x. rule_row_bytes (z / x) (z % x) (unwrap_or r 0) t.pairs) e ∙ row_same y))
        w

    pub rule_small : pair_total cs adj ≤ 8192 → is_some r ≡ true → (unwrap_or r 0 ≤ 8192) × (t.pairs ≤ 8192)
    rule_small few y =
        let l = pairs_within cs adj z h (sym R.ruled ∙ y) in
        (omega (arith, R.pairs y), omega (arith, T.pairs))

  -- all rule rows
  pub rules_put : (k : ℕ) {o q : Output} → k ≡ length cs
      → Puts (join_to (place_of cs adj (k * k)) (rule_row cs adj)) o q → Puts (rule_rows cs adj) o q
  unfolding rule_rows
  rules_put k e w =
      puts_same
      (ap (λ x. join_to x (rule_row cs adj)) (ap (λ x. place_of cs adj (x * x)) e ∙ sym (total_is cs adj)))
      w

  -- the sheet
  module _ (k n : ℕ) (t : Totals) (ek : k ≡ length cs) (en : n ≡ vertices_of cs) (T : TotalsOf cs adj t) where
    header_same : header k n t.rules t.pairs
        ≡ header (length cs) (vertices_of cs) (rule_total cs adj) (pair_total cs adj)
    header_same = rw (ek, en, T.rules, T.pairs)

    pub sheet_put : {a b c d e f : Output} → Puts (header k n t.rules t.pairs) a b
        → Puts (link_rows cs) b c → Puts (join_to n freq_row) c d → Puts (rule_rows cs adj) d e
        → Puts (pair_rows cs adj) e f → Puts (sheet_of cs adj) a f
    unfolding sheet_of freq_rows
    sheet_put u v w x y =
        puts_then (puts_same header_same u)
        (puts_then v (puts_then (puts_same (ap (λ s. join_to s freq_row) en) w) (puts_then x y)))
