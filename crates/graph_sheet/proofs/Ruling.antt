-- The rules, one code after another: the rule of code z has as its place the number of rules below it.
use Rattle.std.proofs.Common.{Option, is_some, unwrap_or}
use mathlib.Core.Path.{◌≡◌, refl, sym, ap, ◌∙◌}
use mathlib.Core.Bool.{Bool, true, false, cond}
use mathlib.Core.List.{List, [], ◌++◌, append-nil}
use Prim.Native.Nat.{ℕ, suc, ◌+◌, ◌*◌, ◌/◌, ◌%◌, ◌≤◌, ◌<◌}
use native.Mathlib.Numerals.{add-one}
use native.Mathlib.Omega.{arith}
use native.Mathlib.Nat.{mul-le-mul}
use lib.ListN.{length, get_or}
use Rattle.sets.specs.Below.{count, sum_to}
use Rattle.sets.proofs.Tests.{bool}
use Rattle.sets.proofs.Below.{sum_in}
use Rattle.output.specs.declared.Output.{Output}
use Rattle.output.specs.Puts.{Puts}
use Rattle.output.proofs.Puts.{puts_none, puts_then, puts_same}
use Rattle.dimacs.specs.Lists.{for_each, join_to}
use Rattle.dimacs.specs.Reading.{count_of}
use Rattle.dimacs.specs.Made.{pairs_of, is_ruled, ruled, ruled_a, ruled_b, rule_pairs, pairs_before, rule_total, pair_total}
use Rattle.dimacs.specs.Made.{kind_of, value_of, rule_row, pair_row, rule_pair_rows}
use Rattle.dimacs.proofs.Lists.{select_length, select_has, count_pass}
use Rattle.graph_sheet.specs.Rows.{rule_row_bytes}
use Rattle.graph_sheet.specs.Pairs.{RuleTold, Tallied, TotalsOf}
use Rattle.graph_sheet.specs.declared.joins.Totals.{Totals}

-- t is the rules of the codes below z, and their pairs
pub record Tally (cs : List ℕ) (adj : ℕ → ℕ → Bool) (z : ℕ) (t : Totals) : Type 0 where
  pub rules : t.rules ≡ count z (is_ruled cs adj)
  pub pairs : t.pairs ≡ pairs_before cs adj (count z (is_ruled cs adj))
  pub rules_few : t.rules ≤ z
  pub pairs_few : t.pairs ≤ 262144 * z

count_yes : (z : ℕ) (p : ℕ → Bool) → p z ≡ true → count (z + 1) p ≡ suc (count z p)
unfolding count
count_yes z p e = rw (add-one, e) (omega arith)

count_no : (z : ℕ) (p : ℕ → Bool) → p z ≡ false → count (z + 1) p ≡ count z p
unfolding count
count_no z p e = rw (add-one, e) (omega arith)

-- rows of the numbers that pass
module _ (p : ℕ → Bool) (f : ℕ → List ℕ) where
  pub rows_none : (o : Output) → Puts (join_to (count 0 p) f) o o
  unfolding count join_to
  rows_none o = puts_none o

  pub rows_more : {o q s : Output} (z : ℕ) (b : Bool) → b ≡ p z → Puts (join_to (count z p) f) o q
      → Puts (cond b (f (count z p)) []) q s → Puts (join_to (count (z + 1) p) f) o s
  unfolding join_to
  rows_more z true h x y = puts_same (sym (ap (λ i. join_to i f) (count_yes z p (sym h)))) (puts_then x y)
  rows_more z false h x y =
      puts_same (append_none ∙ sym (ap (λ i. join_to i f) (count_no z p (sym h)))) (puts_then x y)
    where
      append_none : join_to (count z p) f ++ [] ≡ join_to (count z p) f
      append_none = simp append-nil

  pub rows_done : {o q : Output} (z m : ℕ) → z ≡ m → Puts (join_to (count z p) f) o q
      → Puts (join_to (count m p) f) o q
  rows_done z m h x = puts_same (ap (λ i. join_to (count i p) f) h) x

module _ (cs : List ℕ) (adj : ℕ → ℕ → Bool) where
  -- the rules before code z
  abbrev pub place_of : ℕ → ℕ
  place_of z = count z (is_ruled cs adj)

  abbrev pub pairs_at : ℕ → List ℕ
  pairs_at z = pairs_of cs adj (z / length cs) (z % length cs)

  pub total_is : rule_total cs adj ≡ place_of (length cs * length cs)
  unfolding ruled
  total_is = select_length (length cs * length cs) (is_ruled cs adj)

  module _ (z : ℕ) (h : z < length cs * length cs) (t : is_ruled cs adj z ≡ true) where
    code_is : get_or (ruled cs adj) (place_of z) 0 ≡ z
    unfolding ruled
    code_is = select_has (length cs * length cs) (is_ruled cs adj) z h t

    place_pairs : rule_pairs cs adj (place_of z) ≡ pairs_at z
    unfolding rule_pairs ruled_a ruled_b
    place_pairs = ap (λ x. pairs_of cs adj (x / length cs) (x % length cs)) code_is

    pub row_is : rule_row cs adj (place_of z)
        ≡ rule_row_bytes (z / length cs) (z % length cs) (length (pairs_at z)) (pairs_before cs adj (place_of z))
    unfolding rule_row rule_row_bytes ruled_a ruled_b kind_of value_of
    row_is = rw (code_is, place_pairs)

    pub pairs_row_is : rule_pair_rows cs adj (place_of z) ≡ for_each (pair_row (count_of cs (z % length cs))) (pairs_at z)
    unfolding rule_pair_rows ruled_b
    pairs_row_is = rw (code_is, place_pairs)

    pub before_more : pairs_before cs adj (suc (place_of z)) ≡ pairs_before cs adj (place_of z) + length (pairs_at z)
    unfolding pairs_before sum_to
    before_more = ap (λ l. sum_to (place_of z) (λ i. length (rule_pairs cs adj i)) + length l) place_pairs

    pub pairs_within : pairs_before cs adj (place_of z) + length (pairs_at z) ≤ pair_total cs adj
    unfolding pairs_before
    pairs_within =
        let all = count_pass z (length cs * length cs) (is_ruled cs adj) h t in
        let l : place_of z < rule_total cs adj = rw total_is all in
        let s = sum_in (rule_total cs adj) (place_of z) (λ i. length (rule_pairs cs adj i)) l in
        omega (arith, ap length place_pairs)

  -- the totals
  pub tally_none : Tally cs adj 0 (record { rules = 0; pairs = 0 })
  unfolding count pairs_before sum_to
  tally_none = record { rules = refl; pairs = refl; rules_few = omega arith; pairs_few = omega arith }

  pub tally_more : (z : ℕ) {t u : Totals} {r : Option ℕ} → z < length cs * length cs → Tally cs adj z t
      → RuleTold cs adj z r → Tallied t r u → Tally cs adj (z + 1) u
  tally_more z {t} {u} {r} h T R A = bool (is_some r) yes no
    where
      yes : is_some r ≡ true → Tally cs adj (z + 1) u
      yes e =
          let y = A.yes e in
          let q = sym R.ruled ∙ e in
          let c = count_yes z (is_ruled cs adj) q in
          record {
            rules = omega (arith, y.0, T.rules, c);
            pairs =
                y.1 ∙ ap (λ x. x + unwrap_or r 0) T.pairs
                ∙ ap (λ x. pairs_before cs adj (place_of z) + x) (R.pairs e)
                ∙ sym (before_more z h q) ∙ ap (pairs_before cs adj) (sym c);
            rules_few = omega (arith, y.0, T.rules_few);
            pairs_few = omega (arith, y.1, T.pairs_few, R.few);
          }

      no : is_some r ≡ false → Tally cs adj (z + 1) u
      no e =
          let y = A.no e in
          let c = count_no z (is_ruled cs adj) (sym R.ruled ∙ e) in
          record {
            rules = omega (arith, y.0, T.rules, c);
            pairs = y.1 ∙ T.pairs ∙ ap (pairs_before cs adj) (sym c);
            rules_few = omega (arith, y.0, T.rules_few);
            pairs_few = omega (arith, y.1, T.pairs_few);
          }

  pub tally_all : (k z : ℕ) {t : Totals} → k ≡ length cs → k ≤ 64 → z ≡ k * k → Tally cs adj z t → TotalsOf cs adj t
  tally_all k z e few q T =
      let l : k * k ≤ 4096 = mul-le-mul few few in
      let c : place_of z ≡ rule_total cs adj = ap place_of (q ∙ ap (λ x. x * x) e) ∙ sym total_is in
      record {
        rules = T.rules ∙ c;
        pairs = T.pairs ∙ ap (pairs_before cs adj) c;
        rules_few = omega (arith, T.rules_few);
        pairs_few = omega (arith, T.pairs_few);
      }
