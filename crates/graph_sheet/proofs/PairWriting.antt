-- The pair rows of a sheet, as they are put: position by position of the first link, and of the second.
use Rattle.std.proofs.Common.{Option, is_some, unwrap_or}
use mathlib.Core.Path.{◌≡◌, refl, sym, ap, ◌∙◌}
use mathlib.Core.Bool.{Bool, true, false, cond}
use mathlib.Core.List.{List, [], ◌∷◌, ◌++◌, append-nil, append_assoc}
use Prim.Native.Nat.{ℕ, zero, suc, ◌+◌, ◌*◌, ◌/◌, ◌%◌, ◌<◌}
use native.Mathlib.Numerals.{add-one}
use native.Mathlib.Omega.{arith}
use lib.ListN.{length}
use Rattle.output.specs.declared.Output.{Output}
use Rattle.output.specs.Puts.{Puts}
use Rattle.output.proofs.Puts.{puts_none, puts_same}
use Rattle.wire.specs.Fields.{bytes16}
use Rattle.dimacs.specs.Lists.{select, for_each, join_to}
use Rattle.dimacs.specs.Reading.{count_of}
use Rattle.dimacs.specs.Made.{pair_row, pairs_of, is_ruled, rule_pair_rows, pair_rows}
use Rattle.dimacs.proofs.Lists.{each_select}
use Rattle.dimacs.proofs.Codes.{code_first, code_second, row_after}
use Rattle.graph_sheet.specs.Rows.{pair_row_in, pair_rows_in, pair_rows_at}
use Rattle.graph_sheet.specs.Pairs.{TwoOf, joined_in, joined_at, pairs_in, RuleTold}
use Rattle.graph_sheet.specs.declared.joins.Two.{Two}
use Rattle.graph_sheet.proofs.Pairing.{code_joined, pairs_same}
use Rattle.graph_sheet.proofs.Ruling.{place_of, total_is, pairs_row_is}
use Rattle.graph_sheet.proofs.Writing.{put_yes, put_no, cond_same}

-- one pair row
module _ (adj : ℕ → ℕ → Bool) (p : Two) (x y : ℕ) where
  pub pair_no : {r : Bool} (o : Output) → r ≡ joined_in adj p x y → r ≡ false
      → Puts (pair_row_in adj p x y) o o
  unfolding pair_row_in
  pair_no o e n = put_no (bytes16 x ++ bytes16 y) o (sym e ∙ n)

  pub pair_yes : {r : Bool} {o q : Output} → r ≡ joined_in adj p x y → r ≡ true
      → Puts (bytes16 x ++ bytes16 y) o q → Puts (pair_row_in adj p x y) o q
  unfolding pair_row_in
  pair_yes e t w = put_yes (bytes16 x ++ bytes16 y) (sym e ∙ t) w

pub row_put : (adj : ℕ → ℕ → Bool) (p : Two) (x y : ℕ) {o q : Output} → y ≡ p.width
    → Puts (join_to y (pair_row_in adj p x)) o q → Puts (pair_rows_in adj p x) o q
unfolding pair_rows_in
row_put adj p x y e w = puts_same (ap (λ i. join_to i (pair_row_in adj p x)) e) w

-- rows of w pieces, one after another

join_add : (a d : ℕ) (f : ℕ → List ℕ) → join_to (a + d) f ≡ join_to a f ++ join_to d (λ i. f (a + i))
unfolding join_to
join_add a zero f = let e : a + 0 ≡ a = omega arith in rw e (sym (append-nil (join_to a f)))
join_add a (suc d) f =
    let e : a + suc d ≡ suc (a + d) = omega arith in
    rw e
    (ap (λ l. l ++ f (a + d)) (join_add a d f)
    ∙ append_assoc (join_to a f) (join_to d (λ i. f (a + i))) (f (a + d)))

join_same : (m : ℕ) (f g : ℕ → List ℕ) → ((i : ℕ) → i < m → f i ≡ g i) → join_to m f ≡ join_to m g
unfolding join_to
join_same zero f g h = refl
join_same (suc m) f g h =
    ap (λ l. l ++ f m) (join_same m f g (λ i l. h i (omega arith))) ∙ ap (λ l. join_to m g ++ l) (h m (omega arith))

join_rows : (l w : ℕ) (f : ℕ → List ℕ) (g : ℕ → ℕ → List ℕ) → ((x y : ℕ) → y < w → f (x * w + y) ≡ g x y)
    → join_to l (λ x. join_to w (g x)) ≡ join_to (l * w) f
unfolding join_to
join_rows zero w f g h = let e : 0 * w ≡ 0 = omega arith in rw e refl
join_rows (suc l) w f g h =
    rw (row_after l w)
    (ap (λ r. r ++ join_to w (g l)) (join_rows l w f g h)
    ∙ ap (λ r. join_to (l * w) f ++ r) (sym (join_same w (λ y. f (l * w + y)) (g l) (h l)))
    ∙ sym (join_add (l * w) w f))

-- f at each number that passes
each_join : (m : ℕ) (f : ℕ → List ℕ) (p : ℕ → Bool) → join_to m (λ z. cond (p z) (f z) []) ≡ for_each f (select m p)
unfolding join_to select for_each
each_join zero f p = refl
each_join (suc m) f p =
    ap (λ l. l ++ cond (p m) (f m) []) (each_join m f p)
    ∙ each_select f p m
    ∙ ap (λ i. for_each f (select i p)) (add-one m)

-- the pair rows of two links
module _ (adj : ℕ → ℕ → Bool) (p : Two) where
  pair_code : (x y : ℕ) → y < p.width
      → cond (joined_at adj p (x * p.width + y)) (pair_row p.width (x * p.width + y)) [] ≡ pair_row_in adj p x y
  unfolding pair_row_in pair_row
  pair_code x y h =
      rw (code_joined adj p x y h, code_first p.width x y h, code_second p.width x y h)

  rows_are : join_to p.count (pair_rows_in adj p) ≡ for_each (pair_row p.width) (pairs_in adj p)
  unfolding pair_rows_in pairs_in
  rows_are =
      let row : ℕ → List ℕ = λ z. cond (joined_at adj p z) (pair_row p.width z) [] in
      join_rows p.count p.width row (pair_row_in adj p) pair_code
      ∙ each_join (p.count * p.width) (pair_row p.width) (joined_at adj p)

  pub joined_put : (x : ℕ) {o q : Output} → x ≡ p.count → Puts (join_to x (pair_rows_in adj p)) o q
      → Puts (for_each (pair_row p.width) (pairs_in adj p)) o q
  joined_put x h a = puts_same (ap (λ i. join_to i (pair_rows_in adj p)) h ∙ rows_are) a

none_empty_lem : (f : ℕ → List ℕ) (l : List ℕ) → length l ≡ 0 → for_each f l ≡ []
unfolding for_each
none_empty_lem f [] e = refl
none_empty_lem f (x ∷ l) e = absurd (omega arith)

module _ (cs : List ℕ) (adj : ℕ → ℕ → Bool) where
  module _ (z : ℕ) {r : Option ℕ} (R : RuleTold cs adj z r) where
    pub pairs_at_no : (o : Output) → is_some r ≡ false → Puts (pair_rows_at cs adj z) o o
    unfolding pair_rows_at
    pairs_at_no o n = put_no _ o (sym R.ruled ∙ n)

    pub pairs_at_none : (o : Output) → is_some r ≡ true → unwrap_or r 0 ≡ 0 → Puts (pair_rows_at cs adj z) o o
    unfolding pair_rows_at
    pairs_at_none o y n =
        put_yes _ (sym R.ruled ∙ y)
        (puts_same (sym (none_empty_lem _ _ (sym (R.pairs y) ∙ n))) (puts_none o))

    pub pairs_at_yes : (k : ℕ) {p : Two} {o q : Output} → k ≡ length cs → is_some r ≡ true
        → TwoOf cs (z / k) (z % k) p → Puts (for_each (pair_row p.width) (pairs_in adj p)) o q
        → Puts (pair_rows_at cs adj z) o q
    unfolding pair_rows_at
    pairs_at_yes k {p} e y T w =
        put_yes _ (sym R.ruled ∙ y)
        (puts_same
        (ap (λ x. for_each (pair_row x) (pairs_in adj p)) T.width
        ∙ ap (for_each (pair_row (count_of cs (z % k)))) (pairs_same cs adj T)
        ∙ ap (λ x. for_each (pair_row (count_of cs (z % x))) (pairs_of cs adj (z / x) (z % x))) e)
        w)

  -- the pair rows of a code are those of its place
  pub pairs_row_put : (z : ℕ) {o q : Output} → z < length cs * length cs
      → Puts (pair_rows_at cs adj z) o q
      → Puts (cond (is_ruled cs adj z) (rule_pair_rows cs adj (place_of cs adj z)) []) o q
  unfolding pair_rows_at
  pairs_row_put z h w = puts_same (cond_same (is_ruled cs adj z) _ _ (λ y. sym (pairs_row_is cs adj z h y))) w

  -- all pair rows
  pub pairs_put : (k : ℕ) {o q : Output} → k ≡ length cs
      → Puts (join_to (place_of cs adj (k * k)) (rule_pair_rows cs adj)) o q → Puts (pair_rows cs adj) o q
  unfolding pair_rows
  pairs_put k e w =
      puts_same
      (ap (λ x. join_to x (rule_pair_rows cs adj)) (ap (λ x. place_of cs adj (x * x)) e ∙ sym (total_is cs adj)))
      w
