-- The pairs that join two links, counted row by row.
use Rattle.std.proofs.Common.{None}
use Rattle.std.specs.Bool.{then_some}
use Rattle.std.specs.Int.{from_bool}
use mathlib.Core.Path.{◌≡◌, refl, sym, ap, subst, ◌∙◌}
use mathlib.Core.Bool.{Bool, true, false, not, ◌&&◌, ◌||◌}
use mathlib.Core.List.{List}
use Prim.Native.Nat.{ℕ, ◌+◌, ◌*◌, ◌/◌, ◌%◌, ◌≤◌, ◌<◌}
use native.Mathlib.Numerals.{add-one}
use native.Mathlib.Omega.{arith}
use native.Mathlib.Nat.{mul-le-mul}
use lib.Dec.{eqb}
use lib.ListN.{length, take, get_or, set, length-set}
use lib.Seq.{get_or-take, get_or-set_same, get_or-set_other, length-take-le}
use borrow.Author.Tests.{lt-ltb, le-ltb}
use Rattle.sets.specs.Sets.{Set}
use Rattle.sets.specs.Below.{one, count, sum_to}
use Rattle.sets.proofs.Below.{count_le, sum_more}
use Rattle.sets.proofs.Tests.{clash, below}
use Rattle.dimacs.specs.Lists.{select}
use Rattle.dimacs.specs.Reading.{count_of, first_of}
use Rattle.dimacs.specs.Made.{joined, is_pair, pairs_of, is_full, is_ruled}
use Rattle.dimacs.proofs.Lists.{select_length}
use Rattle.dimacs.proofs.Codes.{code_first, code_second, first_lt, second_lt, count_rows}
use Rattle.graph_read.specs.Graphs.{CodesFit}
use Rattle.graph_read.proofs.Firsts.{first_within}
use Rattle.graph_sheet.specs.Pairs.{GraphIn, FirstsTo, GraphLaid, counts_in}
use Rattle.graph_sheet.specs.Pairs.{TwoOf, Among, joined_in, joined_at, pairs_in, PairCount, RuleTold}
use Rattle.graph_read.specs.declared.GraphSizes.{GraphSizes}
use Rattle.graph_sheet.specs.declared.joins.Two.{Two}

-- the first vertices of the links

pub firsts_none : (cs firsts : List ℕ) → FirstsTo cs firsts 0
firsts_none cs firsts = record { room = omega arith; are = λ l h. absurd (omega arith) }

pub firsts_more : {cs firsts : List ℕ} (l v : ℕ) → l < length firsts → FirstsTo cs firsts l → v ≡ first_of cs l
    → FirstsTo cs (set firsts l v) (l + 1)
firsts_more {cs} {firsts} l v h F e = record {
  room = rw (length-set firsts l v) (omega arith);
  are = λ i g. below i l (omega arith)
      (λ b. get_or-set_other firsts l i v 0 (λ q. omega arith) ∙ F.are i b)
      (λ q. rw q (get_or-set_same firsts l v 0 h ∙ e));
}

pub firsts_all : {cs firsts : List ℕ} (l k : ℕ) → l ≡ k → FirstsTo cs firsts l → FirstsTo cs firsts k
firsts_all {cs} {firsts} l k e F = subst (FirstsTo cs firsts) e F

-- two links

module _ (counts firsts : List ℕ) (k a b : ℕ) (F : FirstsTo (take k counts) firsts k) (h : a < k) (g : b < k) where
  pub two_made : TwoOf (take k counts) a b (record {
    first = get_or firsts a 0;
    count = get_or counts a 0;
    second = get_or firsts b 0;
    width = get_or counts b 0;
  })
  two_made = record {
    first = F.are a h;
    count = sym (get_or-take k counts a 0 h);
    second = F.are b g;
    width = sym (get_or-take k counts b 0 g);
  }

pub two_among : {counts : List ℕ} {s : GraphSizes} {len a b : ℕ} {p : Two} → GraphIn counts s len → a < s.links
    → b < s.links → TwoOf (counts_in counts s) a b p → Among s.vertices p
two_among {counts} {s} {len} {a} {b} G h g T = record {
  few = omega (arith, G.vertices, G.links.few);
  first = omega (arith, G.vertices, T.first, T.count, first_within (counts_in counts s) a s.links h);
  second = omega (arith, G.vertices, T.second, T.width, first_within (counts_in counts s) b s.links g);
}

pub area_few : {n : ℕ} {p : Two} → Among n p → p.count * p.width ≤ 262144
area_few {n} {p} A =
    let a : p.count ≤ 512 = omega (arith, A.few, A.first) in
    let b : p.width ≤ 512 = omega (arith, A.few, A.second) in
    mul-le-mul a b

pub row_few : {n r : ℕ} {p : Two} → Among n p → (q : ℕ → Bool) → r ≡ count p.width q → r ≤ 512
row_few {n} {r} {p} A q e = omega (arith, count_le p.width q)

pub in_joined : (E : Set) (n : ℕ) (p : Two) (x y : ℕ) {r : Bool} → p.first + x < n → p.second + y < n
    → r ≡ (E ((p.first + x) * n + (p.second + y)) || E ((p.second + y) * n + (p.first + x)))
    → r ≡ joined_in (joined n E) p x y
unfolding joined_in joined
in_joined E n p x y a b e = e ∙ rw (lt-ltb (p.first + x) n a, lt-ltb (p.second + y) n b) refl

-- positions x and y have the code x * (count of the second) + y
pub code_joined : (adj : ℕ → ℕ → Bool) (p : Two) (x y : ℕ) → y < p.width
    → joined_at adj p (x * p.width + y) ≡ joined_in adj p x y
unfolding joined_at joined_in
code_joined adj p x y h = rw (code_first p.width x y h, code_second p.width x y h)

-- a count, one number after another

pub count_zero : (p : ℕ → Bool) → 0 ≡ count 0 p
unfolding count
count_zero p = refl

one_is : (b : Bool) → from_bool b ≡ one b
one_is true = refl
one_is false = refl

pub from_few : (b : Bool) → from_bool b ≤ 1
from_few true = omega arith
from_few false = omega arith

pub count_more : {z m r : ℕ} {b : Bool} (p : ℕ → Bool) → m ≡ count z p → b ≡ p z → r ≡ from_bool b
    → m + r ≡ count (z + 1) p
unfolding count
count_more {z} {m} {r} {b} p f t e = rw add-one (omega (arith, one_is b, ap one t))

pub count_all : {m : ℕ} (p : ℕ → Bool) (z w : ℕ) → z ≡ w → m ≡ count z p → m ≡ count w p
count_all p z w e f = f ∙ ap (λ x. count x p) e

module _ (adj : ℕ → ℕ → Bool) (p : Two) where
  -- the pairs of the rows below x
  abbrev pub rows_to : ℕ → ℕ
  rows_to x = sum_to x (λ i. count p.width (joined_in adj p i))

  pub rows_zero : 0 ≡ rows_to 0
  unfolding sum_to
  rows_zero = refl

  pub rows_one_more : (x : ℕ) {m r : ℕ} → m ≡ rows_to x → r ≡ count p.width (joined_in adj p x)
      → m + r ≡ rows_to (x + 1)
  rows_one_more x e f = omega (arith, sum_more x (λ i. count p.width (joined_in adj p i)))

  pub pairs_counted : (x : ℕ) {m : ℕ} → x ≡ p.count → m ≤ 262144 → m ≡ rows_to x → PairCount adj p m
  unfolding pairs_in
  pairs_counted x e l f = record {
    few = l;
    is =
        f ∙ ap rows_to e
        ∙ count_rows p.count p.width (joined_at adj p) (joined_in adj p) (code_joined adj p)
        ∙ sym (select_length (p.count * p.width) (joined_at adj p));
  }

-- the pairs by the first vertices and the counts of two links
abbrev pairs_by : (ℕ → ℕ → Bool) → ℕ → ℕ → ℕ → ℕ → List ℕ
pairs_by adj f l s w = select (l * w) (λ z. adj (f + z / w) (s + z % w))

-- the pairs of two links are those of the links
pub pairs_same : (cs : List ℕ) (adj : ℕ → ℕ → Bool) {a b : ℕ} {p : Two} → TwoOf cs a b p
    → pairs_in adj p ≡ pairs_of cs adj a b
unfolding pairs_in pairs_of joined_at is_pair
pairs_same cs adj {a} {b} {p} T =
    ap (λ f. pairs_by adj f p.count p.second p.width) T.first
    ∙ ap (λ l. pairs_by adj (first_of cs a) l p.second p.width) T.count
    ∙ ap (λ s. pairs_by adj (first_of cs a) (count_of cs a) s p.width) T.second
    ∙ ap (pairs_by adj (first_of cs a) (count_of cs a) (first_of cs b)) T.width

-- whether two links get a rule

pub rule_not : (cs : List ℕ) (adj : ℕ → ℕ → Bool) (k z : ℕ) → k ≡ length cs → z % k ≤ z / k
    → RuleTold cs adj z None
unfolding is_ruled
rule_not cs adj k z e h = record {
  ruled = sym (ap (λ x. x && not (is_full cs adj (z / length cs) (z % length cs))) (le-ltb _ _ (rw e at h)));
  pairs = λ q. clash false q refl;
  few = omega arith;
}

-- the links of a graph, and of a code
module _ {counts firsts : List ℕ} {s : GraphSizes} {len : ℕ} (G : GraphLaid counts firsts s len) where
  pub square_few : s.links * s.links ≤ 4096
  square_few = let l = G.graph.links.links in mul-le-mul l l

  pub links_are : s.links ≡ length (counts_in counts s)
  links_are = sym (length-take-le s.links counts G.graph.links.room)

  pub codes_fit : CodesFit s.vertices len
  codes_fit = record { few = omega (arith, G.graph.vertices, G.graph.links.few); room = G.graph.room }

  module _ (z : ℕ) (h : z < s.links * s.links) where
    pub code_below : z < length (counts_in counts s) * length (counts_in counts s)
    code_below = subst (λ k. z < k * k) links_are h

    pub first_below : z / s.links < s.links
    first_below = first_lt s.links s.links z h

    pub second_below : z % s.links < s.links
    second_below = second_lt s.links s.links z h

    pub among : {p : Two} → TwoOf (counts_in counts s) (z / s.links) (z % s.links) p → Among s.vertices p
    among T = two_among G.graph first_below second_below T

module _ (cs : List ℕ) (adj : ℕ → ℕ → Bool) (k z : ℕ) {p : Two} {r : ℕ} (e : k ≡ length cs) (h : z / k < z % k)
    (T : TwoOf cs (z / k) (z % k) p) (P : PairCount adj p r) where
  abbrev first : ℕ
  first = z / length cs

  abbrev second : ℕ
  second = z % length cs

  pairs_are : r ≡ length (pairs_of cs adj first second)
  pairs_are = P.is ∙ ap length (pairs_same cs adj T) ∙ ap (λ x. length (pairs_of cs adj (z / x) (z % x))) e

  area_is : p.count * p.width ≡ count_of cs first * count_of cs second
  area_is =
      ap (λ x. x * p.width) T.count ∙ ap (λ x. count_of cs (z / k) * x) T.width
      ∙ ap (λ x. count_of cs (z / x) * count_of cs (z % x)) e

  pub rule_counted : (b : Bool) → b ≡ not (eqb r (p.count * p.width)) → RuleTold cs adj z (then_some b r)
  unfolding is_ruled is_full
  rule_counted b q = counted b refl
    where
      told : b ≡ is_ruled cs adj z
      told =
          q ∙ ap (λ x. not (eqb x (p.count * p.width))) pairs_are
          ∙ ap (λ x. not (eqb (length (pairs_of cs adj first second)) x)) area_is
          ∙ sym (ap (λ x. x && not (is_full cs adj first second)) (lt-ltb _ _ (rw e at h)))

      counted : (x : Bool) → b ≡ x → RuleTold cs adj z (then_some b r)
      counted true f = rw f (record { ruled = sym f ∙ told; pairs = λ _. pairs_are; few = P.few })
      counted false f = rw f (record { ruled = sym f ∙ told; pairs = λ t. clash false t refl; few = omega arith })
