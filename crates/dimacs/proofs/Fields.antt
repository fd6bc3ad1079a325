-- The fields of the sheet that is made: what the reader finds in its header and in its rows.
use mathlib.Core.Path.{◌≡◌, refl, ap, ◌∙◌}
use mathlib.Core.Bool.{Bool}
use mathlib.Core.List.{List, [], ◌++◌}
use Prim.Native.Nat.{ℕ, zero, suc, ◌+◌, ◌*◌, ◌/◌, ◌%◌, ◌<◌}
use native.Mathlib.Omega.{arith}
use lib.ListN.{length, get_or, drop, length-append, get_or-append}
use lib.Seq.{drop-append-add}
use Rattle.sets.specs.Below.{sum_to}
use Rattle.sets.proofs.Below.{sum_in}
use Rattle.wire.specs.Fields.{le16, le32}
use Rattle.sheet_rows.specs.declared.Form.{Form}
use Rattle.sheet_rows.specs.Form.{form_by, form_of}
use Rattle.sheet_rows.specs.Rows.{header_bytes, link_bytes, link_part, row_first, row_count, link_first, link_count, freq}
use Rattle.sheet_rows.specs.Rows.{rule_a, rule_b, rule_kind, rule_count, rule_value, pair_first, pair_second}
use Rattle.sheet_rows.proofs.Rows.{one_is}
use Rattle.sheet.specs.Sheet.{k_of, n_of, q_of, t_of, freqs_at, rules_at, pairs_at, end_at, freq_part}
use Rattle.sheet.specs.Sheet.{rule_part, pair_part}
use Rattle.dimacs.specs.Lists.{join_to}
use Rattle.dimacs.specs.Reading.{count_of, first_of, vertices_of}
use Rattle.dimacs.specs.Made.{made_form, made_bytes, header, link_row_of, link_rows, freq_row, freq_rows, pair_row}
use Rattle.dimacs.specs.Made.{rule_pairs, ruled_a, ruled_b}
use Rattle.dimacs.specs.Made.{kind_of, value_of, pairs_before, rule_total, pair_total, rule_row, rule_rows, rule_pair_rows}
use Rattle.dimacs.specs.Made.{pair_rows, sheet_of}
use Rattle.dimacs.proofs.Lists.{join_length, join_at, each_length, each_at}

-- a number from its bytes
pub word16 : (v : ℕ) → v % 256 + 256 * (v / 256) ≡ v
word16 v = omega arith

pub word32 : (v : ℕ) → v % 256 + 256 * (v / 256 % 256) + 65536 * (v / 65536 % 256) + 16777216 * (v / 16777216) ≡ v
word32 v = omega arith

sum_const : (w : ℕ) (f : ℕ → ℕ) (j : ℕ) → ((i : ℕ) → f i ≡ w) → sum_to j f ≡ w * j
unfolding sum_to
sum_const w f zero h = omega arith
sum_const w f (suc j) h = rw (sum_const w f j h, h j) (omega arith)

-- rows of w bytes, with other bytes after them
module _ (m : ℕ) (f : ℕ → List ℕ) (w : ℕ) (rest : List ℕ) (wide : (i : ℕ) → length (f i) ≡ w) where
  pub rows_length : length (join_to m f) ≡ w * m
  rows_length = join_length m f ∙ sum_const w (λ i. length (f i)) m wide

  byte_at : (at j o : ℕ) → at ≡ w * j + o → j < m → o < w → get_or (join_to m f ++ rest) at 0 ≡ get_or (f j) o 0
  byte_at at j o e h g =
      let s = sum_const w (λ i. length (f i)) j wide in
      let x : at ≡ sum_to j (λ i. length (f i)) + o = omega arith in
      let b : at < length (join_to m f) = rw (join_length m f) (omega (arith, sum_in m j (λ i. length (f i)) h, wide j))
      in
      get_or-append (join_to m f) rest 0 at b ∙ ap (λ i. get_or (join_to m f) i 0) x ∙ join_at m f j o h (rw (wide j) g)

  pub half_at : (at j o : ℕ) → at ≡ w * j + o → j < m → o + 1 < w → le16 (join_to m f ++ rest) at ≡ le16 (f j) o
  half_at at j o e h g = rw (byte_at at j o e h (omega arith), byte_at (at + 1) j (o + 1) (omega arith) h g)

  pub word_at : (at j o : ℕ) → at ≡ w * j + o → j < m → o + 3 < w → le32 (join_to m f ++ rest) at ≡ le32 (f j) o
  word_at at j o e h g =
      rw (
        byte_at at j o e h (omega arith),
        byte_at (at + 1) j (o + 1) (omega arith) h (omega arith),
        byte_at (at + 2) j (o + 2) (omega arith) h (omega arith),
        byte_at (at + 3) j (o + 3) (omega arith) h g,
      )

-- link rows and frequencies, with other bytes after them
module _ (cs rest : List ℕ) where
  link_wide : (l : ℕ) → length (link_row_of cs l) ≡ 4
  unfolding link_row_of
  link_wide l = refl

  pub links_length : length (link_rows cs) ≡ 4 * length cs
  unfolding link_rows
  links_length = rows_length (length cs) (link_row_of cs) 4 [] link_wide

  pub first_field : (l : ℕ) → l < length cs → row_first made_bytes (link_rows cs ++ rest) l ≡ first_of cs l
  unfolding link_rows link_row_of
  first_field l h = half_at (length cs) (link_row_of cs) 4 rest link_wide (4 * l) l 0 (omega arith) h (omega arith)
      ∙ word16 (first_of cs l)

  pub count_field : (l : ℕ) → l < length cs → row_count made_bytes (link_rows cs ++ rest) l ≡ count_of cs l
  unfolding link_rows link_row_of
  count_field l h = half_at (length cs) (link_row_of cs) 4 rest link_wide (4 * l + 2) l 2 (omega arith) h (omega arith)
      ∙ word16 (count_of cs l)

  freq_wide : (v : ℕ) → length (freq_row v) ≡ 4
  unfolding freq_row
  freq_wide v = refl

  pub freqs_length : length (freq_rows cs) ≡ 4 * vertices_of cs
  unfolding freq_rows
  freqs_length = rows_length (vertices_of cs) freq_row 4 [] freq_wide

  pub freq_field : (v : ℕ) → v < vertices_of cs → freq (freq_rows cs ++ rest) v ≡ v + 1
  unfolding freq_rows freq_row
  freq_field v h = word_at (vertices_of cs) freq_row 4 rest freq_wide (4 * v) v 0 (omega arith) h (omega arith)
      ∙ word32 (v + 1)

-- rule rows and pair rows, with other bytes after them
module _ (cs : List ℕ) (adj : ℕ → ℕ → Bool) (rest : List ℕ) where
  rule_wide : (j : ℕ) → length (rule_row cs adj j) ≡ 12
  unfolding rule_row
  rule_wide j = refl

  pub rules_length : length (rule_rows cs adj) ≡ 12 * rule_total cs adj
  unfolding rule_rows
  rules_length = rows_length (rule_total cs adj) (rule_row cs adj) 12 [] rule_wide

  pub a_field : (j : ℕ) → j < rule_total cs adj → rule_a (rule_rows cs adj ++ rest) j ≡ ruled_a cs adj j
  unfolding rule_rows rule_row
  a_field j h = half_at (rule_total cs adj) (rule_row cs adj) 12 rest rule_wide (12 * j) j 0 (omega arith) h (omega arith)
      ∙ word16 (ruled_a cs adj j)

  pub b_field : (j : ℕ) → j < rule_total cs adj → rule_b (rule_rows cs adj ++ rest) j ≡ ruled_b cs adj j
  unfolding rule_rows rule_row
  b_field j h = half_at (rule_total cs adj) (rule_row cs adj) 12 rest rule_wide (12 * j + 2) j 2 (omega arith) h
      (omega arith) ∙ word16 (ruled_b cs adj j)

  pub kind_field : (j : ℕ) → j < rule_total cs adj → rule_kind (rule_rows cs adj ++ rest) j ≡ kind_of cs adj j
  unfolding rule_rows rule_row
  kind_field j h = half_at (rule_total cs adj) (rule_row cs adj) 12 rest rule_wide (12 * j + 4) j 4 (omega arith) h
      (omega arith) ∙ word16 (kind_of cs adj j)

  pub pairs_field : (j : ℕ) → j < rule_total cs adj → rule_count (rule_rows cs adj ++ rest) j ≡ length (rule_pairs cs adj j)
  unfolding rule_rows rule_row
  pairs_field j h = half_at (rule_total cs adj) (rule_row cs adj) 12 rest rule_wide (12 * j + 6) j 6 (omega arith) h
      (omega arith) ∙ word16 (length (rule_pairs cs adj j))

  pub value_field : (j : ℕ) → j < rule_total cs adj → rule_value (rule_rows cs adj ++ rest) j ≡ value_of cs adj j
  unfolding rule_rows rule_row
  value_field j h = word_at (rule_total cs adj) (rule_row cs adj) 12 rest rule_wide (12 * j + 8) j 8 (omega arith) h
      (omega arith) ∙ word32 (value_of cs adj j)

module _ (cs : List ℕ) (adj : ℕ → ℕ → Bool) where
  pair_wide : (m z : ℕ) → length (pair_row m z) ≡ 4
  unfolding pair_row
  pair_wide m z = refl

  rule_pair_bytes : (j : ℕ) → length (rule_pair_rows cs adj j) ≡ 4 * length (rule_pairs cs adj j)
  unfolding rule_pair_rows
  rule_pair_bytes j = each_length (pair_row (count_of cs (ruled_b cs adj j))) 4 (rule_pairs cs adj j)
      (pair_wide (count_of cs (ruled_b cs adj j)))

  bytes_before : (j : ℕ) → sum_to j (λ i. length (rule_pair_rows cs adj i)) ≡ 4 * pairs_before cs adj j
  unfolding sum_to pairs_before
  bytes_before zero = refl
  bytes_before (suc j) = rw (bytes_before j, rule_pair_bytes j) (omega arith)

  pub pairs_length : length (pair_rows cs adj) ≡ 4 * pair_total cs adj
  unfolding pair_rows
  pairs_length = join_length (rule_total cs adj) (rule_pair_rows cs adj) ∙ bytes_before (rule_total cs adj)

  -- byte o of pair i of rule j
  pair_byte : (at j i o : ℕ) → at ≡ 4 * (pairs_before cs adj j + i) + o → j < rule_total cs adj
      → i < length (rule_pairs cs adj j) → o < 4
      → get_or (pair_rows cs adj) at 0 ≡ get_or (pair_row (count_of cs (ruled_b cs adj j)) (get_or (rule_pairs cs adj j) i 0)) o 0
  unfolding pair_rows rule_pair_rows
  pair_byte at j i o e h g b =
      let s = bytes_before j in
      let x : at ≡ sum_to j (λ i. length (rule_pair_rows cs adj i)) + (4 * i + o) = omega arith in
      ap (λ y. get_or (pair_rows cs adj) y 0) x
      ∙ join_at (rule_total cs adj) (rule_pair_rows cs adj) j (4 * i + o) h (rw (rule_pair_bytes j) (omega arith))
      ∙ each_at (pair_row (count_of cs (ruled_b cs adj j))) 4 (rule_pairs cs adj j) i o
      (pair_wide (count_of cs (ruled_b cs adj j))) g b

  module _ (j i : ℕ) (h : j < rule_total cs adj) (g : i < length (rule_pairs cs adj j)) where
    pub first_position : pair_first (pair_rows cs adj) (pairs_before cs adj j + i) ≡ get_or (rule_pairs cs adj j) i 0 /
        count_of cs (ruled_b cs adj j)
    unfolding pair_row
    first_position =
        rw (
          pair_byte (4 * (pairs_before cs adj j + i)) j i 0 (omega arith) h g (omega arith),
          pair_byte (4 * (pairs_before cs adj j + i) + 1) j i 1 (omega arith) h g (omega arith),
        )
        (word16 (get_or (rule_pairs cs adj j) i 0 / count_of cs (ruled_b cs adj j)))

    pub second_position : pair_second (pair_rows cs adj) (pairs_before cs adj j + i) ≡ get_or (rule_pairs cs adj j) i 0 %
        count_of cs (ruled_b cs adj j)
    unfolding pair_row
    second_position =
        rw (
          pair_byte (4 * (pairs_before cs adj j + i) + 2) j i 2 (omega arith) h g (omega arith),
          pair_byte (4 * (pairs_before cs adj j + i) + 2 + 1) j i 3 (omega arith) h g (omega arith),
        )
        (word16 (get_or (rule_pairs cs adj j) i 0 % count_of cs (ruled_b cs adj j)))

-- the form, the offsets and the length that a sheet names
pub record Offsets (s : List ℕ) (k n q t : ℕ) : Type 0 where
  pub form : le32 s 0 ≡ made_form
  pub links : le32 s 20 ≡ header_bytes
  pub freqs : le32 s 24 ≡ freqs_at made_bytes k
  pub rules : le32 s 28 ≡ rules_at made_bytes k n
  pub pairs : le32 s 32 ≡ pairs_at made_bytes k n q
  pub end : le32 s 36 ≡ end_at made_bytes k n q t

-- the header, with other bytes after it
module _ (k n q t : ℕ) (rest : List ℕ) where
  pub header_length : length (header k n q t) ≡ 40
  unfolding header
  header_length = refl

  pub k_field : k_of (header k n q t ++ rest) ≡ k
  unfolding header
  k_field = word32 k

  pub n_field : n_of (header k n q t ++ rest) ≡ n
  unfolding header
  n_field = word32 n

  pub q_field : q_of (header k n q t ++ rest) ≡ q
  unfolding header
  q_field = word32 q

  pub t_field : t_of (header k n q t ++ rest) ≡ t
  unfolding header
  t_field = word32 t

  pub offsets : Offsets (header k n q t ++ rest) k n q t
  unfolding header
  offsets = record {
    form = refl;
    links = refl;
    freqs = word32 (freqs_at made_bytes k);
    rules = word32 (rules_at made_bytes k n);
    pairs = word32 (pairs_at made_bytes k n q);
    end = word32 (end_at made_bytes k n q t);
  }

-- the link rows of the sheet s say the counts
pub record Counted (cs s : List ℕ) : Type 0 where
  pub first : (l : ℕ) → l < length cs → link_first s l ≡ first_of cs l
  pub count : (l : ℕ) → l < length cs → link_count s l ≡ count_of cs l

counted : (cs rest s : List ℕ) → link_bytes s ≡ made_bytes → link_part s ≡ link_rows cs ++ rest → Counted cs s
unfolding link_first link_count
counted cs rest s e f = record {
  first = λ l h. rw (e, f) (first_field cs rest l h);
  count = λ l h. rw (e, f) (count_field cs rest l h);
}

-- the counts and the parts of the sheet
drop_past : (x y : List ℕ) (a at n : ℕ) → length x ≡ a → at ≡ a + n → drop at (x ++ y) ≡ drop n y
drop_past x y a at n e f = rw (f, ← e) (drop-append-add x y n)

module _ (cs : List ℕ) (adj : ℕ → ℕ → Bool) where
  pub record Sections (s : List ℕ) : Type 0 where
    pub k : k_of s ≡ length cs
    pub n : n_of s ≡ vertices_of cs
    pub q : q_of s ≡ rule_total cs adj
    pub t : t_of s ≡ pair_total cs adj
    pub form : form_of s ≡ form_by made_form
    pub links : Counted cs s
    pub freqs : freq_part s ≡ freq_rows cs ++ (rule_rows cs adj ++ pair_rows cs adj)
    pub rules : rule_part s ≡ rule_rows cs adj ++ pair_rows cs adj
    pub pairs : pair_part s ≡ pair_rows cs adj
    pub long : length s ≡ end_at made_bytes (length cs) (vertices_of cs) (rule_total cs adj) (pair_total cs adj)
    pub offsets : Offsets s (length cs) (vertices_of cs) (rule_total cs adj) (pair_total cs adj)

  module _ (k n q t : ℕ) (a b c d : List ℕ) (la : length a ≡ 4 * k) (lb : length b ≡ 4 * n) (lc : length c ≡ 12 * q)
    where
      past_header : (m : ℕ) → drop (40 + m) (header k n q t ++ (a ++ (b ++ (c ++ d)))) ≡ drop m (a ++ (b ++ (c ++ d)))
      past_header m = drop_past (header k n q t) (a ++ (b ++ (c ++ d))) 40 (40 + m) m (header_length k n q t []) refl

      link_bytes_lem : drop header_bytes (header k n q t ++ (a ++ (b ++ (c ++ d)))) ≡ a ++ (b ++ (c ++ d))
      link_bytes_lem = past_header 0

      freq_bytes_lem : drop (freqs_at made_bytes k) (header k n q t ++ (a ++ (b ++ (c ++ d)))) ≡ b ++ (c ++ d)
      freq_bytes_lem = past_header (4 * k) ∙ drop_past a (b ++ (c ++ d)) (4 * k) (4 * k) 0 la (omega arith)

      rule_bytes_lem : drop (rules_at made_bytes k n) (header k n q t ++ (a ++ (b ++ (c ++ d)))) ≡ c ++ d
      rule_bytes_lem = let e : rules_at made_bytes k n ≡ 40 + (4 * k + 4 * n) = omega arith in
          rw e (past_header (4 * k + 4 * n) ∙ drop_past a (b ++ (c ++ d)) (4 * k) (4 * k + 4 * n) (4 * n) la refl
          ∙ drop_past b (c ++ d) (4 * n) (4 * n) 0 lb (omega arith))

      pair_bytes_lem : drop (pairs_at made_bytes k n q) (header k n q t ++ (a ++ (b ++ (c ++ d)))) ≡ d
      pair_bytes_lem = let e : pairs_at made_bytes k n q ≡ 40 + (4 * k + (4 * n + 12 * q)) = omega arith in
          rw e (past_header (4 * k + (4 * n + 12 * q))
          ∙ drop_past a (b ++ (c ++ d)) (4 * k) (4 * k + (4 * n + 12 * q)) (4 * n + 12 * q) la refl
          ∙ drop_past b (c ++ d) (4 * n) (4 * n + 12 * q) (12 * q) lb refl
          ∙ drop_past c d (12 * q) (12 * q) 0 lc (omega arith))

  pub sections : Sections (sheet_of cs adj)
  unfolding sheet_of
  sections =
      let k = length cs in
      let n = vertices_of cs in
      let q = rule_total cs adj in
      let t = pair_total cs adj in
      let a = link_rows cs in
      let b = freq_rows cs in
      let c = rule_rows cs adj in
      let d = pair_rows cs adj in
      let la = links_length cs [] in
      let lb = freqs_length cs [] in
      let lc = rules_length cs adj [] in
      let ld = pairs_length cs adj in
      let rest = a ++ (b ++ (c ++ d)) in
      let ek = k_field k n q t rest in
      let en = n_field k n q t rest in
      let eq = q_field k n q t rest in
      let ef : form_of (header k n q t ++ rest) ≡ form_by made_form = ap form_by (offsets k n q t rest).form in
      let eb : link_bytes (header k n q t ++ rest) ≡ made_bytes = ap (λ (f : Form). f.bytes) (ef ∙ one_is) in
      record {
        k = ek;
        n = en;
        q = eq;
        t = t_field k n q t rest;
        form = ef;
        links = counted cs (b ++ (c ++ d)) (header k n q t ++ rest) eb (link_bytes_lem k n q t a b c d la lb lc);
        freqs = rw (eb, ek) (freq_bytes_lem k n q t a b c d la lb lc);
        rules = rw (eb, ek, en) (rule_bytes_lem k n q t a b c d la lb lc);
        pairs = rw (eb, ek, en, eq) (pair_bytes_lem k n q t a b c d la lb lc);
        long = omega (
          arith,
          header_length k n q t [],
          length-append (header k n q t) rest,
          length-append a (b ++ (c ++ d)),
          length-append b (c ++ d),
          length-append c d,
        );
        offsets = offsets k n q t rest;
      }
