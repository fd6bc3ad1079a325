-- What looks at the link rows of a sheet is the same for two sheets whose link rows have the same fields: layers, the
-- pair test, adjacency, the plan check and the rows' own tests.
use mathlib.Core.Path.{◌≡◌, refl, ap, ap₂, ◌∙◌}
use mathlib.Core.Bool.{cond, ◌&&◌, ◌||◌}
use mathlib.Core.List.{List}
use Prim.Native.Nat.{ℕ, zero, suc, ◌+◌, ◌-◌}
use lib.Dec.{leb, eqb}
use Rattle.sets.specs.Below.{all, any}
use Rattle.sets.proofs.Below.{all_same}
use Rattle.sheet_rows.specs.Rows.{link_first, link_count, link_width, freq, rule_a, rule_b, rule_kind, rule_count, rule_value}
use Rattle.rule_sections.specs.Rules.{listed, pair_ok, rule_pairs_ok, pairs_ok}
use Rattle.sheet.specs.Sheet.{freq_ok, link_freqs_ok, freqs_ok}
use Rattle.spacing.specs.Spacing.{distance, spare_by, zero_or_more}
use Rattle.pair_test.specs.Layers.{layer_of}
use Rattle.pair_test.specs.Pairs.{lists_pair, rule_widths, spare_row, spare}
use Rattle.rules.specs.Plans.{has_freq, place_of, vertex_of, in_lists, spare_taken, pair_kept, link_kept, keeps}
use Rattle.graph.specs.Graph.{links_differ, adjacent}

pub record SameRows (s s' : List ℕ) : Type 0 where
  pub firsts : link_first s ≡ link_first s'
  pub counts : link_count s ≡ link_count s'
  pub widths : link_width s ≡ link_width s'

module _ {s s' : List ℕ} (S : SameRows s s') where
  first_at_lem : (l : ℕ) → link_first s l ≡ link_first s' l
  first_at_lem l = ap (λ (f : ℕ → ℕ). f l) S.firsts

  pub layer_same : (m v : ℕ) → layer_of s m v ≡ layer_of s' m v
  unfolding layer_of
  layer_same zero v = refl
  layer_same (suc m) v = ap₂ (λ (f r : ℕ). cond (leb f v) m r) (first_at_lem m) (layer_same m v)

  -- the pair test
  module _ (fs rs ps : List ℕ) where
    row_same : (j u v : ℕ) → spare_row s fs rs ps j u v ≡ spare_row s' fs rs ps j u v
    unfolding spare_row rule_widths
    row_same j u v = ap₂
        (λ (f w : ℕ → ℕ). spare_by (rule_kind rs j) (rule_value rs j) (w (rule_a rs j) + w (rule_b rs j))
        (distance (freq fs u) (freq fs v))
        (lists_pair ps (rule_value rs j) (rule_count rs j) (u - f (rule_a rs j)) (v - f (rule_b rs j))))
        S.firsts S.widths

    pub spare_same : (m a b u v : ℕ) → spare s fs rs ps m a b u v ≡ spare s' fs rs ps m a b u v
    unfolding spare
    spare_same zero a b u v = refl
    spare_same (suc m) a b u v = rw (row_same m u v, row_same m v u, spare_same m a b u v)

    pub adjacent_same : (k n q u v : ℕ) → adjacent s fs rs ps k n q u v ≡ adjacent s' fs rs ps k n q u v
    unfolding adjacent links_differ
    adjacent_same k n q u v =
        rw (layer_same k u, layer_same k v, spare_same q (layer_of s' k u) (layer_of s' k v) u v)

    -- the plan check
    vertex_same : (l x : ℕ) → vertex_of s fs l x ≡ vertex_of s' fs l x
    unfolding vertex_of
    vertex_same l x = ap₂ (λ (f c : ℕ → ℕ). f l + place_of fs (f l) (c l) x) S.firsts S.counts

    listed_same : (cells : ℕ → ℕ) (l : ℕ) → in_lists s fs cells l ≡ in_lists s' fs cells l
    unfolding in_lists has_freq
    listed_same cells l =
        ap₂ (λ (f c : ℕ → ℕ). any (c l) (λ i. eqb (freq fs (f l + i)) (cells l))) S.firsts S.counts

    kept_same : (q : ℕ) (cells : ℕ → ℕ) (a b : ℕ) → pair_kept s fs rs ps q cells a b ≡ pair_kept s' fs rs ps q cells a b
    unfolding pair_kept spare_taken
    kept_same q cells a b = ap zero_or_more
        (ap₂ (λ u v. spare s fs rs ps q a b u v) (vertex_same a (cells a)) (vertex_same b (cells b))
        ∙ spare_same q a b (vertex_of s' fs a (cells a)) (vertex_of s' fs b (cells b)))

    pub keeps_same : (k q : ℕ) (cells : ℕ → ℕ) → keeps s fs rs ps k q cells ≡ keeps s' fs rs ps k q cells
    unfolding keeps link_kept
    keeps_same k q cells = ap₂ ◌&&◌
        (all_same k (in_lists s fs cells) (in_lists s' fs cells) (λ l h. listed_same cells l))
        (all_same k (link_kept s fs rs ps k q cells) (link_kept s' fs rs ps k q cells) (λ a h.
        all_same k (λ b. leb b a || pair_kept s fs rs ps q cells a b) (λ b. leb b a || pair_kept s' fs rs ps q cells a b)
        (λ b i. ap (λ x. leb b a || x) (kept_same q cells a b))))

  -- the rows' own tests
  pub freqs_same : (p : List ℕ) (k : ℕ) → freqs_ok s p k ≡ freqs_ok s' p k
  unfolding freqs_ok link_freqs_ok
  freqs_same p k = all_same k (link_freqs_ok s p) (link_freqs_ok s' p)
      (λ l h. ap₂ (λ (f c : ℕ → ℕ). all (c l) (freq_ok p (f l))) S.firsts S.counts)

  pub pairs_same : (rs ps : List ℕ) (q : ℕ) → pairs_ok s rs ps q ≡ pairs_ok s' rs ps q
  unfolding pairs_ok rule_pairs_ok
  pairs_same rs ps q = all_same q (rule_pairs_ok s rs ps) (rule_pairs_ok s' rs ps)
      (λ j h. ap (λ (c : ℕ → ℕ). all (listed rs j) (pair_ok ps (rule_value rs j) (c (rule_a rs j)) (c (rule_b rs j))))
      S.counts)
