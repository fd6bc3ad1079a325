-- The masks, cut to the root row.
use Rattle.std.proofs.Common.{◌≡◌, refl, sym, ap, ◌∙◌, Bool, List, ℕ, ◌+◌, ◌*◌, ◌≤◌, ◌<◌, arith}
use Rattle.sets.specs.Sets.{Set, ◌∩◌}
use Rattle.rows.specs.Rows.{set_at, row_at, Put}
use Rattle.rows.proofs.Rows.{above, below}
use Rattle.sheet.specs.Sheet.{n_of}
use Rattle.rules.specs.Job.{Job, unstruck}
use Rattle.cliques.specs.declared.Place.{Place}
use Rattle.graph.specs.Rows.{Built}
use Rattle.rule_strikes.specs.Strikes.{Rewritten}
use Rattle.strikes.specs.Struck.{StrikesAsked}
use Rattle.work_words.specs.Layout.{LaidOut}
use Rattle.work_words.specs.Filled.{Placed, MasksCut}

module _ {job : Job} {place : Place} {layers len list : ℕ} (P : Placed job place layers len list) where
  open place use {w, graph, n}

  -- the root row has room, and stands in front of the graph's rows
  pub root_fits : {len' : ℕ} → len' ≡ len → (w ≤ len') × (n_of job.sheet ≤ 64 * w)
  root_fits e =
      let o = P.laid in
      (omega (arith, o.front, o.after_masks, o.after_layers, o.after_graph), omega (arith, P.freqs, o.wide))

  -- in words whose number has stayed
  pub placed_again : {len' : ℕ} → len' ≡ len → Placed job place layers len' n
  placed_again e = record {
    accepted = P.accepted;
    channels = P.channels;
    freqs = P.freqs;
    links = P.links;
    laid = rw e P.laid;
    room = refl;
  }

  root_first : w ≤ graph
  root_first = omega (arith, P.laid.front, P.laid.after_masks, P.laid.after_layers)

  pub may_strike : {len' : ℕ} → len' ≡ len → StrikesAsked job.sheet job.channels place len'
  may_strike e = record {
    accepted = P.accepted;
    list = P.channels;
    freqs = P.freqs;
    fit = record { wide = P.laid.wide; small = P.laid.small; inside = omega (arith, P.laid.after_graph) };
    after = root_first;
  }

  -- the rows of the graph stay where the root row is written
  pub rows_stay : {S : Set} {adj : ℕ → ℕ → Bool} {p p₁ p₂ : List ℕ} → Built adj w graph n p p₁ → Put S w 0 p₁ p₂
      → (u : ℕ) → u < n → row_at p₂ w graph u ≡ adj u
  rows_stay B T u l = above T.rest w (graph + u * w) (omega (arith, root_first)) ∙ B.rows u l

-- the root row stands in front of the masks; the masks of the classes, those of the layers and the rows of the graph
-- stand one after the other
pub masks_cut : {job : Job} {place : Place} {layers len : ℕ} {p p₁ p₂ : List ℕ} → LaidOut place layers len
    → Put (unstruck job) place.w 0 p p₁
    → Rewritten (λ (c : ℕ) (S : Set). S ∩ set_at p₁ place.w 0) 0 (place.k + place.k) place.w place.masks
    (place.k + place.k) p₁ p₂
    → MasksCut job place layers p p₂
masks_cut {job} {place} {layers} {p = p} {p₁} {p₂} O T R = record {
  root = below R.rest w 0 (omega (arith, O.front)) ∙ T.here;
  classes = λ c l. cut c (omega arith) ∙ ap (λ (X : Set). X ∩ unstruck job)
      (above T.rest w (place.masks + c * w) (omega arith));
  layers_cut = λ c l. ap (λ i. set_at p₂ w i) (layer_at c) ∙ cut (place.k + c) (omega arith)
      ∙ ap (λ (X : Set). X ∩ unstruck job)
      (above T.rest w (place.masks + (place.k + c) * w) (omega arith) ∙ ap (λ i. set_at p w i) (sym (layer_at c)));
  rows = λ u l.
      above R.rest w (place.graph + u * w) (behind u) ∙ above T.rest w (place.graph + u * w) (omega arith);
  len = R.rest.len ∙ T.rest.len;
}
  where
    w : ℕ
    w = place.w

    cut : (c : ℕ) → c < place.k + place.k → row_at p₂ w place.masks c ≡ row_at p₁ w place.masks c ∩ unstruck job
    cut c l = R.rows c (omega arith) l ∙ ap (λ (X : Set). row_at p₁ w place.masks c ∩ X) T.here

    layer_at : (c : ℕ) → layers + c * w ≡ place.masks + (place.k + c) * w
    layer_at c = omega (arith, O.after_masks)

    behind : (u : ℕ) → place.masks + (place.k + place.k) * w ≤ place.graph + u * w
    behind u = omega (arith, O.after_masks, O.after_layers)
