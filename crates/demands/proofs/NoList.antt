-- Without a list of channels nothing is struck, and each link of an accepted sheet has a vertex.
use mathlib.Core.Path.{◌≡◌, refl, ap, fun_ext}
use mathlib.Core.Bool.{Bool, true, ◌&&◌}
use mathlib.Core.List.{List}
use Prim.Native.Nat.{ℕ, ◌<◌}
use native.Mathlib.Omega.{arith}
use borrow.Author.Tests.{lt-ltb}
use Rattle.sets.specs.Sets.{whole}
use Rattle.sets.proofs.Below.{all_in, all_none}
use Rattle.channels.specs.Channels.{channels_ok}
use Rattle.sheet_rows.specs.Rows.{link_first}
use Rattle.sheet.specs.Sheet.{k_of, n_of}
use Rattle.sheet.specs.Refusal.{refusal}
use Rattle.sheet.proofs.Accepted.{accepted}
use Rattle.sheet.proofs.Links.{link_some}
use Rattle.rules.specs.Job.{job_of, unstruck}
use Rattle.pair_test.specs.Layers.{InLink}
use Rattle.rules.specs.Plans.{clear, keeps_sheet, keeps_job}
use Rattle.pair_test.proofs.Laws.{layer_of_lem, in_link_lt}
use Rattle.cliques.specs.Graph.{is_open}
use Rattle.cliques.proofs.Graph.{open_in, some_in}
use Rattle.graph.specs.Graph.{layer, graph_of}
use Rattle.work_words.specs.Classes.{graph_in}
use Rattle.demands.specs.NoList.{NothingStruck}

module _ (s : List ℕ) (ok : refusal s ≡ 0) where
  -- the first vertex of a link
  first_in : (l : ℕ) → l < k_of s → InLink s l (link_first s l)
  first_in l h =
      let c = link_some s (k_of s) (n_of s) (accepted s ok).links l h in
      record { low = omega arith; high = omega arith }

  links_open : is_open (graph_of (job_of s) (layer (job_of s))) 0 (whole (n_of s)) ≡ true
  unfolding whole
  links_open = open_in (graph_of (job_of s) (layer (job_of s))) 0 (whole (n_of s)) (λ l a h.
      let links = (accepted s ok).links in
      let lt = in_link_lt s (k_of s) (n_of s) links l (link_first s l) h (first_in l h) in
      some_in (graph_of (job_of s) (layer (job_of s))) l (link_first s l) (whole (n_of s)) (record {
        lt = lt;
        live = lt-ltb (link_first s l) (n_of s) lt;
        cl = layer_of_lem s (k_of s) (n_of s) links l (link_first s l) h (first_in l h);
      }))

pub nothing_struck : NothingStruck
unfolding channels_ok unstruck whole keeps_job clear
nothing_struck = record {
  without = λ s. record {
    lent = all_none _;
    live = fun_ext (λ v. refl);
    edges = λ u v. refl;
    layers = λ v. refl;
    classes = λ x v. refl;
    keeps = λ f. ap (λ b. b && keeps_sheet s f) (all_in (k_of s) _ (λ l h. refl));
    links = λ ok x. ap (λ (b : Bool). b && is_open (graph_in (job_of s) x) 0 (whole (n_of s))) (links_open s ok);
  };
}
