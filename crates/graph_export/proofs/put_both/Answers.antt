-- `graph_export::put_both` meets its contract: the rows are built, and both texts put.
use borrow.Author.Rules.{rules}
use native.Mathlib.Omega.{arith}
use Rattle.graph_export.proofs.Outcomes.{both_put}
use Rattle.graph_export.proofs.put_both.Goals as goal

pub freqs_of-n-requires : goal.freqs_of-n-requires
freqs_of-n-requires c =
    c.requires.0.head.long

pub links_of-k-requires : goal.links_of-k-requires
links_of-k-requires c =
    c.requires.0.head.long

pub build_graph-requires : goal.build_graph-requires
build_graph-requires c =
    let A = c.requires.0 in
    let n = c.freqs_of-n.ensures.0 in
    record {
      accepted = A;
      freqs = n;
      links = c.links_of-k.ensures.0;
      fit = record {
        wide = omega (arith, A.head.n_small);
        small = search rules;
        inside =
            omega (arith, n, A.head.n_small, c.requires.1);
      };
    }

pub put_graph-g-requires : goal.put_graph-g-requires
put_graph-g-requires c =
    let h = c.requires.0.head in
    let n = c.freqs_of-n.ensures.0 in
    let l = c.build_graph.ensures.rest.len in
    record {
      some = omega (arith, n, h.n_some);
      few = omega (arith, n, h.n_small);
      inside =
          omega (arith, n, h.n_small, l, c.requires.1);
    }

pub put_counts-c-requires : goal.put_counts-c-requires
put_counts-c-requires c =
    let h = c.requires.0.head in
    let k = c.links_of-k.ensures.0 in
    (rw k (omega (arith, h.whole)), omega (arith, k, h.k_small))

pub returns : goal.returns
returns c =
    both_put _ c.freqs_of-n.ensures.0 c.links_of-k.ensures.0
    c.build_graph.ensures c.put_graph-g.ensures
    c.put_counts-c.ensures.0 c.put_counts-c.ensures.1
