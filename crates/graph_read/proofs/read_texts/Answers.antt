-- `graph_read::read_texts` meets its contract.
use Rattle.std.proofs.Common.{rules}
use Rattle.graph_read.proofs.Texts.{counts_none, counts_zero, counts_links, counts_over}
use Rattle.graph_read.proofs.read_texts.Goals as goal

pub returns-in_default : goal.returns-in_default
returns-in_default c =
    let s = c.args in
    counts_none s.text.now s.sizes.now _ s.codes.now c.in_default.is c.read_counts.ensures

pub returns-then-k-eq0 : goal.returns-then-k-eq0
returns-then-k-eq0 c =
    let s = c.args in
    counts_zero s.text.now s.sizes.now _ s.codes.now c.in-Some.is c.read_counts.ensures
    c.if-k-eq0.true

pub read_over-requires : goal.read_over-requires
read_over-requires c =
    let s = c.args in
    let ne = c.if-k-eq0.false in (
      counts_links s.text.now s.sizes.now _ s.codes.now c.in-Some.is c.read_counts.ensures ne,
      search rules,
    )

pub returns : goal.returns
returns c =
    let s = c.args in
    counts_over s.text.now s.sizes.now _ _ c.in-Some.is c.read_counts.ensures _ c.if-k-eq0.false
    c.read_over.ensures
