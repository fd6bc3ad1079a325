-- `graph_sheet::sections::put_sheet` meets its contract: the sections are put one after another.
use mathlib.Core.List.{[]}
use native.Mathlib.Omega.{arith}
use mathlib.Core.Path.{◌∙◌}
use lib.ListN.{length}
use Rattle.dimacs.proofs.Fields.{header_length}
use Rattle.graph_read.proofs.Firsts.{all_first}
use Rattle.graph_sheet.specs.Pairs.{GraphLaid, counts_in, adjacent_in}
use Rattle.graph_sheet.specs.Marks.{FewPairs}
use Rattle.graph_sheet.proofs.Pairing.{links_are}
use Rattle.graph_sheet.proofs.Marking.{marked_links}
use Rattle.graph_sheet.proofs.Writing.{sheet_put}
use Rattle.std.proofs.Common.{rules}
use Rattle.output.specs.Puts.{Puts}
use Rattle.dimacs.specs.Made.{sheet_of}
use Rattle.graph_sheet.proofs.sections.put_sheet.Goals as goal

pub overflow_cast-s : goal.overflow_cast-s
overflow_cast-s c =
    omega (arith, c.requires.0.links.links)

pub overflow_cast-s-2 : goal.overflow_cast-s-2
overflow_cast-s-2 c =
    omega (arith, c.requires.0.vertices, c.requires.0.links.few)

pub overflow_cast-t : goal.overflow_cast-t
overflow_cast-t c =
    omega (arith, c.requires.2.totals.rules_few)

pub overflow_cast-t-2 : goal.overflow_cast-t-2
overflow_cast-t-2 c =
    omega (arith, c.requires.3)

pub put_header-requires : goal.put_header-requires
put_header-requires c =
    (c.requires.0.links.links, omega (arith, c.requires.0.vertices, c.requires.0.links.few), c.requires.2.totals.rules_few, c.requires.3, c.new-sheet.ensures.start.1)

pub put_links-requires : goal.put_links-requires
put_links-requires c =
    (c.requires.0.links, omega (arith, c.put_header.ensures.wrote.end, header_length c.args.s.links c.args.s.vertices c.args.t.rules c.args.t.pairs []))

pub put_freqs-requires : goal.put_freqs-requires
put_freqs-requires c =
    (omega (arith, c.requires.0.vertices, c.requires.0.links.few), omega (arith, c.put_links.ensures.1, c.put_header.ensures.wrote.end, header_length c.args.s.links c.args.s.vertices c.args.t.rules c.args.t.pairs []))

pub put_rules-requires : goal.put_rules-requires
put_rules-requires c =
    let laid : GraphLaid c.args.counts.now c.args.firsts.now c.args.s (length c.args.codes.now) =
    record { graph = c.requires.0; starts = c.requires.1 } in
    let pairs : FewPairs (counts_in c.args.counts.now c.args.s) (adjacent_in c.args.codes.now c.args.s) c.args.s.links c.args.marks.now =
    record {
      links = links_are laid;
      links_few = c.requires.0.links.links;
      marked = c.requires.2.marked;
      pairs_few = omega (arith, c.requires.2.totals.pairs, c.requires.3);
    } in (
      record { cs = (counts_in c.args.counts.now c.args.s); adj = (adjacent_in c.args.codes.now c.args.s); are = pairs },
      omega (arith, c.put_freqs.ensures.1, c.put_links.ensures.1, c.put_header.ensures.wrote.end, header_length c.args.s.links c.args.s.vertices c.args.t.rules c.args.t.pairs []),
    )

pub put_pairs-requires : goal.put_pairs-requires
put_pairs-requires c =
    let laid : GraphLaid c.args.counts.now c.args.firsts.now c.args.s (length c.args.codes.now) =
    record { graph = c.requires.0; starts = c.requires.1 } in
    (laid, marked_links _ _ _ (links_are laid) c.requires.2.marked, c.put_rules.ensures.1)

pub returns : goal.returns
returns c =
    let laid : GraphLaid c.args.counts.now c.args.firsts.now c.args.s (length c.args.codes.now) =
    record { graph = c.requires.0; starts = c.requires.1 } in
    let pairs : FewPairs (counts_in c.args.counts.now c.args.s) (adjacent_in c.args.codes.now c.args.s) c.args.s.links c.args.marks.now =
    record {
      links = links_are laid;
      links_few = c.requires.0.links.links;
      marked = c.requires.2.marked;
      pairs_few = omega (arith, c.requires.2.totals.pairs, c.requires.3);
    } in
    let G = c.requires.0 in
    let n = G.vertices ∙ all_first _ _ G.links.room in
    let put : Puts (sheet_of (counts_in c.args.counts.now c.args.s) (adjacent_in c.args.codes.now c.args.s)) c.new-sheet.result c.put_pairs.new.out =
    sheet_put (counts_in c.args.counts.now c.args.s) (adjacent_in c.args.codes.now c.args.s) _ _ c.args.t (links_are laid) n c.requires.2.totals
    c.put_header.ensures
    c.put_links.ensures.0
    c.put_freqs.ensures.0
    (c.put_rules.ensures.0 (counts_in c.args.counts.now c.args.s) (adjacent_in c.args.codes.now c.args.s) pairs)
    c.put_pairs.ensures in
    let w = put.wrote in search rules
