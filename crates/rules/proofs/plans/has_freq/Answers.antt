-- `rules::plans::has_freq` meets its contract.
use Rattle.sheet.specs.Sheet.{freq_part}
use Rattle.pair_test.proofs.Laws.{freqs_there, link_there}
use Rattle.rules.proofs.Laws.{has_freq_is}
use Rattle.rules.proofs.plans.has_freq.Goals as goal

pub link_count-count-requires : goal.link_count-count-requires
link_count-count-requires c =
    let h = c.requires in link_there h.0 h.1

pub link_first-requires : goal.link_first-requires
link_first-requires c =
    let h = c.requires in link_there h.0 h.1

pub place-requires : goal.place-requires
place-requires c =
    let h = c.requires in
    rw (c.link_first.ensures.0, c.link_count-count.ensures.0, c.freq_part.ensures)
    (freqs_there h.0 h.1)

pub returns : goal.returns
returns c =
    let a = c.args in
    cc (has_freq_is a.s.now (freq_part a.s.now) a.l a.x)
