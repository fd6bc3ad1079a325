-- `rules::plans::vertex` meets its contract.
use Rattle.std.proofs.Common.{◌≡◌, arith}
use Rattle.sheet_rows.specs.Rows.{link_count, link_first}
use Rattle.sheet.specs.Sheet.{freq_part}
use Rattle.rules.specs.Plans.{place_of, vertex_of}
use Rattle.pair_test.proofs.Laws.{freqs_there, link_there}
use Rattle.rules.proofs.Laws.{has_freq_lt}
use Rattle.rules.proofs.plans.vertex.Goals as goal

pub link_first-from-requires : goal.link_first-from-requires
link_first-from-requires c =
    let h = c.requires in link_there h.0 h.1

pub link_count-requires : goal.link_count-requires
link_count-requires c =
    let h = c.requires in link_there h.0 h.1

pub place-requires : goal.place-requires
place-requires c =
    let h = c.requires in
    rw (
      c.link_first-from.ensures.0,
      c.link_count.ensures.0,
      c.freq_part.ensures,
    )
    (freqs_there h.0 h.1)

pub overflow_add-result : goal.overflow_add-result
overflow_add-result c =
    let placed : let a = c.args in
    let s = a.s.now in c.place.result ≡ place_of (freq_part s) (link_first s a.l) (link_count s a.l) a.x =
    rw (
      ← c.freq_part.ensures,
      ← c.link_first-from.ensures.0,
      ← c.link_count.ensures.0,
    )
    c.place.ensures in
    let a = c.args in
    let s = a.s.now in
    let fs = freq_part s in
    let e : c.place.result ≡ place_of fs (link_first s a.l) (link_count s a.l) a.x = placed in
    let m : c.link_count.result ≡ link_count s a.l = c.link_count.ensures.0 in
    omega (arith, has_freq_lt s fs a.l a.x c.requires.2)

pub returns : goal.returns
unfolding vertex_of
returns c =
    let placed : let a = c.args in
    let s = a.s.now in c.place.result ≡ place_of (freq_part s) (link_first s a.l) (link_count s a.l) a.x =
    rw (
      ← c.freq_part.ensures,
      ← c.link_first-from.ensures.0,
      ← c.link_count.ensures.0,
    )
    c.place.ensures in
    rw (
      ← placed,
      ← c.link_first-from.ensures.0,
    )
