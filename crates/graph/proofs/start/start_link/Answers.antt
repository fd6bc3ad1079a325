-- `graph::start::start_link` meets its contract. The first row of the link is written, and then the others.
use Rattle.std.proofs.Common.{rules, ◌≡◌, ℕ, ◌+◌, ◌≤◌, ◌<◌, List, arith}
use Rattle.sheet_rows.specs.Rows.{link_first, link_count}
use Rattle.pair_test.specs.Parts.{LinkRows}
use Rattle.sheet.proofs.Links.{link_in, link_some}
use Rattle.rule_strikes.proofs.Strikes.{fit_same}
use Rattle.graph.proofs.Rows.{row_last, link_written}
use Rattle.graph.proofs.start.start_link.Goals as goal

-- the link has vertices, and they are among the n
record Inside (sheet : List ℕ) (l n f g : ℕ) : Type 0 where
  first : f ≡ link_first sheet l
  count : g ≡ link_count sheet l
  some : 0 < g
  within : f + g ≤ n

inside : {sheet : List ℕ} {k n l f g : ℕ} → LinkRows sheet k n → l < k → f ≡ link_first sheet l → g ≡ link_count sheet l
    → Inside sheet l n f g
inside {sheet} {k} {n} {l} L b e h = record {
  first = e;
  count = h;
  some = omega (arith, link_some sheet k n L.links l b);
  within = omega (arith, link_in sheet k n L.links l b);
}

pub row_at-row-requires : goal.row_at-row-requires
row_at-row-requires c =
    let i = inside c.requires.0 c.requires.2 c.link_first-first.ensures.0 c.link_count.ensures.0 in (omega (arith, i.some, i.within), search rules)

pub start_row-requires : goal.start_row-requires
start_row-requires c =
    let i = inside c.requires.0 c.requires.2 c.link_first-first.ensures.0 c.link_count.ensures.0 in
    let F = c.requires.1 in
    let B = c.requires.3 in
    let r = c.row_at-row.ensures in
    let q = row_last c.link_first-first.result c.args.place.n c.args.place.w
    (omega (arith, i.some, i.within)) in
    (omega arith, record { fits = omega arith; clear = λ h. omega arith }, omega arith, omega (arith, i.within))

pub repeat_row-requires : goal.repeat_row-requires
repeat_row-requires c =
    let i = inside c.requires.0 c.requires.2 c.link_first-first.ensures.0 c.link_count.ensures.0 in (
      fit_same c.requires.1
          c.start_row.ensures.rest,
      omega (arith, i.some),
      i.within,
    )

pub returns : goal.returns
returns c =
    let i = inside c.requires.0 c.requires.2 c.link_first-first.ensures.0 c.link_count.ensures.0 in
    link_written c.requires.0 c.args.full c.args.l _ c.requires.2
    (rw i.first at c.row_at-row.ensures.here)
    c.requires.4
    (rw (i.first, i.count) at c.start_row.ensures)
    (rw (i.first, i.count) at c.repeat_row.ensures)
