-- Link rows have at most 8 bytes.
use Rattle.std.proofs.Common.{rules, ◌*◌, ◌≤◌, arith}
use Rattle.sheet_rows.proofs.Rows.{rows_small}
use Rattle.sheet.proofs.places.freqs_at.Goals as goal

pub overflow_mul-result : goal.overflow_mul-result
overflow_mul-result c =
    let few : c.link_bytes.result * c.links_of.result ≤ 8 * c.links_of.result =
    rows_small c.link_bytes.result c.links_of.result c.link_bytes.ensures.2 in
    let f = few in search rules

pub overflow_add-result : goal.overflow_add-result
overflow_add-result c =
    let few : c.link_bytes.result * c.links_of.result ≤ 8 * c.links_of.result =
    rows_small c.link_bytes.result c.links_of.result c.link_bytes.ensures.2 in
    let f = few in search rules

pub returns : goal.returns
returns c =
    let few : c.link_bytes.result * c.links_of.result ≤ 8 * c.links_of.result =
    rows_small c.link_bytes.result c.links_of.result c.link_bytes.ensures.2 in
    (rw (c.link_bytes.ensures.0, c.links_of.ensures.0), omega (arith, few, c.links_of.ensures.1))
