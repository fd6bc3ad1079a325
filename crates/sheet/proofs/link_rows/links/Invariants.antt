-- The loop's invariant: the rows so far are right, and `sum` is the sum of their counts. A row that `link_row`
-- hands on is right.
use Rattle.std.proofs.Common.{◌*◌, ◌≤◌, ◌≡◌, true}
use Rattle.sets.specs.Below.{all, sum_to}
use Rattle.sheet_rows.specs.Rows.{row_count}
use Rattle.sheet.specs.Sheet.{link_ok}
use Rattle.sheet.proofs.link_rows.links.Given as goal

abbrev pub invariant-loop-l : goal.invariant-loop-l
invariant-loop-l l =
    record {
      right : all l.l (link_ok l.bytes l.p) ≡ true;
      summed : l.sum ≡ sum_to l.l (row_count l.bytes l.p);
      small : l.sum ≤ 65535 * l.l;
    }
