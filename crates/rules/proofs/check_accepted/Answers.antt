-- `rules::check_accepted` meets its contract.
use Rattle.std.proofs.Common.{◌∙◌, length, sym, arith, le-leb}
use borrow.Author.Tests.{lt-leb}
use Rattle.sheet.specs.Sheet.{k_of}
use Rattle.sheet.proofs.Accepted.{accepted}
use Rattle.rules.specs.Plans.{checked}
use Rattle.rules.proofs.check_accepted.Goals as goal

pub links_of-requires : goal.links_of-requires
links_of-requires c = (accepted _ c.requires).head.long

pub returns-then-cells-links_of : goal.returns-then-cells-links_of
unfolding checked
returns-then-cells-links_of c =
    rw (c.requires, lt-leb (k_of c.args.s.now) (length c.args.cells.now) (omega arith))

pub returns-then-not-is_channel_list : goal.returns-then-not-is_channel_list
unfolding checked
returns-then-not-is_channel_list c =
    rw (
      c.requires,
      le-leb (k_of c.args.s.now) (length c.args.cells.now) (omega arith),
      ← c.is_channel_list.ensures,
      c.if-not-is_channel_list.true,
    )

pub keeps_job-requires : goal.keeps_job-requires
keeps_job-requires c =
    (accepted _ c.requires, omega arith, sym c.is_channel_list.ensures ∙ c.if-not-is_channel_list.false)

pub returns : goal.returns
unfolding checked
returns c =
    rw (
      c.requires,
      le-leb (k_of c.args.s.now) (length c.args.cells.now) (omega arith),
      ← c.is_channel_list.ensures,
      c.if-not-is_channel_list.false,
      ← c.keeps_job.ensures,
    )
