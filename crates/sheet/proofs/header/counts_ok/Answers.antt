-- `sheet::header::counts_ok` meets its contract.
use Rattle.sheet.specs.Refusal.{counts_ok}
use Rattle.sheet.proofs.header.counts_ok.Goals as goal

pub returns : goal.returns
unfolding counts_ok
returns c =
    cc
