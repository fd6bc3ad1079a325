-- `trial_tables::job::put_rest` gives the end of the last section.
use Rattle.trial_tables.specs.Fields.{sheet_length}
use Rattle.trial_tables.proofs.job.put_rest.Goals as goal

pub returns : goal.returns
unfolding sheet_length
returns c =
    cc
