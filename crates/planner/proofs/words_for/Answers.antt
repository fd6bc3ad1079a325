-- `planner::words_for` meets its contract.
use Rattle.planner.proofs.words_for.Goals as goal

pub returns : goal.returns
returns c =
    rw c.form_of-form.ensures
