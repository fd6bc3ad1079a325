-- `sheet::header::link_count_ok` meets its contract.
use Rattle.sheet.specs.Refusal.{link_count_ok}
use Rattle.sheet.proofs.header.link_count_ok.Goals as goal

pub returns : goal.returns
unfolding link_count_ok
returns c =
    rw (← c.links_of-k.ensures.0, ← c.form_of-form.ensures)
