-- `work_words::cut_masks` meets its contract.
use Rattle.work_words.proofs.Cutting.{masks_cut}
use Rattle.work_words.proofs.cut_masks.Goals as goal

pub returns : goal.returns
returns c =
    masks_cut c.requires.laid c.put_unstruck.ensures
    c.cut_rows.ensures
