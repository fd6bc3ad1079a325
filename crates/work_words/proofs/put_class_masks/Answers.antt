-- `work_words::put_class_masks` meets its contract, by the list that `class_list` hands on.
use Rattle.std.proofs.Common.{arith}
use Rattle.work_words.proofs.Lists.{list_long}
use Rattle.work_words.proofs.put_class_masks.Goals as goal

pub put_masks-requires : goal.put_masks-requires
put_masks-requires c =
    let p = c.requires in
    (rw c.class_list-list.ensures (list_long _ _ _ _ (λ two. omega (arith, p.0 two, p.1)) p.1), p.2, p.3)
