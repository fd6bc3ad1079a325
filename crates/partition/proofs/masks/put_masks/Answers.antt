use Rattle.partition.proofs.Members.{masks_none, masks_more}
use Rattle.partition.proofs.masks.put_masks.Goals as goal

pub loop-v-init : goal.loop-v-init
loop-v-init c =
    masks_none c.args.cls.now c.clear.ensures

pub loop-v-preserved : goal.loop-v-preserved
loop-v-preserved c =
    masks_more c.args.cls.now c.loop-v.invariant (rw c.from.ensures at c.add_member.ensures)
