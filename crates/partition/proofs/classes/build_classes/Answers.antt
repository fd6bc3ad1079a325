-- `partition::classes::build_classes` meets its contract. The order is there when the classes are filled, and the
-- layers are kept beside it.
use Rattle.std.proofs.Common.{sym, ◌∙◌}
use Rattle.partition.proofs.Filling.{built_own, built_layers}
use Rattle.partition.proofs.classes.build_classes.Goals as goal

pub returns-then-is_placed : goal.returns-then-is_placed
returns-then-is_placed c =
    built_own c.requires.0 c.requires.1 c.put_degrees.ensures c.put_order-m.ensures c.keep_classes.ensures
    c.fill_classes.ensures
    (sym c.is_placed.ensures ∙ c.if-is_placed.true)

pub returns : goal.returns
returns c =
    built_layers c.requires.0 c.requires.1 c.put_degrees.ensures c.put_order-m.ensures
    c.keep_classes.ensures c.fill_classes.ensures
    (sym c.is_placed.ensures ∙ c.if-is_placed.false) c.put_back.ensures
