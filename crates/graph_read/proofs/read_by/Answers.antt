-- `graph_read::read_by` meets its contract: the table is filled and the codes are cleared before.
use borrow.Author.Rules.{rules}
use native.Mathlib.Omega.{arith}
use mathlib.Core.Path.{◌∙◌}
use Rattle.graph_read.proofs.Firsts.{all_first, layers_told}
use Rattle.graph_read.proofs.Texts.{cleared}
use Rattle.graph_read.proofs.read_by.Goals as goal

pub read_graph-e-requires : goal.read_graph-e-requires
read_graph-e-requires c = (
  record { few = omega (arith, c.first_of-n.ensures, c.requires.0.few); places = search rules; room = search rules },
  cleared (search rules) c.clear.ensures,
)

pub returns : goal.returns
returns c =
    let n = c.first_of-n.ensures in
    let room = c.requires.0.room in
    c.texts_of.ensures.answer _ _ _ c.requires.0 (n ∙ all_first _ _ room)
    (c.read_graph-e.ensures _ (layers_told _ _ _ _ room n c.requires.1 c.fill_layers.ensures))
