-- `graph_read::texts_of` meets its contract.
use Rattle.graph_read.proofs.Texts.{texts_none, texts_clash, texts_graph}
use Rattle.graph_read.proofs.texts_of.Goals as goal

pub returns-in_default : goal.returns-in_default
returns-in_default c =
    texts_none _ _ c.in_default.is

pub returns-then-lines : goal.returns-then-lines
returns-then-lines c =
    texts_clash _ _ _ c.in-Some.is c.if-lines.true

pub returns : goal.returns
returns c =
    texts_graph _ _ _ c.in-Some.is c.if-lines.false
