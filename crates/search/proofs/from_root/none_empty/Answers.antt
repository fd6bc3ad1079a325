-- `search::from_root::none_empty` meets its contract.
use Rattle.std.proofs.Common.{Bool, ◌&&◌, sym, ap, ◌∙◌}
use Rattle.cliques.specs.Graph.{is_open, layered}
use Rattle.cliques.specs.Words.{own_row}
use Rattle.search.proofs.from_root.none_empty.Goals as goal

pub returns-then-is_open : goal.returns-then-is_open
returns-then-is_open c =
    let L = own_row c.args.place c.args.part.now in
    record {
      answer = λ G lay N M. c.is_open-then-is_open.ensures G N ∙ sym (ap (λ (b : Bool). b && is_open G 0 L)
          (sym (c.is_open.ensures (layered G lay) M) ∙ c.if-is_open.true));
    }

pub returns-else-is_open : goal.returns-else-is_open
returns-else-is_open c =
    let L = own_row c.args.place c.args.part.now in
    record {
      answer = λ G lay N M. c.if-is_open.false ∙ sym (ap (λ (b : Bool). b && is_open G 0 L)
          (sym (c.is_open.ensures (layered G lay) M) ∙ c.if-is_open.false));
    }
