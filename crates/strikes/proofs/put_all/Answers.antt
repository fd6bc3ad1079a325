-- `strikes::put_all` meets its contract: the stretch from 0 up to n is put into an empty row.
use Rattle.rule_strikes.proofs.Spans.{put_as, stretch_whole}
use Rattle.rule_strikes.proofs.Strikes.{stretch_put}
use Rattle.strikes.proofs.put_all.Goals as goal

pub returns : goal.returns
returns c =
    put_as (stretch_whole _) (stretch_put _ _ c.clear.ensures c.add_span.ensures)
