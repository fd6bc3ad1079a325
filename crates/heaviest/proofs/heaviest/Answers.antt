-- `heaviest::heaviest` meets its contract, cause by cause.
use Rattle.heaviest.proofs.Outcomes.{sizes_gives, short_gives, sizes_fit, sheet_gives}
use Rattle.heaviest.proofs.heaviest.Goals as goal

pub returns-then-not-sizes_ok : goal.returns-then-not-sizes_ok
returns-then-not-sizes_ok c =
    sizes_gives _ _ _ c.zero.ensures c.sizes_ok.ensures c.if-not-sizes_ok.true

pub returns-then-buffer-lt65536 : goal.returns-then-buffer-lt65536
returns-then-buffer-lt65536 c =
    short_gives _ _ _ c.zero.ensures c.sizes_ok.ensures c.if-buffer-lt65536.true

pub put_heaviest-requires : goal.put_heaviest-requires
put_heaviest-requires c =
    sizes_fit _ _ _ c.zero.ensures c.sizes_ok.ensures c.if-not-sizes_ok.false

pub returns : goal.returns
returns c =
    sheet_gives _ _ _ c.zero.ensures c.sizes_ok.ensures c.if-not-sizes_ok.false c.if-buffer-lt65536.false
    c.put_heaviest.ensures
