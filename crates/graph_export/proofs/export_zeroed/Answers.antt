-- `graph_export::export_zeroed` meets its contract, cause by cause.
use Rattle.std.proofs.Common.{refl, sym, ap, ◌∙◌}
use Rattle.std.proofs.lemmas.Result.{err_from_is_err_and}
use Rattle.sheet.specs.Refusal.{number_of}
use Rattle.sheet.proofs.Accepted.{accepted}
use Rattle.graph_export.proofs.Outcomes.{sheet_gives, texts_give}
use Rattle.graph_export.proofs.export_zeroed.Goals as goal

pub returns-in_err-check_sheet : goal.returns-in_err-check_sheet
returns-in_err-check_sheet c =
    let P = c.requires in
    let p = err_from_is_err_and c.from_residual.result c.from_residual.ensures.1 in
    rw (p.1, p.2) (sheet_gives _ _ _ c.check_sheet.ensures c.in_err-check_sheet.was P.0 P.1)

pub put_texts-lengths-requires : goal.put_texts-lengths-requires
put_texts-lengths-requires c =
    accepted _ (sym c.check_sheet.ensures ∙ ap number_of c.in_ok-check_sheet.was)

pub returns : goal.returns
returns c =
    let P = c.requires in
    texts_give _ _ _ (sym c.check_sheet.ensures ∙ ap number_of c.in_ok-check_sheet.was) refl refl P.0 P.1
    c.put_texts-lengths.ensures c.finish.ensures
