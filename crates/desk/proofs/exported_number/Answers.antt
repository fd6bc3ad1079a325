-- `desk::exported_number` meets its contract: the sum fits, since no cause is above 16.
use Rattle.std.proofs.Common.{ap, arith}
use Rattle.graph_export.specs.declared.Lengths.{Lengths}
use Rattle.desk.proofs.Numbers.{export_few}
use Rattle.desk.proofs.exported_number.Goals as goal

pub overflow_mul-result-2 : goal.overflow_mul-result-2
overflow_mul-result-2 c =
    omega (arith, c.from-cause.ensures, c.export_number.ensures, export_few c.args.answer)

pub overflow_add-result-2 : goal.overflow_add-result-2
overflow_add-result-2 c =
    let g = ap (λ (l : Lengths). l.graph) c.unwrap_or-lengths.ensures in
    let n = ap (λ (l : Lengths). l.counts) c.unwrap_or-lengths.ensures in
    omega (arith, g, n, c.requires.0, c.requires.1, c.from-cause.ensures, c.export_number.ensures, export_few c.args.answer)
