-- `heaviest::sizes_ok` meets its contract.
use Rattle.std.proofs.Common.{arith, rules, mul-le-mul}
use Rattle.heaviest.proofs.Outcomes.{sizes_not, sizes_are}
use Rattle.heaviest.proofs.sizes_ok.Goals as goal

pub overflow_mul-result : goal.overflow_mul-result
overflow_mul-result c =
    omega (arith, mul-le-mul c.if-k-le64.true.2 c.requires)

pub returns-then-k-le64 : goal.returns-then-k-le64
returns-then-k-le64 c =
    let h = c.if-k-le64.true in sizes_are _ _ h.0 h.1 h.2

pub returns-else-k-le64 : goal.returns-else-k-le64
returns-else-k-le64 c =
    sizes_not _ _ (search rules) c.if-k-le64.either
