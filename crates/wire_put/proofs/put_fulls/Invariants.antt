-- The first numbers are put.
use Rattle.std.proofs.Common.{◌≡◌, ◌+◌, ◌*◌, take}
use Rattle.output.specs.Puts.{Puts}
use Rattle.wire_put.specs.Puts.{fulls}
use Rattle.wire_put.proofs.put_fulls.Given as goal

abbrev pub invariant-loop-x : goal.invariant-loop-x
invariant-loop-x l =
    (l.out.end ≡ l.initial.out.end + 4 * l.x-index) × Puts (fulls (take l.x-index l.xs)) l.initial.out l.out
