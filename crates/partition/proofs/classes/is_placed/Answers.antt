-- `partition::classes::is_placed` meets its contract: `all` has looked at the first n classes.
use Rattle.std.proofs.Common.{◌↔◌, ◌<◌, IsTrue, EachIndex, slice_index, rules, take, ltb, lt-ltb, ltb-true, get_or-take, length-take-le, arith}
use Rattle.sets.proofs.Tests.{iff}
use Rattle.sets.proofs.Below.{all_in, all_out}
use Rattle.partition.specs.Partition.{class_of}
use Rattle.partition.proofs.classes.is_placed.Goals as goal

pub returns : goal.returns
returns c =
    let a = c.args in
    let d : IsTrue c.all.result ↔ EachIndex (take a.n a.cls.now) (λ v. slice_index (take a.n a.cls.now) v < a.k) = search rules in
    let e = length-take-le a.n a.cls.now c.requires in
    iff _ _
    (λ t. all_in a.n _ (λ v l. lt-ltb _ _ (rw (get_or-take a.n a.cls.now v 0 l) at (d.0 t v (omega arith)))))
    (λ t. d.1 (λ v l. let m : v < a.n = omega arith in
    rw (get_or-take a.n a.cls.now v 0 m) (ltb-true _ _ (all_out a.n (λ v. ltb (class_of a.cls.now v) a.k) t v m))))
