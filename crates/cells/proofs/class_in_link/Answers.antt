-- `cells::class_in_link` meets its contract: the classes are gone through until one has its vertex in the link.
use Rattle.std.proofs.Common.{◌≡◌, ℕ, ◌<◌, ◌≤◌, List, length, take, get_or, get_or-take, length-take-le, sym, ap, ◌∙◌, arith, eqb}
use Rattle.sets.proofs.Below.{any_none, any_goes_on, first_found}
use Rattle.sheet.specs.Sheet.{k_of}
use Rattle.rules.specs.Job.{job_of}
use Rattle.graph.specs.Graph.{link_of}
use Rattle.cells.proofs.Links.{is_here}
use Rattle.cells.proofs.class_in_link.Goals as goal

-- a number of the first k of a list
at_first : {k c : ℕ} (list : List ℕ) → k ≤ length list → c < length (take k list)
    → (c < k) × (get_or (take k list) c 0 ≡ get_or list c 0)
at_first {k} {c} list long h =
    let b : c < k = omega (arith, length-take-le k list long) in
    (b, get_or-take k list c 0 b)

pub loop-c-init : goal.loop-c-init
loop-c-init c =
    any_none _

pub in_link-requires : goal.in_link-requires
in_link-requires c =
    let p = c.requires in
    let e = c.links_of-k.ensures.0 in
    let x = at_first c.args.chosen.now (omega (arith, p.0.listed)) c.loop-c-test.true in
    (p.0.accepted, omega (arith, p.1, x.0), rw x.1 (p.0.lt c.loop-c.c (omega (arith, x.0))))

pub returns-then-in_link : goal.returns-then-in_link
returns-then-in_link c =
    let a = c.args in
    let p = c.requires in
    let e = c.links_of-k.ensures.0 in
    let x = at_first a.chosen.now (omega (arith, p.0.listed)) c.loop-c-test.true in
    let f = first_found (k_of a.sheet.now) c.loop-c.c (is_here a.sheet.now a.chosen.now a.l) (omega (arith, x.0))
    c.loop-c.invariant
    (ap (λ v. eqb (link_of (job_of a.sheet.now) v) a.l) (sym x.1) ∙ sym c.in_link.ensures ∙ c.if-in_link.true) in
    cc

pub loop-c-preserved : goal.loop-c-preserved
loop-c-preserved c =
    let a = c.args in
    let p = c.requires in
    let e = c.links_of-k.ensures.0 in
    let x = at_first a.chosen.now (omega (arith, p.0.listed)) c.loop-c-test.true in
    any_goes_on c.loop-c.c (is_here a.sheet.now a.chosen.now a.l) c.in_link.result c.loop-c.invariant
    (c.in_link.ensures ∙ ap (λ v. eqb (link_of (job_of a.sheet.now) v) a.l) x.1) c.if-in_link.false
