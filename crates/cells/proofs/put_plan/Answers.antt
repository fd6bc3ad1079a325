-- `cells::put_plan` meets its contract: each link has a class, and its cell gets the frequency of that class's vertex.
use Rattle.std.proofs.Common.{◌≡◌, ◌<◌, ◌++◌, Some, ℕ, List, drop, sym, ap, ◌∙◌, arith}
use Rattle.sets.specs.Below.{first, tabulate}
use Rattle.sets.proofs.Lists.{tab_none, tab_more}
use Rattle.sheet_rows.specs.Rows.{freq}
use Rattle.sheet.specs.Sheet.{k_of, freq_part}
use Rattle.zeros.specs.Zeros.{zeros}
use Rattle.cells.specs.Cells.{chosen_by, plan_cells, Chosen}
use Rattle.cells.proofs.Links.{is_here, class_lt, cell_in, cell_past, cells_done}
use Rattle.cells.proofs.put_plan.Invariants.{cell_is}
use Rattle.cells.proofs.put_plan.Goals as goal
use Rattle.cells.proofs.put_plan.Goals.{in-Some, in_default}

-- the class found for link l
class_found : {s chosen : List ℕ} {k l c : ℕ} → Chosen s chosen → k ≡ k_of s → l < k
    → Some c ≡ Some (first (k_of s) (is_here s chosen l)) → (c ≡ first (k_of s) (is_here s chosen l)) × (c < k_of s)
class_found {s} {chosen} {k} {l} {c} C e h q =
    let f : c ≡ first (k_of s) (is_here s chosen l) = cc in
    (f, omega (arith, class_lt C l (omega arith)))

pub loop-l-init : goal.loop-l-init
loop-l-init c =
    tab_none _ _

pub offset_bounds-chosen-c : goal.offset_bounds-chosen-c
offset_bounds-chosen-c c =
    let q = class_found c.requires.0 c.links_of-k.ensures.0 c.loop-l-test.true c.in-Some.ensures in
    omega (arith, q.1, c.requires.0.listed)

pub bounds-chosen-c : goal.bounds-chosen-c
bounds-chosen-c c =
    let q = class_found c.requires.0 c.links_of-k.ensures.0 c.loop-l-test.true c.in-Some.ensures in
    omega (arith, q.1, c.requires.0.listed)

pub khz-requires : goal.khz-requires
khz-requires c =
    let q = class_found c.requires.0 c.links_of-k.ensures.0 c.loop-l-test.true c.in-Some.ensures in
    (c.requires.0.accepted, c.requires.0.lt _ q.1)

pub loop-l-preserved : goal.loop-l-preserved
loop-l-preserved c =
    let a = c.args in
    let v = c.loop-l in
    let e = c.links_of-k.ensures.0 in
    elim c.match-class_in_link.branch [
      | in-Some w ↦
          let q = class_found c.requires.0 c.links_of-k.ensures.0 c.loop-l-test.true w.in-Some.ensures in
          rw w.cells-is (tab_more a.cells.now v.cells (cell_is a.sheet.now a.chosen.now) v.l
          w.khz.result (omega (arith, c.requires.1)) v.invariant
          (w.khz.ensures ∙ ap (freq (freq_part a.sheet.now)) (ap (chosen_by a.chosen.now) q.0)
          ∙ sym (cell_in a.sheet.now (chosen_by a.chosen.now) v.l (omega arith))))
      | in_default w ↦ absurd (w.in_default.not-Some _ c.class_in_link.ensures)
    ]

pub returns : goal.returns
unfolding plan_cells zeros
returns c =
    let a = c.args in
    let v = c.loop-l in
    let k = k_of a.sheet.now in
    let f = cell_is a.sheet.now a.chosen.now in
    let q = c.links_of-k.ensures.0 in
    let e : v.l ≡ k = omega arith in
    v.invariant ∙ ap (λ i. tabulate i f ++ drop i a.cells.now) e
    ∙ ap (λ x. tabulate k f ++ drop k x) c.requires.2
    ∙ cells_done k _ f c.requires.1 (cell_past a.sheet.now (chosen_by a.chosen.now))
