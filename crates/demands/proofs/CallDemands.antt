-- The demands of the calls follow from those of the definitions, which the contracts equate with what is returned and
-- left.
use Rattle.std.proofs.Common.{◌≡◌, Bool, true, false, List, length, ℕ, ◌≤◌, Result, Ok, Err, refl, sym, ap, subst, ◌∙◌, arith}
use borrow.Author.Tests.{le-leb}
use Rattle.sheet.specs.Sheet.{k_of}
use Rattle.sheet.proofs.Causes.{cause_most, cause_some}
use Rattle.rules.specs.Job.{Job}
use Rattle.rules.specs.Plans.{cells_of, keeps_job, checked, check_number}
use Rattle.rules.specs.declared.CheckRefusal.{CheckRefusal}
use Rattle.rules.specs.declared.CheckRefusal.TheVariants.{Sheet, FewCells, Channels}
use Rattle.sets.proofs.Tests.{is_false}
use Rattle.graph.specs.Matches.{KeepsEveryRule, MayCheck}
use Rattle.graph.proofs.Matches.{demand2}
use Rattle.planner.specs.Outcome.{outcome}
use Rattle.planner.specs.Planned.{gave}
use Rattle.planner.proofs.Outcomes.{gave_outcome}
use Rattle.planner.proofs.Found.{found_accepted}
use Rattle.demands.specs.Demands.{Answered, Added}
use Rattle.demands.specs.CallDemands.{CallDemand1, CallDemand2, CallDemand3}
use Rattle.demands.proofs.Demands.{demand1, demand3}

pub call_demand1 : CallDemand1
call_demand1 = record {
  refused = λ job x c n.
      let e = sym (gave_outcome c.meets.gives) ∙ demand1.refused job x c.m c.w n in
      (ap (λ o. o.answer) e, ap (λ o. o.nodes) e, ap (λ o. o.cells) e);
  accepted = λ job x c e.
      subst (λ o. (100 ≤ o.answer) × (o.answer ≤ 102)) (gave_outcome c.meets.gives)
      (demand1.accepted job x c.m c.w e);
  words = λ job x c. c.meets.words;
}

-- no other answer has the number of yes, and none that of no
is_yes : (a : Result Bool CheckRefusal) → check_number a ≡ 100 → a ≡ Ok true
is_yes (Ok true) e = refl
is_yes (Ok false) e = absurd (omega arith)
is_yes (Err FewCells) e = absurd (omega arith)
is_yes (Err Channels) e = absurd (omega arith)
is_yes (Err (Sheet x)) e = absurd (omega (arith, cause_most x))

is_no : (a : Result Bool CheckRefusal) → check_number a ≡ 0 → a ≡ Ok false
is_no (Ok true) e = absurd (omega arith)
is_no (Ok false) e = refl
is_no (Err FewCells) e = absurd (omega arith)
is_no (Err Channels) e = absurd (omega arith)
is_no (Err (Sheet x)) e = absurd (omega (arith, cause_some x))

-- cells that are not refused and break a rule
checked_no : (job : Job) (cells : List ℕ) → MayCheck job cells → (KeepsEveryRule job (cells_of cells) → ⊥)
    → checked job cells ≡ 0
unfolding checked
checked_no job cells m n =
    rw (
      m.sheet,
      le-leb (k_of job.sheet) (length cells) m.enough,
      m.channels,
      is_false (keeps_job job (cells_of cells)) n,
    )
    refl

pub call_demand2 : CallDemand2
call_demand2 = record {
  handed = λ job x c e.
      let o = gave_outcome c.meets.gives in
      let f = ap (λ y. y.answer) o ∙ e in
      subst (λ y. KeepsEveryRule job (cells_of y)) (ap (λ y. y.cells) o)
      ((demand3.answered job x c.m c.w (found_accepted job x c.m c.w f)).keeps f);
  only = λ job cells a c e. (demand2.check job cells).only (sym c ∙ ap check_number e);
  all = λ job cells a c m k. is_yes a (c ∙ (demand2.check job cells).all m k);
  no = λ job cells a c m n. is_no a (c ∙ checked_no job cells m n);
}

pub call_demand3 : CallDemand3
call_demand3 = record {
  answered = λ job x c e. subst (Answered job x) (gave_outcome c.meets.gives)
      (demand3.answered job x c.m c.w e);
  added = λ job x filter a c' c p q e' e.
      let d = demand3.added job x filter c'.m c'.w a e' (rw (p, q) e) in
      let g : outcome job x c'.m c'.w ≡ gave c.r c.cells = rw (p, q) (gave_outcome c.meets.gives) in
      subst (λ y. Added job x filter (gave c'.r c'.cells) y) g
      (subst (λ y. Added job x filter y (outcome job x c'.m c'.w)) (gave_outcome c'.meets.gives) d);
}
