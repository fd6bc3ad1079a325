-- `hall_plan::is_festival` meets its contract: the tests of causes 1 and 2, and of the form.
use mathlib.Core.Path.{◌≡◌, refl, sym, ◌∙◌}
use mathlib.Core.Bool.{true}
use native.Mathlib.Omega.{arith}
use lib.Dec.{leb}
use lib.ListN.{length}
use borrow.Author.Tests.{leb-true}
use Rattle.sets.proofs.Tests.{and_l}
use Rattle.sheet_rows.specs.Form.{form_of}
use Rattle.sheet_rows.specs.Rows.{header_bytes}
use Rattle.sheet.specs.Refusal.{form_ok}
use Rattle.hall_plan.specs.Hall.{is_festival}
use Rattle.hall_plan.proofs.is_festival.Goals as goal

pub returns-then-not-form_ok : goal.returns-then-not-form_ok
unfolding is_festival
returns-then-not-form_ok c =
    rw (sym c.form_ok.ensures ∙ c.if-not-form_ok.true) refl

pub link_count_ok-requires : goal.link_count_ok-requires
unfolding form_ok
link_count_ok-requires c =
    let known : form_ok c.args.s.now ≡ true =
    sym c.form_ok.ensures ∙ c.if-not-form_ok.false in
    let s = c.args.s.now in
    leb-true header_bytes (length s) (and_l (leb header_bytes (length s)) (form_of s).known known)

pub word-requires : goal.word-requires
unfolding form_ok
word-requires c =
    let known : form_ok c.args.s.now ≡ true =
    sym c.form_ok.ensures ∙ c.if-not-form_ok.false in
    let s = c.args.s.now in
    omega (arith, leb-true header_bytes (length s) (and_l (leb header_bytes (length s)) (form_of s).known known))

pub returns : goal.returns
unfolding is_festival
returns c =
    let known : form_ok c.args.s.now ≡ true =
    sym c.form_ok.ensures ∙ c.if-not-form_ok.false in
    rw (known, ← c.link_count_ok.ensures, ← c.word.ensures.0)
