-- What the tests before have shown, from each test's own clause.
use Rattle.std.proofs.Common.{◌∙◌, sym}
use Rattle.sheet.specs.Refusal.{refusal}
use Rattle.sheet.proofs.Accepted.{form_long, head_is}
use Rattle.sheet.proofs.check_sheet.Goals as goal

pub returns-then-not-form_ok : goal.returns-then-not-form_ok
unfolding refusal
returns-then-not-form_ok c = rw (← c.form_ok.ensures, c.if-not-form_ok.true)

pub link_count_ok-requires : goal.link_count_ok-requires
link_count_ok-requires c = form_long _ (sym c.form_ok.ensures ∙ c.if-not-form_ok.false)

pub returns-then-not-link_count_ok : goal.returns-then-not-link_count_ok
unfolding refusal
returns-then-not-link_count_ok c =
    rw (← c.form_ok.ensures, c.if-not-form_ok.false, ← c.link_count_ok.ensures, c.if-not-link_count_ok.true)

pub counts_ok-requires : goal.counts_ok-requires
counts_ok-requires c = form_long _ (sym c.form_ok.ensures ∙ c.if-not-form_ok.false)

pub returns-then-not-counts_ok : goal.returns-then-not-counts_ok
unfolding refusal
returns-then-not-counts_ok c =
    rw (
      ← c.form_ok.ensures,
      c.if-not-form_ok.false,
      ← c.link_count_ok.ensures,
      c.if-not-link_count_ok.false,
      ← c.counts_ok.ensures,
      c.if-not-counts_ok.true,
    )

pub offsets_ok-requires : goal.offsets_ok-requires
offsets_ok-requires c = form_long _ (sym c.form_ok.ensures ∙ c.if-not-form_ok.false)

pub returns-then-not-offsets_ok : goal.returns-then-not-offsets_ok
unfolding refusal
returns-then-not-offsets_ok c =
    rw (
      ← c.form_ok.ensures,
      c.if-not-form_ok.false,
      ← c.link_count_ok.ensures,
      c.if-not-link_count_ok.false,
      ← c.counts_ok.ensures,
      c.if-not-counts_ok.false,
      ← c.offsets_ok.ensures,
      c.if-not-offsets_ok.true,
    )

pub sections-requires : goal.sections-requires
sections-requires c =
    head_is _ (sym c.form_ok.ensures ∙ c.if-not-form_ok.false)
    (sym c.link_count_ok.ensures ∙ c.if-not-link_count_ok.false)
    (sym c.counts_ok.ensures ∙ c.if-not-counts_ok.false)
    (sym c.offsets_ok.ensures ∙ c.if-not-offsets_ok.false)

pub returns : goal.returns
unfolding refusal
returns c =
    rw (
      ← c.form_ok.ensures,
      c.if-not-form_ok.false,
      ← c.link_count_ok.ensures,
      c.if-not-link_count_ok.false,
      ← c.counts_ok.ensures,
      c.if-not-counts_ok.false,
      ← c.offsets_ok.ensures,
      c.if-not-offsets_ok.false,
    )
    c.sections.ensures
