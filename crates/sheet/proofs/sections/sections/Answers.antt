-- What each section's test has shown is said once, and holds at every later place.
use Rattle.std.proofs.lemmas.Result.{err_from_is_err_and}
use Rattle.sheet.specs.Sheet.{k_of, links_ok, n_of, widths_ok}
use Rattle.sheet.specs.Refusal.{section_cause}
use Rattle.sheet.proofs.Causes.{links_passed, refused_is, unless_false, unless_true}
use Rattle.sheet.proofs.sections.sections.Goals as goal

pub returns-in_err-link_section : goal.returns-in_err-link_section
unfolding section_cause
returns-in_err-link_section c =
    let s = c.args.s.now in
    let p = err_from_is_err_and c.from_residual.result c.from_residual.ensures.1 in
    rw (p.1, p.2) (refused_is _ (links_ok s (k_of s) (n_of s)) (widths_ok s (k_of s)) 5 16 _ c.in_err-link_section.ensures)

pub returns-then-not-freq_section : goal.returns-then-not-freq_section
unfolding section_cause
returns-then-not-freq_section c =
    let l = links_passed _ _ c.in_ok-link_section.ensures in
    rw (l.0, l.1, ← c.freq_section.ensures, c.if-not-freq_section.true)

pub returns-then-not-rule_section : goal.returns-then-not-rule_section
unfolding section_cause
returns-then-not-rule_section c =
    let l = links_passed _ _ c.in_ok-link_section.ensures in
    rw (
      l.0,
      l.1,
      ← c.freq_section.ensures,
      c.if-not-freq_section.false,
      ← c.rule_section.ensures,
      c.if-not-rule_section.true,
    )

pub returns-then-not-pair_section : goal.returns-then-not-pair_section
unfolding section_cause
returns-then-not-pair_section c =
    let l = links_passed _ _ c.in_ok-link_section.ensures in
    rw (
      l.0,
      l.1,
      ← c.freq_section.ensures,
      c.if-not-freq_section.false,
      ← c.rule_section.ensures,
      c.if-not-rule_section.false,
      ← c.pair_section.ensures,
    )
    (unless_false _ 8 c.if-not-pair_section.true)

pub returns : goal.returns
unfolding section_cause
returns c =
    let l = links_passed _ _ c.in_ok-link_section.ensures in
    rw (
      l.0,
      l.1,
      ← c.freq_section.ensures,
      c.if-not-freq_section.false,
      ← c.rule_section.ensures,
      c.if-not-rule_section.false,
      ← c.pair_section.ensures,
    )
    (unless_true _ 8 c.if-not-pair_section.false)
