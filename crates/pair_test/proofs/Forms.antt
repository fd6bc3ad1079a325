-- A sheet of form 1 is read and judged as before: its link rows have four bytes, and no widths.
use Rattle.std.proofs.Common.{ℕ, ◌≡◌, refl, ap, ◌∙◌, List}
use Rattle.wire.specs.Fields.{le32}
use Rattle.sheet_rows.specs.declared.Form.{Form}
use Rattle.sheet_rows.specs.Form.{form_by, form_of}
use Rattle.sheet_rows.specs.Rows.{link_bytes, link_first, link_count, link_width}
use Rattle.sheet_rows.proofs.Rows.{one_is}
use Rattle.sheet.proofs.Links.{no_widths}
use Rattle.pair_test.specs.Pairs.{rule_widths, spare_row}
use Rattle.pair_test.specs.Forms.{FormOne, FormOneKeepsItsRule}
use Rattle.spacing.proofs.Spacing.{centres_allowed}

module _ (s : List ℕ) (one : le32 s 0 ≡ 1) where
  form : form_of s ≡ form_by 1
  form = ap form_by one

  four : link_bytes s ≡ 4
  four = ap (λ (f : Form). f.bytes) (form ∙ one_is)

  none : (rs : List ℕ) (j : ℕ) → rule_widths s rs j ≡ 0
  unfolding rule_widths link_width
  none rs j = rw four refl

  is_one : FormOne s
  unfolding link_first link_count spare_row
  is_one = record {
    known = ap (λ (f : Form). f.known) (form ∙ one_is);
    links = ap (λ (f : Form). f.links) (form ∙ one_is);
    freqs = ap (λ (f : Form). f.freqs) (form ∙ one_is);
    first = λ l. rw four refl;
    count = λ l. rw four refl;
    freqs_from = rw four refl;
    rules_from = rw four refl;
    pairs_from = rw four refl;
    widths = λ k. no_widths s k four;
    kind_1 = λ fs rs ps j u v e. rw (e, none rs j) (centres_allowed _ _ _);
  }

pub form_one : FormOneKeepsItsRule
form_one = record { form_1 = is_one }
