-- Laws of the vertex of a frequency, and of a sheet that the check refuses.
use Rattle.std.proofs.Common.{ℕ, ◌+◌, ◌<◌, ◌≡◌, ◌∙◌, List, true, arith, length, eqb, ltb, ltb-true, ne_eqb}
use Rattle.sets.specs.Below.{all}
use Rattle.sets.proofs.Below.{all_out, first_any}
use Rattle.sheet_rows.specs.Rows.{link_first, link_count, freq}
use Rattle.sheet.specs.Sheet.{k_of, freq_part}
use Rattle.sheet.specs.Refusal.{cause_number, refusal}
use Rattle.sheet.specs.declared.Cause.{Cause}
use Rattle.sheet.proofs.Causes.{cause_some}
use Rattle.pair_test.specs.Layers.{InLink}
use Rattle.rules.specs.Job.{job_with}
use Rattle.rules.specs.Plans.{cells_of, checked, place_of, has_freq, vertex_of, in_lists}
use Rattle.rules.specs.Asked.{Taken, in_list}

pub has_freq_is : (s fs : List ℕ) (l x : ℕ)
    → ltb (place_of fs (link_first s l) (link_count s l) x) (link_count s l) ≡ has_freq s fs l x
unfolding place_of has_freq
has_freq_is s fs l x = first_any (link_count s l) (λ i. eqb (freq fs (link_first s l + i)) x)

pub has_freq_lt : (s fs : List ℕ) (l x : ℕ) → has_freq s fs l x ≡ true
    → place_of fs (link_first s l) (link_count s l) x < link_count s l
has_freq_lt s fs l x h =
    ltb-true (place_of fs (link_first s l) (link_count s l) x) (link_count s l) (has_freq_is s fs l x ∙ h)

pub vertex_in_lem : (s fs : List ℕ) (l x : ℕ) → has_freq s fs l x ≡ true → InLink s l (vertex_of s fs l x)
unfolding vertex_of
vertex_in_lem s fs l x h = record { low = omega arith; high = omega (arith, has_freq_lt s fs l x h) }

pub listed_at : (s fs : List ℕ) (k : ℕ) (f : ℕ → ℕ) (l : ℕ) → all k (in_lists s fs f) ≡ true → l < k
    → has_freq s fs l (f l) ≡ true
unfolding in_lists
listed_at s fs k f l h b = all_out k (in_lists s fs f) h l b

-- what the code needs of a link and the cell taken for it
pub record CellTaken (s cells : List ℕ) (l : ℕ) : Type 0 where
  pub low : l < k_of s
  pub there : l < length cells
  pub listed : in_list s l (cells_of cells l) ≡ true

pub cell_taken : {s cells : List ℕ} {l : ℕ} → Taken s cells → l < k_of s → CellTaken s cells l
cell_taken {s} {cells} {l} t b =
    let e = t.enough in
    record {
      low = b;
      there = omega arith;
      listed = listed_at s (freq_part s) (k_of s) (cells_of cells) l t.listed b;
    }

-- a sheet that the reader refuses is refused by the check, for the same cause
pub check_refused : (s channels cells : List ℕ) (x : Cause) → cause_number x ≡ refusal s
    → cause_number x ≡ checked (job_with s channels) cells
unfolding checked
check_refused s channels cells x h =
    let o = cause_some x in rw (← h, ne_eqb (cause_number x) 0 (λ z. omega arith))
