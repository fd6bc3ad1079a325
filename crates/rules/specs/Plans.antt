-- Assignments and the plan check: "The check takes a sheet and cells, reads the first k, and says yes exactly if each
-- is in its link's list and all rules hold".
use Rattle.std.specs.Prelude.{ℕ, ◌+◌, List, Bool, true, false, not, ◌&&◌, ◌||◌, length, get_or, leb, eqb, ℤ}
use Rattle.std.specs.Prelude.{Result, Ok, Err}
use Rattle.sets.specs.Below.{all, any, first}
use Rattle.channels.specs.Channels.{channels_ok, on_air}
use Rattle.sheet_rows.specs.Rows.{link_first, link_count, freq}
use Rattle.sheet.specs.Sheet.{k_of, q_of, freq_part, rule_part, pair_part}
use Rattle.sheet.specs.Refusal.{cause_number, passing, refusal}
use Rattle.spacing.specs.Spacing.{zero_or_more}
use Rattle.pair_test.specs.Pairs.{spare}
use Rattle.rules.specs.Job.{Job}
use Rattle.rules.specs.declared.CheckRefusal.{CheckRefusal}
use Rattle.rules.specs.declared.CheckRefusal.TheVariants.{Sheet, FewCells, Channels}

-- the place of the frequency x among `count` from vertex `from` on, or `count`
unfoldable pub place_of : List ℕ → ℕ → ℕ → ℕ → ℕ
place_of fs from count x = first count (λ i. eqb (freq fs (from + i)) x)

-- x is in the list of link l
unfoldable pub has_freq : List ℕ → List ℕ → ℕ → ℕ → Bool
has_freq s fs l x = any (link_count s l) (λ i. eqb (freq fs (link_first s l + i)) x)

-- the vertex of the frequency x of link l
unfoldable pub vertex_of : List ℕ → List ℕ → ℕ → ℕ → ℕ
vertex_of s fs l x = link_first s l + place_of fs (link_first s l) (link_count s l) x

-- "An assignment takes for each link one frequency of its list": the one for link l is of its list
unfoldable pub in_lists : List ℕ → List ℕ → (ℕ → ℕ) → ℕ → Bool
in_lists s fs cells l = has_freq s fs l (cells l)

-- what the frequencies taken for links a and b have to spare, and whether they are allowed: "zero or more means
-- allowed"
unfoldable pub spare_taken : List ℕ → List ℕ → List ℕ → List ℕ → ℕ → (ℕ → ℕ) → ℕ → ℕ → ℤ
spare_taken s fs rs ps q cells a b = spare s fs rs ps q a b (vertex_of s fs a (cells a)) (vertex_of s fs b (cells b))

unfoldable pub pair_kept : List ℕ → List ℕ → List ℕ → List ℕ → ℕ → (ℕ → ℕ) → ℕ → ℕ → Bool
pair_kept s fs rs ps q cells a b = zero_or_more (spare_taken s fs rs ps q cells a b)

-- so are that of link a and those of all higher links
unfoldable pub link_kept : List ℕ → List ℕ → List ℕ → List ℕ → ℕ → ℕ → (ℕ → ℕ) → ℕ → Bool
link_kept s fs rs ps k q cells a = all k (λ b. leb b a || pair_kept s fs rs ps q cells a b)

-- an assignment that "keeps every rule": each frequency is of its link's list, and every two are allowed
unfoldable pub keeps : List ℕ → List ℕ → List ℕ → List ℕ → ℕ → ℕ → (ℕ → ℕ) → Bool
keeps s fs rs ps k q cells = all k (in_lists s fs cells) && all k (link_kept s fs rs ps k q cells)

-- the cells as a frequency for each link
abbrev pub cells_of : List ℕ → ℕ → ℕ
cells_of cells l = get_or cells l 0

-- the assignment f, a frequency for each link, keeps every rule of the sheet s
unfoldable pub keeps_sheet : List ℕ → (ℕ → ℕ) → Bool
keeps_sheet s f = keeps s (freq_part s) (rule_part s) (pair_part s) (k_of s) (q_of s) f

-- no channel on air covers the frequency taken for link l
unfoldable pub clear : List ℕ → (ℕ → ℕ) → ℕ → Bool
clear channels f l = not (on_air channels (f l))

-- f "keeps every rule" of the job: of a struck vertex, "An assignment with one does not keep the rules"
unfoldable pub keeps_job : Job → (ℕ → ℕ) → Bool
keeps_job job f = all (k_of job.sheet) (clear job.channels f) && keeps_sheet job.sheet f

-- "0 for no, 100 for yes"
abbrev pub yes_no : Bool → ℕ
yes_no true = 100
yes_no false = 0

-- "The check knows 1 to 8 and 10", 16 with the sheet's, and 17 after 10: the refusal number, 10 for "fewer than k plan
-- cells", 17 for "channel list out of range or order", else yes or no
unfoldable pub checked : Job → List ℕ → ℕ
checked job cells =
    let s = job.sheet in
    passing (eqb (refusal s) 0) (refusal s) λ _.
    passing (leb (k_of s) (length cells)) 10 λ _.
    passing (channels_ok job.channels) 17 λ _.
    yes_no (keeps_job job (cells_of cells))

-- the paper's number for each answer of the check: 0 is no, and no cause has it
abbrev pub check_number : Result Bool CheckRefusal → ℕ
check_number (Ok answer) = yes_no answer
check_number (Err FewCells) = 10
check_number (Err Channels) = 17
check_number (Err (Sheet cause)) = cause_number cause
