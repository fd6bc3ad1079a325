-- The jobs with known results to prove: M1 to M12 as one list, and those of Asks 2 to 5 and 9. A case that holds
-- computes to true.
use Rattle.std.specs.Prelude.{Bool, true, false, ◌&&◌, List, [], ◌∷◌, ◌++◌, ℕ, ◌+◌, T, eqb, ℤ, pos, negsuc, neg_ℤ, length, take, replicate}
use Prim.Native.String.{String}
use Rattle.sets.specs.Below.{all}
use Rattle.sheet.specs.Sheet.{n_of}
use Rattle.sheet.specs.Refusal.{refusal}
use Rattle.wire.specs.Fields.{bytes32}
use Rattle.rules.specs.Job.{Job, job_of, job_with, unstruck}
use Rattle.rules.specs.Plans.{checked}
use Rattle.spares.specs.Spares.{answer_for, place_left}
use Rattle.filters.specs.PreFilter.{pre_filter}
use Rattle.graph.specs.Graph.{layer, graph_of}
use Rattle.setting.specs.Setting.{Setting}
use Rattle.sheet_rows.specs.Form.{hall_words}
use Rattle.planner.specs.Outcome.{Outcome, outcome}
use Rattle.demands.specs.FormThree.{in_form_three}
use Rattle.lines.specs.Lines.{ascii}
use Rattle.text.specs.Text.{printed}
use Rattle.cases.specs.Encode.{RuleGiven, encode, encode_wide}

abbrev pub spaced : ℕ → List RuleGiven
spaced d = record { a = 0; b = 1; kind = 1; value = d; pairs = [] } ∷ []

abbrev pub table : ℕ → ℕ → List (ℕ × ℕ) → RuleGiven
table x y ps = record { a = x; b = y; kind = 3; value = 0; pairs = ps }

-- "links {500000, 500400} and {500000, 500300}, kind 1, value 400"
abbrev pub two_links : List ℕ
two_links = encode ((500000 ∷ 500400 ∷ []) ∷ (500000 ∷ 500300 ∷ []) ∷ []) (spaced 400)

-- "one frequency each, 500000 and 500100"
abbrev pub one_each : ℕ → List ℕ
one_each d = encode ((500000 ∷ []) ∷ (500100 ∷ []) ∷ []) (spaced d)

-- "Document 000, Example 1, as kind 3"
abbrev pub example1 : List ℕ
example1 =
    encode ((1 ∷ 3 ∷ 5 ∷ []) ∷ (1 ∷ 2 ∷ 3 ∷ []) ∷ (5 ∷ 6 ∷ []) ∷ (1 ∷ 2 ∷ 3 ∷ []) ∷ [])
    (table 0 1 ((0, 0) ∷ (0, 1) ∷ (1, 2) ∷ (2, 2) ∷ []) ∷
    table 0 2 ((0, 0) ∷ (1, 1) ∷ []) ∷
    table 0 3 ((0, 0) ∷ []) ∷
    table 1 2 ((0, 0) ∷ (1, 0) ∷ (1, 1) ∷ (2, 1) ∷ []) ∷
    table 1 3 ((0, 0) ∷ []) ∷
    table 2 3 ((0, 0) ∷ (1, 1) ∷ (1, 2) ∷ []) ∷ [])

-- "Document 000, Example 3, kind 3 throughout, frequencies 1, 2, .. in each link"
abbrev pub example3 : List ℕ
example3 =
    encode ((1 ∷ 2 ∷ []) ∷ (1 ∷ 2 ∷ 3 ∷ []) ∷ (1 ∷ []) ∷ [])
    (table 0 1 ((0, 0) ∷ (1, 0) ∷ (1, 1) ∷ (1, 2) ∷ []) ∷ table 0 2 ((0, 0) ∷ []) ∷ table 1 2 ((1, 0) ∷ []) ∷ [])

-- a planning call of a sheet, under each filter of a list and each choice of a list, with a plan cell for each cell of
-- the outcome; the printed text; the vertices that the pre-filter leaves; the reader's number; the check's, of cells; a
-- planning call of a job, under each filter of a list, by a setting for each; the check's number; the answer and the
-- table of a call for spares, which is lent the places that are named; a planning call of a sheet in so many work words
pub data Case : Type 0 where
  plans : List ℕ → List ℕ → List ℕ → Outcome → Case
  prints : List ℕ → String → Case
  leaves : List ℕ → List ℕ → Case
  reads : List ℕ → ℕ → Case
  checks : List ℕ → List ℕ → ℕ → Case
  plans_job : Job → List ℕ → (ℕ → Setting) → Outcome → Case
  checks_job : Job → List ℕ → ℕ → Case
  shows : Job → List ℕ → ℕ → List ℤ → Case
  plans_in : ℕ → List ℕ → Outcome → Case

abbrev pub same_list : List ℕ → List ℕ → Bool
same_list [] [] = true
same_list [] (y ∷ ys) = false
same_list (x ∷ xs) [] = false
same_list (x ∷ xs) (y ∷ ys) = eqb x y && same_list xs ys

abbrev pub same_number : ℤ → ℤ → Bool
same_number (pos a) (pos b) = eqb a b
same_number (pos a) (negsuc b) = false
same_number (negsuc a) (pos b) = false
same_number (negsuc a) (negsuc b) = eqb a b

-- a function has the numbers of a list from place i on
abbrev pub same_places : (ℕ → ℤ) → ℕ → List ℤ → Bool
same_places f i [] = true
same_places f i (z ∷ zs) = same_number (f i) z && same_places f (i + 1) zs

abbrev pub same_outcome : Outcome → Outcome → Bool
same_outcome o p = eqb o.answer p.answer && eqb o.nodes p.nodes && same_list o.cells p.cells

-- each number of a list passes the test
abbrev pub each : List ℕ → (ℕ → Bool) → Bool
each [] p = true
each (x ∷ xs) p = p x && each xs p

-- the vertices of a list
abbrev pub is_in : List ℕ → ℕ → Bool
is_in [] v = false
is_in (x ∷ xs) v = elim (eqb x v) [ true ↦ true | false ↦ is_in xs v ]

abbrev pub both_or_neither : Bool → Bool → Bool
both_or_neither true b = b
both_or_neither false true = false
both_or_neither false false = true

-- a choice, or a caller's list: "limit 1,000,000"
abbrev pub choosing : ℕ → ℕ → Setting
choosing choice filter = record { filter = filter; choice = choice; limit = 1000000; callers = []; counts = false }

abbrev pub listing : List ℕ → ℕ → Setting
listing callers filter = record { filter = filter; choice = 2; limit = 1000000; callers = callers; counts = false }

-- the vertices that the pre-filter leaves of the whole graph
abbrev pub is_left : Job → ℕ → Bool
is_left job = pre_filter (graph_of job (layer job)) (layer job) (unstruck job)

-- the planning call of a job gives the outcome under each filter of a list
abbrev pub given : Job → List ℕ → (ℕ → Setting) → Outcome → Bool
given job filters x o = each filters λ filter. same_outcome (outcome job (x filter) (length o.cells) hall_words) o

abbrev pub holds : Case → Bool
holds (plans s filters choices o) = each choices λ choice. given (job_of s) filters (choosing choice) o
holds (prints s text) = same_list (printed s) (ascii text)
holds (leaves s vs) = all (n_of s) (λ v. both_or_neither (is_left (job_of s) v) (is_in vs v))
holds (reads s number) = eqb (refusal s) number
holds (checks s cells number) = eqb (checked (job_of s) cells) number
holds (plans_job job filters x o) = given job filters x o
holds (checks_job job cells number) = eqb (checked job cells) number
holds (shows job cells number table) =
    eqb (answer_for job cells (length table)) number && same_places (place_left job cells (length table)) 0 table
holds (plans_in words s o) = same_outcome (outcome (job_of s) (choosing 0 0) (length o.cells) words) o

abbrev pub all_hold : List Case → Bool
all_hold [] = true
all_hold (c ∷ cs) = holds c && all_hold cs

abbrev pub found_in : ℕ → List ℕ → Outcome
found_in n l = record { answer = 100; nodes = n; cells = l }

abbrev pub no_plan_in : ℕ → List ℕ → Outcome
no_plan_in n l = record { answer = 101; nodes = n; cells = l }

abbrev pub any_filter : List ℕ
any_filter = 0 ∷ 1 ∷ 2 ∷ 3 ∷ 4 ∷ 5 ∷ 6 ∷ 7 ∷ []

-- M1 to M12: "choice 0 and limit 1,000,000 unless said, any filter where none is named". M6 names no choice and stands
-- beside M5, which says choice 1: it is held under both.
abbrev pub cases : List Case
cases =
    plans two_links (0 ∷ []) (0 ∷ []) (found_in 4 (500400 ∷ 500000 ∷ [])) ∷
    plans two_links (2 ∷ []) (0 ∷ []) (found_in 4 (500400 ∷ 500000 ∷ [])) ∷
    plans two_links (4 ∷ []) (0 ∷ []) (found_in 3 (500400 ∷ 500000 ∷ [])) ∷
    prints two_links "found 3\n0 500400\n1 500000\n" ∷
    plans (one_each 400) any_filter (1 ∷ []) (no_plan_in 0 (0 ∷ 0 ∷ [])) ∷
    plans (one_each 100) any_filter (0 ∷ 1 ∷ []) (found_in 3 (500000 ∷ 500100 ∷ [])) ∷
    plans example1 (0 ∷ []) (0 ∷ []) (found_in 5 (1 ∷ 1 ∷ 5 ∷ 1 ∷ [])) ∷
    leaves example1 (0 ∷ 3 ∷ 6 ∷ 8 ∷ []) ∷
    plans example3 (0 ∷ []) (0 ∷ []) (no_plan_in 4 (0 ∷ 0 ∷ 0 ∷ [])) ∷
    plans example3 (2 ∷ []) (0 ∷ []) (no_plan_in 3 (0 ∷ 0 ∷ 0 ∷ [])) ∷
    plans example3 (1 ∷ []) (0 ∷ []) (no_plan_in 2 (0 ∷ 0 ∷ 0 ∷ [])) ∷
    plans example3 (4 ∷ []) (0 ∷ []) (no_plan_in 1 (0 ∷ 0 ∷ 0 ∷ [])) ∷ []

-- Ask 2: "A listed kind 3 pair may still be equal. The rule-less sheet of document 01 becomes no plan with 0 nodes
-- under filter 7"
abbrev pub one_carrier : List RuleGiven → List ℕ
one_carrier rules = encode ((500000 ∷ []) ∷ (500000 ∷ []) ∷ []) rules

abbrev pub shared : List Case
shared =
    plans (one_carrier []) (0 ∷ []) (0 ∷ []) (no_plan_in 2 (0 ∷ 0 ∷ [])) ∷
    plans (one_carrier []) (2 ∷ 4 ∷ 6 ∷ []) (0 ∷ []) (no_plan_in 1 (0 ∷ 0 ∷ [])) ∷
    plans (one_carrier []) (1 ∷ 3 ∷ 5 ∷ 7 ∷ []) (0 ∷ []) (no_plan_in 0 (0 ∷ 0 ∷ [])) ∷
    plans (one_carrier []) any_filter (1 ∷ []) (no_plan_in 0 (0 ∷ 0 ∷ [])) ∷
    plans (one_carrier (table 0 1 ((0, 0) ∷ []) ∷ [])) any_filter (0 ∷ 1 ∷ []) (found_in 3 (500000 ∷ 500000 ∷ [])) ∷ []

-- Ask 3: the links of M1 in form 2, with a width each, and a rule of a kind and value
abbrev pub wide : ℕ → ℕ → ℕ → ℕ → List ℕ
wide v w kind value =
    encode_wide (v ∷ w ∷ []) ((500000 ∷ 500400 ∷ []) ∷ (500000 ∷ 500300 ∷ []) ∷ [])
    (record { a = 0; b = 1; kind = kind; value = value; pairs = [] } ∷ [])

-- between edges of 30 and 50 kHz no pair leaves 400 kHz and one leaves 360, which is missed by half a kHz where a
-- carrier is wider by 1; kind 2 on centres; the widths' range; 16 after 5 and before 6
abbrev pub edges : List Case
edges =
    plans (wide 30 50 1 400) (0 ∷ []) (0 ∷ []) (no_plan_in 3 (0 ∷ 0 ∷ [])) ∷
    plans (wide 30 50 1 400) (1 ∷ 7 ∷ []) (0 ∷ []) (no_plan_in 0 (0 ∷ 0 ∷ [])) ∷
    plans (wide 30 50 1 360) (0 ∷ []) (0 ∷ []) (found_in 4 (500400 ∷ 500000 ∷ [])) ∷
    plans (wide 30 51 1 360) (0 ∷ []) (0 ∷ []) (no_plan_in 3 (0 ∷ 0 ∷ [])) ∷
    plans (wide 20000 20000 2 400) (0 ∷ []) (0 ∷ []) (found_in 4 (500400 ∷ 500000 ∷ [])) ∷
    checks (wide 30 50 1 360) (500400 ∷ 500000 ∷ []) 100 ∷
    checks (wide 30 51 1 360) (500400 ∷ 500000 ∷ []) 0 ∷
    reads (wide 1 20000 1 360) 0 ∷
    reads (wide 0 50 1 360) 16 ∷
    reads (wide 30 20001 1 360) 16 ∷
    reads (encode_wide (0 ∷ 1 ∷ []) ((500000 ∷ []) ∷ [] ∷ []) []) 5 ∷
    reads (encode_wide (1 ∷ 0 ∷ []) ((0 ∷ []) ∷ (500000 ∷ []) ∷ []) []) 16 ∷ []

-- Ask 4: two links without a rule, each with a frequency on channel 24, which covers 494,000 up to, but without,
-- 502,000 kHz, and one just outside it
abbrev pub beside_air : List ℕ
beside_air = encode ((501999 ∷ 502000 ∷ []) ∷ (493999 ∷ 494000 ∷ []) ∷ []) []

-- all of link 0 on channel 24, none of link 1
abbrev pub on_air_alone : List ℕ
on_air_alone = encode ((500000 ∷ 500100 ∷ []) ∷ (510000 ∷ 520000 ∷ []) ∷ []) []

abbrev pub refused_by : ℕ → Outcome
refused_by number = record { answer = number; nodes = 0; cells = 0 ∷ 0 ∷ [] }

-- what is left is planned, under each choice; a struck vertex keeps its class byte, which is below k; a link left empty
-- has no plan in 0 nodes, where each class has a vertex too; 17 for a list out of range or order, before 12; the check
-- says no to a struck frequency, and knows 17 after 10; channel 48 ends below 694,000
abbrev pub on_air : List Case
on_air =
    plans_job (job_of beside_air) (0 ∷ 7 ∷ []) (choosing 0) (found_in 3 (501999 ∷ 493999 ∷ [])) ∷
    plans_job (job_with beside_air (24 ∷ [])) any_filter (choosing 0) (found_in 3 (502000 ∷ 493999 ∷ [])) ∷
    plans_job (job_with beside_air (24 ∷ [])) (0 ∷ 7 ∷ []) (choosing 1) (found_in 3 (502000 ∷ 493999 ∷ [])) ∷
    plans_job (job_with beside_air (21 ∷ 24 ∷ 48 ∷ [])) (0 ∷ 7 ∷ []) (listing (1 ∷ 0 ∷ 1 ∷ 1 ∷ []))
    (found_in 3 (502000 ∷ 493999 ∷ [])) ∷
    plans_job (job_with beside_air (24 ∷ [])) (0 ∷ []) (listing (2 ∷ 0 ∷ 1 ∷ 1 ∷ [])) (refused_by 12) ∷
    plans_job (job_with on_air_alone (24 ∷ [])) any_filter (choosing 0) (no_plan_in 0 (0 ∷ 0 ∷ [])) ∷
    plans_job (job_with on_air_alone (24 ∷ [])) any_filter (choosing 1) (no_plan_in 0 (0 ∷ 0 ∷ [])) ∷
    plans_job (job_with on_air_alone (24 ∷ [])) any_filter (listing (0 ∷ 0 ∷ 0 ∷ 1 ∷ [])) (no_plan_in 0 (0 ∷ 0 ∷ [])) ∷
    plans_job (job_with beside_air (20 ∷ [])) (0 ∷ []) (listing []) (refused_by 17) ∷
    plans_job (job_with beside_air (49 ∷ [])) (0 ∷ []) (choosing 0) (refused_by 17) ∷
    plans_job (job_with beside_air (24 ∷ 24 ∷ [])) (0 ∷ []) (choosing 0) (refused_by 17) ∷
    plans_job (job_with beside_air (24 ∷ [])) (8 ∷ []) (choosing 0) (refused_by 9) ∷
    checks_job (job_with beside_air (24 ∷ [])) (502000 ∷ 493999 ∷ []) 100 ∷
    checks_job (job_with beside_air (24 ∷ [])) (501999 ∷ 493999 ∷ []) 0 ∷
    checks_job (job_with beside_air (23 ∷ [])) (501999 ∷ 493999 ∷ []) 0 ∷
    checks_job (job_with beside_air (25 ∷ [])) (501999 ∷ 493999 ∷ []) 100 ∷
    checks_job (job_with beside_air (20 ∷ [])) (502000 ∷ 493999 ∷ []) 17 ∷
    checks_job (job_with beside_air (20 ∷ [])) (502000 ∷ []) 10 ∷
    checks_job (job_with (encode ((693999 ∷ 694000 ∷ []) ∷ []) []) (48 ∷ [])) (693999 ∷ []) 0 ∷
    checks_job (job_with (encode ((693999 ∷ 694000 ∷ []) ∷ []) []) (48 ∷ [])) (694000 ∷ []) 100 ∷ []

-- Ask 5: minus a number, the table of two links, and one of zeros
abbrev pub minus : ℕ → ℤ
minus n = neg_ℤ (pos n)

abbrev pub between : ℤ → List ℤ
between z = pos 0 ∷ z ∷ z ∷ pos 0 ∷ []

abbrev pub blank : List ℤ
blank = between (pos 0)

-- the four pairs of M1 in form 2 with widths 30 and 50; kind 1 of form 1, kinds 2 and 3, and no rule; both ends of the
-- range; a struck frequency is shown, one of no list is not; a table too short, and one with room; 10 before 17
abbrev pub spare : List Case
spare =
    shows (job_of (wide 30 50 1 400)) (500000 ∷ 500000 ∷ []) 0 (between (minus 880)) ∷
    shows (job_of (wide 30 50 1 400)) (500000 ∷ 500300 ∷ []) 0 (between (minus 280)) ∷
    shows (job_of (wide 30 50 1 400)) (500400 ∷ 500000 ∷ []) 0 (between (minus 80)) ∷
    shows (job_of (wide 30 50 1 400)) (500400 ∷ 500300 ∷ []) 0 (between (minus 680)) ∷
    shows (job_of (wide 30 51 1 360)) (500400 ∷ 500000 ∷ []) 0 (between (minus 1)) ∷
    shows (job_of two_links) (500400 ∷ 500000 ∷ []) 100 (between (pos 0)) ∷
    shows (job_of (one_each 30)) (500000 ∷ 500100 ∷ []) 100 (between (pos 140)) ∷
    shows (job_of (wide 20000 20000 2 400)) (500400 ∷ 500000 ∷ []) 100 (between (pos 0)) ∷
    shows (job_of (wide 20000 20000 2 400)) (500000 ∷ 500300 ∷ []) 0 (between (minus 200)) ∷
    shows (job_of (wide 20000 20000 2 50)) (500400 ∷ 500300 ∷ []) 0 (between (minus 100)) ∷
    shows (job_of (one_carrier (table 0 1 ((0, 0) ∷ []) ∷ []))) (500000 ∷ 500000 ∷ []) 100 (between (pos 0)) ∷
    shows (job_of (encode ((1 ∷ []) ∷ (1 ∷ 2 ∷ []) ∷ []) (table 0 1 ((0, 1) ∷ []) ∷ []))) (1 ∷ 1 ∷ []) 0
    (between (minus 1)) ∷
    shows (job_of (one_carrier [])) (500000 ∷ 500000 ∷ []) 0 (between (minus 1)) ∷
    shows (job_of beside_air) (501999 ∷ 493999 ∷ []) 100 (between (pos 15999)) ∷
    shows (job_of (encode_wide (20000 ∷ 20000 ∷ []) ((7 ∷ []) ∷ (7 ∷ []) ∷ []) (spaced 9999999))) (7 ∷ 7 ∷ []) 0
    (between (minus 20039998)) ∷
    shows (job_of (encode ((1 ∷ []) ∷ (9999999 ∷ []) ∷ []) [])) (1 ∷ 9999999 ∷ []) 100 (between (pos 19999995)) ∷
    shows (job_with beside_air (24 ∷ [])) (501999 ∷ 493999 ∷ []) 0 (between (pos 15999)) ∷
    shows (job_of beside_air) (502001 ∷ 493999 ∷ []) 0 blank ∷
    shows (job_of beside_air) (501999 ∷ 493999 ∷ []) 10 (pos 0 ∷ pos 0 ∷ pos 0 ∷ []) ∷
    shows (job_of beside_air) (501999 ∷ 493999 ∷ 7 ∷ []) 100 (pos 0 ∷ pos 15999 ∷ pos 15999 ∷ pos 0 ∷ pos 0 ∷ []) ∷
    shows (job_with beside_air (20 ∷ [])) (501999 ∷ 493999 ∷ []) 17 blank ∷
    shows (job_with beside_air (20 ∷ [])) (501999 ∷ []) 10 blank ∷
    shows (job_with beside_air (20 ∷ [])) (501999 ∷ 493999 ∷ []) 10 [] ∷
    shows (job_of (wide 0 50 1 360)) (500400 ∷ 500000 ∷ []) 16 [] ∷ []

-- Ask 9: a header alone, of a form with k links
abbrev pub head : ℕ → ℕ → List ℕ
head form k = bytes32 form ++ (bytes32 k ++ replicate 32 0)

-- a sheet of form 2 plans alike with form 3 in its header; each form with its own words, links and frequencies; the
-- program answers 3 where 1 and 2 are passed
abbrev pub festivals : List Case
festivals =
    plans_in 32768 (in_form_three (wide 30 50 1 360)) (found_in 4 (500400 ∷ 500000 ∷ [])) ∷
    plans_in 32767 (in_form_three (wide 30 50 1 360)) (refused_by 11) ∷
    plans_in 8192 (wide 30 50 1 360) (found_in 4 (500400 ∷ 500000 ∷ [])) ∷
    plans_in 8191 (wide 30 50 1 360) (refused_by 11) ∷
    plans_in 8191 two_links (refused_by 11) ∷
    checks (in_form_three (wide 30 50 1 360)) (500400 ∷ 500000 ∷ []) 100 ∷
    checks (in_form_three (wide 30 51 1 360)) (500400 ∷ 500000 ∷ []) 0 ∷
    reads (in_form_three (wide 0 50 1 360)) 16 ∷
    reads (in_form_three two_links) 4 ∷
    reads (head 4 1) 1 ∷
    reads (head 1 65) 2 ∷
    reads (head 2 64) 3 ∷
    reads (head 2 65) 2 ∷
    reads (head 3 128) 3 ∷
    reads (head 3 129) 2 ∷
    prints (in_form_three (wide 30 50 1 360)) "refused 3\n" ∷
    prints (head 3 128) "refused 3\n" ∷
    prints (head 3 129) "refused 2\n" ∷
    prints (head 3 0) "refused 2\n" ∷
    prints (take 39 (head 3 1)) "refused 1\n" ∷ []

abbrev pub CasesHold : Type 0
CasesHold =
    T (all_hold cases && (all_hold shared && (all_hold edges && (all_hold on_air && (all_hold spare && all_hold festivals)))))
