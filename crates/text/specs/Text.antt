-- The printed text.
use Rattle.std.specs.Prelude.{true, false, List, [], ◌++◌, ℕ, eqb, get_or}
use Rattle.sets.specs.Below.{loop}
use Rattle.sheet_rows.specs.Form.{hall_links, hall_words}
use Rattle.sheet.specs.Sheet.{k_of}
use Rattle.rules.specs.Job.{job_of}
use Rattle.setting.specs.Setting.{Setting}
use Rattle.planner.specs.Outcome.{Outcome}
use Rattle.hall_plan.specs.Hall.{hall_outcome}
-- who computes a text opens these too
unfoldable pub use Rattle.lines.specs.Lines.{ascii, digits, decimal, ending, line}

-- some text, and "a line `link kHz` per link" for the first l cells
unfoldable pub link_lines : ℕ → List ℕ → List ℕ → List ℕ
link_lines l cells text = loop l (λ i t. t ++ line (decimal i) (get_or cells i 0)) text

-- "`found N` (N nodes) and a line `link kHz` per link"
abbrev pub found_text : ℕ → Outcome → List ℕ
found_text k o = link_lines k o.cells (line (ascii "found") o.nodes)

-- "or `none N`, `stopped N`, `refused R`"
unfoldable pub printed_of : ℕ → Outcome → List ℕ
printed_of k o = elim (eqb o.answer 100) [
  | true ↦ found_text k o
  | false ↦ elim (eqb o.answer 101) [
    | true ↦ line (ascii "none") o.nodes
    | false ↦ elim (eqb o.answer 102) [
      | true ↦ line (ascii "stopped") o.nodes
      | false ↦ line (ascii "refused") o.answer
    ]
  ]
]

-- "The program reads a sheet from standard input, runs filter 7, choice 0, limit 1,000,000"
abbrev pub program_setting : Setting
program_setting = record { filter = 7; choice = 0; limit = 1000000; callers = []; counts = false }

-- with the plan cells and the work words of a hall
unfoldable pub printed : List ℕ → List ℕ
printed s = printed_of (k_of s) (hall_outcome (job_of s) program_setting hall_links hall_words)
