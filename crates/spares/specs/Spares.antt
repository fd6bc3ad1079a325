-- The call for a rack display: what the check says of cells, and what each pair of them has to spare.
use Rattle.std.specs.Prelude.{ℕ, ◌*◌, ◌≡◌, Bool, cond, ◌&&◌, ◌||◌, List, leb, eqb, ℤ, pos}
use Rattle.sets.specs.Below.{all}
use Rattle.sheet.specs.Sheet.{k_of}
use Rattle.sheet.specs.Refusal.{passing, refusal}
use Rattle.rules.specs.Job.{Job}
use Rattle.rules.specs.Plans.{checked}
use Rattle.rules.specs.Asked.{cell_listed}
use Rattle.spares.specs.Table.{spare_at, Tabled}

-- what the check answers, and 10 also where the table has fewer than k × k places
unfoldable pub answer_for : Job → List ℕ → ℕ → ℕ
answer_for job cells room =
    let s = job.sheet in
    passing (eqb (refusal s) 0) (refusal s) λ _.
    passing (leb (k_of s * k_of s) room) 10 λ _.
    checked job cells

-- an answer that is no refusal: no or yes
unfoldable pub judged : ℕ → Bool
judged answer = eqb answer 0 || eqb answer 100

-- the table is shown: cells that were judged are each in its link's list, whether or not they keep the rules
unfoldable pub shown : Job → List ℕ → ℕ → Bool
shown job cells room =
    judged (answer_for job cells room) && all (k_of job.sheet) (cell_listed job.sheet cells)

-- place i of the table that is left
unfoldable pub place_left : Job → List ℕ → ℕ → ℕ → ℤ
place_left job cells room i = cond (shown job cells room) (spare_at job.sheet cells i) (pos 0)

-- the answer and the table of a call that was lent a table of `room` places
pub record Answered (job : Job) (cells : List ℕ) (room number : ℕ) (left : List ℤ) : Type 0 where
  pub answer : number ≡ answer_for job cells room
  pub table : Tabled (place_left job cells room) room left
