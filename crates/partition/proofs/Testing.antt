-- The test of the caller's list: what the code owes at each place where it answers.
use Rattle.std.proofs.Common.{◌≡◌, Bool, true, false, List, ℕ, ◌+◌, ◌*◌, ◌≤◌, ◌<◌, ltb, length, eq-eqb, ne_eqb}
use Rattle.sets.specs.Below.{all}
use Rattle.vset.specs.Words.{Emptiness}
use Rattle.sets.specs.Sets.{◌∩◌}
use Rattle.rows.specs.Rows.{set_at, Begins}
use Rattle.rows.proofs.Rows.{outside_none}
use Rattle.cliques.specs.declared.Place.{Place}
use Rattle.partition.specs.Partition.{class_of, all_placed, is_partition}
use Rattle.partition.specs.Words.{Masks, Alone, AllAlone, Tested}
use Rattle.partition.proofs.Members.{free_is, rows_stay}

module _ {place : Place} where
  open place use {w, masks, graph, n, k}

  -- the row of v, at a, against the mask of its class, at b
  pub alone : {v a b : ℕ} {cls p : List ℕ} {r : Bool} → v < n → class_of cls v < k → Begins graph w v n a
      → Begins masks w (class_of cls v) k b → Emptiness (set_at p w a ∩ set_at p w b) r → Alone place cls p v r
  alone {v} {cls = cls} h l A B E = record {
    answer = λ adj R M. free_is k (class_of cls v) cls v h A.here R (rw B.here (M (class_of cls v) l)) E;
  }

  module _ {cls p : List ℕ} where
    pub tested_length : (length cls ≡ n → ⊥) → Tested place cls p p false
    unfolding is_partition
    tested_length h = record { answer = λ adj R. rw (ne_eqb (length cls) n h); rest = outside_none _ _ p }

    pub tested_placed : length cls ≡ n → all n (λ v. ltb (class_of cls v) k) ≡ false → Tested place cls p p false
    unfolding is_partition all_placed
    tested_placed l t = record { answer = λ adj R. rw (eq-eqb (length cls) n l, t); rest = outside_none _ _ p }

    pub tested_alone : {p' : List ℕ} {r : Bool} → length cls ≡ n → all n (λ v. ltb (class_of cls v) k) ≡ true
        → masks + k * w ≤ graph → Masks n k cls w masks p p' → AllAlone place cls p' r → Tested place cls p p' r
    unfolding is_partition all_placed
    tested_alone l t fits M A = record {
      answer = λ adj R. rw (eq-eqb (length cls) n l, t) (A.answer adj (rows_stay fits M.rest R) M.mask);
      rest = M.rest;
    }
