-- The setting of a planning call, and its range.
use Rattle.std.specs.Prelude.{Bool, true, false, ◌&&◌, List, ℕ, ltb, leb}
use Rattle.setting.specs.declared.Options.{Options}

-- filter number, partition choice, limit on the nodes, the caller's list of classes, and whether the run is asked for
-- the plans left for each frequency
pub record Setting : Type 0 where
  pub filter : ℕ
  pub choice : ℕ
  pub limit : ℕ
  pub callers : List ℕ
  pub counts : Bool

-- the code's numbers with the caller's list; `setting_of` those of a run until the first plan
abbrev pub setting_with : Bool → Options → List ℕ → Setting
setting_with counts options callers = record {
  filter = options.filter;
  choice = options.choice;
  limit = options.limit;
  callers = callers;
  counts = counts;
}

abbrev pub setting_of : Options → List ℕ → Setting
setting_of = setting_with false

-- the same setting, of a run that is asked for counts
abbrev pub counting : Setting → Setting
counting x = record {
  filter = x.filter;
  choice = x.choice;
  limit = x.limit;
  callers = x.callers;
  counts = true;
}

abbrev pub most_nodes : ℕ
most_nodes = 1000000000

-- not "filter above 7, choice above 2, limit 0 or above 1,000,000,000"
unfoldable pub in_range : ℕ → ℕ → ℕ → Bool
in_range filter choice limit = leb filter 7 && leb choice 2 && ltb 0 limit && leb limit most_nodes

abbrev pub setting_ok : Setting → Bool
setting_ok x = in_range x.filter x.choice x.limit
