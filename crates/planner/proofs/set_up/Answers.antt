-- `planner::set_up` meets its contract: the class list has a byte for each vertex. What the words hold does not depend
-- on whether counts are asked for.
use mathlib.Core.Path.{refl, sym, ◌∙◌}
use mathlib.Core.Bool.{Bool}
use mathlib.Core.List.{List}
use Prim.Native.Nat.{ℕ}
use native.Mathlib.Omega.{arith}
use lib.Seq.{length-take-le}
use Rattle.cliques.specs.declared.Place.{Place}
use Rattle.wire.specs.Fields.{le32}
use Rattle.sheet.proofs.Accepted.{accepted}
use Rattle.rules.specs.Job.{Job}
use Rattle.setting.specs.Setting.{setting_of, setting_with}
use Rattle.setting.specs.declared.Options.{Options}
use Rattle.work_words.specs.Classes.{list_ok, classes_of}
use Rattle.work_words.specs.Filled.{Filled}
use Rattle.planner.proofs.Accepted.{choice_small}
use Rattle.planner.proofs.set_up.Goals as goal

counting-too : {job : Job} {options : Options} {callers : List ℕ} {place : Place} {layers : ℕ} {p : List ℕ} {r : Bool}
    → Filled job (setting_of options callers) place layers p r → (on : Bool)
    → Filled job (setting_with on options callers) place layers p r
unfolding list_ok classes_of
counting-too F on = record { list = F.list; by_class_is = F.by_class_is; by_layer_is = F.by_layer_is; root = F.root }

pub freqs_of-n-requires : goal.freqs_of-n-requires
freqs_of-n-requires c =
    (accepted _ c.requires.sheet).head.long

pub links_of-k-requires : goal.links_of-k-requires
links_of-k-requires c =
    (accepted _ c.requires.sheet).head.long

pub lay_out-lay-requires : goal.lay_out-lay-requires
lay_out-lay-requires c =
    let h = (accepted _ c.requires.sheet).head in
    let k = c.links_of-k.ensures.0 in
    let n = c.freqs_of-n.ensures.0 in
    record {
      number = le32 c.args.sheet.now 0;
      some = omega (arith, h.n_some);
      freqs = omega (arith, h.n_few);
      links = omega (arith, h.k_few);
      words = c.requires.words;
    }

pub slice_bounds-built-end : goal.slice_bounds-built-end
slice_bounds-built-end c =
    omega (
      arith,
      c.freqs_of-n.ensures.0,
      (accepted _ c.requires.sheet).head.n_small,
    )

pub slice_bounds-fill_words-end : goal.slice_bounds-fill_words-end
slice_bounds-fill_words-end c =
    sym (length-take-le _ _ (omega (
      arith,
      c.freqs_of-n.ensures.0,
      (accepted _ c.requires.sheet).head.n_small,
    )))

pub fill_words-listed-requires : goal.fill_words-listed-requires
fill_words-listed-requires c =
    let n = c.freqs_of-n.ensures.0 in
    let R = c.requires in
    let h = (accepted _ R.sheet).head in (
      record {
        accepted = accepted _ R.sheet;
        channels = R.channels;
        freqs = n;
        links = c.links_of-k.ensures.0;
        laid = c.lay_out-lay.ensures;
        room = length-take-le _ _ (omega (arith, h.n_small));
      },
      choice_small (setting_of c.args.options c.args.classes.now) R.setting,
    )

pub returns-then-listed : goal.returns-then-listed
returns-then-listed c =
    record {
      laid = c.lay_out-lay.ensures;
      freqs = c.freqs_of-n.ensures.0;
      links = c.links_of-k.ensures.0;
      filled = λ on. rw c.if-listed.true at (counting-too c.fill_words-listed.ensures on);
    }

pub returns-else-listed : goal.returns-else-listed
returns-else-listed c =
    (refl, λ on. sym (counting-too c.fill_words-listed.ensures on).list ∙ c.if-listed.false)
