-- `work_words::fill_words` meets its contract: what each call writes, the later ones leave alone.
use Rattle.std.proofs.Common.{rules, ◌≡◌, arith, length}
use Rattle.setting.specs.Setting.{setting_of}
use Rattle.work_words.proofs.Filling.{callers_long, list_refused, words_filled}
use Rattle.work_words.proofs.fill_words.Goals as goal

pub returns-then-not-check_list : goal.returns-then-not-check_list
returns-then-not-check_list c =
    list_refused c.requires.0 (setting_of c.args.options c.args.classes.now) c.put_rows.ensures
    c.check_list.ensures c.if-not-check_list.true

pub put_class_masks-requires : goal.put_class_masks-requires
put_class_masks-requires c =
    let callers_there : let a = c.args in
    a.options.choice ≡ 2 → length a.classes.now ≡ a.place.n =
    callers_long c.requires.0 (setting_of c.args.options c.args.classes.now) c.put_rows.ensures
    c.check_list.ensures c.if-not-check_list.false in
    let P = c.requires.0 in
    let o = P.laid in (
      λ two. omega (
        arith,
        callers_there
            two,
      ),
      search rules,
      search rules,
      o.wide,
    )

pub returns : goal.returns
returns c =
    words_filled c.requires.0 (setting_of c.args.options c.args.classes.now) c.requires.1 c.put_rows.ensures
    c.check_list.ensures
    c.if-not-check_list.false c.build_list.ensures c.put_class_masks.ensures c.cut_masks.ensures
