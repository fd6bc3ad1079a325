-- `count_bytes::count_into` meets its contract.
use mathlib.Core.Path.{ap, ◌∙◌}
use lib.ListN.{length}
use Rattle.rules.specs.Job.{job_with}
use Rattle.setting.specs.Setting.{setting_of}
use Rattle.sheet_rows.specs.Form.{most_words}
use Rattle.number_bytes.specs.NumberBytes.{number_bytes}
use Rattle.byte_calls.proofs.Handed.{gives_handed}
use Rattle.counting.specs.Outcome.{counting_outcome}
use Rattle.count_bytes.proofs.count_into.Goals as goal

pub returns : goal.returns
returns c =
    let a = c.args in
    let x = setting_of a.options a.classes.now in
    let job = job_with a.sheet.now a.channels.now in
    let o = counting_outcome job x (length a.cells.now) (length a.counts.now) most_words in
    record {
      handed = gives_handed {o = o.outcome} c.count-p.ensures.given.gives c.number.ensures
          c.put_numbers.ensures;
      bytes = c.put_numbers-2.ensures
          ∙ ap (λ l. number_bytes 8 l (length a.tally.now)) c.count-p.ensures.given.counted;
    }
