use Rattle.std.proofs.Common.{ℕ, ◌≡◌, ap, ap₂, ◌∙◌, arith}
use Rattle.sets.specs.Sets.{Set, ◌∩◌, ◌∖◌, whole}
use Rattle.sheet.specs.Sheet.{n_of}
use Rattle.rules.specs.Job.{job_with, struck}
use Rattle.rows.proofs.Rows.{outside_then}
use Rattle.rule_strikes.specs.Strikes.{stretch}
use Rattle.rule_strikes.proofs.Spans.{struck_none, struck_more}
use Rattle.strikes.proofs.Struck.{all_struck}
use Rattle.strikes.proofs.put_unstruck.Goals as goal

pub loop-v-init : goal.loop-v-init
loop-v-init c =
    struck_none _ 0 0 _ _

pub loop-v-preserved : goal.loop-v-preserved
loop-v-preserved c =
    let l = c.loop-v in
    struck_more 0 l.v _ (omega arith) l.invariant c.strike_vertex.ensures

pub returns : goal.returns
returns c =
    let a = c.args in
    let v = c.loop-v in
    let x = c.put_all.ensures in
    let job = job_with a.sheet.now a.channels.now in
    let f = c.freqs_of-n.ensures.0 in
    let e : v.v ≡ n_of a.sheet.now = omega arith in
    record {
      here = v.invariant.here ∙ ap₂ (λ (X : Set) (m : ℕ). X ∖ (stretch 0 m ∩ struck job)) (x.here ∙ ap whole f) e
          ∙ all_struck job;
      rest = outside_then x.rest v.invariant.rest;
    }
